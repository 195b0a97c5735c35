-- Words that take a name from the stream.
use Rattle.std.specs.Prelude.{None}
use Rattle.dictionary.specs.Words.{Created, Constant, Vocabulary}
use Rattle.cell_machine.specs.Frames.{Core, Around}
use Rattle.cell_machine.specs.Value.{Outcome, Did}
use Rattle.system_words.specs.declared.words.NameWord.{NameWord}
use Rattle.system_words.specs.declared.words.NameWord.TheVariants.{Tick, Forget, Colon, MakeConstant, Create, Variable, MakeVocabulary, CompileTick, BracketCompile}
use Rattle.compiler.specs.Definition.{add_literal}
use Rattle.lexicon.specs.Language.{forgetting}
use Rattle.interpreter.specs.Lexicon.{language_of, as_it_is, stepped}
use Rattle.interpreter.specs.State.{World, popping, pushing}
use Rattle.interpreter.specs.Streams.{take_known, take_token}
use Rattle.interpreter.specs.Naming.{none_open, adding, take_new_word, in_current, variable}
use Rattle.interpreter.specs.Compiling.{in_definition, changing, compile_word, colon}

abbrev pub on_name : NameWord → Around → Core → World → Outcome World
on_name Tick a c x = take_token c x (λ w c x. pushing w c x)
on_name Create a c x = take_new_word c x (λ name c x. Did c (adding name (Created x.here None) x))
on_name Variable a c x = take_new_word c x variable
on_name MakeConstant a c x =
    popping c x (λ w c. take_new_word c x (λ name c x. Did c (adding name (Constant w) x)))
on_name MakeVocabulary a c x = take_new_word c x (λ name c x. Did c (adding name Vocabulary x))
on_name Colon a c x = colon c x
on_name Forget a c x =
    none_open c x (λ c. take_known in_current c x (λ w c x.
    stepped (forgetting w a.running (language_of x)) as_it_is c x))
on_name CompileTick a c x =
    in_definition c x (λ d. take_token c x (λ w c x. changing (λ used. add_literal used w) c x))
on_name BracketCompile a c x = in_definition c x (λ d. take_token c x (λ w c x. compile_word w c x))
