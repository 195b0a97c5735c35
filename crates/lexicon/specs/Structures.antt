-- The structure words: what each adds to the open definition.
use Rattle.std.specs.Prelude.{ℕ}
use Rattle.cell_machine.specs.Tree.{ByOne, ByTop}
use Rattle.compiler.specs.Definition.{Definition, Adding, add_if, add_else, add_then, add_begin, add_until, add_while, add_repeat, add_do, add_loop, add_leave, add_does}
use Rattle.system_words.specs.declared.words.Structure.{Structure}
use Rattle.system_words.specs.declared.words.Structure.TheVariants as structure

abbrev pub adding : Structure → ℕ → Definition → Adding Definition
adding structure.If used d = add_if used d
adding structure.Else used d = add_else used d
adding structure.Then used d = add_then used d
adding structure.Begin used d = add_begin used d
adding structure.Until used d = add_until used d
adding structure.While used d = add_while used d
adding structure.Repeat used d = add_repeat used d
adding structure.Do used d = add_do used d
adding structure.Loop used d = add_loop used ByOne d
adding structure.PlusLoop used d = add_loop used ByTop d
adding structure.Leave used d = add_leave used d
adding structure.Does used d = add_does used d
