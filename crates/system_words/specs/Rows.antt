-- The system words, in token order: name, mark, and what each does.
use Rattle.std.specs.Prelude.{ℕ, zero, suc, List, [], ◌∷◌, ◌++◌, Option, Some, None, option_map, Bool, true, false, codes, slice_get}
use Rattle.system_words.specs.declared.words.Mark.{Mark}
use Rattle.system_words.specs.declared.words.Mark.TheVariants.{Plain, Immediate, CompileOnly, ImmediateOnly}
use Rattle.system_words.specs.declared.words.Meaning.{Meaning}
use Rattle.system_words.specs.declared.words.Meaning.TheVariants.{Runs, Asks, Exits, Marks}
use Rattle.system_words.specs.declared.words.Own.TheVariants.{One, Two, Division, Double, Stack, Space, OnList, Constant, SetCell, Nothing, Quit, Abort}
use Rattle.system_words.specs.declared.words.Service.TheVariants.{OnTerminal, OnPicture, OnText, OnName, OnLexicon, OnDefinition, OnBlocks, Execute, Load}
use Rattle.system_words.specs.declared.words.DefinitionWord.TheVariants.{Semicolon, Literal, Build}
use Rattle.system_words.specs.declared.words.Unary.TheVariants.{Below, Zero, Above, OneMore, OneLess, TwoMore, TwoLess, Half, Absolute, Negate, Invert}
use Rattle.system_words.specs.declared.words.Binary.TheVariants.{Multiply, Add, Subtract, Less, Equal, Greater, And, Greatest, Least, Or, UnsignedLess, Xor}
use Rattle.system_words.specs.declared.words.Divide.TheVariants.{Scaled, ScaledBoth, Quotient, Both, Remainder, UnsignedDouble}
use Rattle.system_words.specs.declared.words.Wide.TheVariants.{WideAdd, WideLess, WideNegate, WideProduct}
use Rattle.system_words.specs.declared.words.Shuffle.TheVariants.{DupNonzero, Depth, Drop, Dup, Over, Pick, Roll, Rotate, Swap}
use Rattle.system_words.specs.declared.words.MemoryWord.TheVariants.{Set, AddTo, Fetch, SetByte, FetchByte, MoveUp, MoveDown, Count, Fill, Trailing}
use Rattle.system_words.specs.declared.words.Return.TheVariants.{ToReturn, Index, OuterIndex, FromReturn, CopyReturn}
use Rattle.system_words.specs.declared.words.TerminalWord.TheVariants.{NewLine, Emit, Expect, Key, Blank, Blanks, TypeText, Dot, PrintText, UnsignedDot}
use Rattle.system_words.specs.declared.words.PictureWord.TheVariants.{Digit, FinishPicture, Digits, BeginPicture, Convert, HoldByte, Sign}
use Rattle.system_words.specs.declared.words.TextWord.TheVariants.{Comment, ParseWord, DotQuote, AbortQuote}
use Rattle.system_words.specs.declared.words.NameWord.TheVariants.{Tick, Forget, Colon, MakeConstant, Create, Variable, MakeVocabulary, CompileTick, BracketCompile}
use Rattle.system_words.specs.declared.words.LexiconWord.TheVariants.{ToBody, Definitions, Find, Forth, Here, Pad, Comma, Allot, MakeImmediate}
use Rattle.system_words.specs.declared.words.Structure.TheVariants.{PlusLoop, Begin, Do, Does, Else, If, Leave, Loop, Repeat, Then, Until, While}
use Rattle.system_words.specs.declared.words.BlockWord.TheVariants.{Block, Buffer, Flush, SaveBuffers, Update}

-- The text interpreter runs an immediate word even while it compiles. It never runs a compile-only word while it
-- interprets.
abbrev pub is_immediate : Mark → Bool
is_immediate Plain = false
is_immediate Immediate = true
is_immediate CompileOnly = false
is_immediate ImmediateOnly = true

abbrev pub is_compile_only : Mark → Bool
is_compile_only Plain = false
is_compile_only Immediate = false
is_compile_only CompileOnly = true
is_compile_only ImmediateOnly = true

pub record Row : Type 0 where
  pub name : List ℕ
  pub mark : Mark
  pub meaning : Meaning

abbrev pub row_of : List ℕ → Mark → Meaning → Row
row_of name mark meaning = record { name = name; mark = mark; meaning = meaning }

abbrev pub nucleus : List Row
nucleus =
    row_of (codes "!") Plain (Runs (Space Set)) ∷
    row_of (codes "*") Plain (Runs (Two Multiply)) ∷
    row_of (codes "*/") Plain (Runs (Division Scaled)) ∷
    row_of (codes "*/MOD") Plain (Runs (Division ScaledBoth)) ∷
    row_of (codes "+") Plain (Runs (Two Add)) ∷
    row_of (codes "+!") Plain (Runs (Space AddTo)) ∷
    row_of (codes "-") Plain (Runs (Two Subtract)) ∷
    row_of (codes "/") Plain (Runs (Division Quotient)) ∷
    row_of (codes "/MOD") Plain (Runs (Division Both)) ∷
    row_of (codes "0<") Plain (Runs (One Below)) ∷
    row_of (codes "0=") Plain (Runs (One Zero)) ∷
    row_of (codes "0>") Plain (Runs (One Above)) ∷
    row_of (codes "1+") Plain (Runs (One OneMore)) ∷
    row_of (codes "1-") Plain (Runs (One OneLess)) ∷
    row_of (codes "2+") Plain (Runs (One TwoMore)) ∷
    row_of (codes "2-") Plain (Runs (One TwoLess)) ∷
    row_of (codes "2/") Plain (Runs (One Half)) ∷
    row_of (codes "<") Plain (Runs (Two Less)) ∷
    row_of (codes "=") Plain (Runs (Two Equal)) ∷
    row_of (codes ">") Plain (Runs (Two Greater)) ∷
    row_of (codes ">R") CompileOnly (Runs (OnList ToReturn)) ∷
    row_of (codes "?DUP") Plain (Runs (Stack DupNonzero)) ∷
    row_of (codes "@") Plain (Runs (Space Fetch)) ∷
    row_of (codes "ABS") Plain (Runs (One Absolute)) ∷
    row_of (codes "AND") Plain (Runs (Two And)) ∷
    row_of (codes "C!") Plain (Runs (Space SetByte)) ∷
    row_of (codes "C@") Plain (Runs (Space FetchByte)) ∷
    row_of (codes "CMOVE") Plain (Runs (Space MoveUp)) ∷
    row_of (codes "CMOVE>") Plain (Runs (Space MoveDown)) ∷
    row_of (codes "COUNT") Plain (Runs (Space Count)) ∷
    row_of (codes "D+") Plain (Runs (Double WideAdd)) ∷
    row_of (codes "D<") Plain (Runs (Double WideLess)) ∷
    row_of (codes "DEPTH") Plain (Runs (Stack Depth)) ∷
    row_of (codes "DNEGATE") Plain (Runs (Double WideNegate)) ∷
    row_of (codes "DROP") Plain (Runs (Stack Drop)) ∷
    row_of (codes "DUP") Plain (Runs (Stack Dup)) ∷
    row_of (codes "EXECUTE") Plain (Asks Execute) ∷
    row_of (codes "EXIT") CompileOnly Exits ∷
    row_of (codes "FILL") Plain (Runs (Space Fill)) ∷
    row_of (codes "I") CompileOnly (Runs (OnList Index)) ∷
    row_of (codes "J") CompileOnly (Runs (OnList OuterIndex)) ∷
    row_of (codes "MAX") Plain (Runs (Two Greatest)) ∷
    row_of (codes "MIN") Plain (Runs (Two Least)) ∷
    row_of (codes "MOD") Plain (Runs (Division Remainder)) ∷
    row_of (codes "NEGATE") Plain (Runs (One Negate)) ∷
    row_of (codes "NOT") Plain (Runs (One Invert)) ∷
    row_of (codes "OR") Plain (Runs (Two Or)) ∷
    row_of (codes "OVER") Plain (Runs (Stack Over)) ∷
    row_of (codes "PICK") Plain (Runs (Stack Pick)) ∷
    row_of (codes "R>") CompileOnly (Runs (OnList FromReturn)) ∷
    row_of (codes "R@") CompileOnly (Runs (OnList CopyReturn)) ∷
    row_of (codes "ROLL") Plain (Runs (Stack Roll)) ∷
    row_of (codes "ROT") Plain (Runs (Stack Rotate)) ∷
    row_of (codes "SWAP") Plain (Runs (Stack Swap)) ∷
    row_of (codes "U<") Plain (Runs (Two UnsignedLess)) ∷
    row_of (codes "UM*") Plain (Runs (Double WideProduct)) ∷
    row_of (codes "UM/MOD") Plain (Runs (Division UnsignedDouble)) ∷
    row_of (codes "XOR") Plain (Runs (Two Xor)) ∷
    []

abbrev pub device : List Row
device =
    row_of (codes "BLOCK") Plain (Asks (OnBlocks Block)) ∷
    row_of (codes "BUFFER") Plain (Asks (OnBlocks Buffer)) ∷
    row_of (codes "CR") Plain (Asks (OnTerminal NewLine)) ∷
    row_of (codes "EMIT") Plain (Asks (OnTerminal Emit)) ∷
    row_of (codes "EXPECT") Plain (Asks (OnTerminal Expect)) ∷
    row_of (codes "FLUSH") Plain (Asks (OnBlocks Flush)) ∷
    row_of (codes "KEY") Plain (Asks (OnTerminal Key)) ∷
    row_of (codes "SAVE-BUFFERS") Plain (Asks (OnBlocks SaveBuffers)) ∷
    row_of (codes "SPACE") Plain (Asks (OnTerminal Blank)) ∷
    row_of (codes "SPACES") Plain (Asks (OnTerminal Blanks)) ∷
    row_of (codes "TYPE") Plain (Asks (OnTerminal TypeText)) ∷
    row_of (codes "UPDATE") Plain (Asks (OnBlocks Update)) ∷
    []

abbrev pub interpreter : List Row
interpreter =
    row_of (codes "#") Plain (Asks (OnPicture Digit)) ∷
    row_of (codes "#>") Plain (Asks (OnPicture FinishPicture)) ∷
    row_of (codes "#S") Plain (Asks (OnPicture Digits)) ∷
    row_of (codes "#TIB") Plain (Runs (Constant 24)) ∷
    row_of (codes "'") Plain (Asks (OnName Tick)) ∷
    row_of (codes "(") Immediate (Asks (OnText Comment)) ∷
    row_of (codes "-TRAILING") Plain (Runs (Space Trailing)) ∷
    row_of (codes ".") Plain (Asks (OnTerminal Dot)) ∷
    row_of (codes ".(") Immediate (Asks (OnTerminal PrintText)) ∷
    row_of (codes "<#") Plain (Asks (OnPicture BeginPicture)) ∷
    row_of (codes ">BODY") Plain (Asks (OnLexicon ToBody)) ∷
    row_of (codes ">IN") Plain (Runs (Constant 20)) ∷
    row_of (codes "ABORT") Plain (Runs Abort) ∷
    row_of (codes "BASE") Plain (Runs (Constant 16)) ∷
    row_of (codes "BLK") Plain (Runs (Constant 22)) ∷
    row_of (codes "CONVERT") Plain (Asks (OnPicture Convert)) ∷
    row_of (codes "DECIMAL") Plain (Runs (SetCell 16 10)) ∷
    row_of (codes "DEFINITIONS") Plain (Asks (OnLexicon Definitions)) ∷
    row_of (codes "FIND") Plain (Asks (OnLexicon Find)) ∷
    row_of (codes "FORGET") Plain (Asks (OnName Forget)) ∷
    row_of (codes "FORTH") Plain (Asks (OnLexicon Forth)) ∷
    row_of (codes "FORTH-83") Plain (Runs Nothing) ∷
    row_of (codes "HERE") Plain (Asks (OnLexicon Here)) ∷
    row_of (codes "HOLD") Plain (Asks (OnPicture HoldByte)) ∷
    row_of (codes "LOAD") Plain (Asks Load) ∷
    row_of (codes "PAD") Plain (Asks (OnLexicon Pad)) ∷
    row_of (codes "QUIT") Plain (Runs Quit) ∷
    row_of (codes "SIGN") Plain (Asks (OnPicture Sign)) ∷
    row_of (codes "SPAN") Plain (Runs (Constant 26)) ∷
    row_of (codes "TIB") Plain (Runs (Constant 256)) ∷
    row_of (codes "U.") Plain (Asks (OnTerminal UnsignedDot)) ∷
    row_of (codes "WORD") Plain (Asks (OnText ParseWord)) ∷
    []

abbrev pub compiler : List Row
compiler =
    row_of (codes "+LOOP") ImmediateOnly (Asks (OnDefinition (Build PlusLoop))) ∷
    row_of (codes ",") Plain (Asks (OnLexicon Comma)) ∷
    row_of (codes ".\"") ImmediateOnly (Asks (OnText DotQuote)) ∷
    row_of (codes ":") Plain (Asks (OnName Colon)) ∷
    row_of (codes ";") ImmediateOnly (Asks (OnDefinition Semicolon)) ∷
    row_of (codes "ABORT\"") ImmediateOnly (Asks (OnText AbortQuote)) ∷
    row_of (codes "ALLOT") Plain (Asks (OnLexicon Allot)) ∷
    row_of (codes "BEGIN") ImmediateOnly (Asks (OnDefinition (Build Begin))) ∷
    row_of (codes "COMPILE") CompileOnly Marks ∷
    row_of (codes "CONSTANT") Plain (Asks (OnName MakeConstant)) ∷
    row_of (codes "CREATE") Plain (Asks (OnName Create)) ∷
    row_of (codes "DO") ImmediateOnly (Asks (OnDefinition (Build Do))) ∷
    row_of (codes "DOES>") ImmediateOnly (Asks (OnDefinition (Build Does))) ∷
    row_of (codes "ELSE") ImmediateOnly (Asks (OnDefinition (Build Else))) ∷
    row_of (codes "IF") ImmediateOnly (Asks (OnDefinition (Build If))) ∷
    row_of (codes "IMMEDIATE") Plain (Asks (OnLexicon MakeImmediate)) ∷
    row_of (codes "LEAVE") ImmediateOnly (Asks (OnDefinition (Build Leave))) ∷
    row_of (codes "LITERAL") ImmediateOnly (Asks (OnDefinition Literal)) ∷
    row_of (codes "LOOP") ImmediateOnly (Asks (OnDefinition (Build Loop))) ∷
    row_of (codes "REPEAT") ImmediateOnly (Asks (OnDefinition (Build Repeat))) ∷
    row_of (codes "STATE") Plain (Runs (Constant 18)) ∷
    row_of (codes "THEN") ImmediateOnly (Asks (OnDefinition (Build Then))) ∷
    row_of (codes "UNTIL") ImmediateOnly (Asks (OnDefinition (Build Until))) ∷
    row_of (codes "VARIABLE") Plain (Asks (OnName Variable)) ∷
    row_of (codes "VOCABULARY") Plain (Asks (OnName MakeVocabulary)) ∷
    row_of (codes "WHILE") ImmediateOnly (Asks (OnDefinition (Build While))) ∷
    row_of (codes "[") Immediate (Runs (SetCell 18 0)) ∷
    row_of (codes "[']") ImmediateOnly (Asks (OnName CompileTick)) ∷
    row_of (codes "[COMPILE]") ImmediateOnly (Asks (OnName BracketCompile)) ∷
    row_of (codes "]") Plain (Runs (SetCell 18 65535)) ∷
    []

abbrev pub rows : List Row
rows = nucleus ++ (device ++ (interpreter ++ compiler))

-- how many there are, which is the token of the last one
abbrev pub count : ℕ
count = 132

abbrev pub beside_name : Row → Mark × Meaning
beside_name row = (row.mark, row.meaning)

-- the row of a token, from 1, among these
abbrev pub at_token : List Row → ℕ → Option (Mark × Meaning)
at_token words zero = None
at_token words (suc k) = option_map beside_name (slice_get words k)

-- of the system word with this token, or none
abbrev pub mark_of : ℕ → Option Mark
mark_of token = option_map (λ row. row.0) (at_token rows token)

abbrev pub meaning_of : ℕ → Option Meaning
meaning_of token = option_map (λ row. row.1) (at_token rows token)
