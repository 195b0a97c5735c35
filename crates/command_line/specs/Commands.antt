-- What the words of a command line may be, and the order that they give.
use Rattle.std.specs.Prelude.{◌≡◌, ◌≢◌, ◌⊎◌, ◌++◌, ◌≤◌, ℕ, pos, Bool, true, false, List, [], ◌∷◌, map, Option, Some, None, unwrap_or, codes, ⊤}
use Rattle.std.specs.Borrow.{Bor}
use Rattle.std.specs.Str.Parse.{IsNumeral, digits_value, without_leading_plus}
use Rattle.clap.specs.Lexer.{usize_max}
use Rattle.clap.specs.Words.{App, Row, Rule, Text, all_of, fault_of, first_of, is_simple, is_simple_and_free, new_app, new_rule, one_of, subcommand_of, with_rule, with_subcommand}
use Rattle.clap.specs.declared.builder.action.ArgAction.TheVariants.{Set, SetTrue}
use Rattle.clap.specs.declared.builder.value_parser.ValueParser.TheVariants as vp
use Rattle.command_line.specs.declared.orders.Form.{Form}
use Rattle.command_line.specs.declared.orders.Form.TheVariants.{Text as Lines, Raw}
use Rattle.command_line.specs.declared.orders.Layout.{Layout}
use Rattle.command_line.specs.declared.orders.Layout.TheVariants.{Two, Three}
use Rattle.command_line.specs.declared.orders.Script.{Script}
use Rattle.command_line.specs.declared.orders.Order.{Order}
use Rattle.command_line.specs.declared.orders.Order.TheVariants.{Memory, New, Run, List as ListBlock, Put, Export, Import, CheckImport, Check, Digests, Diff, Upgrade, Copy, Salvage}

-- an argument that has to be there
abbrev pub wanted : Text → Rule
wanted id = record (new_rule id) { required = true; action = Some Set }

abbrev pub image : Rule
image = wanted (codes "IMAGE")

abbrev pub old_image : Rule
old_image = wanted (codes "OLD")

abbrev pub new_image : Rule
new_image = wanted (codes "NEW")

-- a number of a block
abbrev pub number : Text → Rule
number id = record (wanted id) { parser = Some (vp.Signed (pos 0) (pos 65535)) }

abbrev pub block : Rule
block = number (codes "BLOCK")

abbrev pub first_block : Rule
first_block = number (codes "FIRST")

abbrev pub last_block : Rule
last_block = number (codes "LAST")

-- an option without a value
abbrev pub flag : Text → Rule
flag id = record (new_rule id) { long = Some id; action = Some SetTrue }

abbrev pub raw : Rule
raw = flag (codes "raw")

abbrev pub check : Rule
check = flag (codes "check")

abbrev pub trace : Rule
trace = flag (codes "trace")

abbrev pub undo : Rule
undo = flag (codes "undo")

abbrev pub each_block : Rule
each_block = flag (codes "blocks")

abbrev pub strict : Rule
strict = flag (codes "strict")

-- a block that may be asked for
abbrev pub load : Rule
load = record (new_rule (codes "load")) {
  long = Some (codes "load");
  value_names = 1;
  action = Some Set;
  parser = Some (vp.Signed (pos 0) (pos 65535));
}

abbrev pub file : Rule
file = wanted (codes "FILE")

-- the same, where it may be left out
abbrev pub asked_file : Rule
asked_file = record (new_rule (codes "FILE")) { action = Some Set }

-- as many values as are given
abbrev pub many : Rule → Rule
many rule = record rule { range = Some (record { start_inclusive = 1; end_inclusive = usize_max }) }

-- files, of which there has to be one, and files that may be left out
abbrev pub files : Rule
files = many file

abbrev pub asked_files : Rule
asked_files = many asked_file

abbrev pub blocks : Rule
blocks = record (wanted (codes "blocks")) {
  long = Some (codes "blocks");
  value_names = 1;
  parser = Some (vp.Signed (pos 32) (pos 3840));
}

-- the same, where it may be left out
abbrev pub asked_blocks : Rule
asked_blocks = record (new_rule (codes "blocks")) {
  long = Some (codes "blocks");
  value_names = 1;
  action = Some Set;
  parser = Some (vp.Signed (pos 32) (pos 3840));
}

abbrev pub steps : Rule
steps = record (new_rule (codes "steps")) {
  long = Some (codes "steps");
  value_names = 1;
  action = Some Set;
  parser = Some (vp.Signed (pos 1) (pos 1000000000));
  defaults = codes "1000000" ∷ [];
}

abbrev pub asked_layout : Rule
asked_layout = record (new_rule (codes "layout")) {
  long = Some (codes "layout");
  value_names = 1;
  action = Some Set;
  parser = Some (vp.Signed (pos 2) (pos 3));
  defaults = codes "2" ∷ [];
}

abbrev pub new_app_of : App
new_app_of = with_rule (with_rule (with_rule (new_app (codes "new")) image) blocks) asked_layout

abbrev pub run_without_flags : App
run_without_flags = with_rule (with_rule (with_rule (with_rule (new_app (codes "run")) image) asked_files) load) steps

abbrev pub run_app : App
run_app = with_rule (with_rule (with_rule run_without_flags strict) trace) undo

abbrev pub list_app : App
list_app = with_rule (with_rule (new_app (codes "list")) image) block

abbrev pub put_app : App
put_app = with_rule (with_rule (with_rule (new_app (codes "put")) image) block) file

abbrev pub export_app : App
export_app = with_rule (with_rule (with_rule (with_rule (new_app (codes "export")) image) first_block) last_block) raw

abbrev pub import_without_flags : App
import_without_flags = with_rule (with_rule (with_rule (new_app (codes "import")) image) first_block) files

abbrev pub import_app : App
import_app = with_rule (with_rule import_without_flags raw) check

abbrev pub check_app : App
check_app = with_rule (with_rule (new_app (codes "check")) image) each_block

abbrev pub diff_app : App
diff_app = with_rule (with_rule (new_app (codes "diff")) old_image) new_image

abbrev pub upgrade_app : App
upgrade_app = with_rule (with_rule (with_rule (new_app (codes "upgrade")) old_image) new_image) asked_layout

abbrev pub copy_app : App
copy_app = with_rule (with_rule (with_rule (new_app (codes "copy")) old_image) new_image) asked_blocks

abbrev pub salvage_app : App
salvage_app = with_rule (with_rule (with_rule (new_app (codes "salvage")) old_image) new_image) asked_blocks

-- a program that tells its version
abbrev pub with_version : App → App
with_version app = record app { top = record app.top { has_version = true } }

-- the commands over the blocks of an image
abbrev pub over_blocks : App → App
over_blocks app =
    with_subcommand (with_subcommand (with_subcommand (with_subcommand app list_app.top) put_app.top) export_app.top) import_app.top

-- the program without a command
abbrev pub program : App
program = with_version (new_app (codes "forth83"))

-- the commands that make an image of another one
abbrev pub making : App → App
making app = with_subcommand (with_subcommand (with_subcommand app upgrade_app.top) copy_app.top) salvage_app.top

-- the commands that look at images
abbrev pub looking : App → App
looking app = with_subcommand (with_subcommand app check_app.top) diff_app.top

-- the program with its eleven commands
abbrev pub forth83 : App
forth83 = making (looking (over_blocks (with_subcommand (with_subcommand program new_app_of.top) run_app.top)))

-- One program makes of the words what the other does, by simple rules.
pub record ReadsAs (a b : App) (words : List Text) : Type 0 where
  pub simple : is_simple a ≡ true
  pub free : is_simple_and_free a ≡ true
  pub subcommand : subcommand_of a words ≡ subcommand_of b words
  pub fault : fault_of a words ≡ fault_of b words

-- Words whose second one is this name are read by this program as by the one with all commands.
abbrev pub SufficesFor : App → Text → Type 0
SufficesFor app name = (first : Text) (rest : List Text) → ReadsAs app forth83 (first ∷ name ∷ rest)

-- the text that was given under this id
abbrev pub HasText : List Row → Text → Text → Type 0
HasText rows id text = first_of id rows ≡ Some text

-- the number that was given under this id, in digits
abbrev pub HasNumber : List Row → Text → ℕ → Type 0
HasNumber rows id n = (text : Text) × (one_of id rows ≡ Some text) × IsNumeral 10 (without_leading_plus text)
    × (n ≡ digits_value 10 (without_leading_plus text))

-- all texts that were given under this id
abbrev pub HasTexts : List Row → Text → List (Bor Text) → Type 0
HasTexts rows id texts = unwrap_or (all_of id rows) [] ≡ map (λ text. text.now) texts

-- the number that was given under this id, or that none was
abbrev pub HasAsked : List Row → Text → Option ℕ → Type 0
HasAsked rows id None = first_of id rows ≡ None
HasAsked rows id (Some n) = HasNumber rows id n

abbrev pub HasBlocks : List Row → Option ℕ → Type 0
HasBlocks rows = HasAsked rows (codes "blocks")

-- the number of a layout
abbrev pub layout_number : Layout → ℕ
layout_number Two = 2
layout_number Three = 3

-- the layout that was given by its number
abbrev pub HasLayout : List Row → Layout → Type 0
HasLayout rows layout = HasNumber rows (codes "layout") (layout_number layout)

-- the text of a flag that is given, and of one that isn't
abbrev pub flag_text : Bool → Text
flag_text true = codes "true"
flag_text false = codes "false"

-- whether the flag is given
abbrev pub HasFlag : List Row → Text → Bool → Type 0
HasFlag rows id is_given = one_of id rows ≡ Some (flag_text is_given)

-- the flag is given, or isn't
abbrev pub IsSet : List Row → Text → Type 0
IsSet rows id = HasFlag rows id true

abbrev pub IsUnset : List Row → Text → Type 0
IsUnset rows id = HasFlag rows id false

-- the form that the flag `--raw` gives
abbrev pub HasForm : List Row → Form → Type 0
HasForm rows Raw = IsSet rows (codes "raw")
HasForm rows Lines = IsUnset rows (codes "raw")

-- what stands for the input among the files
abbrev pub input : Text
input = codes "-"

-- Of the names that were given these are files. The input's lines are run behind theirs where it is the last name, or where none is given.
abbrev pub AreFiles : (given files : List Text) (goes_on : Bool) → Type 0
AreFiles given files true = (given ≡ files ++ input ∷ []) ⊎ ((given ≡ []) × (files ≡ []))
AreFiles given files false = (given ≡ files) × (given ≢ []) × ((front : List Text) → given ≢ front ++ input ∷ [])

-- how a session is to be run
pub record HasScript (rows : List Row) (script : Script) : Type 0 where
  pub load : HasAsked rows (codes "load") script.load
  pub files : AreFiles (unwrap_or (all_of (codes "FILE") rows) []) (map (λ text. text.now) script.files.items) script.goes_on
  pub strict : HasFlag rows (codes "strict") script.is_strict
  pub traced : HasFlag rows (codes "trace") script.is_traced
  pub undone : HasFlag rows (codes "undo") script.undoes

-- the order that a command with these arguments gives
abbrev pub Orders : Option (Text × List Row) → Order → Type 0
Orders None Memory = ⊤
Orders (Some given) (New path n layout) = (given.0 ≡ codes "new") × HasText given.1 (codes "IMAGE") path.now
    × HasNumber given.1 (codes "blocks") n × HasLayout given.1 layout
Orders (Some given) (Run path n script) = (given.0 ≡ codes "run") × HasText given.1 (codes "IMAGE") path.now
    × HasNumber given.1 (codes "steps") n × HasScript given.1 script
Orders (Some given) (ListBlock path b) = (given.0 ≡ codes "list") × HasText given.1 (codes "IMAGE") path.now
    × HasNumber given.1 (codes "BLOCK") b
Orders (Some given) (Put path b text) = (given.0 ≡ codes "put") × HasText given.1 (codes "IMAGE") path.now
    × HasNumber given.1 (codes "BLOCK") b × HasText given.1 (codes "FILE") text.now
Orders (Some given) (Export path first last form) = (given.0 ≡ codes "export") × HasText given.1 (codes "IMAGE") path.now
    × HasNumber given.1 (codes "FIRST") first × HasNumber given.1 (codes "LAST") last × HasForm given.1 form
Orders (Some given) (Import path first sources form) = (given.0 ≡ codes "import") × HasText given.1 (codes "IMAGE") path.now
    × HasNumber given.1 (codes "FIRST") first × HasTexts given.1 (codes "FILE") sources.items × HasForm given.1 form × IsUnset given.1 (codes "check")
Orders (Some given) (CheckImport path first sources form) = (given.0 ≡ codes "import") × HasText given.1 (codes "IMAGE") path.now
    × HasNumber given.1 (codes "FIRST") first × HasTexts given.1 (codes "FILE") sources.items × HasForm given.1 form × IsSet given.1 (codes "check")
Orders (Some given) (Check path) = (given.0 ≡ codes "check") × HasText given.1 (codes "IMAGE") path.now × IsUnset given.1 (codes "blocks")
Orders (Some given) (Digests path) = (given.0 ≡ codes "check") × HasText given.1 (codes "IMAGE") path.now × IsSet given.1 (codes "blocks")
Orders (Some given) (Diff old new) = (given.0 ≡ codes "diff") × HasText given.1 (codes "OLD") old.now × HasText given.1 (codes "NEW") new.now
Orders (Some given) (Upgrade old new layout) = (given.0 ≡ codes "upgrade") × HasText given.1 (codes "OLD") old.now
    × HasText given.1 (codes "NEW") new.now × HasLayout given.1 layout
Orders (Some given) (Copy old new asked) = (given.0 ≡ codes "copy") × HasText given.1 (codes "OLD") old.now
    × HasText given.1 (codes "NEW") new.now × HasBlocks given.1 asked
Orders (Some given) (Salvage old new asked) = (given.0 ≡ codes "salvage") × HasText given.1 (codes "OLD") old.now
    × HasText given.1 (codes "NEW") new.now × HasBlocks given.1 asked
Orders _ _ = ⊥

-- the words give the order
abbrev pub IsOrderOf : List Text → Order → Type 0
IsOrderOf words order = Orders (subcommand_of forth83 words) order

-- an image may have so many blocks, where a number is given
abbrev pub AreInRange : Option ℕ → Type 0
AreInRange None = ⊤
AreInRange (Some n) = (32 ≤ n) × (n ≤ 3840)

-- its numbers lie in their ranges
abbrev pub IsInRange : Order → Type 0
IsInRange (New path n layout) = (32 ≤ n) × (n ≤ 3840)
IsInRange (Run path n script) = (1 ≤ n) × (n ≤ 1000000000)
IsInRange (Copy old new asked) = AreInRange asked
IsInRange (Salvage old new asked) = AreInRange asked
IsInRange order = ⊤
