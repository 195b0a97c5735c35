-- Worked command lines, computed from the definition of the command.
use Rattle.std.specs.Prelude.{◌≡◌, List, [], ◌∷◌, Option, Some, None, codes, option_map}
use Rattle.clap.specs.Words.{Text, all_of, first_of, one_of, subcommand_of, Kinds, fault_of}
use Rattle.clap.specs.declared.error.kind.ErrorKind.TheVariants as kind
use Rattle.command_line.specs.Commands.{forth83}

-- the name of the command, the texts under two ids, and those of the numbers under three
abbrev pub read : List Text → Option (Text × Option Text × Option Text × Option Text × Option Text × Option Text)
read words = option_map (λ given. (
  given.0,
  first_of (codes "IMAGE") given.1,
  first_of (codes "FILE") given.1,
  one_of (codes "blocks") given.1,
  one_of (codes "steps") given.1,
  one_of (codes "BLOCK") given.1,
))
    (subcommand_of forth83 (codes "forth83" ∷ words))

-- the name of the command, and the texts of the old image and the new one
abbrev pub read_images : List Text → Option (Text × Option Text × Option Text)
read_images words = option_map (λ given. (given.0, first_of (codes "OLD") given.1, first_of (codes "NEW") given.1))
    (subcommand_of forth83 (codes "forth83" ∷ words))

-- the same, and how many blocks are asked for
abbrev pub read_copy : List Text → Option (Text × Option Text × Option Text × Option Text)
read_copy words = option_map (λ given. (
  given.0,
  first_of (codes "OLD") given.1,
  first_of (codes "NEW") given.1,
  one_of (codes "blocks") given.1,
))
    (subcommand_of forth83 (codes "forth83" ∷ words))

-- the name of the command, the texts under the image and the file, the numbers of the first block and the last, and the flag
abbrev pub read_many : List Text → Option (Text × Option Text × Option Text × Option Text × Option Text × Option Text)
read_many words = option_map (λ given. (
  given.0,
  first_of (codes "IMAGE") given.1,
  first_of (codes "FILE") given.1,
  one_of (codes "FIRST") given.1,
  one_of (codes "LAST") given.1,
  one_of (codes "raw") given.1,
))
    (subcommand_of forth83 (codes "forth83" ∷ words))

-- the layout that is asked for
abbrev pub read_layout : List Text → Option (Option Text)
read_layout words = option_map (λ given. one_of (codes "layout") given.1) (subcommand_of forth83 (codes "forth83" ∷ words))

-- all files
abbrev pub all_files : List Text → Option (Option (List Text))
all_files words = option_map (λ given. all_of (codes "FILE") given.1) (subcommand_of forth83 (codes "forth83" ∷ words))

-- whether a check is asked for
abbrev pub read_check : List Text → Option (Option Text)
read_check words = option_map (λ given. one_of (codes "check") given.1) (subcommand_of forth83 (codes "forth83" ∷ words))

-- the files, the block that is loaded, and whether the run is strict
abbrev pub read_script : List Text → Option (Option (List Text) × Option Text × Option Text)
read_script words = option_map (λ given. (all_of (codes "FILE") given.1, one_of (codes "load") given.1, one_of (codes "strict") given.1))
    (subcommand_of forth83 (codes "forth83" ∷ words))

-- whether a trace is asked for
abbrev pub read_trace : List Text → Option (Option Text)
read_trace words = option_map (λ given. one_of (codes "trace") given.1) (subcommand_of forth83 (codes "forth83" ∷ words))

-- whether lines that fail are undone
abbrev pub read_undo : List Text → Option (Option Text)
read_undo words = option_map (λ given. one_of (codes "undo") given.1) (subcommand_of forth83 (codes "forth83" ∷ words))

-- which refusals there may be
abbrev pub refused : List Text → Kinds
refused words = fault_of forth83 (codes "forth83" ∷ words)

pub record CommandsAreRead : Type 0 where
  pub none : read [] ≡ None
  pub none_fits : refused [] ≡ []
  pub makes : read (codes "new" ∷ codes "A" ∷ codes "--blocks" ∷ codes "32" ∷ [])
      ≡ Some (codes "new", Some (codes "A"), None, Some (codes "32"), None, None)
  pub makes_fits : refused (codes "new" ∷ codes "A" ∷ codes "--blocks" ∷ codes "32" ∷ []) ≡ []
  pub makes_first : read (codes "new" ∷ codes "--blocks=3840" ∷ codes "A" ∷ [])
      ≡ Some (codes "new", Some (codes "A"), None, Some (codes "3840"), None, None)
  pub makes_by_2 : read_layout (codes "new" ∷ codes "A" ∷ codes "--blocks" ∷ codes "32" ∷ []) ≡ Some (Some (codes "2"))
  pub makes_by_2_asked : read_layout (codes "new" ∷ codes "A" ∷ codes "--blocks=32" ∷ codes "--layout=2" ∷ []) ≡ Some (Some (codes "2"))
  pub makes_by_3 : read_layout (codes "new" ∷ codes "A" ∷ codes "--layout" ∷ codes "3" ∷ codes "--blocks" ∷ codes "32" ∷ [])
      ≡ Some (Some (codes "3"))
  pub makes_by_3_fits : refused (codes "new" ∷ codes "A" ∷ codes "--layout" ∷ codes "3" ∷ codes "--blocks" ∷ codes "32" ∷ []) ≡ []
  pub makes_by_1 : refused (codes "new" ∷ codes "A" ∷ codes "--blocks=32" ∷ codes "--layout=1" ∷ []) ≡ kind.ValueValidation ∷ []
  pub makes_by_4 : refused (codes "new" ∷ codes "A" ∷ codes "--blocks=32" ∷ codes "--layout=4" ∷ []) ≡ kind.ValueValidation ∷ []
  pub runs : read (codes "run" ∷ codes "A" ∷ [])
      ≡ Some (codes "run", Some (codes "A"), None, None, Some (codes "1000000"), None)
  pub runs_fits : refused (codes "run" ∷ codes "A" ∷ []) ≡ []
  pub steps : read (codes "run" ∷ codes "A" ∷ codes "--steps" ∷ codes "7" ∷ [])
      ≡ Some (codes "run", Some (codes "A"), None, None, Some (codes "7"), None)
  pub traces : read_trace (codes "run" ∷ codes "A" ∷ codes "--trace" ∷ []) ≡ Some (Some (codes "true"))
  pub traces_fits : refused (codes "run" ∷ codes "--trace" ∷ codes "A" ∷ []) ≡ []
  pub traces_nothing : read_trace (codes "run" ∷ codes "A" ∷ []) ≡ Some (Some (codes "false"))
  pub undoes : read_undo (codes "run" ∷ codes "A" ∷ codes "--undo" ∷ codes "--strict" ∷ []) ≡ Some (Some (codes "true"))
  pub undoes_fits : refused (codes "run" ∷ codes "--undo" ∷ codes "A" ∷ codes "--load=1" ∷ []) ≡ []
  pub undoes_nothing : read_undo (codes "run" ∷ codes "A" ∷ []) ≡ Some (Some (codes "false"))
  pub undoes_no_put : refused (codes "put" ∷ codes "A" ∷ codes "1" ∷ codes "F" ∷ codes "--undo" ∷ []) ≡ kind.UnknownArgument ∷ []
  pub runs_no_file : read_script (codes "run" ∷ codes "A" ∷ []) ≡ Some (None, None, Some (codes "false"))
  pub runs_files : read_script (codes "run" ∷ codes "A" ∷ codes "F" ∷ codes "G" ∷ []) ≡ Some (Some (codes "F" ∷ codes "G" ∷ []), None, Some (codes "false"))
  pub runs_files_fits : refused (codes "run" ∷ codes "A" ∷ codes "F" ∷ codes "G" ∷ []) ≡ []
  pub runs_strictly : read_script (codes "run" ∷ codes "A" ∷ codes "F" ∷ codes "G" ∷ codes "--strict" ∷ codes "--load" ∷ codes "1" ∷ [])
      ≡ Some (Some (codes "F" ∷ codes "G" ∷ []), Some (codes "1"), Some (codes "true"))
  pub runs_strictly_fits : refused (codes "run" ∷ codes "--strict" ∷ codes "--load=1" ∷ codes "A" ∷ codes "F" ∷ []) ≡ []
  pub loads_and_runs_no_file : read_script (codes "run" ∷ codes "--load" ∷ codes "65535" ∷ codes "A" ∷ [])
      ≡ Some (None, Some (codes "65535"), Some (codes "false"))
  pub loads_no_such_block : refused (codes "run" ∷ codes "A" ∷ codes "--load" ∷ codes "65536" ∷ []) ≡ kind.ValueValidation ∷ []
  pub loads_nothing : refused (codes "run" ∷ codes "A" ∷ codes "--load" ∷ []) ≡ kind.InvalidValue ∷ []
  pub loads_no_number : refused (codes "run" ∷ codes "A" ∷ codes "--load" ∷ codes "x" ∷ []) ≡ kind.ValueValidation ∷ []
  pub loads_twice : refused (codes "run" ∷ codes "A" ∷ codes "--load=1" ∷ codes "--load=1" ∷ []) ≡ kind.ArgumentConflict ∷ []
  pub runs_strictly_by_a_number : refused (codes "run" ∷ codes "A" ∷ codes "--strict=1" ∷ []) ≡ kind.TooManyValues ∷ []
  pub runs_strictly_twice : refused (codes "run" ∷ codes "A" ∷ codes "--strict" ∷ codes "--strict" ∷ []) ≡ kind.ArgumentConflict ∷ []
  pub runs_by_no_layout : refused (codes "run" ∷ codes "A" ∷ codes "--layout" ∷ codes "3" ∷ []) ≡ kind.UnknownArgument ∷ []
  pub lists_strictly : refused (codes "list" ∷ codes "A" ∷ codes "1" ∷ codes "--strict" ∷ []) ≡ kind.UnknownArgument ∷ []
  pub traces_no_list : refused (codes "list" ∷ codes "A" ∷ codes "1" ∷ codes "--trace" ∷ []) ≡ kind.UnknownArgument ∷ []
  pub lists : read (codes "list" ∷ codes "A" ∷ codes "31" ∷ [])
      ≡ Some (codes "list", Some (codes "A"), None, None, None, Some (codes "31"))
  pub puts : read (codes "put" ∷ codes "A" ∷ codes "1" ∷ codes "F" ∷ [])
      ≡ Some (codes "put", Some (codes "A"), Some (codes "F"), None, None, Some (codes "1"))
  pub puts_fits : refused (codes "put" ∷ codes "A" ∷ codes "1" ∷ codes "F" ∷ []) ≡ []
  pub no_blocks : refused (codes "new" ∷ codes "A" ∷ []) ≡ kind.MissingRequiredArgument ∷ []
  pub few_blocks : refused (codes "new" ∷ codes "A" ∷ codes "--blocks" ∷ codes "31" ∷ []) ≡ kind.ValueValidation ∷ []
  pub many_blocks : refused (codes "new" ∷ codes "A" ∷ codes "--blocks" ∷ codes "3841" ∷ []) ≡ kind.ValueValidation ∷ []
  pub no_steps : refused (codes "run" ∷ codes "A" ∷ codes "--steps" ∷ codes "0" ∷ []) ≡ kind.ValueValidation ∷ []
  pub many_steps : refused (codes "run" ∷ codes "A" ∷ codes "--steps" ∷ codes "1000000001" ∷ []) ≡ kind.ValueValidation ∷ []
  pub no_such_block : refused (codes "list" ∷ codes "A" ∷ codes "70000" ∷ []) ≡ kind.ValueValidation ∷ []
  pub last_block : refused (codes "list" ∷ codes "A" ∷ codes "65535" ∷ []) ≡ []
  pub no_file : refused (codes "put" ∷ codes "A" ∷ codes "1" ∷ []) ≡ kind.MissingRequiredArgument ∷ []
  pub exports : read_many (codes "export" ∷ codes "A" ∷ codes "1" ∷ codes "9" ∷ [])
      ≡ Some (codes "export", Some (codes "A"), None, Some (codes "1"), Some (codes "9"), Some (codes "false"))
  pub exports_fits : refused (codes "export" ∷ codes "A" ∷ codes "1" ∷ codes "9" ∷ []) ≡ []
  pub exports_raw : read_many (codes "export" ∷ codes "--raw" ∷ codes "A" ∷ codes "0" ∷ codes "65535" ∷ [])
      ≡ Some (codes "export", Some (codes "A"), None, Some (codes "0"), Some (codes "65535"), Some (codes "true"))
  pub exports_raw_fits : refused (codes "export" ∷ codes "A" ∷ codes "1" ∷ codes "9" ∷ codes "--raw" ∷ []) ≡ []
  pub no_last_block : refused (codes "export" ∷ codes "A" ∷ codes "1" ∷ []) ≡ kind.MissingRequiredArgument ∷ []
  pub no_such_last_block : refused (codes "export" ∷ codes "A" ∷ codes "1" ∷ codes "65536" ∷ []) ≡ kind.ValueValidation ∷ []
  pub imports : read_many (codes "import" ∷ codes "A" ∷ codes "1" ∷ codes "F" ∷ [])
      ≡ Some (codes "import", Some (codes "A"), Some (codes "F"), Some (codes "1"), None, Some (codes "false"))
  pub imports_fits : refused (codes "import" ∷ codes "A" ∷ codes "1" ∷ codes "F" ∷ []) ≡ []
  pub imports_unchecked : read_check (codes "import" ∷ codes "A" ∷ codes "1" ∷ codes "F" ∷ []) ≡ Some (Some (codes "false"))
  pub checks : read_check (codes "import" ∷ codes "A" ∷ codes "1" ∷ codes "F" ∷ codes "--check" ∷ []) ≡ Some (Some (codes "true"))
  pub checks_raw : read_many (codes "import" ∷ codes "--check" ∷ codes "--raw" ∷ codes "A" ∷ codes "0" ∷ codes "F" ∷ [])
      ≡ Some (codes "import", Some (codes "A"), Some (codes "F"), Some (codes "0"), None, Some (codes "true"))
  pub checks_fits : refused (codes "import" ∷ codes "A" ∷ codes "1" ∷ codes "F" ∷ codes "--raw" ∷ codes "--check" ∷ []) ≡ []
  pub imports_many : all_files (codes "import" ∷ codes "A" ∷ codes "1" ∷ codes "F" ∷ codes "G" ∷ codes "--raw" ∷ []) ≡ Some (Some (codes "F" ∷ codes "G" ∷ []))
  pub imports_many_fits : refused (codes "import" ∷ codes "A" ∷ codes "1" ∷ codes "F" ∷ codes "G" ∷ codes "--check" ∷ []) ≡ []
  pub imports_with_a_load : refused (codes "import" ∷ codes "A" ∷ codes "1" ∷ codes "F" ∷ codes "--load" ∷ codes "2" ∷ [])
      ≡ kind.UnknownArgument ∷ []
  pub no_source : refused (codes "import" ∷ codes "A" ∷ codes "1" ∷ []) ≡ kind.MissingRequiredArgument ∷ []
  pub checks_image : read (codes "check" ∷ codes "A" ∷ []) ≡ Some (codes "check", Some (codes "A"), None, Some (codes "false"), None, None)
  pub checks_image_fits : refused (codes "check" ∷ codes "A" ∷ []) ≡ []
  pub no_image_to_check : refused (codes "check" ∷ []) ≡ kind.MissingRequiredArgument ∷ []
  pub checks_blocks : read (codes "check" ∷ codes "A" ∷ codes "--blocks" ∷ []) ≡ Some (codes "check", Some (codes "A"), None, Some (codes "true"), None, None)
  pub checks_blocks_fits : refused (codes "check" ∷ codes "--blocks" ∷ codes "A" ∷ []) ≡ []
  pub checks_no_count : refused (codes "check" ∷ codes "A" ∷ codes "--blocks" ∷ codes "32" ∷ []) ≡ kind.UnknownArgument ∷ []
  pub checks_blocks_by_a_number : refused (codes "check" ∷ codes "A" ∷ codes "--blocks=1" ∷ []) ≡ kind.TooManyValues ∷ []
  pub checks_two_images : refused (codes "check" ∷ codes "A" ∷ codes "B" ∷ []) ≡ kind.UnknownArgument ∷ []
  pub compares : read_images (codes "diff" ∷ codes "A" ∷ codes "B" ∷ []) ≡ Some (codes "diff", Some (codes "A"), Some (codes "B"))
  pub compares_fits : refused (codes "diff" ∷ codes "A" ∷ codes "B" ∷ []) ≡ []
  pub compares_with_nothing : refused (codes "diff" ∷ codes "A" ∷ []) ≡ kind.MissingRequiredArgument ∷ []
  pub compares_three : refused (codes "diff" ∷ codes "A" ∷ codes "B" ∷ codes "C" ∷ []) ≡ kind.UnknownArgument ∷ []
  pub upgrades : read_images (codes "upgrade" ∷ codes "A" ∷ codes "B" ∷ []) ≡ Some (codes "upgrade", Some (codes "A"), Some (codes "B"))
  pub upgrades_fits : refused (codes "upgrade" ∷ codes "A" ∷ codes "B" ∷ []) ≡ []
  pub upgrades_to_2 : read_layout (codes "upgrade" ∷ codes "A" ∷ codes "B" ∷ []) ≡ Some (Some (codes "2"))
  pub upgrades_to_3 : read_layout (codes "upgrade" ∷ codes "A" ∷ codes "B" ∷ codes "--layout" ∷ codes "3" ∷ []) ≡ Some (Some (codes "3"))
  pub upgrades_to_3_fits : refused (codes "upgrade" ∷ codes "--layout=3" ∷ codes "A" ∷ codes "B" ∷ []) ≡ []
  pub upgrades_to_1 : refused (codes "upgrade" ∷ codes "A" ∷ codes "B" ∷ codes "--layout=1" ∷ []) ≡ kind.ValueValidation ∷ []
  pub no_new_image : refused (codes "upgrade" ∷ codes "A" ∷ []) ≡ kind.MissingRequiredArgument ∷ []
  pub copies : read_copy (codes "copy" ∷ codes "A" ∷ codes "B" ∷ []) ≡ Some (codes "copy", Some (codes "A"), Some (codes "B"), None)
  pub copies_fits : refused (codes "copy" ∷ codes "A" ∷ codes "B" ∷ []) ≡ []
  pub copies_more : read_copy (codes "copy" ∷ codes "A" ∷ codes "B" ∷ codes "--blocks" ∷ codes "64" ∷ [])
      ≡ Some (codes "copy", Some (codes "A"), Some (codes "B"), Some (codes "64"))
  pub copies_more_fits : refused (codes "copy" ∷ codes "--blocks=3840" ∷ codes "A" ∷ codes "B" ∷ []) ≡ []
  pub copies_few : refused (codes "copy" ∷ codes "A" ∷ codes "B" ∷ codes "--blocks=31" ∷ []) ≡ kind.ValueValidation ∷ []
  pub copies_many : refused (codes "copy" ∷ codes "A" ∷ codes "B" ∷ codes "--blocks=3841" ∷ []) ≡ kind.ValueValidation ∷ []
  pub copies_by_no_layout : refused (codes "copy" ∷ codes "A" ∷ codes "B" ∷ codes "--layout=3" ∷ []) ≡ kind.UnknownArgument ∷ []
  pub copies_nowhere : refused (codes "copy" ∷ codes "A" ∷ []) ≡ kind.MissingRequiredArgument ∷ []
  pub salvages : read_copy (codes "salvage" ∷ codes "A" ∷ codes "B" ∷ [])
      ≡ Some (codes "salvage", Some (codes "A"), Some (codes "B"), None)
  pub salvages_fits : refused (codes "salvage" ∷ codes "A" ∷ codes "B" ∷ []) ≡ []
  pub salvages_stated : read_copy (codes "salvage" ∷ codes "--blocks" ∷ codes "32" ∷ codes "A" ∷ codes "B" ∷ [])
      ≡ Some (codes "salvage", Some (codes "A"), Some (codes "B"), Some (codes "32"))
  pub salvages_few : refused (codes "salvage" ∷ codes "A" ∷ codes "B" ∷ codes "--blocks=31" ∷ []) ≡ kind.ValueValidation ∷ []
  pub salvages_nowhere : refused (codes "salvage" ∷ codes "A" ∷ []) ≡ kind.MissingRequiredArgument ∷ []
  pub unknown : refused (codes "--steps" ∷ codes "5" ∷ []) ≡ kind.UnknownArgument ∷ []
  pub help : refused (codes "--help" ∷ []) ≡ kind.DisplayHelp ∷ []
  pub version : refused (codes "--version" ∷ []) ≡ kind.DisplayVersion ∷ []
  pub version_of_a_command : refused (codes "list" ∷ codes "--version" ∷ []) ≡ kind.UnknownArgument ∷ []
