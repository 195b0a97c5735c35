-- A command line that names a command is read by that command, whatever others there are.
use Rattle.std.proofs.Common.{◌≡◌, ◌∙◌, true, false, List, [], ◌∷◌, length, map, nat_lt, true≢false, Some, is_some, option_map, refl, sym, subst, ap, ap₂, arith}
use Rattle.std.proofs.lemmas.Bool.{ltb-false}
use Rattle.std.specs.List.{find, fold}
use Rattle.std.specs.Option.{option_map_or}
use Rattle.clap.specs.Walk.{Text, Walk, answers_to, finished, nothing_held, settled, stop_after, walk, walk_from, walked}
use Rattle.clap.specs.Simple.{App, Shape, built, entered, label_of, names_of, rows_at}
use Rattle.clap.specs.Kinds.{Kinds, or_else}
use Rattle.clap.specs.Faults.{built_fault, check_fault, defaults_fault, entered_fault, level_fault, settle_fault, turn_fault, walk_fault}
use Rattle.clap.specs.Words.{with_subcommand}
use Rattle.clap.proofs.FaultLemmas.{stopped_fault}
use Rattle.clap.proofs.WalkLemmas.{walk_stopped}
use Rattle.clap.proofs.OnLiterals.{clap_on_literals}
use Rattle.std.specs.Prelude.{codes, slice_index_or}
use Rattle.command_line.specs.Commands.{ReadsAs, SufficesFor, program, forth83, new_app_of, run_app, list_app, put_app, export_app, import_app, check_app, diff_app, upgrade_app, copy_app, salvage_app}

-- a walk that has met this command
abbrev pub met_at : Text → List Text → Walk
met_at name rest = record (walk_from nothing_held) { stopped = Some (name, rest) }

-- what is left of a program's own faults, where its words go to a command
abbrev pub left_fault : App → Walk → Kinds
left_fault b w = or_else (settle_fault b.top.rules b.top.args_override_self w.held)
    (or_else (defaults_fault (settled b.top.rules w.held).rows b.top.rules)
    (check_fault b.top (finished b.top.rules w.held) (is_some (entered b w.stopped))))

-- The words of a built program go to a command of this name, which was built as `leaf`.
pub record GoesTo (b : App) (name : Text) (leaf : Shape) : Type 0 where
  pub met : walked b.top.rules (names_of b) (walk_from nothing_held) name ≡ met_at name []
  pub found : find (λ s. answers_to name (label_of s)) b.subs ≡ Some leaf
  pub quiet : turn_fault b.top (names_of b) (walk_from nothing_held) name ≡ []
  pub left : (rest : List Text) → left_fault b (met_at name rest) ≡ []

module _ (b : App) (name : Text) (leaf : Shape) (goes : GoesTo b name leaf) (rest : List Text) where
  stays : walk b.top.rules (names_of b) nothing_held (name ∷ rest) ≡ met_at name rest
  stays = ap (λ w. fold (walked b.top.rules (names_of b)) w rest) goes.met
      ∙ sym (walk_stopped b.top.rules (names_of b) (walk_from nothing_held) name [] rest)

  pub enters : entered b (stop_after b.top.rules (names_of b) (name ∷ rest)) ≡ Some (rows_at leaf rest)
  enters = ap (λ w. entered b w.stopped) stays ∙ ap (option_map (λ s. rows_at s rest)) goes.found

  walks : walk_fault b.top (names_of b) (walk_from nothing_held) (name ∷ rest) ≡ []
  unfolding walk_fault
  walks = ap₂ or_else goes.quiet (ap (λ w. walk_fault b.top (names_of b) w rest) goes.met ∙ stopped_fault b.top (names_of b) (walk_from nothing_held) (name, []) rest)

  pub fails : built_fault b nothing_held (name ∷ rest) ≡ or_else (level_fault leaf [] nothing_held rest false []) []
  fails = ap (λ w. or_else (walk_fault b.top (names_of b) (walk_from nothing_held) (name ∷ rest)) (or_else (entered_fault b w.stopped) (left_fault b w))) stays
      ∙ ap (λ k. or_else k (or_else (entered_fault b (Some (name, rest))) (left_fault b (met_at name rest)))) walks
      ∙ ap₂ or_else (ap (λ o. option_map_or (λ s. level_fault s [] nothing_held rest false []) o []) goes.found) (goes.left rest)

-- two programs read the words alike
alike : (a b : App) (name : Text) (leaf : Shape) → GoesTo (built a) name leaf → GoesTo (built b) name leaf → (rest : List Text)
    → (entered (built a) (stop_after (built a).top.rules (names_of (built a)) (name ∷ rest))
    ≡ entered (built b) (stop_after (built b).top.rules (names_of (built b)) (name ∷ rest)))
    × (built_fault (built a) nothing_held (name ∷ rest) ≡ built_fault (built b) nothing_held (name ∷ rest))
alike a b name leaf p q rest =
    (enters (built a) name leaf p rest ∙ sym (enters (built b) name leaf q rest), fails (built a) name leaf p rest ∙ sym (fails (built b) name leaf q rest))

pub new_alone : SufficesFor (with_subcommand program new_app_of.top) (codes "new")
unfolding clap_on_literals
new_alone first rest =
    let both = alike (with_subcommand program new_app_of.top) forth83 (codes "new") _ (record { met = refl; found = refl; quiet = refl; left = λ rest. refl })
    (record { met = refl; found = refl; quiet = refl; left = λ rest. refl }) rest in
    record { simple = refl; free = refl; subcommand = both.0; fault = both.1 }

pub run_alone : SufficesFor (with_subcommand program run_app.top) (codes "run")
unfolding clap_on_literals
run_alone first rest =
    let both = alike (with_subcommand program run_app.top) forth83 (codes "run") _ (record { met = refl; found = refl; quiet = refl; left = λ rest. refl })
    (record { met = refl; found = refl; quiet = refl; left = λ rest. refl }) rest in
    record { simple = refl; free = refl; subcommand = both.0; fault = both.1 }

pub list_alone : SufficesFor (with_subcommand program list_app.top) (codes "list")
unfolding clap_on_literals
list_alone first rest =
    let both = alike (with_subcommand program list_app.top) forth83 (codes "list") _ (record { met = refl; found = refl; quiet = refl; left = λ rest. refl })
    (record { met = refl; found = refl; quiet = refl; left = λ rest. refl }) rest in
    record { simple = refl; free = refl; subcommand = both.0; fault = both.1 }

pub put_alone : SufficesFor (with_subcommand program put_app.top) (codes "put")
unfolding clap_on_literals
put_alone first rest =
    let both = alike (with_subcommand program put_app.top) forth83 (codes "put") _ (record { met = refl; found = refl; quiet = refl; left = λ rest. refl })
    (record { met = refl; found = refl; quiet = refl; left = λ rest. refl }) rest in
    record { simple = refl; free = refl; subcommand = both.0; fault = both.1 }

pub export_alone : SufficesFor (with_subcommand program export_app.top) (codes "export")
unfolding clap_on_literals
export_alone first rest =
    let both = alike (with_subcommand program export_app.top) forth83 (codes "export") _ (record { met = refl; found = refl; quiet = refl; left = λ rest. refl })
    (record { met = refl; found = refl; quiet = refl; left = λ rest. refl }) rest in
    record { simple = refl; free = refl; subcommand = both.0; fault = both.1 }

pub import_alone : SufficesFor (with_subcommand program import_app.top) (codes "import")
unfolding clap_on_literals
import_alone first rest =
    let both = alike (with_subcommand program import_app.top) forth83 (codes "import") _ (record { met = refl; found = refl; quiet = refl; left = λ rest. refl })
    (record { met = refl; found = refl; quiet = refl; left = λ rest. refl }) rest in
    record { simple = refl; free = refl; subcommand = both.0; fault = both.1 }

pub check_alone : SufficesFor (with_subcommand program check_app.top) (codes "check")
unfolding clap_on_literals
check_alone first rest =
    let both = alike (with_subcommand program check_app.top) forth83 (codes "check") _ (record { met = refl; found = refl; quiet = refl; left = λ rest. refl })
    (record { met = refl; found = refl; quiet = refl; left = λ rest. refl }) rest in
    record { simple = refl; free = refl; subcommand = both.0; fault = both.1 }

pub diff_alone : SufficesFor (with_subcommand program diff_app.top) (codes "diff")
unfolding clap_on_literals
diff_alone first rest =
    let both = alike (with_subcommand program diff_app.top) forth83 (codes "diff") _ (record { met = refl; found = refl; quiet = refl; left = λ rest. refl })
    (record { met = refl; found = refl; quiet = refl; left = λ rest. refl }) rest in
    record { simple = refl; free = refl; subcommand = both.0; fault = both.1 }

pub upgrade_alone : SufficesFor (with_subcommand program upgrade_app.top) (codes "upgrade")
unfolding clap_on_literals
upgrade_alone first rest =
    let both = alike (with_subcommand program upgrade_app.top) forth83 (codes "upgrade") _ (record { met = refl; found = refl; quiet = refl; left = λ rest. refl })
    (record { met = refl; found = refl; quiet = refl; left = λ rest. refl }) rest in
    record { simple = refl; free = refl; subcommand = both.0; fault = both.1 }

pub copy_alone : SufficesFor (with_subcommand program copy_app.top) (codes "copy")
unfolding clap_on_literals
copy_alone first rest =
    let both = alike (with_subcommand program copy_app.top) forth83 (codes "copy") _ (record { met = refl; found = refl; quiet = refl; left = λ rest. refl })
    (record { met = refl; found = refl; quiet = refl; left = λ rest. refl }) rest in
    record { simple = refl; free = refl; subcommand = both.0; fault = both.1 }

pub salvage_alone : SufficesFor (with_subcommand program salvage_app.top) (codes "salvage")
unfolding clap_on_literals
salvage_alone first rest =
    let both = alike (with_subcommand program salvage_app.top) forth83 (codes "salvage") _ (record { met = refl; found = refl; quiet = refl; left = λ rest. refl })
    (record { met = refl; found = refl; quiet = refl; left = λ rest. refl }) rest in
    record { simple = refl; free = refl; subcommand = both.0; fault = both.1 }

-- Words whose second one is the name that the program suffices for.
pub suffices_in : {X : Type 0} (text : X → Text) (words : List X) (second : X) (app : App) → true ≡ nat_lt 1 (length words)
    → second ≡ slice_index_or words 1 second → SufficesFor app (text second) → ReadsAs app forth83 (map text words)
suffices_in text [] second app many is suffices = absurd (true≢false many)
suffices_in text (a ∷ []) second app many is suffices = absurd (true≢false many)
suffices_in {X} text (a ∷ b ∷ words) second app many is suffices =
    (subst (λ (x : X). SufficesFor app (text x)) is suffices) (text a) (map text words)

-- without a second word
pub few_words : {X : Type 0} (text : X → Text) (words : List X) → false ≡ nat_lt 1 (length words) → ReadsAs program forth83 (map text words)
unfolding clap_on_literals
few_words text [] few = record { simple = refl; free = refl; subcommand = refl; fault = refl }
few_words text (a ∷ []) few = record { simple = refl; free = refl; subcommand = refl; fault = refl }
few_words text (a ∷ b ∷ words) few = absurd (omega (arith, ltb-false 1 (length (a ∷ b ∷ words)) (sym few)))

-- the program as it was made, under the name that was asked for
pub named : (n name : Text) (a b : App) → n ≡ name → a ≡ b → SufficesFor b name → SufficesFor a n
named n name a b is same suffices = subst (λ (m : Text). SufficesFor a m) (sym is) (subst (λ (x : App). SufficesFor x name) (sym same) suffices)

pub reads_same : (a b : App) (words : List Text) → a ≡ b → ReadsAs b forth83 words → ReadsAs a forth83 words
reads_same a b words same reads = subst (λ (x : App). ReadsAs x forth83 words) (sym same) reads

-- all commands suffice
pub all_suffice : (n : Text) (a : App) → a ≡ forth83 → SufficesFor a n
all_suffice n a same = subst (λ (x : App). SufficesFor x n) (sym same) (λ first rest. record { simple = refl; free = refl; subcommand = refl; fault = refl })
