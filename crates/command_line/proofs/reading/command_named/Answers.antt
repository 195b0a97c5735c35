use Rattle.std.proofs.Common.{◌≡◌, rules}
use Rattle.std.specs.Prelude.{codes}
use Rattle.std.proofs.lemmas.Result.{IfOk-weaker}
use Rattle.clap.specs.Words.{app_of}
use Rattle.command_line.proofs.Alone.{all_suffice, named, new_alone, run_alone, list_alone, put_alone, export_alone, import_alone, check_alone, diff_alone, upgrade_alone, copy_alone, salvage_alone}
use Rattle.command_line.proofs.reading.command_named.Goals as goal

pub returns-in-new : goal.returns-in-new
returns-in-new c =
    let is : c.args.name.now ≡ codes "new" = search rules in
    IfOk-weaker c.alone.result _ _ (λ command made. named c.args.name.now (codes "new") (app_of command) _ is made new_alone)
    (c.alone.ensures _ c.new_command.ensures.app c.new_command.ensures.local)

pub returns-in-run : goal.returns-in-run
returns-in-run c =
    let is : c.args.name.now ≡ codes "run" = search rules in
    IfOk-weaker c.alone-in-run.result _ _ (λ command made. named c.args.name.now (codes "run") (app_of command) _ is made run_alone)
    (c.alone-in-run.ensures _ c.run_command.ensures.app c.run_command.ensures.local)

pub returns-in-list : goal.returns-in-list
returns-in-list c =
    let is : c.args.name.now ≡ codes "list" = search rules in
    IfOk-weaker c.alone-in-list.result _ _ (λ command made. named c.args.name.now (codes "list") (app_of command) _ is made list_alone)
    (c.alone-in-list.ensures _ c.list_command.ensures.app c.list_command.ensures.local)

pub returns-in-put : goal.returns-in-put
returns-in-put c =
    let is : c.args.name.now ≡ codes "put" = search rules in
    IfOk-weaker c.alone-in-put.result _ _ (λ command made. named c.args.name.now (codes "put") (app_of command) _ is made put_alone)
    (c.alone-in-put.ensures _ c.put_command.ensures.app c.put_command.ensures.local)

pub returns-in-export : goal.returns-in-export
returns-in-export c =
    let is : c.args.name.now ≡ codes "export" = search rules in
    IfOk-weaker c.alone-in-export.result _ _ (λ command made. named c.args.name.now (codes "export") (app_of command) _ is made export_alone)
    (c.alone-in-export.ensures _ c.export_command.ensures.app c.export_command.ensures.local)

pub returns-in-import : goal.returns-in-import
returns-in-import c =
    let is : c.args.name.now ≡ codes "import" = search rules in
    IfOk-weaker c.alone-in-import.result _ _ (λ command made. named c.args.name.now (codes "import") (app_of command) _ is made import_alone)
    (c.alone-in-import.ensures _ c.import_command.ensures.app c.import_command.ensures.local)

pub returns-in-check : goal.returns-in-check
returns-in-check c =
    let is : c.args.name.now ≡ codes "check" = search rules in
    IfOk-weaker c.alone-in-check.result _ _ (λ command made. named c.args.name.now (codes "check") (app_of command) _ is made check_alone)
    (c.alone-in-check.ensures _ c.check_command.ensures.app c.check_command.ensures.local)

pub returns-in-diff : goal.returns-in-diff
returns-in-diff c =
    let is : c.args.name.now ≡ codes "diff" = search rules in
    IfOk-weaker c.alone-in-diff.result _ _ (λ command made. named c.args.name.now (codes "diff") (app_of command) _ is made diff_alone)
    (c.alone-in-diff.ensures _ c.diff_command.ensures.app c.diff_command.ensures.local)

pub returns-in-upgrade : goal.returns-in-upgrade
returns-in-upgrade c =
    let is : c.args.name.now ≡ codes "upgrade" = search rules in
    IfOk-weaker c.alone-in-upgrade.result _ _ (λ command made. named c.args.name.now (codes "upgrade") (app_of command) _ is made upgrade_alone)
    (c.alone-in-upgrade.ensures _ c.upgrade_command.ensures.app c.upgrade_command.ensures.local)

pub returns-in-copy : goal.returns-in-copy
returns-in-copy c =
    let is : c.args.name.now ≡ codes "copy" = search rules in
    IfOk-weaker c.alone-in-copy.result _ _ (λ command made. named c.args.name.now (codes "copy") (app_of command) _ is made copy_alone)
    (c.alone-in-copy.ensures _ c.copy_command.ensures.app c.copy_command.ensures.local)

pub returns-in-salvage : goal.returns-in-salvage
returns-in-salvage c =
    let is : c.args.name.now ≡ codes "salvage" = search rules in
    IfOk-weaker c.alone-in-salvage.result _ _ (λ command made. named c.args.name.now (codes "salvage") (app_of command) _ is made salvage_alone)
    (c.alone-in-salvage.ensures _ c.salvage_command.ensures.app c.salvage_command.ensures.local)

pub returns-in_default : goal.returns-in_default
returns-in_default c = IfOk-weaker c.forth83.result _ _ (λ command same. all_suffice c.args.name.now (app_of command) same) c.forth83.ensures.app
