use Rattle.std.proofs.Common.{inl}
use Rattle.std.proofs.lemmas.Result.{IfErr-weaker}
use Rattle.terminal.proofs.Standings.{not_listed, ok_both, shown_after, still_unprinted}
use Rattle.terminal.proofs.showing.show_through.Goals as goal

pub returns-in-Ok-clause-shows : goal.returns-in-Ok-clause-shows
returns-in-Ok-clause-shows g c = inl c.in-Ok.ensures.shows

pub returns-in-Err-clause-shows : goal.returns-in-Err-clause-shows
returns-in-Err-clause-shows g c =
    let looked = c.in-Err.ensures in
    ok_both c.list_anyway.result
    (λ is shown. shown_after g.D.SectorDevice g.W.Write.contents c.args.block c.in-Err.failure c.args.output.now c.show_over.new.output
    c.list_anyway.new.output c.args.device.now c.show_over.new.device c.list_anyway.new.device
    c.show_over.ensures.only_read looked.device looked.unprinted is shown)
    c.list_anyway.ensures.of_device c.list_anyway.ensures.listed

pub returns-in-Err-clause-failed : goal.returns-in-Err-clause-failed
returns-in-Err-clause-failed g c =
    let looked = c.in-Err.ensures in
    IfErr-weaker c.list_anyway.result _ _
    (λ e told. not_listed g.D.SectorDevice c.args.block c.in-Err.failure e c.args.device.now c.show_over.new.device c.list_anyway.new.device
    c.show_over.ensures.only_read looked.device looked.refused looked.exact told)
    c.list_anyway.ensures.failed

pub returns-in-Err-clause-unprinted : goal.returns-in-Err-clause-unprinted
returns-in-Err-clause-unprinted g c =
    still_unprinted g.D.SectorDevice c.args.block c.args.block c.in-Err.failure c.show_over.new.device c.list_anyway.new.device
    c.args.output.now c.show_over.new.output c.list_anyway.new.output c.list_anyway.result
    c.list_anyway.ensures.failed c.list_anyway.ensures.unprinted c.in-Err.ensures.unprinted
