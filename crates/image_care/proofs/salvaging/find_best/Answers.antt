use Rattle.std.proofs.Common.{◌∙◌, Bool, ap, subst, sym}
use Rattle.std.specs.Prelude.{if◌then◌else◌}
use Rattle.journal.specs.Calls.{ReadsAtMost}
use Rattle.journal.specs.Layout as journal_layout
use Rattle.journal.specs.PageLayout as pages_layout
use Rattle.journal.specs.Layouts.{is_journal, sectors_for}
use Rattle.stores.proofs.Results.{if_ok, if_ok_both}
use Rattle.image_care.specs.Examined.{reads_to_list}
use Rattle.image_care.proofs.Looks.{newer_sectors_of, older_sectors_of}
use Rattle.image_care.proofs.salvaging.find_best.Goals as goal

pub find_journal-requires : goal.find_journal-requires
find_journal-requires g c = record { size = c.requires.size ∙ ap (λ l. sectors_for l c.args.size.blocks.number) c.in-Journal.is }

pub find_named-requires : goal.find_named-requires
find_named-requires g c = record { size = c.requires.size ∙ ap (λ l. sectors_for l c.args.size.blocks.number) c.in-Pages.is }

pub returns-in-Journal-clause-size : goal.returns-in-Journal-clause-size
returns-in-Journal-clause-size g c =
    if_ok_both c.find_journal.result
    (λ view count layout. c.requires.size ∙ ap (λ l. sectors_for l c.args.size.blocks.number) c.in-Journal.is
    ∙ ap journal_layout.sectors_for (sym count) ∙ sym (older_sectors_of view layout))
    c.find_journal.ensures.count c.find_journal.ensures.layout

pub returns-in-Journal-clause-layout : goal.returns-in-Journal-clause-layout
returns-in-Journal-clause-layout g c = if_ok c.find_journal.result (λ view layout. layout ∙ sym (ap is_journal c.in-Journal.is)) c.find_journal.ensures.layout

pub returns-in-Journal-clause-reads : goal.returns-in-Journal-clause-reads
returns-in-Journal-clause-reads g c = λ keeps.
    let D = g.D.SectorDevice in
    subst (λ (l : Bool). ReadsAtMost D c.args.device.now c.find_journal.new.device
    (if l then reads_to_list c.args.size.blocks.number (D.disk c.args.device.now).content else 2)) (sym (ap is_journal c.in-Journal.is)) (c.find_journal.ensures.reads keeps)

pub returns-in-Pages-clause-size : goal.returns-in-Pages-clause-size
returns-in-Pages-clause-size g c =
    if_ok_both c.find_named.result
    (λ view count layout. c.requires.size ∙ ap (λ l. sectors_for l c.args.size.blocks.number) c.in-Pages.is
    ∙ ap pages_layout.sectors_for (sym count) ∙ sym (newer_sectors_of view layout))
    c.find_named.ensures.count c.find_named.ensures.layout

pub returns-in-Pages-clause-layout : goal.returns-in-Pages-clause-layout
returns-in-Pages-clause-layout g c = if_ok c.find_named.result (λ view layout. layout ∙ sym (ap is_journal c.in-Pages.is)) c.find_named.ensures.layout

pub returns-in-Pages-clause-reads : goal.returns-in-Pages-clause-reads
returns-in-Pages-clause-reads g c = λ keeps.
    let D = g.D.SectorDevice in
    subst (λ (l : Bool). ReadsAtMost D c.args.device.now c.find_named.new.device
    (if l then reads_to_list c.args.size.blocks.number (D.disk c.args.device.now).content else 2)) (sym (ap is_journal c.in-Pages.is)) c.find_named.ensures.reads
