use Rattle.image_care.proofs.Makings.{homes_carry, homes_leave, homes_made, homes_mean, homes_rest, of_journal, of_pages}
use Rattle.image_care.proofs.Makings.{places_are_made, places_carry, places_leave, places_mean, places_rest}
use Rattle.image_care.proofs.laying.lay.Goals as goal

pub make-requires-clause-to : goal.make-requires-clause-to
make-requires-clause-to g c = of_journal c.args.size.layout c.args.size.blocks.number _ c.in-Journal.is c.requires.to

pub make-requires-in-Pages-clause-to : goal.make-requires-in-Pages-clause-to
make-requires-in-Pages-clause-to g c = of_pages c.args.size.layout c.args.size.blocks.number _ c.in-Pages.is c.requires.to

pub returns-in-Journal-clause-made : goal.returns-in-Journal-clause-made
returns-in-Journal-clause-made g c = λ source.
    homes_made g.B.SectorDevice c.args.new.now c.make.new.new c.args.size c.in-Journal.is c.requires.to
    c.make.result (g.S.Source.bytes_in c.args.source.now (g.A.SectorDevice.disk c.args.old.now).content) (c.make.ensures.made source)

pub returns-in-Journal-clause-after : goal.returns-in-Journal-clause-after
returns-in-Journal-clause-after g c = λ source.
    homes_mean g.B.SectorDevice c.args.new.now c.make.new.new c.args.size c.in-Journal.is c.requires.to c.make.result
    (g.S.Source.bytes_in c.args.source.now (g.A.SectorDevice.disk c.args.old.now).content) (c.make.ensures.made source) c.make.ensures.carries.passes.units
    (λ still. g.met.B.SectorDevice.present c.make.new.new (g.met.B.SectorDevice.keeps_both _ still))

pub returns-in-Journal-clause-rest : goal.returns-in-Journal-clause-rest
returns-in-Journal-clause-rest g c =
    homes_rest g.B.SectorDevice c.args.new.now c.make.new.new c.args.size c.in-Journal.is c.requires.to
    c.make.result c.make.ensures.left

pub returns-in-Journal-clause-stops : goal.returns-in-Journal-clause-stops
returns-in-Journal-clause-stops g c = λ source.
    homes_leave g.B.SectorDevice c.args.new.now c.make.new.new c.args.size c.in-Journal.is c.requires.to
    (g.S.Source.bytes_in c.args.source.now (g.A.SectorDevice.disk c.args.old.now).content) (g.met.B.SectorDevice.by_sectors c.args.new.now) (c.make.ensures.stops source)

pub returns-in-Journal-clause-carries : goal.returns-in-Journal-clause-carries
returns-in-Journal-clause-carries g c =
    homes_carry g.B.SectorDevice c.args.new.now c.make.new.new c.args.size c.in-Journal.is c.requires.to
    g.A.SectorDevice c.args.old.now c.make.new.old c.make.ensures.carries

pub returns-in-Pages-clause-made : goal.returns-in-Pages-clause-made
returns-in-Pages-clause-made g c = λ source.
    places_are_made g.B.SectorDevice c.args.new.now c.make-in-Pages.new.new c.args.size c.in-Pages.is c.requires.to
    c.make-in-Pages.result (g.S.Source.bytes_in c.args.source.now (g.A.SectorDevice.disk c.args.old.now).content) _ (c.make-in-Pages.ensures.made source)

pub returns-in-Pages-clause-after : goal.returns-in-Pages-clause-after
returns-in-Pages-clause-after g c = λ source.
    places_mean g.B.SectorDevice c.args.new.now c.make-in-Pages.new.new c.args.size c.in-Pages.is c.requires.to c.make-in-Pages.result
    (g.S.Source.bytes_in c.args.source.now (g.A.SectorDevice.disk c.args.old.now).content) _ (c.make-in-Pages.ensures.made source) c.make-in-Pages.ensures.carries.passes.model
    (g.met.B.SectorDevice.present c.make-in-Pages.new.new)

pub returns-in-Pages-clause-rest : goal.returns-in-Pages-clause-rest
returns-in-Pages-clause-rest g c =
    places_rest g.B.SectorDevice c.args.new.now c.make-in-Pages.new.new c.args.size c.in-Pages.is c.requires.to
    c.make-in-Pages.result c.make-in-Pages.ensures.left

pub returns-in-Pages-clause-stops : goal.returns-in-Pages-clause-stops
returns-in-Pages-clause-stops g c = λ source.
    places_leave g.B.SectorDevice c.args.new.now c.make-in-Pages.new.new c.args.size c.in-Pages.is c.requires.to
    (g.S.Source.bytes_in c.args.source.now (g.A.SectorDevice.disk c.args.old.now).content) _ (c.make-in-Pages.ensures.stops source)

pub returns-in-Pages-clause-carries : goal.returns-in-Pages-clause-carries
returns-in-Pages-clause-carries g c =
    places_carry g.B.SectorDevice c.args.new.now c.make-in-Pages.new.new c.args.size c.in-Pages.is c.requires.to
    g.A.SectorDevice c.args.old.now c.make-in-Pages.new.old c.make-in-Pages.ensures.carries
