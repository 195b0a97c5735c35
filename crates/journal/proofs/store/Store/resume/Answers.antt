use Rattle.std.proofs.Common.{refl}
use Rattle.journal.proofs.Resting.{goes_on, rested_sound}
use Rattle.journal.proofs.Techniques.{rest_tagged}
use Rattle.journal.proofs.store.Store.resume.Goals as goal

pub invariant_of-result-2 : goal.invariant_of-result-2
invariant_of-result-2 g c = record {
  size = c.requires.size;
  clear = λ b past. c.empty_record.ensures b;
  sound = λ model now. rested_sound g.D.SectorDevice c.args.device c.args.blocks c.args.technique (c.requires.rested model) model;
  tagged = λ model now. rest_tagged c.args.technique c.args.blocks c.empty_record.result c.record_sum.result (g.D.SectorDevice.disk c.args.device)
      c.empty_record.ensures c.record_sum.ensures
      (rested_sound g.D.SectorDevice c.args.device c.args.blocks c.args.technique (c.requires.rested model) model);
  keeps = λ model now b kept. cc;
}

pub returns-clause-state : goal.returns-clause-state
returns-clause-state g c = goes_on g.D.SectorDevice c.args.device c.args.blocks c.args.technique _
    (record { on = refl; count = refl; how = refl; open_still = refl; none = c.empty_record.ensures })
