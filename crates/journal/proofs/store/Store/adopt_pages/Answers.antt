use Rattle.std.proofs.Common.{IsTrue, refl, subst, sym}
use Rattle.journal.specs.PageImages.{block_of}
use Rattle.journal.specs.declared.technique.NamedRecord.{NamedRecord}
use Rattle.journal.specs.declared.technique.Technique.TheVariants.{Pages}
use Rattle.journal.proofs.Blocks.{length-below}
use Rattle.journal.proofs.Stores.{adopted}
use Rattle.journal.proofs.KnownSizes.{size_newer}
use Rattle.journal.proofs.Suited.{newer_suits, suits_newer}
use Rattle.journal.proofs.Techniques.{pages_sound, pages_blocks, rest_tagged}
use Rattle.journal.proofs.store.Store.adopt_pages.Goals as goal

pub invariant_of-result-2 : goal.invariant_of-result-2
invariant_of-result-2 g c = record {
  size = c.requires.size;
  clear = λ b past. c.empty_record.ensures b;
  sound = λ model now. pages_sound c.args.blocks (record { is_open = c.args.is_open; listing = c.args.listing.now }) (g.D.SectorDevice.disk c.args.device) (c.requires.clean
      (suits_newer g.D.SectorDevice c.args.device (size_newer c.args.blocks _ c.requires.size) model));
  tagged = λ model now.
      let named : NamedRecord = record { is_open = c.args.is_open; listing = c.args.listing.now } in
      let disk = g.D.SectorDevice.disk c.args.device in
      rest_tagged (Pages named) c.args.blocks c.empty_record.result c.sum.result disk c.empty_record.ensures c.sum.ensures
      (pages_sound c.args.blocks named disk (c.requires.clean (suits_newer g.D.SectorDevice c.args.device (size_newer c.args.blocks _ c.requires.size) model)));
  keeps = λ model now b kept. cc;
}

pub returns-clause-state : goal.returns-clause-state
returns-clause-state g c = λ keeps.
    let D = g.met.D.SectorDevice in
    let disk = g.D.SectorDevice.disk c.args.device in
    adopted g.D.SectorDevice D.present D.keeps_both _ _
    (subst IsTrue (sym (newer_suits g.D.SectorDevice c.args.device (size_newer c.args.blocks _ c.requires.size))) keeps) refl c.empty_record.ensures
    (length-below (block_of disk.content) c.args.blocks)
    (pages_blocks c.args.blocks c.args.is_open c.args.listing.now disk (c.requires.clean keeps))
