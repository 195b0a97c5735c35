use Rattle.std.proofs.Common.{◌≡◌, ◌∙◌, IsTrue, refl, sym, ap, subst, arith}
use Rattle.std.proofs.lemmas.Grind.{common_steps}
use Rattle.data_space.specs.Space.{with_cell}
use Rattle.journal.specs.Store.{StandsFor, device_of}
use Rattle.journal.specs.Suits.{suits}
use Rattle.interpreter.specs.Lines.{new_world}
use Rattle.interpreter.proofs.forth.ForthLines.new.Goals as goal

pub returns-clause-sound : goal.returns-clause-sound
returns-clause-sound g c = λ m gives.
    let e = c.new-3.ensures.store in (
      new_world m,
      record {
        meant = c.requires.blank.words;
        held_end = refl;
        held = refl;
        buffers = sym c.new-3.ensures.buffers;
        loads = c.new-4.ensures;
        maps = λ model. subst (λ s. StandsFor {D = g.row.D.Denot} {G = g.D.SectorDevice} s m) (sym e) (gives c.into.result c.into.ensures (subst (λ s. IsTrue (suits g.D.SectorDevice (device_of s))) e model));
      },
    )

pub returns-clause-opens : goal.returns-clause-opens
returns-clause-opens g c = λ m gives.
    let e = c.new-3.ensures.store in
    let stands = gives c.into.result c.into.ensures in
    let wrote : c.set_cell.new.self ≡ with_cell c.args.memory.space 16 10 = grind (arith, common_steps, c.set_cell.ensures.after, c.set_cell.ensures.within) in
    record {
      represents = record {
        budget = refl;
        undoes = refl;
        same_core = record { stack = sym c.new.ensures; space = ap (λ l. with_cell l 16 10) (sym c.requires.blank.zeros) ∙ sym wrote };
        rests = record {
          meant = c.requires.blank.words;
          held_end = refl;
          held = refl;
          buffers = sym c.new-3.ensures.buffers;
          loads = c.new-4.ensures;
          maps = λ model. subst (λ s. StandsFor {D = g.row.D.Denot} {G = g.D.SectorDevice} s m) (sym e) stands;
        };
      };
      model = subst (λ s. IsTrue (suits g.D.SectorDevice (device_of s))) (sym e) stands.model;
    }
