-- What is told line by line: of lines one after another, and in all.
use Rattle.std.proofs.Common.{List, [], ◌∷◌, ◌++◌, refl, sym, ap, subst}
use Rattle.sector_disk.specs.declared.device.SectorDevice.{Ghosts}
use Rattle.block_words.specs.Words.{no_wear}
use Rattle.block_words.specs.Calls.{WearsAtMost}
use Rattle.block_words.proofs.Counted.{risen_then}
use Rattle.block_words.proofs.Worn.{wears_none, wears_then}
use Rattle.interpreter.specs.Lines.{Turn}
use Rattle.sessions.specs.Sessions.{LineTold, Told, ToldInAll, failures_of, wear_of}

module _ {D : Type 0} (G : Ghosts D) where
  pub told_then : (turns more : List Turn) (old mid new : D) → Told G old turns mid → Told G mid more new → Told G old (turns ++ more) new
  told_then [] more old mid new h k = subst (λ d. Told G d more new) h k
  told_then (turn ∷ turns) more old mid new h k = (h.0, h.1, told_then turns more h.0 mid new h.2 k)

  pub told_once : (turn : Turn) (old new : D) → LineTold G turn old new → Told G old (turn ∷ []) new
  told_once turn old new h = (new, h, refl)

  pub told_in_all : ToldInAll G
  told_in_all old new [] h = (ap G.failures h, subst (λ d. WearsAtMost G old d no_wear) (sym h) (wears_none G old))
  told_in_all old new (turn ∷ turns) h =
      let rest = told_in_all h.0 new turns h.2 in (
        risen_then turn.failures (failures_of turns) (G.failures old) (G.failures h.0) (G.failures new) h.1.cause rest.0,
        wears_then G old h.0 new turn.wear (wear_of turns) h.1.wears rest.1,
      )
