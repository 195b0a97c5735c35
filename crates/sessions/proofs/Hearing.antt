-- Lines that a tracer is told of one after another.
use Rattle.std.proofs.Common.{◌≡◌, ℕ, List, [], ◌∷◌, ◌++◌, Option, refl, subst, sym, ap, ◌∙◌, append-nil}
use Rattle.interpreter.specs.Lines.{LineEnd, Turn}
use Rattle.interpreter.specs.declared.place.LeftAt.{LeftAt}
use Rattle.interpreter.specs.declared.place.Place.{Place}
use Rattle.sessions.specs.Heard.{HearsTurn, HearsAll}

module _ {T : Type 0} (hears : (old new : T) → LineEnd → Option LeftAt → Option Place → List ℕ → List Place → List ℕ → Type 0) where
  -- it was told of some, and then of others
  pub hears_then : (old mid new : T) (turns more : List Turn) → HearsAll hears old turns mid → HearsAll hears mid more new → HearsAll hears old (turns ++ more) new
  hears_then old mid new [] more none h = subst (λ s. HearsAll hears s more new) none h
  hears_then old mid new (turn ∷ turns) more told h = (told.0, told.1, hears_then told.0 mid new turns more told.2 h)

  pub hears_one : (old new : T) (turn : Turn) → HearsTurn hears old turn new → HearsAll hears old (turn ∷ []) new
  hears_one old new turn h = (new, h, refl)

  -- a session of so many lines more
  pub hears_more : (old mid new : T) (turns more : List Turn) (turn : Turn) → more ≡ turns ++ turn ∷ []
      → HearsAll hears old turns mid → HearsTurn hears mid turn new → HearsAll hears old more new
  hears_more old mid new turns more turn is told h =
      subst (λ ts. HearsAll hears old ts new) (sym is) (hears_then old mid new turns (turn ∷ []) told (hears_one mid new turn h))

  -- nothing was told besides
  pub hears_same : (old mid new : T) (turns more : List Turn) → more ≡ turns → new ≡ mid → HearsAll hears old turns mid → HearsAll hears old more new
  hears_same old mid new turns more is same told = subst (λ ts. HearsAll hears old ts new) (sym is) (subst (λ s. HearsAll hears old turns s) (sym same) told)

  pub hears_none : (old new : T) (turns : List Turn) → turns ≡ [] → new ≡ old → HearsAll hears old turns new
  hears_none old new turns is same = subst (λ ts. HearsAll hears old ts new) (sym is) same

  -- a line was cut short behind them
  pub hears_cut : (old mid new : T) (turns none more : List Turn) → more ≡ turns ++ none → none ≡ [] → new ≡ mid → HearsAll hears old turns mid → HearsAll hears old more new
  hears_cut old mid new turns none more is nothing same told =
      hears_same old mid new turns more (is ∙ ap (λ l. turns ++ l) nothing ∙ append-nil turns) same told

  pub hears_as : (old new : T) (turn line : Turn) → line ≡ turn → HearsTurn hears old turn new → HearsTurn hears old line new
  hears_as old new turn line is h = subst (λ t. HearsTurn hears old t new) (sym is) h

  -- of a line that ended so, and was left there
  pub heard_as : (old new : T) (ending ending' : LineEnd) (left left' : Option LeftAt) {start : Option Place} {word : List ℕ} {loads : List Place} {undone : List ℕ}
      → ending ≡ ending' → left ≡ left' → hears old new ending left start word loads undone → hears old new ending' left' start word loads undone
  heard_as old new ending ending' left left' {start} {word} {loads} {undone} by at h =
      subst (λ l. hears old new ending' l start word loads undone) at (subst (λ e. hears old new e left start word loads undone) by h)
