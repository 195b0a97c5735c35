-- After a call the fields and the cells stand for a definition again, or for none.
use Rattle.std.proofs.Common.{◌≡◌, sym, subst, List, ℕ, Some, None}
use Rattle.std.specs.Prelude.{Result, Ok, Err, OnOk, IfOk, IfErr}
use Rattle.compiler.specs.declared.definition.Compiler.{Compiler}
use Rattle.compiler.specs.declared.definition.CompileRefusal.{CompileRefusal}
use Rattle.compiler.specs.Definition.{Definition, Adding, opened}
use Rattle.compiler.specs.Represents.{IsSound}
use Rattle.compiler.specs.Promise.{Added, Refused, Opened, NotOpened, Finished}

unchanged : (c : Compiler) (old : List ℕ) (n : Compiler) (new : List ℕ) → n ≡ c → new ≡ old → IsSound c old → IsSound n new
unchanged c old n new e f s = subst (λ m. IsSound m new) (sym e) (subst (λ l. IsSound c l) (sym f) s)

pub sound_added : {T : Type 0} → (c : Compiler) (old : List ℕ) (n : Compiler) (new : List ℕ) (add : ℕ → Definition → Adding Definition) (r : Result T CompileRefusal) → IsSound c old → OnOk r (Added c old n new add) → IfErr r (λ e. Refused c old n new add e) → IsSound n new
sound_added c old n new add (Ok x) s a f = let d = a s.0 s.1 in (Some d.0, d.1.1)
sound_added c old n new add (Err e) s a f = unchanged c old n new f.1 f.2 s

pub sound_opened : {T : Type 0} → (c n : Compiler) (name : List ℕ) (code : List ℕ) (r : Result T CompileRefusal) → IsSound c code → OnOk r (Opened c n name) → IfErr r (λ e. NotOpened c n e) → IsSound n code
sound_opened c n name code (Ok x) s a f = (Some (opened name 0), (a code s.0 0 s.1).1)
sound_opened c n name code (Err e) s a f = subst (λ m. IsSound m code) (sym f.1) s

pub sound_finished : (c : Compiler) (old : List ℕ) (n : Compiler) (new : List ℕ) (add : ℕ → Definition → Adding Definition) (r : Result ℕ CompileRefusal) → IsSound c old → IfOk r (λ p. Finished c old n new p) → IfErr r (λ e. Refused c old n new add e) → IsSound n new
sound_finished c old n new add (Ok x) s a f = (None, a.1)
sound_finished c old n new add (Err e) s a f = unchanged c old n new f.1 f.2 s
