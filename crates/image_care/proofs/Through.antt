-- What is had of the sectors of an image, one after another.
use Rattle.std.proofs.Common.{◌≡◌, ◌∙◌, ◌∷◌, ◌++◌, ℕ, suc, [], Bool, List, IsTrue, Result, Ok, Err, ap, inl, inr, length, refl}
use Rattle.std.specs.Prelude.{OnOk}
use Rattle.image_care.specs.Through.{IsNext}

-- The next sector is that of another moment, where the device is the same one.
pub next_of : (keeps keeps' : Bool) (one other : List ℕ) (k : ℕ) (had unread had' unread' : List ℕ)
    → (IsTrue keeps' → IsTrue keeps) → (IsTrue keeps' → one ≡ other)
    → IsNext keeps one k had unread had' unread' → IsNext keeps' other k had unread had' unread'
next_of keeps keeps' one other k had unread had' unread' honest same (inl (sector, long, is, at, rest)) =
    inl (sector, long, (λ kept. is (honest kept) ∙ same kept), at, rest)
next_of keeps keeps' one other k had unread had' unread' honest same (inr lost) = inr lost

-- a list with one more
pub one_longer : (l : List ℕ) (k : ℕ) → length (l ++ k ∷ []) ≡ suc (length l)
one_longer [] k = refl
one_longer (x ∷ l) k = ap suc (one_longer l k)

-- What holds whatever the answer is holds of one that is Ok, and two facts of one that is Ok hold together.
pub on_any : {T E P : Type 0} (r : Result T E) → P → OnOk r P
on_any (Ok t) p = p
on_any (Err e) p = tt

pub on_each : {T E P Q R : Type 0} (r : Result T E) → (P → Q → R) → OnOk r P → OnOk r Q → OnOk r R
on_each (Ok t) f p q = f p q
on_each (Err e) f p q = tt
