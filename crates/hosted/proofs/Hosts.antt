-- A request that the host took, and then the bytes of a sector.
use Rattle.std.proofs.Common.{◌≡◌, Bool, Result, Ok, Err, inl, ⊎_elim, subst, sym}
use Rattle.std.specs.Prelude.{OnErr, OnOk, is_ok}
use Rattle.std.specs.Bool.{OnFalse, OnTrue}
use Rattle.sector_disk.specs.Disk.{MayLeaveEither}
use Rattle.sector_disk.specs.Moments.{Elapses, LeavesOnly}
use Rattle.sector_disk.proofs.Moments.{leaves_then}
use Rattle.hosted.specs.declared.host.Host.{Ghosts}

-- The first call leaves the disk as it was.
pub asked_then : {H : Type 0} (G : Ghosts H) (a b d : H) → Elapses G.time G.left_since a b → Elapses G.time G.left_since b d
    → G.disk b ≡ G.disk a
    → LeavesOnly G.time G.left_since a b (MayLeaveEither (G.disk a) (G.disk b))
    → LeavesOnly G.time G.left_since b d (MayLeaveEither (G.disk b) (G.disk d))
    → LeavesOnly G.time G.left_since a d (MayLeaveEither (G.disk a) (G.disk d))
asked_then G a b d one two same first then =
    leaves_then G.time G.left_since a b d (MayLeaveEither (G.disk a) (G.disk a)) (MayLeaveEither (G.disk a) (G.disk d)) (MayLeaveEither (G.disk a) (G.disk d)) one two
    (subst (λ disk. LeavesOnly G.time G.left_since a b (MayLeaveEither (G.disk a) disk)) same first)
    (subst (λ disk. LeavesOnly G.time G.left_since b d (MayLeaveEither disk (G.disk d))) same then)
    (λ image either. ⊎_elim (λ was. inl was) (λ still. inl still) either) (λ image either. either)

-- What is known where a call went well, or didn't, by the truth that it did.
pub where_done : {T E : Type 0} (r : Result T E) (b : Bool) (P : Type 0) → b ≡ is_ok r → OnOk r P → OnTrue b P
where_done (Ok v) b P is p = subst (λ b. OnTrue b P) (sym is) p
where_done (Err e) b P is p = subst (λ b. OnTrue b P) (sym is) tt

pub where_undone : {T E : Type 0} (r : Result T E) (b : Bool) (P : Type 0) → b ≡ is_ok r → OnErr r P → OnFalse b P
where_undone (Ok v) b P is p = subst (λ b. OnFalse b P) (sym is) tt
where_undone (Err e) b P is p = subst (λ b. OnFalse b P) (sym is) p
