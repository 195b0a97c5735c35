-- What is found by reads alone.
use Rattle.std.proofs.Common.{◌≡◌, ◌⊎◌, ⊎_elim, Option, Some, None, Result, Ok, Err, sym, ◌∙◌, ap}
use Rattle.std.specs.Prelude.{MatchResult, IfErr, IfOk, OnOk}
use Rattle.sector_disk.specs.Counting.{count_up}
use Rattle.sector_disk.specs.Disk.{Disk}
use Rattle.sector_disk.specs.declared.device.SectorDevice.{Ghosts}
use Rattle.recovery.specs.Recovered.{Tells}
use Rattle.recovery.specs.Steps.{OnlyRead}
use Rattle.recovery.specs.declared.fault.OpenFault.{OpenFault}
use Rattle.recovery.specs.declared.fault.OpenFault.TheVariants.{Device}

-- What passes each test is refused only by a fault of the device.
pub only_device : (e : OpenFault) (refusal : Option OpenFault) → refusal ≡ None → (e ≡ Device) ⊎ (refusal ≡ Some e) → e ≡ Device
only_device e refusal none = ⊎_elim (λ device. device) (λ some. absurd (let no : None ≡ Some e = sym none ∙ some in cc))

pub only_devices : {T : Type 0} (r : Result T OpenFault) (refusal : Option OpenFault) → refusal ≡ None
    → MatchResult r (λ _. refusal ≡ None) (λ e. (e ≡ Device) ⊎ (refusal ≡ Some e)) → IfErr r (λ e. e ≡ Device)
only_devices (Ok x) refusal none is = tt
only_devices (Err e) refusal none is = only_device e refusal none is

-- What holds where nothing was refused.
pub on_none : {T E : Type 0} (r : Result T E) {P Q : Type 0} (R : E → Type 0) → (P → Q) → MatchResult r (λ _. P) R → OnOk r Q
on_none (Ok x) R f is = f is
on_none (Err e) R f is = tt

-- What holds of each thing that was found.
module _ {T E : Type 0} where
  pub if_ok_all : (r : Result T E) {P Q R S : T → Type 0} → ((x : T) → P x → Q x → R x → S x) → IfOk r P → IfOk r Q → IfOk r R → IfOk r S
  if_ok_all (Ok x) f p q s = f x p q s
  if_ok_all (Err e) f p q s = tt

-- What the second of two runs of reads tells, the first of which went well, both tell.
pub told_by_reads : {D T : Type 0} (G : Ghosts D) (a b d : D) (result : Result T OpenFault) → G.failures b ≡ G.failures a → OnlyRead G a d
    → Tells G b d 0 result → Tells G a d 0 result
told_by_reads G a b d (Ok x) well read two = record {
  sized = tt;
  device = tt;
  refused = tt;
  well = two.well ∙ well;
  content = λ keeps. tt;
  unwritten = tt;
}
told_by_reads G a b d (Err e) well read two = record {
  sized = two.sized;
  device = λ is. two.device is ∙ ap count_up well;
  refused = λ other. two.refused other ∙ well;
  well = tt;
  content = λ keeps other. ap (λ (x : Disk). x.content) (read.disk keeps);
  unwritten = λ other. read.begins;
}
