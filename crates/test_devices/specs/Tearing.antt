-- What a tearing device is: the device within, which call fails, and what it leaves.
use Rattle.std.specs.Prelude.{◌==◌, ℕ, Bool, List}
use Rattle.test_devices.specs.declared.tearing.Tearing.{Tearing}

abbrev pub torn_device_of : {D : Type 0} → Tearing D → D
torn_device_of f = f.device

-- Whether the j-th call from now on is the one of this number. Calls are counted from 1, so none has the number 0.
abbrev pub will_tear : (call j : ℕ) → Bool
will_tear call j = j == call

-- whether the j-th call from now on fails, counted from 1
abbrev pub tears_at : {D : Type 0} → Tearing D → ℕ → Bool
tears_at f j = will_tear f.call j

-- the bytes that a write which is failed leaves
abbrev pub torn_bytes : {D : Type 0} → Tearing D → List ℕ
torn_bytes f = f.torn
