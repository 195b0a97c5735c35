-- Failures of the device, as lines tell them.
use Rattle.std.proofs.Common.{◌≡◌, ℕ, Result, inl, inr, refl, sym, ap, subst}
use Rattle.sector_disk.specs.declared.device.SectorDevice.{Ghosts}
use Rattle.journal.specs.Store.{device_of}
use Rattle.block_words.specs.declared.buffered_blocks.Blocks.{Blocks}
use Rattle.block_words.specs.Parts.{store_of}
use Rattle.interpreter.specs.declared.fault.Fault.{Fault}
use Rattle.interpreter.specs.declared.fault.Fault.TheVariants as found
use Rattle.interpreter.specs.declared.fault.Stop.{Stop}
use Rattle.interpreter.specs.declared.lines.LineEnd.{LineEnd}
use Rattle.interpreter.specs.declared.lines.LineEnd.TheVariants as end
use Rattle.interpreter.specs.declared.terminal.Terminal.{Ghosts as TerminalGhosts}
use Rattle.interpreter.specs.LineContract.{Counts}
use Rattle.interpreter.specs.ServiceContract.{Lasts}
use Rattle.interpreter.specs.Stops.{fault_count}

-- its reply may be cut off
pub cut_counts : (e : LineEnd) (before after : ℕ) → Counts e before after → Counts end.Io before after
cut_counts end.Interpreting before after h = inl h
cut_counts end.Compiling before after h = inl h
cut_counts end.Quit before after h = inl h
cut_counts (end.Fault found.Device) before after h = inr h
cut_counts (end.Fault _) before after h = inl h
cut_counts end.Io before after h = h

pub fault_counts : (f : Fault) (count : ℕ) → Counts (end.Fault f) count (fault_count f count)
fault_counts found.Device count = refl
fault_counts _ count = refl

pub counts_as : (e : LineEnd) (before between after : ℕ) → after ≡ between → Counts e before between → Counts e before after
counts_as e before between after same h = subst (λ n. Counts e before n) (sym same) h

pub same_count : {D : Type 0} (G : Ghosts D) {b c : Blocks D G} → b ≡ c → G.failures (device_of (store_of b)) ≡ G.failures (device_of (store_of c))
same_count {D} G same = ap (λ (b : Blocks D G). G.failures (device_of (store_of b))) same

-- a part of a line lasts from the device that a system had before its blocks were only handed on, and to one that it has after that
pub lasts_from : {D T : Type 0} (G : Ghosts D) (H : TerminalGhosts T) {result : Result (Unit {0}) Stop} {b c : Blocks D G} {new : D} {t u : T} → c ≡ b
    → Lasts G H result (device_of (store_of c)) new t u → Lasts G H result (device_of (store_of b)) new t u
lasts_from {D} G H {result} {b} {c} {new} {t} {u} same h = subst (λ (b : Blocks D G). Lasts G H result (device_of (store_of b)) new t u) same h

pub lasts_to : {D T : Type 0} (G : Ghosts D) (H : TerminalGhosts T) {result : Result (Unit {0}) Stop} {old : D} {b c : Blocks D G} {t u : T} → c ≡ b
    → Lasts G H result old (device_of (store_of b)) t u → Lasts G H result old (device_of (store_of c)) t u
lasts_to {D} G H {result} {old} {b} {c} {t} {u} same h = subst (λ (b : Blocks D G). Lasts G H result old (device_of (store_of b)) t u) (sym same) h
