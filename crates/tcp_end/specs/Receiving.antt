-- What happens to bytes that arrive: they become ready, or stand ahead of a hole.
use Rattle.std.specs.Prelude.{ℕ, ◌≡◌, ◌<◌, ◌+◌, Bool, true, false, List, ◌++◌, length, take, drop, Option, None, IsSome, slice_get}
use Rattle.std.specs.Option.{option_or}
use Rattle.tcp_seq.specs.Numbers.{plus}
use Rattle.tcp_reasm.specs.Reassembly.{Reassembly, byte_ahead, brought}
use Rattle.tcp_end.specs.Filling.{reached, filled}
use Rattle.tcp_end.specs.State.{counted_from}

-- some of the bytes from a sequence number on belong to an offset of the window that has no byte
abbrev pub BringsByte : Reassembly → ℕ → List ℕ → Type 0
BringsByte r seq bytes = (k : ℕ) × (byte_ahead r k ≡ None) × IsSome (brought r.next seq bytes k)

-- the byte at the k-th offset from the one expected next afterwards: the one that was there before, or else the one that is brought
abbrev pub byte_then : Reassembly → ℕ → List ℕ → ℕ → Option ℕ
byte_then r seq bytes k = option_or (byte_ahead r k) (brought r.next seq bytes k)

-- All bytes in order from the offset expected next, up to the first offset without one, become ready. The others stand ahead.
pub record Receives (before after : Reassembly) (ready ready' : List ℕ) (seq : ℕ) (bytes : List ℕ) : Type 0 where
  pub given : List ℕ
  pub appended : ready' ≡ ready ++ given
  pub each : (k : ℕ) → k < length given → byte_then before seq bytes k ≡ slice_get given k
  pub ends : byte_then before seq bytes (length given) ≡ None
  pub next : after.next ≡ plus before.next (length given)
  pub ahead : (k : ℕ) → byte_ahead after k ≡ byte_then before seq bytes (length given + k)

-- whether a byte is new, and what it changes
abbrev pub Received : Bool → Reassembly → Reassembly → List ℕ → List ℕ → ℕ → List ℕ → Type 0
Received true before after ready ready' seq bytes = BringsByte before seq bytes × Receives before after ready ready' seq bytes
Received false before after ready ready' seq bytes = (¬ BringsByte before seq bytes) × (after ≡ before) × (ready' ≡ ready)

-- what becomes ready when bytes stand from the offset expected next on: those bytes, and those of the pieces that they reach
abbrev pub made_ready : Reassembly → List ℕ → List ℕ
made_ready r bytes = filled bytes 0 (take (reached (length bytes) r.pieces) r.pieces)

-- they become ready, and the pieces that they don't reach stand ahead
pub record ReceivesRun (before after : Reassembly) (ready ready' : List ℕ) (bytes : List ℕ) : Type 0 where
  pub appended : ready' ≡ ready ++ made_ready before bytes
  pub next : after.next ≡ plus before.next (length (made_ready before bytes))
  pub pieces : after.pieces ≡ counted_from (length (made_ready before bytes)) (drop (reached (length bytes) before.pieces) before.pieces)
