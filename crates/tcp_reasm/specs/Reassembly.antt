-- What a reassembly holds, and what its calls do.
use Rattle.std.specs.Prelude.{ℕ, ◌≡◌, ◌<◌, ◌+◌, nat_lt, if◌then◌else◌, List, [], ◌∷◌, ◌++◌, length, Bool, false, ◌||◌, Option, Some, None, is_some, slice_get}
use Rattle.std.specs.Option.{option_or}
use Rattle.tcp_seq.specs.Numbers.{plus, offset_from}
use Rattle.tcp_seq.specs.declared.state.Piece.{Piece}
use Rattle.tcp_reasm.specs.Runs.{held}

-- the number expected next, and the pieces ahead of it
pub record Reassembly : Type 0 where
  pub next : ℕ
  pub pieces : List Piece

-- the byte that stands at the k-th offset from the one expected next, if there is one
abbrev pub byte_ahead : Reassembly → ℕ → Option ℕ
byte_ahead r k = held r.pieces k

-- the byte that bytes from a sequence number on bring to the k-th offset from the number expected next, if it is in the window
abbrev pub brought : ℕ → ℕ → List ℕ → ℕ → Option ℕ
brought next seq bytes k = if nat_lt k 16384 then slice_get bytes (offset_from (plus next k) seq) else None

-- each offset has the byte that it had, or else the one that is brought
pub record Puts (before after : Reassembly) (seq : ℕ) (bytes : List ℕ) : Type 0 where
  pub next : after.next ≡ before.next
  pub ahead : (k : ℕ) → byte_ahead after k ≡ option_or (byte_ahead before k) (brought before.next seq bytes k)

-- All bytes in order from the number expected next, up to the first offset without one, are given out, and the number after them
-- is expected.
pub record TakesReady (before after : Reassembly) (out out' : List ℕ) (count : ℕ) : Type 0 where
  pub given : List ℕ
  pub counted : length given ≡ count
  pub appended : out' ≡ out ++ given
  pub each : (k : ℕ) → k < count → byte_ahead before k ≡ slice_get given k
  pub ends : byte_ahead before count ≡ None
  pub next : after.next ≡ plus before.next count
  pub ahead : (k : ℕ) → byte_ahead after k ≡ byte_ahead before (count + k)

-- bytes that are put from a sequence number on
pub record Put : Type 0 where
  pub seq : ℕ
  pub bytes : List ℕ

-- one reassembly becomes another by these puts, in order
abbrev pub PutsInOrder : Reassembly → List Put → Reassembly → Type 0
PutsInOrder before [] after = after ≡ before
PutsInOrder before (p ∷ ps) after = (between : Reassembly) × Puts before between p.seq p.bytes × PutsInOrder between ps after

-- each byte that the puts bring to an offset from `next` on is the one of this stream
abbrev pub AreOfStream : (ℕ → ℕ) → ℕ → List Put → Type 0
AreOfStream stream next [] = Unit {0}
AreOfStream stream next (p ∷ ps) = ((k byte : ℕ) → brought next p.seq p.bytes k ≡ Some byte → byte ≡ stream k) × AreOfStream stream next ps

-- whether one of the puts brings a byte to an offset
abbrev pub is_brought : ℕ → List Put → ℕ → Bool
is_brought next [] k = false
is_brought next (p ∷ ps) k = is_some (brought next p.seq p.bytes k) || is_brought next ps k

-- an empty reassembly that expects this number first
abbrev pub nothing_from : ℕ → Reassembly
nothing_from next = record { next = next; pieces = [] }
