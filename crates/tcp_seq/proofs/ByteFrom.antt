-- The bytes that stand from an offset on.
use Rattle.std.proofs.Common.{◌≡◌, ℕ, ◌+◌, ◌-◌, ◌<◌, ◌≤◌, List, length, Some, None, ap, ◌∙◌, arith, get_or}
use Rattle.std.specs.Prelude.{if◌then◌else◌}
use Rattle.std.proofs.lemmas.Bool.{lt-ltb, le-ltb}
use Rattle.std.proofs.lemmas.Option.{slice_get_past, slice_get-get_or}
use Rattle.std.specs.List.{slice_get}
use Rattle.tcp_seq.specs.Endpoint.{byte_from}

pub byte_below : (offset : ℕ) (bytes : List ℕ) (k : ℕ) → k < offset → byte_from offset bytes k ≡ None
byte_below offset bytes k below = ap (λ b. if b then None else slice_get bytes (k - offset)) (lt-ltb k offset below)

pub byte_there : (offset : ℕ) (bytes : List ℕ) (k : ℕ) → offset ≤ k → byte_from offset bytes k ≡ slice_get bytes (k - offset)
byte_there offset bytes k from = ap (λ b. if b then None else slice_get bytes (k - offset)) (le-ltb k offset from)

pub byte_past : (offset : ℕ) (bytes : List ℕ) (k : ℕ) → offset + length bytes ≤ k → byte_from offset bytes k ≡ None
byte_past offset bytes k past = byte_there offset bytes k (omega (arith, past)) ∙ slice_get_past bytes (k - offset) (omega (arith, past))

pub byte_within : (offset : ℕ) (bytes : List ℕ) (k : ℕ) → offset ≤ k → k < offset + length bytes → byte_from offset bytes k ≡ Some (get_or bytes (k - offset) 0)
byte_within offset bytes k from below = byte_there offset bytes k from ∙ slice_get-get_or bytes (k - offset) 0 (omega (arith, from, below))
