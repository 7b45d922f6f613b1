-- What is taken in pieces, joined.
use Rattle.std.proofs.Common.{◌≡◌, ℕ, ◌+◌, ◌-◌, ◌<◌, ◌≤◌, List, [], ◌++◌, length, take, drop, refl, sym}
use Rattle.std.proofs.Common.{ap, append_assoc, arith, length-drop, drop_of_length-le}
use Rattle.std.specs.Prelude.{Option, Some, None, min}
use Rattle.std.proofs.lemmas.List.Folds.{drop_split}
use Rattle.std.proofs.Math.Seq.{take-add}
use Rattle.graft_edge.specs.Outside.{Took, Appended}

-- one piece and then another are their bytes joined
pub Took-append : (before between after : Option (List ℕ)) (front back : List ℕ) → Took before between front → Took between after back
    → Took before after (front ++ back)
Took-append before between None front back first second = rw (first, second) refl
Took-append before between (Some rest) front back first second = rw (first, second) (ap Some (sym (append_assoc front back rest)))

-- the front of a buffer that was copied from an offset on, and what stands after it there, are the whole from that offset on
pub front_joined : (n at : ℕ) (bytes buf : List ℕ) → take n buf ≡ take n (drop at bytes) → drop at bytes ≡ take n buf ++ drop (at + n) bytes
front_joined n at bytes buf is =
    let split : drop at bytes ≡ take ((at + n) - at) (drop at bytes) ++ drop (at + n) bytes = drop_split bytes at (at + n) (omega arith) in
    let same : (at + n) - at ≡ n = omega arith in
    rw is (rw same at split)

-- where a read that may take bytes takes none, none are left
pub none_left : (step room at : ℕ) (bytes : List ℕ) → 0 < step → 0 < room → 0 ≡ min step (min room (length (drop at bytes))) → drop (at + 0) bytes ≡ []
none_left step room at bytes steps rooms none =
    let short : length bytes ≤ at + 0 = omega (arith, length-drop at bytes) in
    drop_of_length-le bytes short

pub Appended-append : (before between after : Option (List ℕ)) (front back : List ℕ) → Appended before between front → Appended between after back
    → Appended before after (front ++ back)
Appended-append None between after front back first second = rw (second, first) refl
Appended-append (Some written) between after front back first second = rw (second, first) (ap Some (append_assoc written front back))

-- a further piece of a list that is appended from the front on
pub Appended-take : (before between after : Option (List ℕ)) (bytes : List ℕ) (at n : ℕ) → Appended before between (take at bytes)
    → Appended between after (take n (drop at bytes)) → Appended before after (take (at + n) bytes)
Appended-take before between after bytes at n first second =
    rw (take-add at n bytes) (Appended-append before between after (take at bytes) (take n (drop at bytes)) first second)
