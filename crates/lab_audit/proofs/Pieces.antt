-- A line that is written in pieces.
use Rattle.std.proofs.Common.{◌≡◌, List, ◌++◌, append_assoc}

pub five : {X : Type 0} (a b c d e : List X) → a ++ (b ++ (c ++ (d ++ e))) ≡ a ++ b ++ c ++ d ++ e
five a b c d e = simp append_assoc
