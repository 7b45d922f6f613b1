-- A line that is written in pieces.
use Rattle.std.proofs.Common.{◌≡◌, List, ◌++◌, append_assoc}

-- an end of a connection, b, c and d, and what stands around it
pub around : {X : Type 0} (a b c d e f g h end : List X) → a ++ (b ++ (c ++ (d ++ (e ++ (f ++ (g ++ (h ++ end)))))))
    ≡ a ++ (b ++ c ++ d) ++ e ++ f ++ g ++ h ++ end
around a b c d e f g h end = simp append_assoc
