-- Things that stand one after another in bytes. A reader of one thing gives the thing at the front and the bytes after it, or nothing where the front
-- isn't a whole thing.
use Rattle.std.specs.Prelude.{ℕ, zero, suc, List, [], ◌∷◌, length, take, drop, Option, Some, None, nat_lt, if◌then◌else◌}
use Rattle.std.specs.Int.{Width, byte_len, from_be_bytes}

-- one thing, and what comes after it
abbrev pub one_more : {A : Type 0} → Option (A × List ℕ) → List ℕ → (List ℕ → List A × List ℕ) → List A × List ℕ
one_more None bytes after = ([], bytes)
one_more (Some x) bytes after = (x.0 ∷ (after x.1).0, (after x.1).1)

unfoldable pub many_within : {A : Type 0} → (List ℕ → Option (A × List ℕ)) → ℕ → List ℕ → List A × List ℕ
many_within one zero bytes = ([], bytes)
many_within one (suc n) bytes = one_more (one bytes) bytes (many_within one n)

-- the things at the front, as many as there are, and the bytes after them
unfoldable pub many : {A : Type 0} → (List ℕ → Option (A × List ℕ)) → List ℕ → List A × List ℕ
many one bytes = many_within one (length bytes) bytes

-- the things, if they are all of the bytes
abbrev pub if_whole : {A : Type 0} → List A → List ℕ → Option (List A)
if_whole xs [] = Some xs
if_whole xs (b ∷ rest) = None

abbrev pub all_of : {A : Type 0} → (List ℕ → Option (A × List ℕ)) → List ℕ → Option (List A)
all_of one bytes = if_whole (many one bytes).0 (many one bytes).1

-- a number of a width
abbrev pub number_at : Width → List ℕ → Option (ℕ × List ℕ)
number_at w bytes = if nat_lt (length bytes) (byte_len w) then None else Some (from_be_bytes w (take (byte_len w) bytes), drop (byte_len w) bytes)

-- as many octets as the number in front of them gives
abbrev pub told_at : Option (ℕ × List ℕ) → Option (List ℕ × List ℕ)
told_at None = None
told_at (Some n) = if nat_lt (length n.1) n.0 then None else Some (take n.0 n.1, drop n.0 n.1)
