-- The numbers of routers and peerings that a name leads to are small.
use Rattle.std.proofs.Common.{◌≡◌, ℕ, ◌<◌, ◌≤◌, Bool, true, false, List, length, ap, refl, arith}
use Rattle.std.specs.Prelude.{nat_lt, cond, Some, None}
use Rattle.std.specs.Bool.{Decides}
use Rattle.std.specs.List.{position, position_or_len}
use Rattle.std.proofs.lemmas.Bool.Decides.{nat_tests}

below_by : (b : Bool) (at count n : ℕ) → Decides b (at < count) → Some n ≡ cond b (Some at) None → n < count
below_by true at count n is same = let e : n ≡ at = cc in let below = is.0 refl in omega (arith, below)
below_by false at count n is same = let f : ⊥ = cc in absurd f

Decides-lt : (a b : ℕ) → Decides (nat_lt a b) (a < b)
Decides-lt a b = (λ e. grind (arith, nat_tests), λ h. grind (arith, nat_tests))

-- the position of an item is below the number of items
position_below : {A : Type 0} (p : A → Bool) (items : List A) (n : ℕ) → Some n ≡ position p items → n < length items
position_below p items n found =
    below_by (nat_lt (position_or_len p items) (length items)) (position_or_len p items) (length items) n
    (Decides-lt (position_or_len p items) (length items)) found

pub number_is_small : {A : Type 0} (p : A → Bool) (items all : List A) (n : ℕ) → items ≡ all → length all ≤ 32 → Some n ≡ position p items → n < 256
number_is_small p items all n same few found =
    let below = position_below p items n found in
    let count = ap length same in
    omega (arith, below, count)
