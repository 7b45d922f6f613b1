-- Prefixes as runs of addresses: two of them are apart, or one lies within a half of the other.
use Rattle.std.proofs.Common.{◌≡◌, ℕ, suc, ◌+◌, ◌-◌, ◌*◌, ◌/◌, ◌%◌, ◌^◌, ◌<◌, ◌≤◌, ◌≢◌, sym, ap, ◌∙◌, subst, arith, inl, inr, add-one}
use Rattle.std.proofs.Math.Nat.{mul_assoc, mul-le-mul_right, lt_of_mul-lt-mul_right, mul_comm, suc-mul, add-mul}
use Rattle.std.proofs.Math.Nat.{one-mul, ne_of_lt, pos_of_ne-zero, div-eq_of_lt, pow-suc, pow-le-pow_right}
use Rattle.std.specs.Int.Bits.{bit_xor, xor_self, xor_assoc, xor_zero_l, xor_zero_r}
use Rattle.std.specs.Int.Count.{count_leading_zeros}
use Rattle.std.proofs.lemmas.Bool.{cases_lt}
use Rattle.std.proofs.lemmas.Nat.{pow-add, shl-shr, shr-shr, shr_split, mod_below, pow_pos, div-mul-add, xor_shr, xor_lt, leading_top, le-div}
use Rattle.std.specs.Prelude.{◌↔◌}
use Rattle.bgp_types.specs.Prefixes.{PrefixValue, IsPrefix, Covers, cleared, prefix_of}
use Rattle.prefix_trie.specs.Halves.{size, middle, past, Within, IsFork}

-- multiples of m that differ are m apart
step : (x y m : ℕ) → x * m < y * m → x * m + m ≤ y * m
step x y m h =
    let less = lt_of_mul-lt-mul_right m h in
    let le : suc x * m ≤ y * m = mul-le-mul_right m less in
    omega (arith, suc-mul x m)

step_at : (a b x y m : ℕ) → a ≡ x * m → b ≡ y * m → a < b → a + m ≤ b
step_at a b x y m e f h = rw (e, f) (step x y m (rw (← e, ← f) h))

pub positive : (p : PrefixValue) → 0 < size p
positive p = pow_pos (32 - p.len)

-- a prefix begins at a multiple of its size
begins : (p : PrefixValue) → IsPrefix p → p.address ≡ (p.address / size p) * size p
begins p is = sym is.clear

-- the size of a shorter one is a multiple of that of a longer one, and so is its half
finer : (p q : PrefixValue) → p.len ≤ q.len → q.len ≤ 32 → size p ≡ 2 ^ (q.len - p.len) * size q
finer p q h k =
    let e : 32 - p.len ≡ (q.len - p.len) + (32 - q.len) = omega arith in
    ap (λ (n : ℕ). 2 ^ n) e ∙ pow-add 2 (q.len - p.len) (32 - q.len)

pub half : (n : ℕ) → n < 32 → 2 ^ 31 / 2 ^ n ≡ 2 ^ (31 - n)
half n h =
    let e : 31 ≡ (31 - n) + n = omega arith in
    ap (λ (k : ℕ). 2 ^ k / 2 ^ n) e ∙ (ap (λ (x : ℕ). x / 2 ^ n) (pow-add 2 (31 - n) n) ∙ shl-shr (2 ^ (31 - n)) n)

half_finer : (p q : PrefixValue) → p.len < q.len → q.len ≤ 32 → 2 ^ 31 / 2 ^ p.len ≡ 2 ^ (q.len - suc p.len) * size q
half_finer p q h k =
    let e : 31 - p.len ≡ (q.len - suc p.len) + (32 - q.len) = omega arith in
    half p.len (omega arith) ∙ (ap (λ (n : ℕ). 2 ^ n) e ∙ pow-add 2 (q.len - suc p.len) (32 - q.len))

-- a multiple of the size of a shorter one is one of that of a longer one
begins_finer : (p q : PrefixValue) → IsPrefix p → p.len ≤ q.len → q.len ≤ 32 → p.address ≡ (p.address / size p * 2 ^ (q.len - p.len)) * size q
begins_finer p q is h k = begins p is
    ∙ (ap (λ (n : ℕ). p.address / size p * n) (finer p q h k) ∙ sym (mul_assoc (p.address / size p) (2 ^ (q.len - p.len)) (size q)))

added : (a b c d m : ℕ) → a ≡ c * m → b ≡ d * m → a + b ≡ (c + d) * m
added a b c d m e f = rw (e, f) (sym (add-mul c d m))

-- what begins in the first half of a shorter prefix ends there
pub early_within : (p q : PrefixValue) → IsPrefix p → IsPrefix q → p.len < q.len → q.address < middle p → past q ≤ middle p
early_within p q is isq h lt =
    step_at q.address (middle p) (q.address / size q) (p.address / size p * 2 ^ (q.len - p.len) + 2 ^ (q.len - suc p.len)) (size q) (begins q isq)
    (added p.address (2 ^ 31 / 2 ^ p.len) (p.address / size p * 2 ^ (q.len - p.len)) (2 ^ (q.len - suc p.len))
    (size q) (begins_finer p q is (omega arith) isq.len) (half_finer p q h isq.len))
    lt

-- what begins in a prefix that isn't longer ends there
pub ends_within : (p q : PrefixValue) → IsPrefix p → IsPrefix q → p.len ≤ q.len → q.address < past p → past q ≤ past p
ends_within p q is isq h lt =
    step_at q.address (past p) (q.address / size q) (p.address / size p * 2 ^ (q.len - p.len) + 2 ^ (q.len - p.len)) (size q) (begins q isq)
    (added p.address (size p) (p.address / size p * 2 ^ (q.len - p.len)) (2 ^ (q.len - p.len)) (size q) (begins_finer p q is h isq.len) (finer p q h isq.len))
    lt

-- what begins before a prefix that isn't longer ends before it
pub ends_before : (p q : PrefixValue) → IsPrefix p → IsPrefix q → p.len ≤ q.len → q.address < p.address → past q ≤ p.address
ends_before p q is isq h lt = step_at q.address p.address (q.address / size q)
    (p.address / size p * 2 ^ (q.len - p.len)) (size q) (begins q isq) (begins_finer p q is h isq.len) lt

-- ---- covering

pub covered_from : (p q : PrefixValue) → Covers p q → p.address ≤ q.address
covered_from p q c = let e = shr_split q.address (32 - p.len) in omega (arith, c.front)

pub covered_to : (p q : PrefixValue) → Covers p q → q.address < past p
covered_to p q c =
    let e = shr_split q.address (32 - p.len) in
    let lt = mod_below q.address (size p) (positive p) in
    omega (arith, c.front)

-- a prefix covers each longer one that begins in it
pub covers_in : (p q : PrefixValue) → IsPrefix p → p.len ≤ q.len → p.address ≤ q.address → q.address < past p → Covers p q
covers_in p q is h from to =
    let k : ℕ = p.address / size p in
    let start = begins p is in
    let at : q.address ≡ k * size p + (q.address - p.address) = omega arith in
    let quotient : q.address / size p ≡ k = ap (λ (n : ℕ). n / size p) at ∙ div-mul-add k (size p) (q.address - p.address) (omega arith) in
    record { shorter = h; front = ap (λ (n : ℕ). n * size p) quotient ∙ sym start }

pub middle_le_past : (p : PrefixValue) → p.len ≤ 32 → middle p ≤ past p
middle_le_past p h = elim (cases_lt p.len 32) [
  | inl lt ↦
      let e = half p.len lt in
      let le : 2 ^ (31 - p.len) ≤ 2 ^ (32 - p.len) = pow-le-pow_right (omega arith) (omega arith) in
      omega arith
  | inr ge ↦
      let e : p.len ≡ 32 = omega arith in
      rw e (omega arith)
]

-- Half of how far into a prefix an address lies is less than its half.
pub covers_by_half : (p q : PrefixValue) → IsPrefix p → p.len < q.len → q.len ≤ 32 → p.address ≤ q.address
    → (q.address - p.address) / 2 < 2 ^ 31 / 2 ^ p.len ↔ Covers p q
covers_by_half p q is longer fits from =
    let e = half p.len (omega arith) in
    let n : 32 - p.len ≡ suc (31 - p.len) = omega arith in
    let whole : size p ≡ 2 ^ (31 - p.len) * 2 = ap (λ (k : ℕ). 2 ^ k) n ∙ pow-suc 2 (31 - p.len) in (
      (λ h. covers_in p q is (omega arith) from (omega arith)),
      (λ covers. let to = covered_to p q covers in omega arith),
    )

-- ---- the fork of two addresses

xor_zero_same : (a b : ℕ) → bit_xor a b ≡ 0 → a ≡ b
xor_zero_same a b e =
    sym (xor_zero_r a) ∙ (ap (bit_xor a) (sym (xor_self b)) ∙ (sym (xor_assoc a b b) ∙ (ap (λ (n : ℕ). bit_xor n b) e ∙ xor_zero_l b)))

-- low and high begin with the same bits, down to one that is 0 in low and 1 in high, of value 2 ^ j
pub record Parts (low high j : ℕ) : Type 0 where
  pub front : low / 2 ^ suc j ≡ high / 2 ^ suc j
  pub zero_next : low / 2 ^ j ≡ 2 * (low / 2 ^ suc j)
  pub one_next : high / 2 ^ j ≡ 2 * (low / 2 ^ suc j) + 1

parts_of : (low high j : ℕ) → low < high → low / 2 ^ suc j ≡ high / 2 ^ suc j → low / 2 ^ j ≢ high / 2 ^ j → Parts low high j
parts_of low high j lt same differ =
    let a : low / 2 ^ j / 2 ≡ low / 2 ^ suc j = shr-shr low j 1 ∙ ap (λ (n : ℕ). low / 2 ^ n) (add-one j) in
    let b : high / 2 ^ j / 2 ≡ high / 2 ^ suc j = shr-shr high j 1 ∙ ap (λ (n : ℕ). high / 2 ^ n) (add-one j) in
    let le : low / 2 ^ j ≤ high / 2 ^ j = let split = shr_split low j in le-div (low / 2 ^ j) high (2 ^ j) (pow_pos j) (omega arith) in
    record { front = same; zero_next = omega arith; one_next = omega arith }

-- where the two part
pub forks : (low high : ℕ) → low < high → high < 2 ^ 32 → (j : ℕ) × (count_leading_zeros 32 (bit_xor low high) + suc j ≡ 32) × Parts low high j
forks low high lt h =
    let x : ℕ = bit_xor low high in
    let pos : 0 < x = pos_of_ne-zero (λ (e : x ≡ 0). ne_of_lt lt (xor_zero_same low high e)) in
    let top = leading_top 32 x pos (xor_lt 32 low high (omega arith) h) in
    let j : ℕ = top.0 in
    let none : bit_xor (low / 2 ^ suc j) (high / 2 ^ suc j) ≡ 0 = sym (xor_shr low high (suc j)) ∙ div-eq_of_lt top.3 in
    let same : low / 2 ^ suc j ≡ high / 2 ^ suc j = xor_zero_same _ _ none in
    let differ : low / 2 ^ j ≢ high / 2 ^ j = λ (e : low / 2 ^ j ≡ high / 2 ^ j).
    let zero_at : x / 2 ^ j ≡ 0 = xor_shr low high j ∙ (ap (λ (n : ℕ). bit_xor n (high / 2 ^ j)) e ∙ xor_self (high / 2 ^ j)) in
    let one_at : 1 ≤ x / 2 ^ j = le-div 1 x (2 ^ j) (pow_pos j) (rw (one-mul (2 ^ j)) top.2) in
    omega arith in
    (j, top.1, parts_of low high j lt same differ)

-- P is 2 ^ j
record Bounds (low high begin P : ℕ) : Type 0 where
  pub from : begin ≤ low
  pub early : low < begin + P
  pub late : begin + P ≤ high
  pub to : high < begin + 2 * P

bounds : (low high k P r s : ℕ) → low ≡ 2 * k * P + r → high ≡ (2 * k + 1) * P + s → r < P → s < P → Bounds low high (2 * k * P) P
bounds low high k P r s e f g h =
    let more : (2 * k + 1) * P ≡ 2 * k * P + P = add-mul (2 * k) 1 P ∙ ap (λ (n : ℕ). 2 * k * P + n) (one-mul P) in
    record { from = omega arith; early = omega arith; late = omega arith; to = omega arith }

parted : (low high j : ℕ) → Parts low high j → Bounds low high (low / 2 ^ suc j * 2 ^ suc j) (2 ^ j)
parted low high j parts =
    let k : ℕ = low / 2 ^ suc j in
    let begin : k * 2 ^ suc j ≡ 2 * k * 2 ^ j =
    ap (λ (n : ℕ). k * n) (pow-suc 2 j) ∙ (mul_comm k (2 ^ j * 2) ∙ (mul_assoc (2 ^ j) 2 k ∙ mul_comm (2 ^ j) (2 * k))) in
    subst (λ (b : ℕ). Bounds low high b (2 ^ j)) (sym begin)
    (bounds low high k (2 ^ j) (low % 2 ^ j) (high % 2 ^ j)
    (sym (shr_split low j) ∙ ap (λ (n : ℕ). n * 2 ^ j + low % 2 ^ j) parts.zero_next)
    (sym (shr_split high j) ∙ ap (λ (n : ℕ). n * 2 ^ j + high % 2 ^ j) parts.one_next)
    (mod_below low (2 ^ j) (pow_pos j)) (mod_below high (2 ^ j) (pow_pos j)))

pub fork_at : (low high j len : ℕ) → low < 2 ^ 32 → len + suc j ≡ 32 → Parts low high j → IsFork low high (prefix_of len low)
fork_at low high j len h e parts =
    let b = parted low high j parts in
    let width : 32 - len ≡ suc j = omega arith in
    let next : 31 - len ≡ j = omega arith in
    let begin : cleared len low ≡ low / 2 ^ suc j * 2 ^ suc j = ap (λ (n : ℕ). low / 2 ^ n * 2 ^ n) width in
    let halved : 2 ^ 31 / 2 ^ len ≡ 2 ^ j = half len (omega arith) ∙ ap (λ (n : ℕ). 2 ^ n) next in
    let whole : 2 ^ (32 - len) ≡ 2 * 2 ^ j = ap (λ (n : ℕ). 2 ^ n) width ∙ (pow-suc 2 j ∙ mul_comm (2 ^ j) 2) in
    let from = b.from in
    let early = b.early in
    let late = b.late in
    let to = b.to in
    record {
      is = record { len = omega arith; address = omega arith; clear = ap (λ (n : ℕ). n * 2 ^ (32 - len)) (shl-shr (low / 2 ^ (32 - len)) (32 - len)) };
      short = omega arith;
      from = omega arith;
      early = omega arith;
      late = omega arith;
      to = omega arith;
    }

-- a prefix that ends before the second address is below the first half
pub fork_low : (p f : PrefixValue) (high : ℕ) → IsPrefix p → IsFork p.address high f → past p ≤ high → Within f.address (middle f) f.len p
fork_low p f high is fork before =
    let from = fork.from in
    let to = fork.to in
    let longer : f.len < p.len = elim (cases_lt f.len p.len) [
      | inl lt ↦ lt
      | inr ge ↦ let pos = positive p in let all = ends_within p f is fork.is ge (omega arith) in absurd (omega arith)
    ] in
    record { is = is; longer = longer; from = fork.from; to = early_within f p fork.is is longer fork.early }

-- and one that begins at the second address is in the second half
pub fork_high : (p f : PrefixValue) (low : ℕ) → IsPrefix p → IsFork low p.address f → low < p.address → Within (middle f) (past f) f.len p
fork_high p f low is fork lt =
    let from = fork.from in
    let to = fork.to in
    let longer : f.len < p.len = elim (cases_lt f.len p.len) [
      | inl less ↦ less
      | inr ge ↦ let all = ends_before p f is fork.is ge (omega arith) in absurd (omega arith)
    ] in
    record { is = is; longer = longer; from = fork.late; to = ends_within f p fork.is is (omega arith) fork.to }
