-- Texts of addresses and prefixes.
use Rattle.std.proofs.Common.{◌≡◌, ◌≢◌, ℕ, ◌+◌, ◌/◌, ◌%◌, ◌^◌, ◌<◌, ◌≤◌, zero, suc, false, eqb, List, [], ◌∷◌, ◌++◌, length, get_or, refl}
use Rattle.std.proofs.Common.{sym, ap, ◌∙◌, subst, Result, Ok, Err, arith, append_assoc, decimal, ◌⊎◌, inl, inr, rules}
use Rattle.std.specs.Prelude.{codes, Option, Some, None, MatchOption, IsSome, IfSome, ◌↔◌}
use Rattle.std.proofs.Math.Dec.{lit<}
use Rattle.std.specs.List.{AllByRecursion}
use Rattle.std.specs.Borrow.{Bor}
use Rattle.std.proofs.lemmas.Str.Pattern.{IsSplitOnceResult, split_after, split_parts}
use Rattle.bgp_types.specs.Finds.{Finds}
use Rattle.bgp_types.specs.Prefixes.{PrefixValue, prefix_of}
use Rattle.std.specs.Int.{w32, to_be_bytes, from_be_bytes}
use Rattle.std.specs.Str.Parse.{AllDigits, digits_value, ParsesUnsigned}
use Rattle.std.specs.Net.Text.{dotted_text, ipv4_text}
use Rattle.std.specs.Net.Grammar.{IsDotted}
use Rattle.std.proofs.lemmas.Str.Parse.{IsNumeralModel, parse_plain}
use Rattle.std.proofs.lemmas.Fmt.{decimal_digit, decimal_step, decimal_by_steps, decimal-digits_value, parse-decimal}
use Rattle.std.proofs.lemmas.Nat.{be_bytes_4, from_be_bytes-to_be_bytes_4}
use Rattle.std.specs.Net.Addr.{ipv4_octets}
use Rattle.std.proofs.NetLemmas.Theorems.{IsIpv4Text_unique}
use Rattle.std.proofs.lemmas.Bool.{false≢true}
use Rattle.std.proofs.lemmas.Bool.Decides.{nat_tests}
use Rattle.std.proofs.NetLemmas.Texts.{IsDotted-ipv4_text}
use Rattle.bgp_types.specs.Texts.{address_text, IsAddressText, IsPrefixText, IsLengthText, BeginsPlainly}

-- ---- the length

digits : IsNumeralModel (AllDigits 10) (digits_value 10)
digits = record { to = λ ds h. h; from = λ ds h. h; same = λ ds h. refl }

-- what begins plainly and is read as a number of at most 32 is that number's text
pub IsLengthText-read : (E : Type 0) (text : List ℕ) (len : ℕ) → BeginsPlainly text → len ≤ 32 → ParsesUnsigned {E = E} 8 10 text (Ok len)
    → IsLengthText text len
IsLengthText-read E text len plain small read =
    let unsigned : get_or text 0 0 ≢ 43 = λ e. omega (arith, plain.digit_from, e) in
    let result : Result ℕ E = Ok len in
    let found = parse_plain digits 8 text result read unsigned in
    let few : digits_value 10 text < 2 ^ 64 = omega (arith, found.0.2) in
    let written : decimal (digits_value 10 text) ≡ text = decimal-digits_value digits text found.0.0 found.0.1 plain.zero_alone few in
    (small, sym written ∙ ap decimal (sym found.1))

-- a length's text is read as the length
pub read-IsLengthText : {E : Type 0} (text : List ℕ) (r : Result ℕ E) (len : ℕ) → ParsesUnsigned 8 10 text r → IsLengthText text len → r ≡ Ok len
read-IsLengthText text r len read is = parse-decimal 8 len text r (omega (arith, is.0)) (omega (arith, is.0)) is.1 read

-- where a length's text is read as a number, that is the length, and it is always read as one
pub same_length : (E : Type 0) (text : List ℕ) (n len : ℕ) → ParsesUnsigned {E = E} 8 10 text (Ok n) → IsLengthText text len → n ≡ len
same_length E text n len read is = let r : Result ℕ E = Ok n in let same : r ≡ Ok len = read-IsLengthText text r len read is in cc

pub no_length : (E : Type 0) (e : E) (text : List ℕ) (len : ℕ) → ParsesUnsigned {E = E} 8 10 text (Err e) → IsLengthText text len → ⊥
no_length E e text len read is = let r : Result ℕ E = Err e in let same : r ≡ Ok len = read-IsLengthText text r len read is in cc

BeginsPlainly-decimal : (len : ℕ) → len ≤ 32 → (len < 10) ⊎ (10 ≤ len) → BeginsPlainly (decimal len)
BeginsPlainly-decimal len small (inl one) =
    rw (decimal_digit len one) (record { some = omega arith; digit_from = omega arith; digit_to = omega arith; zero_alone = λ _. refl })
BeginsPlainly-decimal len small (inr two) =
    let tens : len / 10 < 10 = omega arith in
    rw (decimal_step len two (omega arith), decimal_digit (len / 10) tens)
    (record { some = omega arith; digit_from = omega arith; digit_to = omega arith; zero_alone = λ e. absurd (omega arith) })

pub BeginsPlainly-length : (text : List ℕ) (len : ℕ) → IsLengthText text len → BeginsPlainly text
BeginsPlainly-length text len is = subst BeginsPlainly (sym is.1) (BeginsPlainly-decimal len is.0 (by_ten len))
  where
    by_ten : (n : ℕ) → (n < 10) ⊎ (10 ≤ n)
    by_ten n = search rules

-- ---- the address

-- four bytes are bytes
bytes_4 : (a b c d : ℕ) → a < 256 → b < 256 → c < 256 → d < 256 → (i : ℕ) → get_or (a ∷ b ∷ c ∷ d ∷ []) i 0 < 256
bytes_4 a b c d fa fb fc fd zero = fa
bytes_4 a b c d fa fb fc fd (suc zero) = fb
bytes_4 a b c d fa fb fc fd (suc (suc zero)) = fc
bytes_4 a b c d fa fb fc fd (suc (suc (suc zero))) = fd
bytes_4 a b c d fa fb fc fd (suc (suc (suc (suc i)))) = omega arith

pub IsAddressText-dotted : (text octets : List ℕ) (address : ℕ) → address < 2 ^ 32 → address ≡ from_be_bytes w32 octets → IsDotted text octets
    → IsAddressText text address
IsAddressText-dotted text octets address fits is dotted =
    let all = bytes_4 dotted.a dotted.b dotted.c dotted.d dotted.fit.0 dotted.fit.1 dotted.fit.2 dotted.fit.3 in
    let bytes : (i : ℕ) → get_or octets i 0 < 256 = λ i. rw dotted.value (all i) in
    let four : length octets ≡ 4 = rw dotted.value refl in
    let back : to_be_bytes w32 address ≡ octets = be_bytes_4 octets address four bytes is in
    record { fits = fits; text = dotted.spelled ∙ sym (ap ipv4_text (back ∙ dotted.value)) }

pub IsDotted-address : (text : List ℕ) (address : ℕ) → IsAddressText text address → IsDotted text (to_be_bytes w32 address)
IsDotted-address text address is =
    let octets = to_be_bytes w32 address in
    let bytes = bytes_4 (address / 16777216 % 256) (address / 65536 % 256) (address / 256 % 256)
    (address % 256) (omega arith) (omega arith) (omega arith) (omega arith) in
    subst (λ t. IsDotted t octets) (sym is.text) (IsDotted-ipv4_text octets refl bytes)

-- a text writes one address at most
pub IsAddressText_unique : (text : List ℕ) (a b : ℕ) → IsAddressText text a → IsAddressText text b → a ≡ b
IsAddressText_unique text a b first second =
    let same = IsIpv4Text_unique text (record { octets = to_be_bytes w32 a })
    (record { octets = to_be_bytes w32 b }) (IsDotted-address text a first) (IsDotted-address text b second) in
    sym (from_be_bytes-to_be_bytes_4 a first.fits) ∙ ap (λ x. from_be_bytes w32 (ipv4_octets x)) same ∙ from_be_bytes-to_be_bytes_4 b second.fits

-- ---- the slash

-- no byte of the text is a slash
abbrev pub NoSlash : List ℕ → Type 0
NoSlash = AllByRecursion (λ c. eqb c 47 ≡ false)

NoSlash-append : (xs ys : List ℕ) → NoSlash xs → NoSlash ys → NoSlash (xs ++ ys)
NoSlash-append [] ys a b = b
NoSlash-append (x ∷ xs) ys a b = (a.0, NoSlash-append xs ys a.1 b)

is_digit : (n : ℕ) → n < 10 → eqb (48 + n) 47 ≡ false
is_digit n h = grind (arith, nat_tests)

NoSlash-decimal : (n : ℕ) → n < 2 ^ 64 → NoSlash (decimal n)
NoSlash-decimal = decimal_by_steps (λ n ds. NoSlash ds) (λ n h. (is_digit n h, tt))
    (λ n ds h rest. NoSlash-append ds ((48 + n % 10) ∷ []) rest (is_digit (n % 10) (omega arith), tt))

NoSlash-dotted : (a b c d : ℕ) → a < 256 → b < 256 → c < 256 → d < 256 → NoSlash (dotted_text a b c d)
NoSlash-dotted a b c d fa fb fc fd =
    let dot : NoSlash (codes ".") = (refl, tt) in
    let da = NoSlash-decimal a (omega arith) in
    let db = NoSlash-decimal b (omega arith) in
    let dc = NoSlash-decimal c (omega arith) in
    let dd = NoSlash-decimal d (omega arith) in
    NoSlash-append _ _ (NoSlash-append _ _ (NoSlash-append _ _ (NoSlash-append _ _ (NoSlash-append _ _ (NoSlash-append _ _ da dot) db) dot) dc) dot) dd

pub NoSlash-address : (address : ℕ) → NoSlash (address_text address)
NoSlash-address address = NoSlash-dotted (address / 16777216 % 256) (address / 65536 % 256)
    (address / 256 % 256) (address % 256) (omega arith) (omega arith) (omega arith) (omega arith)

no_slash_at : (xs : List ℕ) → NoSlash xs → (i : ℕ) → i < length xs → get_or xs i 0 ≢ 47
no_slash_at [] free i h = absurd (omega arith)
no_slash_at (x ∷ xs) free zero h = λ e. cc
no_slash_at (x ∷ xs) free (suc i) h = no_slash_at xs free.1 i (omega arith)

-- ---- the prefix

-- the parts round the first slash of a prefix's text
pub prefix_parts : (text : List ℕ) (r : Option (Bor (List ℕ) × Bor (List ℕ))) → IsSplitOnceResult 47 text r → (p : PrefixValue) (is : IsPrefixText text p)
    → MatchOption r ⊥ (λ parts. (parts.0.now ≡ address_text is.address) × (parts.1.now ≡ decimal p.len))
prefix_parts text r split p is =
    split_after 47 text (address_text is.address) (decimal p.len) r split (lit< tt)
    (is.text ∙ append_assoc (address_text is.address) (47 ∷ []) (decimal p.len))
    (no_slash_at (address_text is.address) (NoSlash-address is.address))

-- both parts read, the text is read
pub IsPrefixText-parts : (text : List ℕ) (parts : Bor (List ℕ) × Bor (List ℕ)) → IsSplitOnceResult 47 text (Some parts) → (address len : ℕ)
    → IsAddressText parts.0.now address → IsLengthText parts.1.now len
    → (o : Option PrefixValue) → IsSome o ↔ (len ≤ 32) → IfSome o (λ p. p ≡ prefix_of len address) → Finds (IsPrefixText text) o
IsPrefixText-parts text parts split address len front back None some value = λ p is. absurd (false≢true (some.1 back.0))
IsPrefixText-parts text parts split address len front back (Some p) some value =
    let whole : text ≡ parts.0.now ++ 47 ∷ parts.1.now = (split_parts 47 text (Some parts) split (lit< tt)).0 in
    let same : p.len ≡ len = ap (λ q. q.len) value in
    let joined : text ≡ address_text address ++ codes "/" ++ decimal len =
    whole ∙ ap (λ t. t ++ 47 ∷ parts.1.now) front.text ∙ ap (λ t. address_text address ++ 47 ∷ t) back.1
    ∙ sym (append_assoc (address_text address) (47 ∷ []) (decimal len)) in
    record {
      address = address;
      fits = front.fits;
      short = rw same back.0;
      text = rw same joined;
      prefix = value ∙ ap (λ l. prefix_of l address) (sym same);
    }
