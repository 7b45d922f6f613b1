-- Decimals in a text, and what stands behind them.
use Rattle.std.proofs.Common.{◌≡◌, ◌≢◌, ℕ, zero, suc, ◌+◌, ◌%◌, ◌^◌, ◌<◌, ◌≤◌, List, [], ◌∷◌, ◌++◌, length, take, drop}
use Rattle.std.proofs.Common.{get_or, refl, sym, ap, ◌∙◌, subst, length-append, arith}
use Rattle.std.specs.Prelude.{decimal, Result, Ok, Err, Option, Some, None, MatchResult, is_ok, false, IsUtf8}
use Rattle.std.specs.Result.{result_ok}
use Rattle.std.specs.Str.Parse.{AllDigits, digits_value, ParsesUnsigned}
use Rattle.std.proofs.lemmas.Bool.{eqb-true, eq-eqb, false≢true}
use Rattle.std.proofs.lemmas.Str.Parse.{IsNumeralModel, parse_plain, digit_at}
use Rattle.std.proofs.lemmas.Fmt.{decimal_digit, decimal_by_steps, decimal_injective, decimal-digits_value, parse-decimal}
use Rattle.std.proofs.lemmas.Fmt.{first_decimal, decimal_nonempty, digits_decimal, IsAscii-decimal}
use Rattle.std.proofs.lemmas.Str.{IsUtf8-from_ascii}
use Rattle.std.proofs.lemmas.List.{take-append-drop, drop_more}
use Rattle.std.proofs.Math.ListN.{get_or-append}
use Rattle.std.proofs.Math.Seq.{get_or-append_seam}
use Rattle.memchr.specs.Find.{Nowhere, NoneBefore, Passes, is_byte}
use Rattle.journal_form.specs.Numbers.{IsNumber, BeginsWithNumber, BeginsPlainly}
use Rattle.journal_form.proofs.Lines.{Without, Without-append, same_front}

-- no digit is an octet below 48
pub Without-decimal : (s : ℕ) → s < 48 → (n : ℕ) → n < 2 ^ 64 → Without s (decimal n)
Without-decimal s below =
    decimal_by_steps (λ n ds. Without s ds) (λ n ten. (λ e. omega (arith, e, below), tt))
    (λ n ds ten none. Without-append s ds ((48 + n % 10) ∷ []) none (λ e. omega (arith, e, below), tt))

-- a decimal is one number, and one text stands behind it
pub same_number : (s : ℕ) → s < 48 → (n m : ℕ) (us vs : List ℕ) → n < 2 ^ 64 → m < 2 ^ 64 → decimal n ++ s ∷ us ≡ decimal m ++ s ∷ vs
    → (n ≡ m) × (us ≡ vs)
same_number s below n m us vs small small' e =
    let same = same_front s (decimal n) (decimal m) us vs (Without-decimal s below n small) (Without-decimal s below m small') e in
    (decimal_injective n m small small' same.0, same.1)

digits : IsNumeralModel (AllDigits 10) (digits_value 10)
digits = record { to = λ ds h. h; from = λ ds h. h; same = λ ds h. refl }

-- the octets of a number are text
pub IsUtf8-number : (most n : ℕ) (octets : List ℕ) → most < 2 ^ 64 → IsNumber most n octets → IsUtf8 octets
IsUtf8-number most n octets wide is =
    subst IsUtf8 (sym is.1) (IsUtf8-from_ascii (decimal n) (IsAscii-decimal n (omega (arith, is.0, wide))))

-- a result that is known by its option
pub is_value : {A E : Type 0} (P : A → Type 0) (Q : E → Type 0) (r : Result A E) (x : A) → MatchResult r P Q → Some x ≡ result_ok r → P x
is_value {A = A} P Q (Ok y) x cases is =
    let one : Option A = Some x in let both : one ≡ Some y = is in let same : x ≡ y = cc in subst P (sym same) cases
is_value {A = A} P Q (Err e) x cases is = let one : Option A = Some x in let both : one ≡ None = is in absurd cc

pub is_error : {A E R : Type 0} (P : A → Type 0) (Q : E → Type 0) (r : Result A E) → MatchResult r P Q → false ≡ is_ok r
    → ((e : E) → Q e → R) → R
is_error P Q (Ok x) cases is none = absurd (false≢true is)
is_error P Q (Err e) cases is none = none e cases

-- what begins plainly and is read as a number is that number's text
pub IsNumber-read : (E : Type 0) (most n : ℕ) (octets : List ℕ) → n ≤ most → BeginsPlainly octets → ParsesUnsigned {E = E} 64 10 octets (Ok n)
    → IsNumber most n octets
IsNumber-read E most n octets within plain read =
    let unsigned : get_or octets 0 0 ≢ 43 = λ e. omega (arith, plain.digit_from, e) in
    let result : Result ℕ E = Ok n in
    let found = parse_plain digits 64 octets result read unsigned in
    let written : decimal (digits_value 10 octets) ≡ octets = decimal-digits_value digits octets found.0.0 found.0.1 plain.zero_alone found.0.2 in
    (within, sym written ∙ ap decimal (sym found.1))

-- a number's text is read as the number
read-IsNumber : {E : Type 0} (most n : ℕ) (octets : List ℕ) (r : Result ℕ E) → most < 2 ^ 64 → ParsesUnsigned 64 10 octets r → IsNumber most n octets
    → r ≡ Ok n
read-IsNumber most n octets r wide read is =
    parse-decimal 64 n octets r (omega (arith, is.0, wide)) (omega (arith, is.0, wide)) is.1 read

pub one_number : (E : Type 0) (most m n : ℕ) (octets : List ℕ) → most < 2 ^ 64 → ParsesUnsigned {E = E} 64 10 octets (Ok m) → IsNumber most n octets
    → m ≡ n
one_number E most m n octets wide read is =
    let r : Result ℕ E = Ok m in let same : r ≡ Ok n = read-IsNumber most n octets r wide read is in cc

pub number_is_read : (E : Type 0) (e : E) (most n : ℕ) (octets : List ℕ) → most < 2 ^ 64 → ParsesUnsigned {E = E} 64 10 octets (Err e)
    → IsNumber most n octets → ⊥
number_is_read E e most n octets wide read is =
    let r : Result ℕ E = Err e in let same : r ≡ Ok n = read-IsNumber most n octets r wide read is in cc

pub BeginsPlainly-decimal : (n : ℕ) → n < 2 ^ 64 → BeginsPlainly (decimal n)
BeginsPlainly-decimal zero small =
    rw (decimal_digit 0 (omega arith)) (record { some = omega arith; digit_from = omega arith; digit_to = omega arith; zero_alone = λ e. refl })
BeginsPlainly-decimal (suc n) small =
    let first = first_decimal (suc n) (omega arith) small in
    let some = decimal_nonempty (suc n) small in
    let at = digit_at (decimal (suc n)) 0 (digits_decimal digits (suc n) small) some in
    record { some = some; digit_from = at.0; digit_to = at.1; zero_alone = λ e. absurd (omega (arith, first, e)) }

pub digit_first : (n : ℕ) (behind : List ℕ) → n < 2 ^ 64 → 48 ≤ get_or (decimal n ++ behind) 0 0
digit_first n behind small =
    let plain = BeginsPlainly-decimal n small in
    omega (arith, plain.digit_from, get_or-append (decimal n) behind 0 0 plain.some)

-- ---- where a number ends

-- the octets before the first one of a kind
Without-take : (s : ℕ) (octets : List ℕ) (at : ℕ) → ((k : ℕ) → k < at → k < length octets → get_or octets k 0 ≢ s) → Without s (take at octets)
Without-take s octets zero others = tt
Without-take s [] (suc at) others = tt
Without-take s (x ∷ octets) (suc at) others =
    (others 0 (omega arith) (omega arith), Without-take s octets at (λ k before short. others (suc k) (omega (arith, before)) (omega (arith, short))))

pub no_number : (most s : ℕ) (text : List ℕ) → Nowhere (Passes (is_byte s) text) 0 (length text) → ¬ BeginsWithNumber most s text
no_number most s text nowhere = λ begins.
    let ds = decimal begins.number in
    let at : get_or text (length ds) 0 ≡ s =
    ap (λ (xs : List ℕ). get_or xs (length ds) 0) begins.text_is ∙ get_or-append_seam ds s begins.behind 0 in
    let long = ap (λ (xs : List ℕ). length xs) begins.text_is in
    nowhere (length ds) (omega arith) (omega (arith, long, length-append ds (s ∷ begins.behind))) (eq-eqb _ _ at)

-- the text at the first octet of a kind
pub text_at : (s : ℕ) (text : List ℕ) (at : ℕ) → at < length text → Passes (is_byte s) text at → text ≡ take at text ++ s ∷ drop (at + 1) text
text_at s text at short is =
    sym (take-append-drop at text) ∙ ap (λ (xs : List ℕ). take at text ++ xs) (drop_more text at 0 short)
    ∙ ap (λ (x : ℕ). take at text ++ x ∷ drop (at + 1) text) (eqb-true _ _ is)

-- what stands before it is the number, if the text begins with one
pub number_before : (most s : ℕ) (text : List ℕ) (at : ℕ) → most < 2 ^ 64 → s < 48 → NoneBefore (Passes (is_byte s) text) 0 (length text) at
    → Passes (is_byte s) text at → (begins : BeginsWithNumber most s text) → IsNumber most begins.number (take at text)
number_before most s text at wide below first is begins =
    let ds = decimal begins.number in
    let before : Without s (take at text) = Without-take s text at (λ k less short e. first.before k (omega arith) less (eq-eqb _ _ e)) in
    let digits : Without s ds = Without-decimal s below begins.number (omega (arith, begins.within, wide)) in
    let same = same_front s (take at text) ds (drop (at + 1) text) begins.behind before digits (sym (text_at s text at first.high is) ∙ begins.text_is) in
    (begins.within, same.0)
