-- Seeds and numbers of workers as texts.
use Rattle.std.proofs.Common.{◌≡◌, ℕ, ◌+◌, ◌-◌, ◌^◌, ◌<◌, ◌≤◌, List, [], ◌∷◌, length, drop, slice_index, ap, sym, refl, arith, subst}
use Rattle.std.specs.Prelude.{Bool, true, false, cond, ◌&&◌, ◌==◌, nat_le, if◌then◌else◌, Option, Some, None, Err}
use Rattle.std.specs.Bool.{Decides}
use Rattle.std.specs.Str.Parse.{AllDigits, IsNumeral, digits_value, without_leading_plus, ParsesUnsigned}
use Rattle.std.proofs.lemmas.Bool.{false≢true}
use Rattle.std.proofs.lemmas.Bool.Decides.{nat_tests, Decides-and, Decides-eqb}
use Rattle.clap.specs.Words.{Text}
use Rattle.bgp_types.specs.Finds.{Finds}
use Rattle.lab_words.specs.Asked.{IsSeedText, IsWorkersText, IsReadAs, IsSmall}
use Rattle.lab_words.specs.Reading.{workers_of}

-- ---- what is given

-- a text that writes no value isn't read as anything
pub unread : {A : Type 0} (Is : Text → A → Type 0) (text : Text) → ((value : A) → ¬ (Is text value)) → (o : Option A) → ¬ (IsReadAs Is (Some text) o)
unread Is text none None is = is
unread Is text none (Some value) is = none value is

-- ---- seeds

four_digits : (text : Text) → AllDigits 10 text → length text ≤ 4 → digits_value 10 text ≤ 9999
four_digits [] digits short = omega arith
four_digits (a ∷ []) digits short = omega arith
four_digits (a ∷ b ∷ []) digits short = omega arith
four_digits (a ∷ b ∷ c ∷ []) digits short = omega arith
four_digits (a ∷ b ∷ c ∷ d ∷ []) digits short = omega arith
four_digits (a ∷ b ∷ c ∷ d ∷ e ∷ more) digits short = absurd (omega arith)

pub seed_is_small : (text : Text) (seed : ℕ) → IsSeedText text seed → IsSmall seed
seed_is_small text seed is =
    let above = is.above in
    let value = is.value in
    (omega arith, omega (arith, four_digits text is.digits.1 is.short))

-- without a plus sign in front the whole text is read
kept_by : (b : Bool) (text : Text) → (b ≡ true → ⊥) → drop (cond b 1 0) text ≡ text
kept_by true text never = absurd (never refl)
kept_by false text never = refl

kept : (text : Text) → (slice_index text 0 ≡ 43 → ⊥) → without_leading_plus text ≡ text
kept text never = kept_by (slice_index text 0 == 43) text (λ e. never ((Decides-eqb (slice_index text 0) 43).0 e))

-- a text that isn't read as a number is none of a seed
pub seed_unread : (E : Type 0) (e : E) (text : Text) (seed : ℕ) → (slice_index text 0 ≡ 43 → ⊥) → ParsesUnsigned {E = E} 32 10 text (Err e)
    → IsSeedText text seed → ⊥
seed_unread E e text seed never read is =
    let same = sym (kept text never) in
    let small : digits_value 10 text < 2 ^ 32 = omega (arith, four_digits text is.digits.1 is.short) in
    read (subst (IsNumeral 10) same is.digits, subst (λ t. digits_value 10 t < 2 ^ 32) same small)

-- ---- workers

Decides-le : (a b : ℕ) → Decides (nat_le a b) (a ≤ b)
Decides-le a b = (λ e. grind (arith, nat_tests), λ h. grind (arith, nat_tests))

first_is : (d : ℕ) (ds : List ℕ) (k : ℕ) → d ∷ ds ≡ k ∷ [] → d ≡ k
first_is d ds k e = cc

digit_found : (b : Bool) (d : ℕ) → Decides b ((49 ≤ d) × (d ≤ 56)) → Finds (IsWorkersText (d ∷ [])) (if b then Some (d - 48) else None)
digit_found true d is =
    let range = is.0 refl in
    let e : d ≡ 48 + (d - 48) = omega arith in
    (omega arith, omega arith, ap (λ (k : ℕ). k ∷ []) e)
digit_found false d is = λ w h.
    let e : d ≡ 48 + w = first_is d [] (48 + w) h.2 in
    absurd (false≢true (is.1 (omega (arith, h.0), omega (arith, h.1))))

workers_found : (text : Text) → Finds (IsWorkersText text) (workers_of text)
workers_found [] = λ w h. let l = ap length h.2 in absurd (omega arith)
workers_found (d ∷ []) =
    digit_found (nat_le 49 d && nat_le d 56) d (Decides-and (nat_le 49 d) (nat_le d 56) (Decides-le 49 d) (Decides-le d 56))
workers_found (d ∷ e ∷ ds) = λ w h. let l = ap length h.2 in absurd (omega arith)

pub workers_read : (text : Text) (o : Option ℕ) → o ≡ workers_of text → Finds (IsWorkersText text) o
workers_read text o is = subst (Finds (IsWorkersText text)) (sym is) (workers_found text)
