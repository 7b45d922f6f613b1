-- The names of policies are texts.
use Rattle.std.proofs.Common.{◌≡◌, ℕ, zero, suc, ◌<◌, Bool, true, false, List, [], ◌∷◌, refl, arith}
use Rattle.std.specs.Prelude.{◌&&◌, Result, Ok, Err, MatchResult, MatchOption}
use Rattle.std.specs.List.{list_all}
use Rattle.std.specs.Result.{result_ok}
use Rattle.std.specs.Str.{IsAscii, IsUtf8}
use Rattle.std.proofs.lemmas.Bool.{false≢true}
use Rattle.std.proofs.lemmas.Bool.Decides.{nat_tests}
use Rattle.std.proofs.lemmas.Str.{IsUtf8-from_ascii}
use Rattle.capsule_bytes.specs.Capsules.{is_name_char, is_name}

pub both : (a b : Bool) → (a && b) ≡ true → (a ≡ true) × (b ≡ true)
both true b e = (refl, e)
both false b e = absurd (false≢true e)

char_below : (c : ℕ) → is_name_char c ≡ true → c < 128
char_below c e = grind (arith, nat_tests)

ascii : (text : List ℕ) → list_all is_name_char text ≡ true → IsAscii text
ascii [] e i = omega arith
ascii (c ∷ text) e zero = char_below c (both (is_name_char c) (list_all is_name_char text) e).0
ascii (c ∷ text) e (suc i) = ascii text (both (is_name_char c) (list_all is_name_char text) e).1 i

IsUtf8-name : (text : List ℕ) → is_name text ≡ true → IsUtf8 text
IsUtf8-name text e = IsUtf8-from_ascii text (ascii text (both _ (list_all is_name_char text) e).1)

pub name_text : {A E : Type 0} (octets : List ℕ) (text_of : A → List ℕ) (Q : E → Type 0) (r : Result A E)
    → MatchResult r (λ s. (text_of s ≡ octets) × IsUtf8 octets) (λ e. (¬ IsUtf8 octets) × Q e) → is_name octets ≡ true
    → MatchOption (result_ok r) (is_name octets ≡ false) (λ t. (is_name octets ≡ true) × (text_of t ≡ octets))
name_text octets text_of Q (Ok s) h name = (name, h.0)
name_text octets text_of Q (Err e) h name = absurd (h.0 (IsUtf8-name octets name))
