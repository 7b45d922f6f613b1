-- Which hint bytes have: by their number, and by the document that they are.
use Rattle.std.proofs.Common.{◌≡◌, ℕ, ◌<◌, ◌≤◌, Bool, true, false, List, [], ◌∷◌, ◌++◌, length, refl, sym, ap, ◌∙◌, subst, codes, arith}
use Rattle.std.specs.Prelude.{nat_lt, Option, Some, None, IsUtf8}
use Rattle.std.specs.Str.{is_utf8}
use Rattle.std.specs.Str.Lossy.{utf8_valid_len}
use Rattle.std.proofs.lemmas.Bool.{false≢true}
use Rattle.std.proofs.lemmas.Bool.Decides.{nat_tests}
use Rattle.std.proofs.lemmas.Str.{is_utf8-from_IsUtf8, utf8_valid_len_le}
use Rattle.toml.specs.Data.{Members}
use Rattle.toml.specs.Parse.{parse_document}
use Rattle.lab_input.specs.declared.bad.BadInput.{BadInput}
use Rattle.lab_input.specs.Bytes.{document_of}
use Rattle.lab_input.specs.Labs.{most_bytes}
use Rattle.lab_input.proofs.Bytes.{document_of-text, document_of-no_text}
use Rattle.lab_hints.specs.Hints.{hint_line, long_words, place_words, document_words, IsPlaceHint, IsReadHint, IsHintBy, IsHint, HasHint}

-- a text behind the front of a hint, as a line
pub hinted : (front text words : List ℕ) → front ≡ codes "hint: " → text ≡ front ++ words → text ++ 10 ∷ [] ≡ hint_line words
hinted front text words begins is =
    ap (λ (t : List ℕ). t ++ 10 ∷ []) (is ∙ ap (λ (f : List ℕ). f ++ words) begins)

more : (a b : ℕ) → a < b → nat_lt a b ≡ true
more a b lt = grind (arith, nat_tests)

no_more : (a b : ℕ) → b ≤ a → nat_lt a b ≡ false
no_more a b le = grind (arith, nat_tests)

pub hint_long : (bytes : List ℕ) (bad : BadInput) (text : List ℕ) → most_bytes < length bytes → text ≡ hint_line long_words → IsHint bytes bad text
hint_long bytes bad text long is = subst (λ b. IsHintBy b bytes bad text) (sym (more most_bytes (length bytes) long)) is

pub hint_short : (bytes : List ℕ) (bad : BadInput) (text : List ℕ) (doc : Option Members) → length bytes ≤ most_bytes → document_of bytes ≡ doc
    → IsReadHint doc bytes bad text → IsHint bytes bad text
hint_short bytes bad text doc short same is =
    subst (λ b. IsHintBy b bytes bad text) (sym (no_more most_bytes (length bytes) short))
    (subst (λ d. IsReadHint d bytes bad text) (sym same) is)

pub hint_read : (bytes : List ℕ) (bad : BadInput) (text : List ℕ) → length bytes ≤ most_bytes → IsUtf8 bytes
    → IsReadHint (parse_document bytes) bytes bad text → IsHint bytes bad text
hint_read bytes bad text short utf8 is = hint_short bytes bad text (parse_document bytes) short (document_of-text bytes utf8) is

pub hint_broken : (bytes : List ℕ) (bad : BadInput) (text : List ℕ) → length bytes ≤ most_bytes → (IsUtf8 bytes → ⊥) → IsPlaceHint bytes text
    → IsHint bytes bad text
hint_broken bytes bad text short broken is = hint_short bytes bad text None short (document_of-no_text bytes broken) is

-- a place in a text
pub place_in_text : (bytes text message : List ℕ) (at : ℕ) → IsUtf8 bytes → at ≤ length bytes → text ≡ hint_line (place_words bytes at message)
    → IsPlaceHint bytes text
place_in_text bytes text message at utf8 within is = record {
  at = at;
  within = within;
  broken = λ (e : is_utf8 bytes ≡ false). absurd (false≢true (sym e ∙ is_utf8-from_IsUtf8 bytes utf8));
  message = message;
  is = is;
}

-- ---- each has one

read_has : (doc : Option Members) (bytes : List ℕ) (bad : BadInput) → (text : List ℕ) × IsReadHint doc bytes bad text
read_has (Some doc) bytes bad = (hint_line (document_words doc bad), refl)
read_has None bytes bad =
    let at = utf8_valid_len bytes in (
      hint_line (place_words bytes at []),
      record { at = at; within = utf8_valid_len_le bytes; broken = λ e. refl; message = []; is = refl },
    )

pub has_hint : (bytes : List ℕ) (bad : BadInput) → HasHint bytes bad
has_hint bytes bad = by_length (nat_lt most_bytes (length bytes)) where
  by_length : (t : Bool) → (text : List ℕ) × IsHintBy t bytes bad text
  by_length true = (hint_line long_words, refl)
  by_length false = read_has (document_of bytes) bytes bad
