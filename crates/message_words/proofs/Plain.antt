-- Octets as a text that can stand in a line.
use Rattle.std.proofs.Common.{◌≡◌, ℕ, List, Bool, true, false, None, refl, sym, ap, ◌∙◌}
use Rattle.std.specs.Prelude.{IsUtf8, if◌then◌else◌}
use Rattle.std.specs.Str.{is_utf8}
use Rattle.std.proofs.lemmas.Str.{IsUtf8-from_is_utf8, is_utf8-from_IsUtf8}
use Rattle.message_words.specs.Notices.{if_clean, if_plain}

pub utf8_plain : (octets text : List ℕ) → text ≡ octets → IsUtf8 octets → if_clean text ≡ if_plain octets
utf8_plain octets text same utf8 =
    ap if_clean same ∙ sym (ap (λ (b : Bool). if b then if_clean octets else None) (is_utf8-from_IsUtf8 octets utf8))

no_utf8 : (octets : List ℕ) (b : Bool) → ¬ (IsUtf8 octets) → is_utf8 octets ≡ b → is_utf8 octets ≡ false
no_utf8 octets true none is = absurd (none (IsUtf8-from_is_utf8 octets is))
no_utf8 octets false none is = is

pub none_plain : (octets : List ℕ) → ¬ (IsUtf8 octets) → None ≡ if_plain octets
none_plain octets none =
    sym (ap (λ (b : Bool). if b then if_clean octets else None) (no_utf8 octets (is_utf8 octets) none refl))
