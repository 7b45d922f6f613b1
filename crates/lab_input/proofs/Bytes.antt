-- The document that bytes are.
use Rattle.std.proofs.Common.{◌≡◌, ℕ, ◌<◌, ◌≤◌, Bool, true, false, cond, List, length, ap}
use Rattle.std.specs.Prelude.{IsUtf8, None, Err, nat_lt}
use Rattle.std.proofs.lemmas.Bool.Decides.{nat_tests}
use Rattle.std.proofs.Common.{arith}
use Rattle.std.specs.Str.{is_utf8}
use Rattle.std.proofs.lemmas.Str.{IsUtf8-from_is_utf8, is_utf8-from_IsUtf8}
use Rattle.std.proofs.lemmas.Bool.{false_from_ne_true}
use Rattle.toml.specs.Parse.{parse_document}
use Rattle.lab_input.specs.Bytes.{document_of}
use Rattle.lab_input.specs.Labs.{input_in, most_bytes, too_long, input_of}

pub document_of-text : (bytes : List ℕ) → IsUtf8 bytes → document_of bytes ≡ parse_document bytes
document_of-text bytes utf8 = rw (is_utf8-from_IsUtf8 bytes utf8)

pub document_of-no_text : (bytes : List ℕ) → (IsUtf8 bytes → ⊥) → document_of bytes ≡ None
document_of-no_text bytes refuted = rw (false_from_ne_true (is_utf8 bytes) (λ t. refuted (IsUtf8-from_is_utf8 bytes t)))

-- ---- the number of bytes

more : (a b : ℕ) → a < b → nat_lt a b ≡ true
more a b lt = grind (arith, nat_tests)

no_more : (a b : ℕ) → b ≤ a → nat_lt a b ≡ false
no_more a b le = grind (arith, nat_tests)

pub input_of-long : (bytes : List ℕ) → most_bytes < length bytes → input_of bytes ≡ Err too_long
unfolding input_of
input_of-long bytes long = ap (λ (t : Bool). cond t (Err too_long) (input_in (document_of bytes))) (more most_bytes (length bytes) long)

pub input_of-short : (bytes : List ℕ) → length bytes ≤ most_bytes → input_of bytes ≡ input_in (document_of bytes)
unfolding input_of
input_of-short bytes short = ap (λ (t : Bool). cond t (Err too_long) (input_in (document_of bytes))) (no_more most_bytes (length bytes) short)
