-- A decimal at the beginning of a text.
use Rattle.std.specs.Prelude.{ℕ, ◌≡◌, ◌<◌, ◌≤◌, List, ◌∷◌, ◌++◌, decimal, length, slice_index}

-- the octets are this number of at most `most`
abbrev pub IsNumber : (most n : ℕ) → List ℕ → Type 0
IsNumber most n octets = (n ≤ most) × (octets ≡ decimal n)

-- the text begins with such a number, and the octet `end` stands behind it
pub record BeginsWithNumber (most end : ℕ) (text : List ℕ) : Type 0 where
  pub number : ℕ
  pub within : number ≤ most
  pub behind : List ℕ
  pub text_is : text ≡ decimal number ++ end ∷ behind

-- The octets begin like a decimal without a sign or leading zeros: with a digit, and with 0 only where that is all.
pub record BeginsPlainly (octets : List ℕ) : Type 0 where
  pub some : 0 < length octets
  pub digit_from : 48 ≤ slice_index octets 0
  pub digit_to : slice_index octets 0 ≤ 57
  pub zero_alone : slice_index octets 0 ≡ 48 → length octets ≡ 1
