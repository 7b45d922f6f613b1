-- The fields of a spelling: what stands in each, and what may stand there.
use Rattle.std.specs.Prelude.{ℕ, ◌^◌, Bool, true, nat_lt, if◌then◌else◌, List, [], ◌∷◌, ◌++◌, length, Option, None, Some, IsTrue}
use Rattle.std.specs.Int.{Width, byte_len, w8, w32, to_be_bytes, from_be_bytes, is_in_range}
use Rattle.std.specs.List.{AllByRecursion, flat_map}

-- A field: its octets, which octets may stand there, and whether what is written there fits into them.
pub record Field : Type 0 where
  pub octets : List ℕ
  pub allowed : List ℕ → Bool
  pub fits : Bool

-- what is written fits, and it may stand there
abbrev pub IsRight : Field → Type 0
IsRight field = IsTrue field.fits × IsTrue (field.allowed field.octets)

abbrev pub AreRight : List Field → Type 0
AreRight = AllByRecursion IsRight

-- the octets of fields, one after another
abbrev pub spelled : List Field → List ℕ
spelled fields = flat_map (λ field. field.octets) fields

-- ---- kinds of fields

-- a number of a width, the highest octet first, of which only some values may stand there
abbrev pub number : Width → (ℕ → Bool) → ℕ → Field
number w allowed n = record { octets = to_be_bytes w n; allowed = λ octets. allowed (from_be_bytes w octets); fits = nat_lt n (256 ^ byte_len w) }

abbrev pub any_number : Width → ℕ → Field
any_number w n = number w (λ _. true) n

-- 0 or 1
abbrev pub flag : Bool → Field
flag b = number w8 (is_in_range 0 1) (if b then 1 else 0)

-- octets whose number is known from what stands before them
abbrev pub octets_where : (List ℕ → Bool) → List ℕ → Field
octets_where allowed octets = record { octets = octets; allowed = allowed; fits = true }

-- octets behind their number
abbrev pub text : Width → List ℕ → List Field
text w octets = any_number w (length octets) ∷ octets_where (λ _. true) octets ∷ []

-- the members of a list, where the fields of each depend on the member before it
abbrev pub members : {A : Type 0} → (Option A → A → List Field) → Option A → List A → List Field
members fields_of before [] = []
members fields_of before (x ∷ xs) = fields_of before x ++ members fields_of (Some x) xs

-- a list: the number of its members, and these
abbrev pub counted : {A : Type 0} → (Option A → A → List Field) → List A → List Field
counted fields_of xs = any_number w32 (length xs) ∷ members fields_of None xs
