-- What a contract sees of `Places`.
use Rattle.std.specs.Prelude.{ℕ, List, Option, None, filter_map, slice_index_or, slice_set, refl}
use Rattle.std.specs.Coded.{Coded, code_by, coded×, coded_ℕ, coded_list, coded_option}

-- the value at each place, or none, and how many places may be taken at once
pub record PlaceList (V : Type 0) : Type 0 where
  pub places : List (Option V)
  pub room : ℕ

-- it is stored as the pair of its fields
abbrev pub place_list_code : {V : Type 0} → Coded V → Coded (PlaceList V)
place_list_code {V} code =
    code_by
    (List (Option V) × ℕ)
    (coded× (coded_list (coded_option code)) coded_ℕ)
    (λ p. (p.places, p.room))
    (λ p. record { places = p.0; room = p.1 })
    (λ _. refl)

module _ {V : Type 0} where
  -- the value at a place: none past the last place
  abbrev pub value_at : PlaceList V → ℕ → Option V
  value_at p n = slice_index_or p.places n None

  -- the same with this value at a place
  abbrev pub with_place : PlaceList V → ℕ → Option V → PlaceList V
  with_place p n value = record p { places = slice_set p.places n value }

  -- the values present, in the order of their places
  abbrev pub values_in : PlaceList V → List V
  values_in p = filter_map (λ value. value) p.places
