-- The keys that `Places` keeps for its places.
use Rattle.std.specs.Prelude.{◌≡◌, ◌≤◌, ℕ, List, Option, Some, None, count_by, is_some, map, slice_index_or}
use Rattle.slab.specs.Slab.{Slab, get, slab_len, ContainsKey}
use Rattle.session_places.specs.Places.{PlaceList}

module _ {V : Type 0} where
  -- the value under a key, if there is a key
  abbrev pub value_under : Slab V → Option ℕ → Option V
  value_under slab None = None
  value_under slab (Some key) = get slab key

  -- the value at each place
  abbrev pub values_of : Slab V → List (Option ℕ) → List (Option V)
  values_of slab keys = map (value_under slab) keys

  -- what a contract sees of these keys and values
  abbrev pub place_list : Slab V → List (Option ℕ) → ℕ → PlaceList V
  place_list slab keys room = record { places = values_of slab keys; room = room }

-- the place has the key
abbrev pub HasKey : List (Option ℕ) → ℕ → ℕ → Type 0
HasKey keys n key = slice_index_or keys n None ≡ Some key

-- each key has a value, no key is at two places, and there is memory for `room` values
pub record AreSoundKeys {V : Type 0} (slab : Slab V) (keys : List (Option ℕ)) (room : ℕ) : Type 0 where
  pub named : (n key : ℕ) → HasKey keys n key → ContainsKey slab key
  pub apart : (n m key : ℕ) → HasKey keys n key → HasKey keys m key → n ≡ m
  pub counted : slab_len slab ≡ count_by is_some keys
  pub within : slab_len slab ≤ room
  pub reserved : room ≤ slab.capacity
