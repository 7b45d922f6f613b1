-- What each call of `Places` does to its keys.
use Rattle.std.proofs.Common.{◌≡◌, ℕ, ◌+◌, ◌*◌, ◌<◌, ◌≤◌, List, [], length, get_or, set, replicate, Option, Some, None}
use Rattle.std.proofs.Common.{true, is_some, IsSome, OnSome, cond, count_by, refl, sym, ap, ◌∙◌, arith}
use Rattle.std.proofs.lemmas.List.{ext_get_or, get_or-replicate, set-get_or, length-map, length-replicate}
use Rattle.std.proofs.lemmas.List.Sums.{sum_by-set}
use Rattle.std.proofs.lemmas.List.Folds.{sum_by-replicate}
use Rattle.slab.specs.Slab.{Slab, get, slab_len, Updates, HasRoomFor, with_value}
use Rattle.slab.proofs.SlabLemmas.{Updates-with_value}
use Rattle.session_places.specs.Keys.{value_under, values_of, place_list, HasKey, AreSoundKeys}
use Rattle.session_places.specs.Places.{with_place}
use Rattle.session_places.proofs.KeyLemmas.{HasKey-within, get_or-values_of, count-values_of, ChangesAt, place_list-changed, AreSoundKeys-changed}

module _ {V : Type 0} where
  -- no place with a key, no place with a value
  pub values_of-vacant : (slab : Slab V) (keys : List (Option ℕ)) (n : ℕ) → keys ≡ replicate n None → values_of slab keys ≡ replicate n None
  values_of-vacant slab keys n vacant =
      let len : length keys ≡ n = ap length vacant ∙ length-replicate n None in
      ext_get_or None _ _ (length-map keys (value_under slab) ∙ len ∙ sym (length-replicate n None)) (λ i within.
      let there : i < n = omega (arith, length-map keys (value_under slab)) in
      get_or-values_of slab keys i
      ∙ ap (value_under slab) (ap (λ ks. get_or ks i None) vacant ∙ get_or-replicate n i None None there)
      ∙ sym (get_or-replicate n i None None there))

  -- nothing is there
  pub AreSoundKeys-vacant : (slab : Slab V) (keys : List (Option ℕ)) (n room : ℕ) → slab.slots ≡ [] → keys ≡ replicate n None → room ≤ slab.capacity
      → AreSoundKeys slab keys room
  AreSoundKeys-vacant slab keys n room empty vacant reserved =
      let none : (m key : ℕ) → HasKey keys m key → ⊥ = λ m key has.
      let there : m < n = omega (arith, HasKey-within keys m key has, ap length vacant, length-replicate {A = Option ℕ} n None) in
      let read : get_or (replicate {A = Option ℕ} n None) m None ≡ None = get_or-replicate n m None None there in
      let moved : get_or keys m None ≡ get_or (replicate n None) m None = ap (λ (ks : List (Option ℕ)). get_or ks m None) vacant in
      cc in
      let len : slab_len slab ≡ 0 = ap (λ (slots : List (Option V)). count_by is_some slots) empty in
      let count : count_by is_some keys ≡ n * 0 =
      ap (λ (ks : List (Option ℕ)). count_by is_some ks) vacant ∙ sum_by-replicate (λ (o : Option ℕ). cond (is_some o) 1 0) n None in
      record {
        named = λ m key has. absurd (none m key has);
        apart = λ m l key has had. absurd (none m key has);
        counted = omega (arith, len, count);
        within = omega (arith, len);
        reserved = reserved;
      }

  pub OnSome-then : (r : Option V) (P : Type 0) → IsSome r → OnSome r P → P
  OnSome-then None P some h = absurd (cc)
  OnSome-then (Some value) P some h = h

  module _ (old new : Slab V) (keys : List (Option ℕ)) (n key room : ℕ) (sound : AreSoundKeys old keys room) (has : HasKey keys n key) where
    changes : (slot : Option V) → Updates old new key slot → ChangesAt old new keys n key slot
    changes slot updates = record { updates = updates; only = λ m had. sound.apart m n key had has }

    counts : (mine : Option ℕ) → count_by is_some (set keys n mine) + 1 ≡ count_by is_some keys + cond (is_some mine) 1 0
    counts mine =
        let write = sum_by-set (λ o. cond (is_some o) 1 0) keys n mine None (HasKey-within keys n key has) in
        let taken : cond (is_some (get_or keys n None)) 1 0 ≡ 1 = ap {B = ℕ} (λ (o : Option ℕ). cond (is_some o) 1 0) has in
        omega (arith, write, taken)

    -- the value of the place is taken out
    pub AreSoundKeys-removed : Updates old new key None → slab_len new + 1 ≡ slab_len old → new.capacity ≡ old.capacity
        → AreSoundKeys new (set keys n None) room
    AreSoundKeys-removed updates len capacity =
        AreSoundKeys-changed old new keys n key None room sound (changes None updates)
        (omega (arith, counts None, sound.counted)) (omega (arith, sound.within)) (omega (arith, sound.reserved))

    pub place_list-removed : Updates old new key None → place_list new (set keys n None) room ≡ with_place (place_list old keys room) n None
    place_list-removed updates = place_list-changed old new keys n key None room (changes None updates)

  module _ (slab : Slab V) (keys : List (Option ℕ)) (n key room : ℕ) (sound : AreSoundKeys slab keys room) (has : HasKey keys n key) (value : V) where
    written : ChangesAt slab (with_value slab key value) keys n key (Some value)
    written = changes slab _ keys n key room sound has (Some value) (Updates-with_value slab key value (sound.named n key has))

    same_keys : set keys n (Some key) ≡ keys
    same_keys = ap (set keys n) (sym has) ∙ set-get_or keys n None

    -- another value is written at the place
    pub place_list-written : place_list (with_value slab key value) keys room ≡ with_place (place_list slab keys room) n (Some value)
    place_list-written = rw same_keys at (place_list-changed slab (with_value slab key value) keys n key (Some value) room written)

  -- there is memory for one more value where fewer places are taken than may be
  pub HasRoomFor-one : (slab : Slab V) (keys : List (Option ℕ)) (room : ℕ) → AreSoundKeys slab keys room
      → count_by is_some (values_of slab keys) < room → HasRoomFor slab 1
  HasRoomFor-one slab keys room sound fewer = omega (arith, sound.reserved, sound.counted, count-values_of slab keys sound.named)

  module _ (old new : Slab V) (keys : List (Option ℕ)) (n key room : ℕ) (sound : AreSoundKeys old keys room)
      (vacant : get_or (values_of old keys) n None ≡ None) (fresh : get old key ≡ None) (value : V) (updates : Updates old new key (Some value)) where
    apart_from_all : ChangesAt old new keys n key (Some value)
    apart_from_all = record {
      updates = updates;
      only = λ m had. let taken : is_some (get old key) ≡ true = sound.named m key had in absurd (cc);
    }

    no_key : (mine : Option ℕ) → get_or keys n None ≡ mine → mine ≡ None
    no_key None is = refl
    no_key (Some k) is =
        let taken : is_some (get old k) ≡ true = sound.named n k is in
        let same : value_under old (get_or keys n None) ≡ get old k = ap (value_under old) is in
        absurd (cc (get_or-values_of old keys n, vacant))

    -- a value is put into the vacant place
    pub place_list-put : place_list new (set keys n (Some key)) room ≡ with_place (place_list old keys room) n (Some value)
    place_list-put = place_list-changed old new keys n key (Some value) room apart_from_all

    pub AreSoundKeys-put : n < length (values_of old keys) → count_by is_some (values_of old keys) < room → slab_len new ≡ slab_len old + 1
        → new.capacity ≡ old.capacity → AreSoundKeys new (set keys n (Some key)) room
    AreSoundKeys-put there fewer len capacity =
        let within : n < length keys = omega (arith, length-map keys (value_under old)) in
        let write = sum_by-set (λ o. cond (is_some o) 1 0) keys n (Some key) None within in
        let was : cond (is_some (get_or keys n None)) 1 0 ≡ 0 = ap {B = ℕ} (λ (o : Option ℕ). cond (is_some o) 1 0) (no_key (get_or keys n None) refl) in
        AreSoundKeys-changed old new keys n key (Some value) room sound apart_from_all
        (omega (arith, write, was, sound.counted))
        (omega (arith, sound.counted, count-values_of old keys sound.named))
        (omega (arith, sound.reserved))
