-- Lemmas on the keys that `Places` keeps for its places.
use Rattle.std.proofs.Common.{◌≡◌, ◌≢◌, ◌⊎◌, ℕ, suc, ◌<◌, ◌≤◌, List, [], ◌∷◌, length, get_or, set, Option, Some, None, is_some}
use Rattle.std.proofs.Common.{IsSome, option_map, cond, count_by, Bool, refl, sym, ap, ◌∙◌, subst, inl, inr, arith}
use Rattle.std.proofs.Math.ListN.{get_or-map}
use Rattle.std.proofs.lemmas.Bool.{cases_eq}
use Rattle.std.proofs.lemmas.Grind.{get_or-set_at}
use Rattle.std.proofs.lemmas.List.{ext_get_or, get_or_past, get_or-set_other, length-map, length-set}
use Rattle.std.proofs.lemmas.List.Sums.{sum_by-cons}
use Rattle.slab.specs.Slab.{Slab, get, slab_len, ContainsKey, Updates}
use Rattle.session_places.specs.Keys.{value_under, values_of, place_list, HasKey, AreSoundKeys}
use Rattle.session_places.specs.Places.{with_place}

-- a place with a key is one of the places
pub HasKey-within : (keys : List (Option ℕ)) (n key : ℕ) → HasKey keys n key → n < length keys
HasKey-within keys n key there = grind (arith, get_or_past)

-- after a write, a key stands at the place that was written or where it stood
HasKey-set : (keys : List (Option ℕ)) (n : ℕ) (mine : Option ℕ) (m key : ℕ) → HasKey (set keys n mine) m key
    → ((m ≡ n) × (mine ≡ Some key)) ⊎ ((m ≢ n) × HasKey keys m key)
HasKey-set keys n mine m key there =
    elim (cases_eq m n) [
      | inl same ↦
          let within : n < length keys = omega (arith, HasKey-within _ m key there, length-set keys n mine) in
          inl (same, sym (get_or-set_at keys n m mine None same within) ∙ there)
      | inr differs ↦ inr (differs, sym (get_or-set_other keys n m mine None differs) ∙ there)
    ]

module _ {V : Type 0} where
  -- what is at a place is what stands under its key
  pub get_or-values_of : (slab : Slab V) (keys : List (Option ℕ)) (n : ℕ) → get_or (values_of slab keys) n None ≡ value_under slab (get_or keys n None)
  get_or-values_of slab keys n = get_or-map (value_under slab) keys n None

  -- as many places are taken as have a key
  pub count-values_of : (slab : Slab V) (keys : List (Option ℕ)) → ((n key : ℕ) → HasKey keys n key → ContainsKey slab key)
      → count_by is_some (values_of slab keys) ≡ count_by is_some keys
  count-values_of slab [] named = refl
  count-values_of slab (None ∷ keys) named =
      omega (
        arith,
        count-values_of slab keys (λ n. named (suc n)),
        sum_by-cons {X = Option V} (λ o. cond (is_some o) 1 0) None (values_of slab keys),
        sum_by-cons {X = Option ℕ} (λ o. cond (is_some o) 1 0) None keys,
      )
  count-values_of slab (Some key ∷ keys) named =
      omega (
        arith,
        count-values_of slab keys (λ n. named (suc n)),
        ap {B = ℕ} (λ (b : Bool). cond b 1 0) (named 0 key refl),
        sum_by-cons (λ o. cond (is_some o) 1 0) (get slab key) (values_of slab keys),
        sum_by-cons (λ o. cond (is_some o) 1 0) (Some key) keys,
      )

  -- the key of a place that has this value or nothing under it
  abbrev pub key_for : ℕ → Option V → Option ℕ
  key_for key slot = option_map (λ _. key) slot

  -- one key changes, and only this place has it
  pub record ChangesAt (old new : Slab V) (keys : List (Option ℕ)) (n key : ℕ) (slot : Option V) : Type 0 where
    pub updates : Updates old new key slot
    pub only : (m : ℕ) → HasKey keys m key → m ≡ n

  module _ (old new : Slab V) (keys : List (Option ℕ)) (n key : ℕ) where
    under_own : (slot : Option V) → get new key ≡ slot → value_under new (key_for key slot) ≡ slot
    under_own None changed = refl
    under_own (Some value) changed = changed

    under_other : (slot : Option V) (mine : Option ℕ) → Updates old new key slot → (mine ≡ Some key → ⊥) → value_under new mine ≡ value_under old mine
    under_other slot None updates differs = refl
    under_other slot (Some k) updates differs = updates.others k (λ same. differs (ap Some same))

    values_changed : (slot : Option V) → ChangesAt old new keys n key slot → values_of new (set keys n (key_for key slot)) ≡ set (values_of old keys) n slot
    values_changed slot change =
        let mine = key_for key slot in
        let len : length (values_of old keys) ≡ length keys = length-map keys (value_under old) in
        let len_new : length (values_of new (set keys n mine)) ≡ length keys = length-map (set keys n mine) (value_under new) ∙ length-set keys n mine in
        ext_get_or None _ _ (len_new ∙ sym (length-set _ n slot ∙ len)) (λ m within.
        get_or-values_of new (set keys n mine) m ∙ elim (cases_eq m n) [
          | inl same ↦
              let there : n < length keys = omega arith in
              ap (value_under new) (get_or-set_at keys n m mine None same there)
              ∙ under_own slot change.updates.changed
              ∙ sym (get_or-set_at (values_of old keys) n m slot None same (omega arith))
          | inr differs ↦
              ap (value_under new) (get_or-set_other keys n m mine None differs)
              ∙ under_other slot (get_or keys m None) change.updates (λ has. differs (change.only m has))
              ∙ sym (get_or-values_of old keys m)
              ∙ sym (get_or-set_other (values_of old keys) n m slot None differs)
        ])

    -- that place alone has another value then
    pub place_list-changed : (slot : Option V) (room : ℕ) → ChangesAt old new keys n key slot
        → place_list new (set keys n (key_for key slot)) room ≡ with_place (place_list old keys room) n slot
    place_list-changed slot room change = λ i. record { places = values_changed slot change i; room = room }

    own_key : (slot : Option V) (k : ℕ) → key_for key slot ≡ Some k → (key ≡ k) × IsSome slot
    own_key None k is = absurd (cc)
    own_key (Some value) k is = (cc, refl)

    -- the keys stay sound, where the numbers are right
    pub AreSoundKeys-changed : (slot : Option V) (room : ℕ) → AreSoundKeys old keys room → ChangesAt old new keys n key slot
        → slab_len new ≡ count_by is_some (set keys n (key_for key slot)) → slab_len new ≤ room → room ≤ new.capacity
        → AreSoundKeys new (set keys n (key_for key slot)) room
    AreSoundKeys-changed slot room sound change counted within reserved =
        let mine = key_for key slot in
        record {
          named = λ m k has. elim (HasKey-set keys n mine m k has) [
            | inl own ↦
                let is = own_key slot k own.1 in
                subst (λ j. ContainsKey new j) is.0 (subst IsSome (sym change.updates.changed) is.1)
            | inr other ↦
                let kept = change.updates.others k (λ same. other.0 (change.only m (subst (HasKey keys m) same other.1))) in
                subst IsSome (sym kept) (sound.named m k other.1)
          ];
          apart = λ m l k has had. elim (HasKey-set keys n mine m k has) [
            | inl own ↦ elim (HasKey-set keys n mine l k had) [
              | inl also ↦ own.0 ∙ sym also.0
              | inr other ↦ absurd (other.0 (change.only l (subst (HasKey keys l) (sym (own_key slot k own.1).0) other.1)))
            ]
            | inr other ↦ elim (HasKey-set keys n mine l k had) [
              | inl own ↦ absurd (other.0 (change.only m (subst (HasKey keys m) (sym (own_key slot k own.1).0) other.1)))
              | inr also ↦ sound.apart m l k other.1 also.1
            ]
          ];
          counted = counted;
          within = within;
          reserved = reserved;
        }
