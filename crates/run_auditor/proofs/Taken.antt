-- Channels between actors of which one has lost its first item.
use Rattle.std.proofs.Common.{◌≡◌, ℕ, zero, suc, ◌<◌, ◌==◌, Bool, true, false, List, [], ◌∷◌, ◌++◌, length, Option, Some, refl, sym, ap, ◌∙◌, subst, inl, inr, get_or, arith}
use Rattle.std.specs.Prelude.{if◌then◌else◌, option_map, slice_get, slice_set, unwrap_or}
use Rattle.std.proofs.lemmas.Bool.{eq-eqb, eqb-true}
use Rattle.std.proofs.lemmas.List.{length-set}
use Rattle.std.proofs.lemmas.List.Elements.{All-from_recursion}
use Rattle.std.proofs.lemmas.Option.{slice_get-get_or}
use Rattle.std.specs.List.{AllByRecursion}
use Rattle.router_tables.proofs.Points.{one_or_other}
use Rattle.audit_ruling.specs.Rulings.{Parcel}
use Rattle.audit_channels.specs.Channels.{IsSquare, parcels, parcels_at, parcels_in}
use Rattle.audit_channels.specs.declared.channel.Channel.{Channel}
use Rattle.audit_channels.specs.declared.inboxes.Inbox.{Inbox}
use Rattle.audit_tables.proofs.Changes.{get_set_here, get_set_other}

-- not the channel from one of these actors to the other
abbrev pub IsOther : ℕ → ℕ → ℕ → ℕ → Type 0
IsOther from to a b = (a ≡ from) × (b ≡ to) → ⊥

-- nothing comes out of any channel
pub none_out : (f g : ℕ → ℕ → List Parcel) (to : ℕ) → ((a b : ℕ) → g a b ≡ f a b) → (a b : ℕ) → f a b ≡ (if b == to then [] else []) ++ g a b
none_out f g to still a b = by_test (b == to) where
  by_test : (t : Bool) → f a b ≡ (if t then [] else []) ++ g a b
  by_test true = sym (still a b)
  by_test false = sym (still a b)

module _ (f g : ℕ → ℕ → List Parcel) (from to : ℕ) (others : (a b : ℕ) → IsOther from to a b → g a b ≡ f a b) where
  -- nothing came out
  pub all_still : g from to ≡ f from to → (a b : ℕ) → g a b ≡ f a b
  all_still same a b = by_tests (b == to) refl (a == from) refl where
    by_tests : (t : Bool) → (b == to) ≡ t → (u : Bool) → (a == from) ≡ u → g a b ≡ f a b
    by_tests false e u d = others a b (λ both. let e2 : (b == to) ≡ true = eq-eqb b to both.1 in absurd cc)
    by_tests true e false d = others a b (λ both. let d2 : (a == from) ≡ true = eq-eqb a from both.0 in absurd cc)
    by_tests true e true d = subst (λ (n : ℕ). g n b ≡ f n b) (sym (eqb-true a from d)) (subst (λ (n : ℕ). g from n ≡ f from n) (sym (eqb-true b to e)) same)

  -- the first item came out
  pub came_out : (item : Parcel) → f from to ≡ item ∷ g from to → (a b : ℕ)
      → f a b ≡ (if b == to then (if from == a then item ∷ [] else []) else []) ++ g a b
  came_out item first a b = by_tests (b == to) refl (from == a) refl where
    by_tests : (t : Bool) → (b == to) ≡ t → (u : Bool) → (from == a) ≡ u → f a b ≡ (if t then (if u then item ∷ [] else []) else []) ++ g a b
    by_tests false e u d = sym (others a b (λ both. let e2 : (b == to) ≡ true = eq-eqb b to both.1 in absurd cc))
    by_tests true e false d = sym (others a b (λ both. let d2 : (from == a) ≡ true = eq-eqb from a (sym both.0) in absurd cc))
    by_tests true e true d =
        subst (λ (n : ℕ). f n b ≡ item ∷ g n b) (eqb-true from a d) (subst (λ (n : ℕ). f from n ≡ item ∷ g from n) (sym (eqb-true b to e)) first)

-- ---- inboxes of which one has another channel

module _ (inboxes : List Inbox) (from to : ℕ) (inbox after : Inbox) (channel now : Channel) (there : slice_get inboxes to ≡ Some inbox)
    (below : to < length inboxes) (from_below : from < length inbox.channels.items) (in_it : slice_get inbox.channels.items from ≡ Some channel)
    (set : after.channels.items ≡ slice_set inbox.channels.items from now) where
  abbrev here : List Inbox
  here = slice_set inboxes to after

  -- what an inbox has from an actor
  abbrev seen : ℕ → Option Inbox → List Parcel
  seen a o = unwrap_or (option_map (λ x. parcels_at x.channels.items a) o) []

  abbrev seen_in : Option Channel → List Parcel
  seen_in o = unwrap_or (option_map parcels_in o) []

  pub is_now : parcels here from to ≡ parcels_in now
  is_now = ap (seen from) (get_set_here inboxes to after below)
      ∙ (ap (λ (xs : List Channel). seen_in (slice_get xs from)) set ∙ ap seen_in (get_set_here inbox.channels.items from now from_below))

  pub elsewhere : (a b : ℕ) → IsOther from to a b → parcels here a b ≡ parcels inboxes a b
  elsewhere a b other = elim (one_or_other to b) [
    | inl is ↦ subst (λ (n : ℕ). parcels here a n ≡ parcels inboxes a n) (sym is)
        (ap (seen a) (get_set_here inboxes to after below) ∙ (ap (λ (xs : List Channel). seen_in (slice_get xs a)) set
        ∙ (ap seen_in (get_set_other inbox.channels.items from a now (λ e. other (e, is))) ∙ sym (ap (seen a) there))))
    | inr not ↦ ap (seen a) (get_set_other inboxes to b after not)
  ]

  pub square_then : (count : ℕ) → IsSquare count inboxes → IsSquare count here
  square_then count s = record {
    all = length-set inboxes to after ∙ s.all;
    each = all_set (λ x. length x.channels.items ≡ count) inboxes to inbox after there s.each
        (λ own. ap (λ (xs : List Channel). length xs) set ∙ (length-set inbox.channels.items from now ∙ own));
  }
    where
      all_set : {A : Type 0} (P : A → Type 0) (xs : List A) (i : ℕ) (x y : A) → slice_get xs i ≡ Some x → AllByRecursion P xs → (P x → P y)
          → AllByRecursion P (slice_set xs i y)
      all_set P [] i x y e all more = tt
      all_set P (z ∷ xs) zero x y e all more = (more (subst P (let same : z ≡ x = cc in same) all.0), all.1)
      all_set P (z ∷ xs) (suc i) x y e all more = (all.0, all_set P xs i x y e all.1 more)

-- One channel of the inboxes is another one now.
pub record ChannelSet (f g : List Inbox) (from to : ℕ) (channel now : Channel) : Type 0 where
  pub was : parcels f from to ≡ parcels_in channel
  pub is_now : parcels g from to ≡ parcels_in now
  pub elsewhere : (a b : ℕ) → IsOther from to a b → parcels g a b ≡ parcels f a b
  pub square : (count : ℕ) → IsSquare count f → IsSquare count g

module _ (count : ℕ) (inboxes : List Inbox) (square : IsSquare count inboxes) (to : ℕ) (to_there : to < count) where
  pub inbox_below : to < length inboxes
  inbox_below = omega (arith, to_there, square.all)

  module _ (inbox : Inbox) (is : inbox ≡ get_or inboxes to inbox) where
    -- there is a channel from each actor
    pub wide : length inbox.channels.items ≡ count
    wide = subst (λ (x : Inbox). length x.channels.items ≡ count) (sym is)
        (All-from_recursion (λ x. length x.channels.items ≡ count) inboxes square.each to inbox inbox_below)

    pub items_are : (from : ℕ) (channel : Channel) → from < count → channel ≡ get_or inbox.channels.items from channel
        → parcels inboxes from to ≡ parcels_in channel
    items_are from channel from_there channel_is =
        ap (λ (o : Option Inbox). unwrap_or (option_map (λ x. parcels_at x.channels.items from) o) [])
        (slice_get-get_or inboxes to inbox inbox_below ∙ ap Some (sym is))
        ∙ ap (λ (o : Option Channel). unwrap_or (option_map parcels_in o) [])
        (slice_get-get_or inbox.channels.items from channel (omega (arith, from_there, wide)) ∙ ap Some (sym channel_is))

    pub channel_set : (from : ℕ) (after : Inbox) (channel now : Channel) → from < count → channel ≡ get_or inbox.channels.items from channel
        → after.channels.items ≡ slice_set inbox.channels.items from now → ChannelSet inboxes (slice_set inboxes to after) from to channel now
    channel_set from after channel now from_there channel_is set =
        let there : slice_get inboxes to ≡ Some inbox = slice_get-get_or inboxes to inbox inbox_below ∙ ap Some (sym is) in
        let from_below : from < length inbox.channels.items = omega (arith, from_there, wide) in
        let in_it : slice_get inbox.channels.items from ≡ Some channel =
        slice_get-get_or inbox.channels.items from channel from_below ∙ ap Some (sym channel_is) in
        record {
          was = items_are from channel from_there channel_is;
          is_now = is_now inboxes from to inbox after channel now there inbox_below from_below in_it set;
          elsewhere = elsewhere inboxes from to inbox after channel now there inbox_below from_below in_it set;
          square = square_then inboxes from to inbox after channel now there inbox_below from_below in_it set;
        }
