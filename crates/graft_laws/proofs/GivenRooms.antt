-- How many peerings an evacuate step gives to a router: with those that are placed there, no more than the router has room for.
use Rattle.std.proofs.Common.{◌≡◌, ◌≢◌, ◌==◌, cond, ℕ, zero, suc, ◌+◌, ◌<◌, ◌≤◌, Bool, true, false, List, [], ◌∷◌}
use Rattle.std.proofs.Common.{length, Option, Some, None, refl, sym, ap, ◌∙◌, arith, ◌⊎◌, inl, inr}
use Rattle.std.proofs.lemmas.Bool.{cases_eq, eq-eqb, ne_eqb}
use Rattle.std.proofs.lemmas.List.FromFn.{length-map-range_with_len, get_or-map-range_with_len}
use Rattle.std.specs.Prelude.{◌||◌, filter, zip, slice_get, slice_index, map, option_map, unwrap_or}
use Rattle.std.specs.List.{find, range_with_len}
use Rattle.graft_edge.specs.declared.ids.RouterId.{RouterId}
use Rattle.evacuation.specs.Plans.{TargetList, times_given}
use Rattle.evacuation.proofs.Loads.{times_given-none, times_given-same, times_given-other}
use Rattle.graft_model.specs.Setups.{Setup, RouterSetup, routers_in, peerings_in, peering_numbers, room_of}
use Rattle.graft_model.specs.Parts.{Gift, Unmade, To, Stays}
use Rattle.graft_model.specs.Evacuations.{peerings_at, loads_of, targets_from, gift_in, gift_of, gift_to}
use Rattle.graft_model.proofs.Gifts.{given_well}
use Rattle.graft_laws.proofs.Lists.{all_of, filter_none}
use Rattle.graft_laws.proofs.Room.{fewer, one_more}

-- ---- counts over a range

-- a test that passes one number less, and no other that the second doesn't pass, leaves fewer
pub fewer_by_one : (f g : ℕ → Bool) (a n q : ℕ) → a ≤ q → q < a + n → f q ≡ false → g q ≡ true → ((x : ℕ) → f x ≡ true → g x ≡ true)
    → length (filter f (range_with_len a n)) < length (filter g (range_with_len a n))
fewer_by_one f g a zero q from within fails passes each = absurd (omega (arith, from, within))
fewer_by_one f g a (suc n) q from within fails passes each =
    by_place (cases_eq q a) (λ above. fewer_by_one f g (a + 1) n q above (omega (arith, within)) fails passes each)
  where
    rest : List ℕ
    rest = range_with_len (a + 1) n

    here : f a ≡ false → g a ≡ true → length (filter f rest) ≤ length (filter g rest)
        → length (cond (f a) (a ∷ filter f rest) (filter f rest)) < length (cond (g a) (a ∷ filter g rest) (filter g rest))
    here e h le =
        let left : length (cond (f a) (a ∷ filter f rest) (filter f rest)) ≡ length (filter f rest) =
        ap (λ b. length (cond b (a ∷ filter f rest) (filter f rest))) e in
        let right : length (cond (g a) (a ∷ filter g rest) (filter g rest)) ≡ suc (length (filter g rest)) =
        ap (λ b. length (cond b (a ∷ filter g rest) (filter g rest))) h in
        omega (arith, left, right, le)

    later : (u v : Bool) → (u ≡ true → v ≡ true) → length (filter f rest) < length (filter g rest)
        → length (cond u (a ∷ filter f rest) (filter f rest)) < length (cond v (a ∷ filter g rest) (filter g rest))
    later true true h less = omega (arith, less)
    later true false h less = let e : false ≡ true = h refl in absurd cc
    later false true h less = omega (arith, less)
    later false false h less = less

    by_place : (q ≡ a) ⊎ (q ≢ a) → (a + 1 ≤ q → length (filter f rest) < length (filter g rest))
        → length (filter f (range_with_len a (suc n))) < length (filter g (range_with_len a (suc n)))
    by_place (inl is) less = here (sym (ap f is) ∙ fails) (sym (ap g is) ∙ passes) (fewer f g rest each)
    by_place (inr ne) less = later (f a) (g a) (each a) (less (omega (arith, from)))

-- one of two tests passes no more than both together
either_or : (f g : ℕ → Bool) (xs : List ℕ) → length (filter (λ x. f x || g x) xs) ≤ length (filter f xs) + length (filter g xs)
either_or f g [] = omega arith
either_or f g (x ∷ xs) = by_tests (f x) (g x) (either_or f g xs) where
  both : List ℕ
  both = filter (λ y. f y || g y) xs

  by_tests : (u v : Bool) → length both ≤ length (filter f xs) + length (filter g xs)
      → length (cond (u || v) (x ∷ both) both) ≤ length (cond u (x ∷ filter f xs) (filter f xs)) + length (cond v (x ∷ filter g xs) (filter g xs))
  by_tests true true le = omega (arith, le)
  by_tests true false le = omega (arith, le)
  by_tests false true le = omega (arith, le)
  by_tests false false le = le

-- ---- how many are given to one router

-- whether a gift is this router
abbrev pub is_to : ℕ → Gift → Bool
is_to r Unmade = false
is_to r (To target) = target == r
is_to r (Stays router) = false

-- whether a peering is given to the router r by entries of the emptied router e
abbrev goes_to : ℕ → ℕ → List (ℕ × Option RouterId) → ℕ → Bool
goes_to e r entries p = is_to r (gift_of e (find (λ entry. entry.0 == p) entries))

none_goes : (e r a n : ℕ) → length (filter (goes_to e r []) (range_with_len a n)) ≡ 0
none_goes e r a n = ap (λ (xs : List ℕ). length xs)
    (filter_none (goes_to e r []) (range_with_len a n) (all_of (λ p. goes_to e r [] p ≡ false) (range_with_len a n) (λ p. refl)))

goes_later : (e r x p : ℕ) (t : Option RouterId) (entries : List (ℕ × Option RouterId)) → x ≢ p → goes_to e r ((x, t) ∷ entries) p ≡ goes_to e r entries p
goes_later e r x p t entries ne = ap (λ (b : Bool). is_to r (gift_of e (cond b (Some (x, t)) (find (λ entry. entry.0 == p) entries)))) (ne_eqb x p ne)

goes_first : (e r x p : ℕ) (t : Option RouterId) (entries : List (ℕ × Option RouterId)) → x ≡ p → goes_to e r ((x, t) ∷ entries) p ≡ is_to r (gift_in e t)
goes_first e r x p t entries same = ap (λ (b : Bool). is_to r (gift_of e (cond b (Some (x, t)) (find (λ entry. entry.0 == p) entries)))) (eq-eqb x p same)

few_given : (e r a n : ℕ) (xs : List ℕ) (ts : TargetList) → length (filter (goes_to e r (zip xs ts)) (range_with_len a n)) ≤ times_given r ts
few_given e r a n [] ts = omega (arith, none_goes e r a n)
few_given e r a n (x ∷ xs) [] = omega (arith, none_goes e r a n)
few_given e r a n (x ∷ xs) (t ∷ ts) = by_target t (few_given e r a n xs ts) where
  -- where the first entry isn't for the router
  others : (u : Option RouterId) → is_to r (gift_in e u) ≡ false
      → length (filter (goes_to e r ((x, u) ∷ zip xs ts)) (range_with_len a n)) ≤ length (filter (goes_to e r (zip xs ts)) (range_with_len a n))
  others u fails = fewer (goes_to e r ((x, u) ∷ zip xs ts)) (goes_to e r (zip xs ts)) (range_with_len a n) (λ p goes. by_place p goes (cases_eq x p)) where
    by_place : (p : ℕ) → goes_to e r ((x, u) ∷ zip xs ts) p ≡ true → (x ≡ p) ⊎ (x ≢ p) → goes_to e r (zip xs ts) p ≡ true
    by_place p goes (inl same) = let f : true ≡ false = sym goes ∙ (goes_first e r x p u (zip xs ts) same ∙ fails) in absurd cc
    by_place p goes (inr ne) = sym (goes_later e r x p u (zip xs ts) ne) ∙ goes

  more : (u : Option RouterId)
      → length (filter (goes_to e r ((x, u) ∷ zip xs ts)) (range_with_len a n)) ≤ length (filter (goes_to e r (zip xs ts)) (range_with_len a n)) + 1
  more u = one_more (goes_to e r ((x, u) ∷ zip xs ts)) (goes_to e r (zip xs ts)) a n x
      (λ p ne goes. sym (goes_later e r x p u (zip xs ts) (λ same. ne (sym same))) ∙ goes)

  by_target : (u : Option RouterId) → length (filter (goes_to e r (zip xs ts)) (range_with_len a n)) ≤ times_given r ts
      → length (filter (goes_to e r ((x, u) ∷ zip xs ts)) (range_with_len a n)) ≤ times_given r (u ∷ ts)
  by_target None rest = let le = others None refl in omega (arith, le, rest, times_given-none r ts)
  by_target (Some target) rest = by_router (cases_eq r target.0) where
    by_router : (r ≡ target.0) ⊎ (r ≢ target.0)
        → length (filter (goes_to e r ((x, Some target) ∷ zip xs ts)) (range_with_len a n)) ≤ times_given r (Some target ∷ ts)
    by_router (inl same) = let le = more (Some target) in omega (arith, le, rest, times_given-same r target ts same)
    by_router (inr ne) =
        let le = others (Some target) (ne_eqb target.0 r (λ same. ne (sym same))) in
        omega (arith, le, rest, times_given-other r target ts ne)

-- ---- rooms and loads

room_at : (routers : List RouterSetup) (r : ℕ)
    → slice_index (map (λ router. router.room) routers) r ≡ unwrap_or (option_map (λ router. router.room) (slice_get routers r)) 0
room_at [] r = refl
room_at (x ∷ routers) zero = refl
room_at (x ∷ routers) (suc r) = room_at routers r

load_at : (setup : Setup) (placed : ℕ → ℕ) (r : ℕ) → r < routers_in setup → slice_index (loads_of setup placed) r ≡ length (peerings_at setup placed r)
load_at setup placed r l = get_or-map-range_with_len (λ q. length (peerings_at setup placed q)) 0 (routers_in setup) r r 0 l (omega arith)

-- whether a peering is placed at a router, or an evacuate step gives it there
abbrev pub comes_to : Setup → (ℕ → ℕ) → ℕ → ℕ → ℕ → Bool
comes_to setup placed e r p = (placed p == r) || is_to r (gift_to setup placed e p)

-- A router to which an evacuate step gives a peering has room for all that are placed there or given there.
pub room_for_all : (setup : Setup) (placed : ℕ → ℕ) (e r p : ℕ) → p < peerings_in setup → gift_to setup placed e p ≡ To r
    → length (filter (comes_to setup placed e r) (peering_numbers setup)) ≤ room_of setup r
room_for_all setup placed e r p l given =
    let targets : TargetList = targets_from setup placed e in
    let gives : ℕ → Bool = λ q. is_to r (gift_to setup placed e q) in
    let few : length (filter gives (peering_numbers setup)) ≤ times_given r targets =
    few_given e r 0 (peerings_in setup) (peerings_at setup placed e) targets in
    let some : length (filter (λ q. false) (peering_numbers setup)) < length (filter gives (peering_numbers setup)) =
    fewer_by_one (λ q. false) gives 0 (peerings_in setup) p (omega arith)
    (omega (arith, l)) refl (ap (is_to r) given ∙ eq-eqb r r refl) (λ q none. absurd cc) in
    let kept = (given_well setup placed e).room r (omega (arith, few, some)) in
    let there : r < routers_in setup =
    let n = length-map-range_with_len (λ q. length (peerings_at setup placed q)) 0 (routers_in setup) in omega (arith, n, kept.in_range) in
    let all = either_or (λ q. placed q == r) gives (peering_numbers setup) in
    omega (arith, all, few, kept.within_room, load_at setup placed r there, room_at setup.routers r)
