-- How many free places there are, and that a way which no room forbids takes no more.
use Rattle.std.proofs.Common.{◌≡◌, ◌≢◌, ℕ, zero, suc, ◌+◌, ◌-◌, ◌<◌, ◌≤◌, min, inl, inr, Bool, cond, eqb, eq-eqb, List, []}
use Rattle.std.proofs.Common.{◌∷◌, length, map, Some, None, refl, sym, ap, ◌∙◌, arith}
use Rattle.std.specs.Prelude.{sum_by, slice_index}
use Rattle.std.specs.List.{range_with_len}
use Rattle.std.proofs.Math.ListN.{get_or-map}
use Rattle.std.proofs.lemmas.Bool.{cases_eq, cases_lt, ne_eqb}
use Rattle.std.proofs.lemmas.List.Sums.{sum_by-cons}
use Rattle.graft_edge.specs.declared.ids.RouterId.{RouterId}
use Rattle.evacuation.specs.Plans.{TargetList, IsFree, IsFull, KeepsRooms, IsGivenRoom, one_more_load, times_given, number_given, free_places, free_places_at}
use Rattle.evacuation.proofs.Loads.{one_more_load-same, one_more_load-other, length-one_more, times_given-none, times_given-same, times_given-other}
use Rattle.evacuation.proofs.Loads.{number_given-none, number_given-some, load_after-one_more}

-- ---- sums over a range of numbers

-- equal terms
sum_by-same : (f g : ℕ → ℕ) (a n : ℕ) → ((q : ℕ) → a ≤ q → q < a + n → f q ≡ g q) → sum_by f (range_with_len a n) ≡ sum_by g (range_with_len a n)
sum_by-same f g a zero same = refl
sum_by-same f g a (suc n) same =
    omega (
      arith,
      sum_by-cons f a (range_with_len (a + 1) n),
      sum_by-cons g a (range_with_len (a + 1) n),
      same a (omega arith) (omega arith),
      sum_by-same f g (a + 1) n (λ q above below. same q (omega arith) (omega arith)),
    )

-- terms that are equal but for one, which is greater by one
sum_by-one_less : (f g : ℕ → ℕ) (r a n : ℕ) → a ≤ r → r < a + n → f r ≡ g r + 1 → ((q : ℕ) → q ≢ r → f q ≡ g q)
    → sum_by f (range_with_len a n) ≡ sum_by g (range_with_len a n) + 1
sum_by-one_less f g r a zero above below less same = absurd (omega arith)
sum_by-one_less f g r a (suc n) above below less same = elim (cases_eq a r) [
  | inl here ↦
      let first : f a ≡ g a + 1 = ap f here ∙ less ∙ ap (λ q. g q + 1) (sym here) in
      omega (
        arith,
        sum_by-cons f a (range_with_len (a + 1) n),
        sum_by-cons g a (range_with_len (a + 1) n),
        first,
        sum_by-same f g (a + 1) n (λ q above below. same q (λ e. absurd (omega arith))),
      )
  | inr later ↦
      omega (
        arith,
        sum_by-cons f a (range_with_len (a + 1) n),
        sum_by-cons g a (range_with_len (a + 1) n),
        same a later,
        sum_by-one_less f g r (a + 1) n (omega arith) (omega arith) less same,
      )
]

-- no terms
sum_by-zero : (f : ℕ → ℕ) (a n : ℕ) → ((q : ℕ) → a ≤ q → q < a + n → f q ≡ 0) → sum_by f (range_with_len a n) ≡ 0
sum_by-zero f a zero none = refl
sum_by-zero f a (suc n) none =
    omega (
      arith,
      sum_by-cons f a (range_with_len (a + 1) n),
      none a (omega arith) (omega arith),
      sum_by-zero f (a + 1) n (λ q above below. none q (omega arith) (omega arith)),
    )

-- ---- free places

module _ (rooms : List ℕ) (from : ℕ) where
  free_places_at-from : (loads : List ℕ) (r : ℕ) → r ≡ from → free_places_at loads rooms from r ≡ 0
  free_places_at-from loads r same = ap (λ (b : Bool). cond b 0 (slice_index rooms r - slice_index loads r)) (eq-eqb r from same)

  free_places_at-other : (loads : List ℕ) (r : ℕ) → r ≢ from → free_places_at loads rooms from r ≡ slice_index rooms r - slice_index loads r
  free_places_at-other loads r other = ap (λ (b : Bool). cond b 0 (slice_index rooms r - slice_index loads r)) (ne_eqb r from other)

  -- A peering takes a free place of the router that it is given to.
  pub free_places-one_more : (loads : List ℕ) (r : ℕ) → IsFree loads rooms from r
      → free_places loads rooms from ≡ free_places (one_more_load loads r) rooms from + 1
  free_places-one_more loads r free =
      let at_r : free_places_at loads rooms from r ≡ free_places_at (one_more_load loads r) rooms from r + 1 =
      omega (
        arith,
        free_places_at-other loads r free.other,
        free_places_at-other (one_more_load loads r) r free.other,
        one_more_load-same loads r free.in_range,
        free.below_room,
      ) in
      let others : (q : ℕ) → q ≢ r → free_places_at loads rooms from q ≡ free_places_at (one_more_load loads r) rooms from q = λ q other.
      ap (λ (load : ℕ). cond (eqb q from) 0 (slice_index rooms q - load)) (sym (one_more_load-other loads r q other)) in
      let before = free_places_at loads rooms from in
      let after = free_places_at (one_more_load loads r) rooms from in
      let less = sum_by-one_less before after r 0 (length loads) (omega arith) (omega (arith, free.in_range)) at_r others in
      rw (length-one_more loads r) less

  -- There is none where no router is below its room.
  pub free_places-full : (loads : List ℕ) → IsFull loads rooms from → free_places loads rooms from ≡ 0
  free_places-full loads full = sum_by-zero (free_places_at loads rooms from) 0 (length loads) (λ q above below. elim (cases_eq q from) [
    | inl same ↦ free_places_at-from loads q same
    | inr other ↦ elim (cases_lt (slice_index loads q) (slice_index rooms q)) [
      | inl room ↦ absurd (full q (record { in_range = omega arith; other = other; below_room = room }))
      | inr no_room ↦ omega (arith, free_places_at-other loads q other)
    ]
  ])

  -- ---- a way that keeps the rooms

  pub IsFree-first : (loads : List ℕ) (target : RouterId) (targets : TargetList) → KeepsRooms loads rooms from (Some target ∷ targets)
      → IsFree loads rooms from target.0
  IsFree-first loads target targets keeps =
      let times = times_given-same target.0 target targets refl in
      let room : IsGivenRoom loads rooms from (Some target ∷ targets) target.0 = keeps target.0 (omega arith) in
      record { in_range = room.in_range; other = room.other; below_room = omega (arith, room.within_room) }

  IsGivenRoom-later : (loads : List ℕ) (target : RouterId) (targets : TargetList) → target.0 < length loads → (r : ℕ)
      → IsGivenRoom loads rooms from (Some target ∷ targets) r → IsGivenRoom (one_more_load loads target.0) rooms from targets r
  IsGivenRoom-later loads target targets there r room = record {
    in_range = omega (arith, room.in_range, length-one_more loads target.0);
    other = room.other;
    within_room = omega (arith, room.within_room, load_after-one_more loads target targets there r);
  }

  pub IsGivenRoom-earlier : (loads : List ℕ) (target : RouterId) (targets : TargetList) → target.0 < length loads → (r : ℕ)
      → IsGivenRoom (one_more_load loads target.0) rooms from targets r → IsGivenRoom loads rooms from (Some target ∷ targets) r
  IsGivenRoom-earlier loads target targets there r room = record {
    in_range = omega (arith, room.in_range, length-one_more loads target.0);
    other = room.other;
    within_room = omega (arith, room.within_room, load_after-one_more loads target targets there r);
  }

  given_more : (target : RouterId) (targets : TargetList) (r : ℕ) → 0 < times_given r targets → 0 < times_given r (Some target ∷ targets)
  given_more target targets r some = elim (cases_eq r target.0) [
    | inl same ↦ omega (arith, times_given-same r target targets same)
    | inr other ↦ omega (arith, times_given-other r target targets other)
  ]

  -- It gives no more peerings than there are free places.
  pub number_given-le-free_places : (targets : TargetList) (loads : List ℕ) → KeepsRooms loads rooms from targets
      → number_given targets ≤ free_places loads rooms from
  number_given-le-free_places [] loads keeps = omega arith
  number_given-le-free_places (None ∷ targets) loads keeps =
      let fewer = number_given-le-free_places targets loads (λ r some.
      let room : IsGivenRoom loads rooms from (None ∷ targets) r = keeps r (omega (arith, times_given-none r targets)) in
      record { in_range = room.in_range; other = room.other; within_room = omega (arith, room.within_room, times_given-none r targets) }) in
      omega (arith, fewer, number_given-none targets)
  number_given-le-free_places (Some target ∷ targets) loads keeps =
      let free = IsFree-first loads target targets keeps in
      let fewer = number_given-le-free_places targets (one_more_load loads target.0) (λ r some.
      IsGivenRoom-later loads target targets free.in_range r (keeps r (given_more target targets r some))) in
      omega (arith, fewer, number_given-some target targets, free_places-one_more loads target.0 free)

-- ---- rooms that are cut to a load

-- each room, or the most that is to be at a router, where that is less
abbrev pub capped : ℕ → List ℕ → List ℕ
capped most rooms = map (min most) rooms

pub slice_index-capped : (most : ℕ) (rooms : List ℕ) (r : ℕ) → slice_index (capped most rooms) r ≡ min most (slice_index rooms r)
slice_index-capped most rooms r =
    let none : min most 0 ≡ 0 = omega arith in
    rw none at (get_or-map (min most) rooms r 0)
