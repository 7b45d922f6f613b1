-- The events of a run beside those of its net.
use Rattle.std.proofs.Common.{◌≡◌, ◌+◌, ℕ, max, Bool, true, false, List, [], ◌∷◌, ◌++◌, ◌==◌, ◌||◌, cond, if◌then◌else◌}
use Rattle.std.proofs.Common.{length, map, filter, refl, ap, sym, ◌∙◌, arith, inl, inr, length-append}
use Rattle.std.specs.Prelude.{Some, fold, replicate}
use Rattle.std.proofs.lemmas.Bool.Decides.{eqb_tells}
use Rattle.std.proofs.lemmas.List.{map-append}
use Rattle.std.proofs.lemmas.List.Sums.{sum_by-cons}
use Rattle.ring_net.specs.declared.entry.Stamped.{Stamped}
use Rattle.ring_net.specs.Deeds.{Noted, items_for, stamped, puts, gets, sent_to, taken_from}
use Rattle.journal_merge.specs.Worlds.{taken_of}
use Rattle.journal_merge.specs.Growth.{noted_by}
use Rattle.journal_merge.proofs.Runs.{own_here, own_else}
use Rattle.graft_model.specs.Setups.{Setup}
use Rattle.graft_actors.specs.Actors.{ActorName, IsActor, actor_at, same_name}
use Rattle.graft_actors.proofs.Numbers.{once, same_itself, same_tells, some_same}
use Rattle.world_runs.specs.Marks.{is_go}
use Rattle.run_clocks.specs.Clocks.{ClockedEvent, stamps_sent, number_taken, greatest, clock_behind}
use Rattle.run_clocks.proofs.Fronts.{top, behind}
use Rattle.run_clocks.proofs.Supplies.{gets_many}

-- ---- names

pub named_test : (setup : Setup) (x y : ActorName) (a m : ℕ) → actor_at setup a ≡ Some x → actor_at setup m ≡ Some y → same_name x y ≡ (m == a)
named_test setup x y a m x_is y_is = elim (eqb_tells m a) [
  | inl e ↦ ap (same_name x) (some_same y x (sym y_is ∙ ap (actor_at setup) e.1 ∙ x_is)) ∙ same_itself x ∙ sym e.0
  | inr ne ↦ not_it (same_name x y) refl ne.1 ∙ sym ne.0
]
  where
    not_it : (t : Bool) → same_name x y ≡ t → (m ≡ a → ⊥) → same_name x y ≡ false
    not_it false e apart = e
    not_it true e apart = absurd (apart (once setup m a x (y_is ∙ ap (λ (z : ActorName). Some z) (sym (same_tells x y e))) x_is))

-- ---- the greatest number

abbrev peak : List ℕ → ℕ
peak [] = 0
peak (x ∷ xs) = max x (peak xs)

fold_peak : (a : ℕ) (xs : List ℕ) → fold max a xs ≡ max a (peak xs)
fold_peak a [] = omega arith
fold_peak a (x ∷ xs) = fold_peak (max a x) xs ∙ omega arith

greatest_peak : (xs : List ℕ) → greatest xs ≡ peak xs
greatest_peak xs = let e = fold_peak 0 xs in omega (arith, e)

-- ---- twins

module _ {I : Type 0} (setup : Setup) where
  -- An event of the run is the net's: made by the same actor at the same clock, with as many items taken and sent.
  pub record Twin (e : ClockedEvent) (n : Noted I) : Type 0 where
    pub maker : actor_at setup n.deed.entry.actor ≡ Some e.maker
    pub took : (x : ActorName) (a : ℕ) → actor_at setup a ≡ Some x → e.took x ≡ length (taken_of a n.deed.taken)
    pub none : (x : ActorName) → (IsActor setup x → ⊥) → e.took x ≡ 0
    pub sent : (y : ActorName) (b : ℕ) → actor_at setup b ≡ Some y → e.sent y ≡ length (items_for b n.deed.sent)
    pub from : (a : ℕ) (item : I) → n.deed.taken ≡ Some (a, item) → (x : ActorName) × (actor_at setup a ≡ Some x)
    pub begins : e.begins ≡ is_go n.deed.entry
    pub clock : e.clock ≡ n.deed.entry.clock

  abbrev pub AreTwins : List ClockedEvent → List (Noted I) → Type 0
  AreTwins [] [] = Unit {0}
  AreTwins (e ∷ events) (n ∷ notes) = Twin e n × AreTwins events notes
  AreTwins events notes = ⊥

  -- the same of a front and what stands behind it
  pub record Places (earlier later : List ClockedEvent) (e : ClockedEvent) (notes : List (Noted I)) : Type 0 where
    pub front : List (Noted I)
    pub note : Noted I
    pub back : List (Noted I)
    pub whole : notes ≡ front ++ note ∷ back
    pub fronts : AreTwins earlier front
    pub twin : Twin e note

  pub places : (earlier later : List ClockedEvent) (e : ClockedEvent) (notes : List (Noted I)) → AreTwins (earlier ++ e ∷ later) notes
      → Places earlier later e notes
  places [] later e [] twins = absurd twins
  places [] later e (n ∷ notes) twins = record { front = []; note = n; back = notes; whole = refl; fronts = tt; twin = twins.0 }
  places (d ∷ earlier) later e [] twins = absurd twins
  places (d ∷ earlier) later e (n ∷ notes) twins =
      let p : Places earlier later e notes = places earlier later e notes twins.1 in
      record { front = n ∷ p.front; note = p.note; back = p.back; whole = ap (λ zs. n ∷ zs) p.whole; fronts = (twins.0, p.fronts); twin = p.twin }

  -- ---- clocks

  peak_clocks : (events : List ClockedEvent) (notes : List (Noted I)) → AreTwins events notes
      → peak (map (λ (e : ClockedEvent). e.clock) events) ≡ top is_go notes
  peak_clocks [] [] twins = refl
  peak_clocks [] (n ∷ notes) twins = absurd twins
  peak_clocks (e ∷ events) [] twins = absurd twins
  peak_clocks (e ∷ events) (n ∷ notes) twins = λ i. max (twins.0.clock i) (peak_clocks events notes twins.1 i)

  pub greatest_is : (events : List ClockedEvent) (notes : List (Noted I)) → AreTwins events notes
      → greatest (map (λ (e : ClockedEvent). e.clock) events) ≡ top is_go notes
  greatest_is events notes twins = greatest_peak (map (λ (e : ClockedEvent). e.clock) events) ∙ peak_clocks events notes twins

  peak_behind : (x : ActorName) (a : ℕ) → actor_at setup a ≡ Some x → (events : List ClockedEvent) (notes : List (Noted I)) → AreTwins events notes
      → peak (map (λ (e : ClockedEvent). e.clock) (filter (λ (e : ClockedEvent). same_name x e.maker || e.begins) events)) ≡ behind is_go a notes
  peak_behind x a is [] [] twins = refl
  peak_behind x a is [] (n ∷ notes) twins = absurd twins
  peak_behind x a is (e ∷ events) [] twins = absurd twins
  peak_behind x a is (e ∷ events) (n ∷ notes) twins =
      ap (λ (t : Bool). peak (map (λ (d : ClockedEvent). d.clock) (cond t (e ∷ filter (λ (d : ClockedEvent). same_name x d.maker || d.begins) events)
      (filter (λ (d : ClockedEvent). same_name x d.maker || d.begins) events)))) test
      ∙ by_case (n.deed.entry.actor == a || is_go n.deed.entry) (peak_behind x a is events notes twins.1)
    where
      test : (same_name x e.maker || e.begins) ≡ (n.deed.entry.actor == a || is_go n.deed.entry)
      test = λ i. named_test setup x e.maker a n.deed.entry.actor is twins.0.maker i || twins.0.begins i

      by_case : (t : Bool)
          → peak (map (λ (d : ClockedEvent). d.clock) (filter (λ (d : ClockedEvent). same_name x d.maker || d.begins) events)) ≡ behind is_go a notes
          → peak (map (λ (d : ClockedEvent). d.clock) (cond t (e ∷ filter (λ (d : ClockedEvent). same_name x d.maker || d.begins) events)
          (filter (λ (d : ClockedEvent). same_name x d.maker || d.begins) events)))
          ≡ (if t then max n.deed.entry.clock (behind is_go a notes) else behind is_go a notes)
      by_case true h = λ i. max (twins.0.clock i) (h i)
      by_case false h = h

  pub behind_is : (x : ActorName) (a : ℕ) → actor_at setup a ≡ Some x → (events : List ClockedEvent) (notes : List (Noted I)) → AreTwins events notes
      → clock_behind x events ≡ behind is_go a notes
  behind_is x a is events notes twins =
      greatest_peak (map (λ (e : ClockedEvent). e.clock) (filter (λ (e : ClockedEvent). same_name x e.maker || e.begins) events))
      ∙ peak_behind x a is events notes twins

  -- ---- stamps

  stamps_of : (clock : ℕ) (items : List I) → map (λ (s : Stamped I). s.stamp.0) (stamped clock items) ≡ replicate (length items) clock
  stamps_of clock [] = refl
  stamps_of clock (item ∷ items) = ap (λ xs. clock ∷ xs) (stamps_of clock items)

  pub stamps_are : (x y : ActorName) (a b : ℕ) → actor_at setup a ≡ Some x → actor_at setup b ≡ Some y → (events : List ClockedEvent) (notes : List (Noted I))
      → AreTwins events notes
      → stamps_sent x y events ≡ map (λ (s : Stamped I). s.stamp.0) (sent_to b (noted_by a notes))
  stamps_are x y a b x_is y_is [] [] twins = refl
  stamps_are x y a b x_is y_is [] (n ∷ notes) twins = absurd twins
  stamps_are x y a b x_is y_is (e ∷ events) [] twins = absurd twins
  stamps_are x y a b x_is y_is (e ∷ events) (n ∷ notes) twins = elim (eqb_tells n.deed.entry.actor a) [
    | inl s ↦ (λ i. (if named_test setup x e.maker a n.deed.entry.actor x_is twins.0.maker i then replicate (twins.0.sent y b y_is i)
        (twins.0.clock i) else []) ++ stamps_are x y a b x_is y_is events notes twins.1 i)
        ∙ ap (λ (t : Bool). (if t then replicate (length (items_for b n.deed.sent)) n.deed.entry.clock else []) ++ map (λ (s : Stamped I). s.stamp.0)
        (sent_to b (noted_by a notes))) s.0
        ∙ ap (λ xs. xs ++ map (λ (s : Stamped I). s.stamp.0) (sent_to b (noted_by a notes))) (sym (stamps_of n.deed.entry.clock (items_for b n.deed.sent)))
        ∙ sym (map-append (λ (s : Stamped I). s.stamp.0) (puts b n) (sent_to b (noted_by a notes)))
        ∙ ap (λ (ns : List (Noted I)). map (λ (s : Stamped I). s.stamp.0) (sent_to b ns)) (sym (own_here a n notes s.1))
    | inr s ↦ (λ i. (if named_test setup x e.maker a n.deed.entry.actor x_is twins.0.maker i then replicate
        (e.sent y) e.clock else []) ++ stamps_are x y a b x_is y_is events notes twins.1 i)
        ∙ ap (λ (t : Bool). (if t then replicate (e.sent y) e.clock else []) ++ map (λ (s : Stamped I). s.stamp.0) (sent_to b (noted_by a notes))) s.0
        ∙ ap (λ (ns : List (Noted I)). map (λ (s : Stamped I). s.stamp.0) (sent_to b ns)) (sym (own_else a n notes s.1))
  ]

  pub number_is : (x y : ActorName) (a b : ℕ) → actor_at setup a ≡ Some x → actor_at setup b ≡ Some y → (events : List ClockedEvent) (notes : List (Noted I))
      → AreTwins events notes
      → number_taken x y events ≡ length (taken_from a (noted_by b notes))
  number_is x y a b x_is y_is [] [] twins = refl
  number_is x y a b x_is y_is [] (n ∷ notes) twins = absurd twins
  number_is x y a b x_is y_is (e ∷ events) [] twins = absurd twins
  number_is x y a b x_is y_is (e ∷ events) (n ∷ notes) twins = sum_by-cons (λ (d : ClockedEvent). if same_name y d.maker then d.took x else 0) e events
      ∙ elim (eqb_tells n.deed.entry.actor b) [
        | inl s ↦ (λ i. (if named_test setup y e.maker b n.deed.entry.actor y_is twins.0.maker i then twins.0.took x a x_is i else 0)
            + number_is x y a b x_is y_is events notes twins.1 i)
            ∙ ap (λ (t : Bool). (if t then length (taken_of a n.deed.taken) else 0) + length (taken_from a (noted_by b notes))) s.0
            ∙ ap (λ k. k + length (taken_from a (noted_by b notes))) (sym (gets_many a n.stamp n.deed.taken))
            ∙ sym (length-append (gets a n) (taken_from a (noted_by b notes)))
            ∙ ap (λ (ns : List (Noted I)). length (taken_from a ns)) (sym (own_here b n notes s.1))
        | inr s ↦ (λ i. (if named_test setup y e.maker b n.deed.entry.actor y_is twins.0.maker i then e.took x else 0)
            + number_is x y a b x_is y_is events notes twins.1 i)
            ∙ ap (λ (t : Bool). (if t then e.took x else 0) + length (taken_from a (noted_by b notes))) s.0
            ∙ omega arith
            ∙ ap (λ (ns : List (Noted I)). length (taken_from a ns)) (sym (own_else b n notes s.1))
      ]
