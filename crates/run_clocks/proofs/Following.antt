-- The events of a run are clocked, if those of its net are.
use Rattle.std.proofs.Common.{◌≡◌, ◌<◌, ◌+◌, ℕ, max, Bool, true, List, [], ◌∷◌, ◌++◌, ◌==◌, if◌then◌else◌}
use Rattle.std.proofs.Common.{length, map, refl, ap, sym, subst, ◌∙◌, arith, inl, inr, append_assoc}
use Rattle.std.specs.Prelude.{◌⊎◌, Option, Some, None, slice_get, option_map}
use Rattle.std.proofs.lemmas.Bool.Decides.{nat_tests}
use Rattle.std.proofs.lemmas.Option.{slice_get-map}
use Rattle.std.proofs.lemmas.Grind.{flat_map-append}
use Rattle.std.proofs.lemmas.List.Elements.{filter-append}
use Rattle.ring_net.specs.declared.entry.Stamped.{Stamped}
use Rattle.ring_net.specs.Deeds.{Noted, met, puts, gets, from_option, sent_to, taken_from}
use Rattle.journal_merge.specs.Worlds.{taken_of}
use Rattle.journal_merge.specs.Growth.{noted_by}
use Rattle.journal_merge.proofs.Runs.{own_here}
use Rattle.graft_model.specs.Setups.{Setup, routers_in, peerings_in}
use Rattle.graft_actors.specs.Actors.{ActorName, Router, FarSide, Operator, number_in, IsActor, actor_at}
use Rattle.graft_actors.proofs.Numbers.{there}
use Rattle.world_runs.specs.Marks.{is_go}
use Rattle.run_clocks.specs.Clocks.{ClockedEvent, FollowsClocks, AreClocked, stamps_sent, number_taken, greatest, clock_behind}
use Rattle.run_clocks.proofs.Fronts.{Along, along_at, top, behind, IsTimed}
use Rattle.run_clocks.proofs.Supplies.{IsSupplied, taken_itself}
use Rattle.run_clocks.proofs.Twins.{Twin, AreTwins, Places, places, greatest_is, behind_is, stamps_are, number_is}

-- ---- lists

-- what stands behind a front that is shorter than another
pub at_seam : {X : Type 0} (xs ys us vs : List X) (x : X) → xs ++ ys ≡ us ++ x ∷ vs → length us < length xs → slice_get xs (length us) ≡ Some x
at_seam [] ys us vs x e l = absurd (omega (arith, l))
at_seam (z ∷ xs) ys [] vs x e l = cc
at_seam (z ∷ xs) ys (u ∷ us) vs x e l = let rest : xs ++ ys ≡ us ++ x ∷ vs = cc in at_seam xs ys us vs x rest (omega (arith, l))

known_or_not : (setup : Setup) (x : ActorName) → IsActor setup x ⊎ (IsActor setup x → ⊥)
known_or_not setup (Router r) = below_or_not r (routers_in setup)
  where
    below_or_not : (m n : ℕ) → (m < n) ⊎ (m < n → ⊥)
    below_or_not m n = grind arith
known_or_not setup (FarSide p) = below_or_not p (peerings_in setup)
  where
    below_or_not : (m n : ℕ) → (m < n) ⊎ (m < n → ⊥)
    below_or_not m n = grind arith
known_or_not setup Operator = inl tt

-- ---- the law

module _ {I : Type 0} (setup : Setup) (notes : List (Noted I)) where
  -- what was taken is the front of what was sent, or nothing was
  abbrev pub AreInOrder : Type 0
  AreInOrder = (a b : ℕ) → (taken_from a (noted_by b notes) ≡ []) ⊎ ((left : List (Stamped I)) ×
      (sent_to b (noted_by a notes) ≡ taken_from a (noted_by b notes) ++ left))

  module _ (front : List (Noted I)) (note : Noted I) (back : List (Noted I)) (whole : notes ≡ front ++ note ∷ back) where
    sent_parts : (a b : ℕ) → sent_to b (noted_by a notes) ≡ sent_to b (noted_by a front) ++ sent_to b (noted_by a (note ∷ back))
    sent_parts a b = ap (λ (ns : List (Noted I)). sent_to b (noted_by a ns)) whole
        ∙ ap (λ (ns : List (Noted I)). sent_to b ns) (filter-append (λ (n : Noted I). n.deed.entry.actor == a) front (note ∷ back))
        ∙ flat_map-append (puts b) (noted_by a front) (noted_by a (note ∷ back))

    gets_item : (a : ℕ) (item : I) → note.deed.taken ≡ Some (a, item) → gets a note ≡ record { stamp = record { 0 = note.stamp }; item = item } ∷ []
    gets_item a item e = ap (λ t. from_option a note.stamp t) e
        ∙ ap (λ (t : Bool). if t then record { stamp = record { 0 = note.stamp }; item = item } ∷ [] else []) (same a)
      where
        same : (n : ℕ) → (n == n) ≡ true
        same n = grind (arith, nat_tests)

    taken_parts : (a : ℕ) (item : I) → note.deed.taken ≡ Some (a, item)
        → taken_from a (noted_by note.deed.entry.actor notes) ≡ taken_from a
        (noted_by note.deed.entry.actor front) ++ record { stamp = record { 0 = note.stamp }; item = item } ∷ taken_from a
        (noted_by note.deed.entry.actor back)
    taken_parts a item e = ap (λ (ns : List (Noted I)). taken_from a (noted_by note.deed.entry.actor ns)) whole
        ∙ ap (λ (ns : List (Noted I)). taken_from a ns) (filter-append (λ (n : Noted I). n.deed.entry.actor == note.deed.entry.actor) front (note ∷ back))
        ∙ flat_map-append (gets a) (noted_by note.deed.entry.actor front) (noted_by note.deed.entry.actor (note ∷ back))
        ∙ ap (λ (ns : List (Noted I)). taken_from a (noted_by note.deed.entry.actor front) ++ taken_from a ns) (own_here note.deed.entry.actor note back refl)
        ∙ ap (λ (xs : List (Stamped I)). taken_from a (noted_by note.deed.entry.actor front) ++ (xs ++ taken_from a (noted_by note.deed.entry.actor back)))
        (gets_item a item e)

    -- the item that is taken is the next one that was sent
    next_sent : AreInOrder → (a : ℕ) (item : I) → note.deed.taken ≡ Some (a, item) → IsSupplied front note
        → slice_get (sent_to note.deed.entry.actor (noted_by a front)) (length (taken_from a (noted_by note.deed.entry.actor front))) ≡ Some
        (record { stamp = record { 0 = note.stamp }; item = item })
    next_sent in_order a item e supplied = elim (in_order a note.deed.entry.actor) [
      | inl none ↦ absurd (nothing (taken_from a (noted_by note.deed.entry.actor front)) (sym none ∙ taken_parts a item e))
      | inr some ↦ at_seam (sent_to note.deed.entry.actor (noted_by a front)) (sent_to note.deed.entry.actor (noted_by a (note ∷ back)))
          (taken_from a (noted_by note.deed.entry.actor front))
          (taken_from a (noted_by note.deed.entry.actor back) ++ some.0) (record { stamp = record { 0 = note.stamp }; item = item })
          (sym (sent_parts a note.deed.entry.actor) ∙ some.1 ∙ ap (λ (xs : List (Stamped I)). xs ++ some.0) (taken_parts a item e)
          ∙ append_assoc (taken_from a (noted_by note.deed.entry.actor front)) (record { stamp = record { 0 = note.stamp }; item = item } ∷ taken_from a
          (noted_by note.deed.entry.actor back)) some.0)
          (supplied a item e)
    ]
      where
        nothing : (xs : List (Stamped I)) → [] ≡ xs ++ record { stamp = record { 0 = note.stamp }; item = item } ∷ taken_from a
            (noted_by note.deed.entry.actor back) → ⊥
        nothing [] h = cc
        nothing (x ∷ xs) h = cc

    module _ (in_order : AreInOrder) (earlier : List ClockedEvent) (e : ClockedEvent) (fronts : AreTwins setup earlier front) (twin : Twin setup e note)
        (timed : IsTimed is_go front note) (supplied : IsSupplied front note) where
      -- the clock, with this stamp
      clock_is : (stamp : ℕ) → met (behind is_go note.deed.entry.actor front) note.stamp note.deed.taken ≡ max
          (behind is_go note.deed.entry.actor front) stamp
          → e.clock ≡ (if e.begins then greatest (map (λ (f : ClockedEvent). f.clock) earlier) else max (clock_behind e.maker earlier) stamp) + 1
      clock_is stamp m = twin.clock ∙ timed ∙ ap (λ c. (if is_go note.deed.entry then top is_go front else c) + 1) m
          ∙ sym (λ i. (if twin.begins i then greatest_is setup earlier front fronts i else max
          (behind_is setup e.maker note.deed.entry.actor twin.maker earlier front fronts i) stamp) + 1)

      takes_none : note.deed.taken ≡ None → FollowsClocks earlier e
      takes_none none = record {
        stamp = 0;
        is_stamp = inl (nothing, refl);
        is = clock_is 0
            (ap (λ t. met (behind is_go note.deed.entry.actor front) note.stamp t) none ∙ omega arith);
      }
        where
          nothing : (x : ActorName) → e.took x ≡ 0
          nothing x = elim (known_or_not setup x) [
            | inl known ↦ twin.took x (number_in setup x) (there setup x known) ∙ ap (λ t. length (taken_of (number_in setup x) t)) none
            | inr unknown ↦ twin.none x unknown
          ]

      takes_some : (a : ℕ) (item : I) → note.deed.taken ≡ Some (a, item) → FollowsClocks earlier e
      takes_some a item some = record {
        stamp = note.stamp;
        is_stamp = inr (x.0, took, stamped);
        is = clock_is note.stamp (ap (λ t. met (behind is_go note.deed.entry.actor front) note.stamp t) some);
      }
        where
          x : (name : ActorName) × (actor_at setup a ≡ Some name)
          x = twin.from a item some

          took : e.took x.0 ≡ 1
          took = twin.took x.0 a x.1 ∙ ap (λ t. length (taken_of a t)) some ∙ ap (λ (xs : List I). length xs) (taken_itself a item)

          stamped : slice_get (stamps_sent x.0 e.maker earlier) (number_taken x.0 e.maker earlier) ≡ Some note.stamp
          stamped = (λ i. slice_get (stamps_are setup x.0 e.maker a note.deed.entry.actor x.1 twin.maker earlier front fronts i)
              (number_is setup x.0 e.maker a note.deed.entry.actor x.1 twin.maker earlier front fronts i))
              ∙ slice_get-map (λ (s : Stamped I). s.stamp.0) (sent_to note.deed.entry.actor (noted_by a front))
              (length (taken_from a (noted_by note.deed.entry.actor front)))
              ∙ ap (λ (o : Option (Stamped I)). option_map (λ (s : Stamped I). s.stamp.0) o) (next_sent in_order a item some supplied)

      follows : FollowsClocks earlier e
      follows = by_case note.deed.taken refl
        where
          by_case : (t : Option (ℕ × I)) → note.deed.taken ≡ t → FollowsClocks earlier e
          by_case None h = takes_none h
          by_case (Some t) h = takes_some t.0 t.1 h

  pub all_follow : (events : List ClockedEvent) → AreTwins setup events notes → AreInOrder → Along (IsTimed is_go) [] notes → Along IsSupplied [] notes
      → AreClocked events
  all_follow events twins in_order timed supplied earlier later e is =
      let p : Places setup earlier later e notes =
      places setup earlier later e notes (subst (λ (all : List ClockedEvent). AreTwins setup all notes) is twins) in
      follows p.front p.note p.back p.whole in_order earlier e p.fronts p.twin
      (along_at (IsTimed is_go) [] p.front p.back p.note (subst (λ (ns : List (Noted I)). Along (IsTimed is_go) [] ns) p.whole timed))
      (along_at IsSupplied [] p.front p.back p.note (subst (λ (ns : List (Noted I)). Along IsSupplied [] ns) p.whole supplied))
