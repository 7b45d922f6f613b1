-- Among the first routes of some routers there is one that no other one beats.
use Rattle.std.proofs.Common.{◌≡◌, ℕ, Bool, true, false, ◌||◌, List, [], ◌∷◌, refl, ap, ◌∙◌, inl, inr}
use Rattle.std.specs.Prelude.{◌⊎◌, Option, Some, None}
use Rattle.std.specs.List.{list_any, AllByRecursion}
use Rattle.std.specs.Cmp.{IsStrictWeakOrder}
use Rattle.bgp_types.specs.declared.attrs.Route.{Route}
use Rattle.decision_core.specs.Search.{leads}
use Rattle.decision_core.proofs.Filters.{IsStrictWeakOrder-on, irreflexive}
use Rattle.decision_core.proofs.NineRules.{leads_order}
use Rattle.route_policy.specs.declared.best.Best.{Best}
use Rattle.even_meshes.specs.Meshes.{rank_anywhere, beats_before_med, beats_as}
use Rattle.even_meshes.proofs.Folds.{all_each, neither, none_where}

beats_order : (home_as : ℕ) → IsStrictWeakOrder (beats_before_med home_as)
beats_order home_as = IsStrictWeakOrder-on (λ (route : Route). rank_anywhere home_as route) leads leads_order

or_left : (a b : Bool) → a ≡ true → (a || b) ≡ true
or_left a b h = rw h refl

or_right : (a b : Bool) → b ≡ true → (a || b) ≡ true
or_right true b h = refl
or_right false b h = h

module _ (home_as : ℕ) (First : ℕ → Option Best) where
  -- whether the first route of a router beats this one
  abbrev pub is_beaten_by : Route → ℕ → Bool
  is_beaten_by route q = beats_as home_as (First q) route

  abbrev pub is_beaten : Route → List ℕ → Bool
  is_beaten route qs = list_any (is_beaten_by route) qs

  abbrev pub NoFirst : List ℕ → Type 0
  NoFirst qs = (route : Route) → is_beaten route qs ≡ false

  -- what isn't beaten by a route isn't by one that this one doesn't trail
  pub not_past : (a b : Route) → beats_before_med home_as a b ≡ false → (o : Option Best) → beats_as home_as o a ≡ false → beats_as home_as o b ≡ false
  not_past a b h None k = refl
  not_past a b h (Some z) k = (beats_order home_as).chain z.route a b k h

  pub none_past : (a b : Route) (qs : List ℕ) → beats_before_med home_as a b ≡ false → is_beaten a qs ≡ false → is_beaten b qs ≡ false
  none_past a b qs h k = none_where (is_beaten_by a) (is_beaten_by b) qs
      (all_each (λ q. is_beaten_by a q ≡ false → is_beaten_by b q ≡ false) (λ q. not_past a b h (First q)) qs) k

  module _ (R : ℕ → Type 0) where
    -- a router of these, for which R holds, and whose first route is beaten by none
    pub record Top (qs : List ℕ) : Type 0 where
      pub router : ℕ
      pub best : Best
      pub is : First router ≡ Some best
      pub least : is_beaten best.route qs ≡ false
      pub holds : R router
      pub there : (t : ℕ → Bool) → t router ≡ true → list_any t qs ≡ true

    more_none : (q : ℕ) (qs : List ℕ) → First q ≡ None → NoFirst qs → NoFirst (q ∷ qs)
    more_none q qs e h route = neither (is_beaten_by route q) (is_beaten route qs) (ap (λ o. beats_as home_as o route) e) (h route)

    old_top : (q : ℕ) (qs : List ℕ) (t : Top qs) → is_beaten_by t.best.route q ≡ false → Top (q ∷ qs)
    old_top q qs t h = record {
      router = t.router;
      best = t.best;
      is = t.is;
      holds = t.holds;
      least = neither (is_beaten_by t.best.route q) (is_beaten t.best.route qs) h t.least;
      there = λ s e. or_right (s q) (list_any s qs) (t.there s e);
    }

    new_top : (q : ℕ) (qs : List ℕ) (b : Best) → First q ≡ Some b → R q → is_beaten b.route qs ≡ false → Top (q ∷ qs)
    new_top q qs b e r h = record {
      router = q;
      best = b;
      is = e;
      holds = r;
      least = neither (is_beaten_by b.route q) (is_beaten b.route qs)
          (ap (λ o. beats_as home_as o b.route) e ∙ irreflexive (beats_before_med home_as) (beats_order home_as) b.route) h;
      there = λ s e. or_left (s q) (list_any s qs) e;
    }

    by_beats : (q : ℕ) (qs : List ℕ) (b : Best) → First q ≡ Some b → R q → (t : Top qs) → (c : Bool) → beats_before_med home_as b.route t.best.route ≡ c
        → Top (q ∷ qs)
    by_beats q qs b e r t false k = old_top q qs t (ap (λ o. beats_as home_as o t.best.route) e ∙ k)
    by_beats q qs b e r t true k = new_top q qs b e r
        (none_past t.best.route b.route qs ((beats_order home_as).one_way b.route t.best.route k) t.least)

    by_first : (q : ℕ) (qs : List ℕ) (o : Option Best) → First q ≡ o → R q → NoFirst qs ⊎ Top qs → NoFirst (q ∷ qs) ⊎ Top (q ∷ qs)
    by_first q qs None e r (inl h) = inl (more_none q qs e h)
    by_first q qs None e r (inr t) = inr (old_top q qs t (ap (λ o. beats_as home_as o t.best.route) e))
    by_first q qs (Some b) e r (inl h) = inr (new_top q qs b e r (h b.route))
    by_first q qs (Some b) e r (inr t) = inr (by_beats q qs b e r t (beats_before_med home_as b.route t.best.route) refl)

    pub top_of : (qs : List ℕ) → AllByRecursion R qs → NoFirst qs ⊎ Top qs
    top_of [] h = inl (λ route. refl)
    top_of (q ∷ qs) h = by_first q qs (First q) refl h.0 (top_of qs h.1)
