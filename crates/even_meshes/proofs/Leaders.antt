-- Who tells what where routers of an even mesh choose.
use Rattle.std.proofs.Common.{◌≡◌, ℕ, ◌==◌, Bool, true, false, not, ◌&&◌, ◌||◌, List, [], ◌∷◌, ◌++◌, refl, sym, ap, ◌∙◌, subst, arith, inl, inr}
use Rattle.std.specs.Prelude.{◌⊎◌, Option, Some, None, if◌then◌else◌}
use Rattle.std.specs.List.{list_any, AllByRecursion, fold}
use Rattle.std.proofs.lemmas.Bool.Decides.{nat_tests}
use Rattle.bgp_types.specs.declared.attrs.Route.{Route}
use Rattle.decision_core.specs.Search.{pick, best_by}
use Rattle.route_policy.specs.declared.best.Best.{Best}
use Rattle.route_policy.specs.Candidates.{Candidate}
use Rattle.route_policy.specs.Telling.{inside, tell_in}
use Rattle.even_meshes.specs.Meshes.{PrefixMesh, candidates_alone, decided, rank_anywhere, beats_before_med}
use Rattle.even_meshes.specs.Meshes.{beats_as, is_own_source, choice_alone, leader_route, IsEven}
use Rattle.even_meshes.proofs.Folds.{IfAny, all_append, all_imply, all_each, picks_all, picks_stay, picks_new, none_where, none_of}
use Rattle.even_meshes.proofs.Choices.{named, better, IsEvenBy, choice_even, best_by-append}
use Rattle.even_meshes.proofs.Bases.{IsBase, all_base, told_by, OfTold, heard, heard_all, hits, hit, heard_any, better_told}
use Rattle.even_meshes.proofs.Tops.{is_beaten_by, is_beaten, none_past, NoFirst, Top, top_of}

-- it is told to no other router
abbrev IsInner : Candidate → Type 0
IsInner c = inside c.0.from c.0.route ≡ None

tells_none : (o : Option Candidate) → IfAny IsInner o → tell_in (named o) ≡ None
tells_none None h = refl
tells_none (Some c) h = h

pub none_some : {X : Type 0} (x : X) → None ≡ Some x → ⊥
none_some x h = absurd cc

pub same_some : {X : Type 0} (x y : X) → Some x ≡ Some y → x ≡ y
same_some x y h = cc

-- ---- tests

and_false : (a c : Bool) → c ≡ false → (a && c) ≡ false
and_false a c e = grind (arith, e)

not_own : (a c : Bool) → a ≡ true → (not a && c) ≡ false
not_own a c e = rw e refl

true_false : (b : Bool) → b ≡ true → b ≡ false → ⊥
true_false b h k = absurd cc

both : (a c : Bool) → a ≡ true → c ≡ true → (a && c) ≡ true
both a c h k = rw (h, k) refl

not_false : (b : Bool) → b ≡ false → not b ≡ true
not_false b h = rw h refl

lead_false : (own beaten : Bool) (route : Route) → own ≡ false → beaten ≡ true → (if own || not beaten then Some route else None) ≡ None
lead_false own beaten route h k = rw (h, k) refl

lead_own : (own beaten : Bool) (route : Route) → own ≡ true → (if own || not beaten then Some route else None) ≡ Some route
lead_own own beaten route h = rw h refl

pub lead_first : (own beaten : Bool) (route : Route) → beaten ≡ false → (if own || not beaten then Some route else None) ≡ Some route
lead_first true beaten route h = refl
lead_first false beaten route h = rw h refl

module _ (m : PrefixMesh) (even : IsEven m) where
  abbrev first : ℕ → Option Candidate
  first r = best_by better (candidates_alone m r)

  -- whether one of these is better than what a router has
  abbrev some_better : Candidate → List Candidate → Bool
  some_better x cs = list_any (λ y. better y x) cs

  -- whether some router's first route beats this one
  abbrev pub beaten : Route → Bool
  beaten route = is_beaten m.home_as (choice_alone m) route m.routers

  abbrev beaten_by : Route → ℕ → Bool
  beaten_by route q = is_beaten_by m.home_as (choice_alone m) route q

  abbrev pub HasEvenBase : ℕ → Type 0
  HasEvenBase r = AllByRecursion (IsEvenBy even.med) (candidates_alone m r)

  -- the route's MED is that of its neighbour AS
  abbrev pub IsEvenRoute : Route → Type 0
  IsEvenRoute route = (rank_anywhere m.home_as route).med ≡ even.med (rank_anywhere m.home_as route).neighbour

  -- it is the router's first route
  abbrev pub IsFirst : ℕ → Route → Type 0
  IsFirst q route = (b : Best) × (choice_alone m q ≡ Some b) × (route ≡ b.route)

  pub even_base : (cs : List Candidate) → AllByRecursion (IsBase m.home_as) cs → AllByRecursion (IsEvenBy even.med) cs
      → AllByRecursion (λ c. IsEvenRoute c.0.route) cs
  even_base [] h k = tt
  even_base (c ∷ cs) h k = (sym h.0.med ∙ k.0 ∙ ap even.med h.0.neighbour, even_base cs h.1 k.1)

  first_is : (r : ℕ) → HasEvenBase r → choice_alone m r ≡ named (first r)
  first_is r s = choice_even even.med (candidates_alone m r) s

  first_at : (r : ℕ) → HasEvenBase r → (b : Best) → choice_alone m r ≡ Some b → (x : Candidate) × (first r ≡ Some x) × (x.0 ≡ b)
  first_at r s b e = by_first (first r) refl
    where
      by_first : (o : Option Candidate) → first r ≡ o → (x : Candidate) × (first r ≡ Some x) × (x.0 ≡ b)
      by_first None f = absurd (none_some b (ap named (sym f) ∙ sym (first_is r s) ∙ e))
      by_first (Some x) f = (x, f, same_some x.0 b (ap named (sym f) ∙ sym (first_is r s) ∙ e))

  base_at : (r : ℕ) (x : Candidate) → first r ≡ Some x → IsBase m.home_as x
  base_at r x e = subst (IfAny (IsBase m.home_as)) e (picks_all (IsBase m.home_as) better None (candidates_alone m r) tt (all_base m r))

  module _ (told : ℕ → Option Route) (best : ℕ → Option Best) where
    abbrev pub hears : ℕ → List Candidate
    hears r = heard m told r m.routers

    -- whether a router tells r a better one
    abbrev tells_better : ℕ → Candidate → ℕ → Bool
    tells_better r x q = hit (λ y. better y x) m told r q

    -- Its own routes are even, and it chooses between these and what is told.
    abbrev pub Decides : ℕ → Type 0
    Decides r = HasEvenBase r × (best r ≡ decided m told r)

    abbrev pub TellsEven : ℕ → Type 0
    TellsEven q = (route : Route) → told q ≡ Some route → IsEvenRoute route

    abbrev pub TellsFirst : ℕ → Type 0
    TellsFirst q = (route : Route) → told q ≡ Some route → IsFirst q route

    -- it tells its first route if no other one beats that
    abbrev pub TellsLeast : ℕ → Type 0
    TellsLeast q = (b : Best) → choice_alone m q ≡ Some b → beaten b.route ≡ false → told q ≡ Some b.route

    module _ (evenly : AllByRecursion TellsEven m.routers) where
      heard_even : (r : ℕ) → AllByRecursion (IsEvenBy even.med) (hears r)
      heard_even r = heard_all (IsEvenBy even.med) m told r m.routers
          (all_imply TellsEven (OfTold (IsEvenBy even.med) m told r) (λ q h route e. h route e) m.routers evenly)

      heard_inner : (r : ℕ) → AllByRecursion IsInner (hears r)
      heard_inner r = heard_all IsInner m told r m.routers (all_each (OfTold IsInner m told r) (λ q route e. refl) m.routers)

      best_is : (r : ℕ) → Decides r → (o : Option Candidate) → first r ≡ o → best r ≡ named (fold (pick better) o (hears r))
      best_is r s o e =
          s.1 ∙ choice_even even.med (candidates_alone m r ++ hears r) (all_append (IsEvenBy even.med) (candidates_alone m r) (hears r) s.0 (heard_even r))
          ∙ ap named (best_by-append (candidates_alone m r) (hears r)) ∙ ap (λ z. named (fold (pick better) z (hears r))) e

      -- nothing heard is better: the first is told
      tells_first : (r : ℕ) → Decides r → (x : Candidate) → first r ≡ Some x → some_better x (hears r) ≡ false → tell_in (best r) ≡ Some x.0.route
      tells_first r s x e h = ap tell_in (best_is r s (Some x) e ∙ ap named (picks_stay better x (hears r) h)) ∙ (base_at r x e).outer

      -- something heard is better: nothing is told
      tells_nothing : (r : ℕ) → Decides r → (x : Candidate) → first r ≡ Some x → some_better x (hears r) ≡ true → tell_in (best r) ≡ None
      tells_nothing r s x e h = ap tell_in (best_is r s (Some x) e)
          ∙ tells_none (fold (pick better) (Some x) (hears r)) (picks_new IsInner better x (hears r) (heard_inner r) h)

      no_first : (r : ℕ) → Decides r → first r ≡ None → tell_in (best r) ≡ None
      no_first r s e = ap tell_in (best_is r s None e)
          ∙ tells_none (fold (pick better) None (hears r)) (picks_all IsInner better None (hears r) tt (heard_inner r))

      -- what a router then tells is its first, or nothing
      pub first_or_nothing : (q : ℕ) → Decides q → (route : Route) → tell_in (best q) ≡ Some route → IsFirst q route
      first_or_nothing q s route e = by_first (first q) refl
        where
          by_first : (o : Option Candidate) → first q ≡ o → IsFirst q route
          by_first None f = absurd (none_some route (sym (no_first q s f) ∙ e))
          by_first (Some x) f = by_any (some_better x (hears q)) refl
            where
              by_any : (c : Bool) → some_better x (hears q) ≡ c → IsFirst q route
              by_any true a = absurd (none_some route (sym (tells_nothing q s x f a) ∙ e))
              by_any false a = (x.0, first_is q s.0 ∙ ap named f, same_some route x.0.route (sym e ∙ tells_first q s x f a))

      -- an own network is told, whatever is heard
      own_told : (r : ℕ) → Decides r → (x : Candidate) → first r ≡ Some x → is_own_source x.0.from ≡ true → tell_in (best r) ≡ Some x.0.route
      own_told r s x f own = tells_first r s x f (heard_any (λ y. better y x) m told r m.routers
          ∙ none_of (tells_better r x) m.routers (all_each (λ q. tells_better r x q ≡ false) (λ q. by_told q (told q)) m.routers))
        where
          by_told : (q : ℕ) (o : Option Route) → (not (q == r) && hits (λ y. better y x) m r q o) ≡ false
          by_told q None = and_false (not (q == r)) false refl
          by_told q (Some route) = and_false (not (q == r)) (better (told_by m r q route) x)
              (better_told m r q route x (base_at r x f) ∙ not_own x.1.own (beats_before_med m.home_as route x.0.route) ((base_at r x f).own ∙ own))

      module _ (firsts : AllByRecursion TellsFirst m.routers) where
        hit_false : (r q : ℕ) → TellsFirst q → (x : Candidate) → IsBase m.home_as x → beaten_by x.0.route q ≡ false → tells_better r x q ≡ false
        hit_false r q s x b h = and_false (not (q == r)) (hits (λ y. better y x) m r q (told q)) (by_told (told q) refl)
          where
            by_told : (o : Option Route) → told q ≡ o → hits (λ y. better y x) m r q o ≡ false
            by_told None e = refl
            by_told (Some route) e =
                let t = s route e in
                let trails : beats_before_med m.home_as route x.0.route ≡ false
                = ap (λ z. beats_before_med m.home_as z x.0.route) t.2 ∙ ap (λ o. beats_as m.home_as o x.0.route) (sym t.1) ∙ h in
                better_told m r q route x b ∙ and_false (not x.1.own) (beats_before_med m.home_as route x.0.route) trails

        -- a first that no first beats is told
        pub least_told : (r : ℕ) → Decides r → (b : Best) → choice_alone m r ≡ Some b → beaten b.route ≡ false → tell_in (best r) ≡ Some b.route
        least_told r s b e h =
            let x = first_at r s.0 b e in
            let least : beaten x.0.0.route ≡ false = ap (λ (z : Best). beaten z.route) x.2 ∙ h in
            let none = none_where (beaten_by x.0.0.route) (tells_better r x.0) m.routers
            (all_imply TellsFirst (λ q. beaten_by x.0.0.route q ≡ false → tells_better r x.0 q ≡ false)
            (λ q t k. hit_false r q t x.0 (base_at r x.0 x.1) k) m.routers firsts) least in
            tells_first r s x.0 x.1 (heard_any (λ y. better y x.0) m told r m.routers ∙ none) ∙ ap (λ (z : Best). Some z.route) x.2

        module _ (least : AllByRecursion TellsLeast m.routers) where
          -- one that another first beats isn't told: the one that none beats is, and is better
          beaten_untold : (r : ℕ) → Decides r → (x : Candidate) → first r ≡ Some x → choice_alone m r ≡ Some x.0 → is_own_source x.0.from ≡ false
              → beaten x.0.route ≡ true → tell_in (best r) ≡ None
          beaten_untold r s x f e own trails = by_top (top_of m.home_as (choice_alone m) TellsLeast m.routers least)
            where
              by_top : NoFirst m.home_as (choice_alone m) m.routers ⊎ Top m.home_as (choice_alone m) TellsLeast m.routers → tell_in (best r) ≡ None
              by_top (inl h) = absurd (true_false (beaten x.0.route) trails (h x.0.route))
              by_top (inr t) = tells_nothing r s x f (heard_any (λ y. better y x) m told r m.routers ∙ t.there (tells_better r x) better_there)
                where
                  tops_x : (c : Bool) → beats_before_med m.home_as t.best.route x.0.route ≡ c → beats_before_med m.home_as t.best.route x.0.route ≡ true
                  tops_x true k = k
                  tops_x false k = absurd (true_false (beaten x.0.route) trails
                      (none_past m.home_as (choice_alone m) t.best.route x.0.route m.routers k t.least))

                  hit_there : hits (λ y. better y x) m r t.router (told t.router) ≡ true
                  hit_there = ap (λ o. hits (λ y. better y x) m r t.router o) (t.holds t.best t.is t.least)
                      ∙ better_told m r t.router t.best.route x (base_at r x f)
                      ∙ both (not x.1.own) (beats_before_med m.home_as t.best.route x.0.route) (not_false x.1.own ((base_at r x f).own ∙ own))
                      (tops_x (beats_before_med m.home_as t.best.route x.0.route) refl)

                  apart : (c : Bool) → (t.router == r) ≡ c → not (t.router == r) ≡ true
                  apart false k = not_false (t.router == r) k
                  apart true k = absurd (true_false (beaten x.0.route) trails
                      (let same : t.router ≡ r = grind (arith, nat_tests, k) in
                      let one : t.best ≡ x.0 = same_some t.best x.0 (sym t.is ∙ ap (choice_alone m) same ∙ e) in
                      ap (λ (z : Best). beaten z.route) (sym one) ∙ t.least))

                  better_there : tells_better r x t.router ≡ true
                  better_there = both (not (t.router == r)) (hits (λ y. better y x) m r t.router (told t.router)) (apart (t.router == r) refl) hit_there

          leads_or_not : (r : ℕ) → Decides r → (x : Candidate) → first r ≡ Some x → choice_alone m r ≡ Some x.0
              → (own trails : Bool) → is_own_source x.0.from ≡ own → beaten x.0.route ≡ trails → tell_in (best r) ≡ leader_route m (Some x.0)
          leads_or_not r s x f e true trails own h =
              own_told r s x f own ∙ sym (lead_own (is_own_source x.0.from) (beaten x.0.route) x.0.route own)
          leads_or_not r s x f e false false own h =
              least_told r s x.0 e h ∙ sym (lead_first (is_own_source x.0.from) (beaten x.0.route) x.0.route h)
          leads_or_not r s x f e false true own h =
              beaten_untold r s x f e own h ∙ sym (lead_false (is_own_source x.0.from) (beaten x.0.route) x.0.route own h)

          -- a router tells its first where that leads, and else nothing
          pub tells_as_leader : (r : ℕ) → Decides r → tell_in (best r) ≡ leader_route m (choice_alone m r)
          tells_as_leader r s = by_first (first r) refl
            where
              by_first : (o : Option Candidate) → first r ≡ o → tell_in (best r) ≡ leader_route m (choice_alone m r)
              by_first None f = no_first r s f ∙ ap (leader_route m) (ap named (sym f) ∙ sym (first_is r s.0))
              by_first (Some x) f =
                  let e : choice_alone m r ≡ Some x.0 = first_is r s.0 ∙ ap named f in
                  leads_or_not r s x f e (is_own_source x.0.from) (beaten x.0.route) refl refl ∙ ap (leader_route m) (sym e)
