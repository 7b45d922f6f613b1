-- An even mesh has one solution.
use Rattle.std.proofs.Common.{◌≡◌, ℕ, Bool, true, false, ◌++◌, refl, sym, ap, ◌∙◌, subst}
use Rattle.std.specs.Prelude.{Option, Some, None, if◌then◌else◌}
use Rattle.std.specs.List.{AllByRecursion}
use Rattle.bgp_types.specs.declared.attrs.Route.{Route}
use Rattle.decision_core.specs.Choice.{choice}
use Rattle.route_policy.specs.declared.best.Best.{Best}
use Rattle.route_policy.specs.Candidates.{candidates}
use Rattle.route_policy.specs.Telling.{inside, tell_in}
use Rattle.even_meshes.specs.Meshes.{PrefixMesh, candidates_alone, decided, is_own_source, is_leader, choice_alone, leader_route, solution, IsEven, SolvesMesh}
use Rattle.even_meshes.proofs.Folds.{IfAny, all_append, all_imply, all_each, all_both}
use Rattle.even_meshes.proofs.Choices.{choice_all}
use Rattle.even_meshes.proofs.Bases.{IsBase, all_base, OfTold, heard_all, tellers_same}
use Rattle.even_meshes.proofs.Leaders.{none_some, same_some, lead_first, beaten, HasEvenBase, IsEvenRoute, IsFirst, even_base, hears}
use Rattle.even_meshes.proofs.Leaders.{Decides, TellsEven, TellsFirst, TellsLeast, first_or_nothing, least_told, tells_as_leader}

module _ (m : PrefixMesh) (even : IsEven m) where
  -- what a router chooses depends on the others only through what they tell
  decided_same : (told other : ℕ → Option Route) → AllByRecursion (λ q. told q ≡ other q) m.routers → (r : ℕ) → decided m told r ≡ decided m other r
  decided_same told other h r =
      ap (λ ts. choice (candidates m.home_as m.prefix (m.has_network r) (m.sessions r) ts)) (tellers_same m told other r m.routers h)

  -- ---- best routes that solve

  module _ (best : ℕ → Option Best) (solves : SolvesMesh m best) where
    abbrev told : ℕ → Option Route
    told q = tell_in (best q)

    abbrev Sound : ℕ → Type 0
    Sound r = Decides m even told best r

    sound : AllByRecursion Sound m.routers
    sound = all_both (HasEvenBase m even) (λ r. best r ≡ decided m told r) m.routers even.each solves

    -- what would be told of it is even
    abbrev WouldBeEven : Best → Type 0
    WouldBeEven b = (route : Route) → inside b.from b.route ≡ Some route → IsEvenRoute m even route

    would_be : (b : Best) → inside b.from b.route ≡ Some b.route → IsEvenRoute m even b.route → WouldBeEven b
    would_be b outer e route d = subst (IsEvenRoute m even) (same_some b.route route (sym outer ∙ d)) e

    base_would : (q : ℕ) → HasEvenBase m even q → AllByRecursion (λ c. WouldBeEven c.0) (candidates_alone m q)
    base_would q h = all_imply (λ c. IsBase m.home_as c × IsEvenRoute m even c.0.route)
        (λ c. WouldBeEven c.0) (λ c k. would_be c.0 k.0.outer k.1) (candidates_alone m q)
        (all_both (IsBase m.home_as) (λ c. IsEvenRoute m even c.0.route) (candidates_alone m q)
        (all_base m q) (even_base m even (candidates_alone m q) (all_base m q) h))

    hears_would : (q : ℕ) → AllByRecursion (λ c. WouldBeEven c.0) (hears m even told best q)
    hears_would q = heard_all (λ c. WouldBeEven c.0) m told q m.routers
        (all_each (OfTold (λ c. WouldBeEven c.0) m told q) (λ p route e other none. absurd (none_some other none)) m.routers)

    tells_even : (q : ℕ) → Sound q → TellsEven m even told best q
    tells_even q s route e = at_best (best q) refl
      where
        chosen : IfAny WouldBeEven (best q)
        chosen = subst (IfAny WouldBeEven) (sym s.1) (choice_all WouldBeEven (candidates_alone m q ++ hears m even told best q)
            (all_append (λ c. WouldBeEven c.0) (candidates_alone m q) (hears m even told best q) (base_would q s.0) (hears_would q)))

        at_best : (o : Option Best) → best q ≡ o → IsEvenRoute m even route
        at_best None b = absurd (none_some route (ap tell_in (sym b) ∙ e))
        at_best (Some x) b = (subst (IfAny WouldBeEven) b chosen) route (ap tell_in (sym b) ∙ e)

    evenly : AllByRecursion (TellsEven m even told best) m.routers
    evenly = all_imply Sound (TellsEven m even told best) tells_even m.routers sound

    firsts : AllByRecursion (TellsFirst m even told best) m.routers
    firsts = all_imply Sound (TellsFirst m even told best) (first_or_nothing m even told best evenly) m.routers sound

    least : AllByRecursion (TellsLeast m even told best) m.routers
    least = all_imply Sound (TellsLeast m even told best) (least_told m even told best evenly firsts) m.routers sound

    tell_as_leaders : AllByRecursion (λ r. tell_in (best r) ≡ leader_route m (choice_alone m r)) m.routers
    tell_as_leaders = all_imply Sound (λ r. tell_in (best r) ≡ leader_route m (choice_alone m r))
        (tells_as_leader m even told best evenly firsts least) m.routers sound

    are_solution : AllByRecursion (λ r. best r ≡ solution m r) m.routers
    are_solution = all_imply Sound (λ r. best r ≡ solution m r)
        (λ r s. s.1 ∙ decided_same told (λ q. leader_route m (choice_alone m q)) tell_as_leaders r) m.routers sound

  -- ---- the solution solves

  abbrev lead : ℕ → Option Route
  lead q = leader_route m (choice_alone m q)

  lead_first_route : (q : ℕ) → TellsFirst m even lead (solution m) q
  lead_first_route q route e = by_first (choice_alone m q) refl
    where
      by_first : (o : Option Best) → choice_alone m q ≡ o → IsFirst m even q route
      by_first None f = absurd (none_some route (ap (leader_route m) (sym f) ∙ e))
      by_first (Some b) f = by_lead (is_leader m b) (ap (leader_route m) (sym f) ∙ e)
        where
          by_lead : (c : Bool) → (if c then Some b.route else None) ≡ Some route → IsFirst m even q route
          by_lead true d = (b, f, same_some route b.route (sym d))
          by_lead false d = absurd (none_some route d)

  first_even : (q : ℕ) → HasEvenBase m even q → (b : Best) → choice_alone m q ≡ Some b → IsEvenRoute m even b.route
  first_even q h b e = subst (IfAny (λ (x : Best). IsEvenRoute m even x.route)) e
      (choice_all (λ x. IsEvenRoute m even x.route) (candidates_alone m q) (even_base m even (candidates_alone m q) (all_base m q) h))

  lead_even : (q : ℕ) → HasEvenBase m even q → TellsEven m even lead (solution m) q
  lead_even q h route e = let f = lead_first_route q route e in subst (IsEvenRoute m even) (sym f.2) (first_even q h f.0 f.1)

  lead_least : (q : ℕ) → TellsLeast m even lead (solution m) q
  lead_least q b e h = ap (leader_route m) e ∙ lead_first (is_own_source b.from) (beaten m even b.route) b.route h

  solution_tells : AllByRecursion (λ q. leader_route m (choice_alone m q) ≡ tell_in (solution m q)) m.routers
  solution_tells = all_imply (HasEvenBase m even) (λ q. lead q ≡ tell_in (solution m q))
      (λ q h. sym (tells_as_leader m even lead (solution m) (all_imply (HasEvenBase m even) (TellsEven m even lead (solution m)) lead_even m.routers even.each)
      (all_each (TellsFirst m even lead (solution m)) lead_first_route m.routers) (all_each (TellsLeast m even lead (solution m)) lead_least m.routers)
      q (h, refl))) m.routers even.each

  solution_solves : SolvesMesh m (solution m)
  solution_solves = all_each (λ r. solution m r ≡ decided m (λ q. tell_in (solution m q)) r)
      (decided_same lead (λ q. tell_in (solution m q)) solution_tells) m.routers

pub one_solution : (m : PrefixMesh) (best : ℕ → Option Best) → IsEven m → SolvesMesh m best → AllByRecursion (λ r. best r ≡ solution m r) m.routers
one_solution m best even solves = are_solution m even best solves

pub leaders_tell : (m : PrefixMesh) (best : ℕ → Option Best) → IsEven m → SolvesMesh m best
    → AllByRecursion (λ r. tell_in (best r) ≡ leader_route m (choice_alone m r)) m.routers
leaders_tell m best even solves = tell_as_leaders m even best solves

pub there_is_one : (m : PrefixMesh) → IsEven m → SolvesMesh m (solution m)
there_is_one m even = solution_solves m even
