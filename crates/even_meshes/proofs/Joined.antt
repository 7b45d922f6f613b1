-- The equations of a world are those of its mesh.
use Rattle.std.proofs.Common.{◌≡◌, ℕ, zero, suc, ◌+◌, ◌<◌, sym, ap, ◌∙◌, subst, arith}
use Rattle.std.specs.Prelude.{Option}
use Rattle.std.specs.FinMap as map
use Rattle.std.specs.List.{AllByRecursion, range_with_len}
use Rattle.bgp_types.specs.Prefixes.{PrefixValue}
use Rattle.bgp_types.specs.declared.attrs.Route.{Route}
use Rattle.decision_core.specs.Choice.{choice}
use Rattle.route_policy.specs.declared.best.Best.{Best}
use Rattle.route_policy.specs.Candidates.{candidates}
use Rattle.route_policy.specs.Telling.{tell_in}
use Rattle.graft_model.specs.Setups.{Setup, routers_in, router_numbers}
use Rattle.graft_model.specs.Parts.{World}
use Rattle.graft_model.specs.Claims as claims
use Rattle.even_meshes.specs.Meshes.{tellers, decided, SolvesMesh, IsEven, solution}
use Rattle.even_meshes.specs.Worlds.{prefix_mesh}
use Rattle.even_meshes.proofs.Solutions.{one_solution}

-- what holds of each number of a range holds by recursion, and back
all_in : (P : ℕ → Type 0) (from n : ℕ) → ((r : ℕ) → r < from + n → P r) → AllByRecursion P (range_with_len from n)
all_in P from zero h = tt
all_in P from (suc n) h = (h from (omega arith), all_in P (from + 1) n (λ r l. h r (omega (arith, l))))

at_in : (P : ℕ → Type 0) (from n k : ℕ) → AllByRecursion P (range_with_len from n) → k < n → P (from + k)
at_in P from zero k h l = absurd (omega (arith, l))
at_in P from (suc n) zero h l = subst P (let e : from ≡ from + 0 = omega arith in e) h.0
at_in P from (suc n) (suc k) h l = subst P (let e : (from + 1) + k ≡ from + suc k = omega arith in e) (at_in P (from + 1) n k h.1 (omega (arith, l)))

all_routers : (setup : Setup) (P : ℕ → Type 0) → ((r : ℕ) → r < routers_in setup → P r) → AllByRecursion P (router_numbers setup)
all_routers setup P h = all_in P 0 (routers_in setup) (λ r l. h r (omega (arith, l)))

at_router : (setup : Setup) (P : ℕ → Type 0) (r : ℕ) → AllByRecursion P (router_numbers setup) → r < routers_in setup → P r
at_router setup P r h l = subst P (let e : 0 + r ≡ r = omega arith in e) (at_in P 0 (routers_in setup) r h l)

-- ---- worlds

module _ (setup : Setup) (prefix : PrefixValue) where
  abbrev best_in : World → ℕ → Option Best
  best_in w r = map.get (w.router r).best prefix

  abbrev told_in : World → ℕ → Option Route
  told_in w r = tell_in (best_in w r)

  pub settled : (w : World) (r : ℕ) → r < routers_in setup → claims.Solves setup w → IsEven (prefix_mesh setup w prefix)
      → best_in w r ≡ solution (prefix_mesh setup w prefix) r
  settled w r l s even = at_router setup (λ q. best_in w q ≡ solution (prefix_mesh setup w prefix) q) r
      (one_solution (prefix_mesh setup w prefix) (best_in w) even
      (all_routers setup (λ q. best_in w q ≡ decided (prefix_mesh setup w prefix) (told_in w) q) (λ q m. s.best q prefix m))) l

  -- the tables of one world solve the mesh of another one that has the same sessions
  solves_other : (w v : World) → claims.Solves setup v
      → ((r : ℕ) → r < routers_in setup → (prefix_mesh setup v prefix).sessions r ≡ (prefix_mesh setup w prefix).sessions r)
      → SolvesMesh (prefix_mesh setup w prefix) (best_in v)
  solves_other w v s same = all_routers setup (λ q. best_in v q ≡ decided (prefix_mesh setup w prefix) (told_in v) q) (λ q l. s.best q prefix l ∙ moved q l)
    where
      moved : (q : ℕ) → q < routers_in setup → decided (prefix_mesh setup v prefix) (told_in v) q ≡ decided (prefix_mesh setup w prefix) (told_in v) q
      moved q l = ap (λ sessions. choice (candidates setup.home_as prefix ((prefix_mesh setup w prefix).has_network q) sessions
          (tellers (prefix_mesh setup w prefix) (told_in v) q))) (same q l)

  pub equal_tables : (w v : World) → claims.Solves setup w → claims.Solves setup v → IsEven (prefix_mesh setup w prefix)
      → ((r : ℕ) → r < routers_in setup → (prefix_mesh setup v prefix).sessions r ≡ (prefix_mesh setup w prefix).sessions r)
      → (r : ℕ) → r < routers_in setup → best_in v r ≡ best_in w r
  equal_tables w v s t even same r l =
      at_router setup (λ q. best_in v q ≡ solution (prefix_mesh setup w prefix) q) r
      (one_solution (prefix_mesh setup w prefix) (best_in v) even (solves_other w v t same)) l
      ∙ sym (settled w r l s even)
