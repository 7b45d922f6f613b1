-- The best routes that a lab shows forward as those of the world that it is seen of.
use Rattle.std.proofs.Common.{◌≡◌, ℕ, ◌<◌, true, false, cond, List, [], ◌∷◌, map, Some, refl, sym, ap, ◌∙◌, subst}
use Rattle.std.specs.Prelude.{option_map}
use Rattle.std.specs.FinMap.{entries, find, from_entries, get-entries, get-from_entries, same_map}
use Rattle.std.specs.Ordering.{eq_by_cmp}
use Rattle.graft_edge.specs.declared.ids.PeeringId.{PeeringId}
use Rattle.graft_edge.specs.declared.ids.RouterId.{RouterId}
use Rattle.bgp_types.specs.Prefixes.{PrefixValue}
use Rattle.bgp_types.specs.Tables.{prefix_cmp}
use Rattle.bgp_types.proofs.TableLaws.{prefix_total, exact_prefixes}
use Rattle.bgp_types.specs.declared.rank.From.{From}
use Rattle.forward_laws.proofs.Seen.{each_get}
use Rattle.route_policy.specs.declared.best.Best.{Best}
use Rattle.session_value.specs.Sets.{BestRoutes}
use Rattle.forward_walk.specs.Solved.{TwoRoutersAtMost}
use Rattle.forward_walk.specs.Tables.{ForwardMap}
use Rattle.forward_walk.specs.Walks.{WalksTo}
use Rattle.forward_walk.specs.declared.walk.Walk.{Walk}
use Rattle.forward_walk.specs.declared.walk.Walk.TheVariants.{Leaves}
use Rattle.forward_laws.specs.Forwards.{AllTransparent, forward_maps, froms_of}
use Rattle.graft_model.specs.Claims.{Solves}
use Rattle.graft_model.specs.OperatorRows.{placement}
use Rattle.graft_model.specs.Parts.{World}
use Rattle.graft_model.specs.Setups.{Setup, IsSetup, router_numbers, routers_in}
use Rattle.lab_report.specs.Traces.{forwards_of, forward_maps_of}
use Rattle.lab_report.specs.declared.lab.BestEntry.{BestEntry}
use Rattle.lab_report.specs.declared.lab.Lab.{Lab}
use Rattle.lab_report.specs.declared.lab.RouterTable.{RouterTable}
use Rattle.lab_seen.specs.Seen.{Observed, best_entry, router_table_of}
use Rattle.lab_run.specs.Forwards.{Forwards}

-- ---- the maps

abbrev pair : BestEntry → PrefixValue × From
pair b = (b.prefix, b.from)

found : (q : PrefixValue) (es : List (PrefixValue × Best)) → find prefix_cmp q (map pair (map best_entry es)) ≡ option_map (λ b. b.from) (find prefix_cmp q es)
found q [] = refl
found q (e ∷ es) = elim (eq_by_cmp prefix_cmp q e.0) as (λ b. cond b (Some e.1.from) (find prefix_cmp q (map pair (map best_entry es)))
    ≡ option_map (λ x. x.from) (cond b (Some e.1) (find prefix_cmp q es))) [
      | true ↦ refl
      | false ↦ found q es
    ]

froms_are : (best : BestRoutes) → from_entries (map pair (map best_entry (entries best))) ≡ froms_of best
froms_are best = same_map prefix_total exact_prefixes _ _ (λ q.
    get-from_entries prefix_total (map pair (map best_entry (entries best))) q
    ∙ (found q (entries best)
    ∙ (ap (option_map (λ b. b.from)) (sym (get-entries best q))
    ∙ sym (each_get (λ (b : Best). b.from) best q))))

module _ (setup : Setup) (w : World) where
  shown : (numbers : List ℕ) → map forwards_of (map (λ r. router_table_of setup (w.router r)) numbers) ≡ map (λ r. froms_of (w.router r).best) numbers
  shown [] = refl
  shown (r ∷ numbers) =
      ap (λ (m : ForwardMap). m ∷ map forwards_of (map (λ n. router_table_of setup (w.router n)) numbers)) (froms_are (w.router r).best)
      ∙ ap (λ (ms : List ForwardMap). froms_of (w.router r).best ∷ ms) (shown numbers)

  pub maps_are : (lab : Lab) → Observed setup w lab → forward_maps_of lab ≡ forward_maps setup w
  maps_are lab observed = ap (λ (ts : List RouterTable). map forwards_of ts) observed.tables ∙ shown (router_numbers setup)

-- ---- walks

abbrev pub WalksAreShort : Type 0
WalksAreShort = (setup : Setup) (w : World) (address : ℕ) (from : RouterId) (walk : Walk) → IsSetup setup → Solves setup w → from.0 < routers_in setup
    → WalksTo (forward_maps setup w) address [] from walk → TwoRoutersAtMost (forward_maps setup w) address from walk

abbrev pub WalksLeaveThere : Type 0
WalksLeaveThere = (setup : Setup) (w : World) (address : ℕ) (from r : RouterId) (p : PeeringId) (prefix : PrefixValue)
    → IsSetup setup → Solves setup w → AllTransparent setup w → from.0 < routers_in setup
    → WalksTo (forward_maps setup w) address [] from (Leaves r p prefix) → r.0 ≡ placement setup w.operator p.0

pub forwards_as_solved : WalksAreShort → WalksLeaveThere → (setup : Setup) (w : World) (lab : Lab) → IsSetup setup → Solves setup w
    → AllTransparent setup w → Observed setup w lab → Forwards lab setup w
forwards_as_solved short leave setup w lab sound solves transparent observed address from walk there walks = record {
  two = subst (λ (ms : List ForwardMap). TwoRoutersAtMost ms address from walk) (sym same) (short setup w address from walk sound solves there here);
  leaves = λ r p prefix is. leave setup w address from r p prefix sound solves transparent there
      (subst (λ (end : Walk). WalksTo (forward_maps setup w) address [] from end) is here);
}
  where
    same : forward_maps_of lab ≡ forward_maps setup w
    same = maps_are setup w lab observed

    here : WalksTo (forward_maps setup w) address [] from walk
    here = subst (λ (ms : List ForwardMap). WalksTo ms address [] from walk) same walks
