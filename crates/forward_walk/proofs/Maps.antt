-- The map of a list of entries, which are set from the last to the first, and the table of a router beyond the last.
use Rattle.std.proofs.Common.{ℕ, ◌≡◌, ◌≤◌, List, length, None, ap, ◌∙◌, subst}
use Rattle.std.specs.Prelude.{IsSome}
use Rattle.std.specs.FinMap.{empty, get, get-empty}
use Rattle.std.proofs.lemmas.List.{length-map, get_or_past}
use Rattle.bgp_types.specs.Prefixes.{PrefixValue}
use Rattle.bgp_types.specs.Tables.{prefix_cmp}
use Rattle.bgp_types.specs.declared.rank.From.{From}
use Rattle.graft_edge.specs.declared.ids.RouterId.{RouterId}
use Rattle.prefix_trie.specs.Table.{TableValue}
use Rattle.forward_walk.specs.Tables.{forward_map_of, tables_in}
use Rattle.forward_walk.specs.Walks.{HasNoEntryFor}

-- a router beyond the last table has no entry
pub none_past : (tries : List (TableValue From)) (at : RouterId) (address : ℕ) → length tries ≤ at.0
    → HasNoEntryFor (forward_map_of (tables_in tries) at) address
none_past tries at address past = record { none = λ p has _. let k = subst IsSome (nothing p) has in absurd cc } where
  nothing : (p : PrefixValue) → get (forward_map_of (tables_in tries) at) p ≡ None
  nothing p = ap (λ t. get t p) (get_or_past (tables_in tries) at.0 empty (rw length-map past)) ∙ get-empty prefix_cmp p
