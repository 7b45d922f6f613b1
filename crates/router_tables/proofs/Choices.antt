-- A router's choice is the laboratory's.
use Rattle.std.proofs.Common.{◌≡◌, ℕ, ◌≤◌, ◌++◌, false, option_map, ◌∙◌, filter_map}
use Rattle.std.specs.FinMap as map
use Rattle.std.specs.List.{range_with_len}
use Rattle.bgp_types.specs.Prefixes.{PrefixValue}
use Rattle.bgp_types.specs.declared.rank.From.TheVariants.{Router}
use Rattle.decision_core.specs.Choice.{choice}
use Rattle.route_policy.specs.Candidates.{own_candidates, entry_candidate, rank_of}
use Rattle.rib_stages.specs.Choosing.{NoneBehind, rib_choice}
use Rattle.rib_stages.specs.Values.{RibStore, rib_of}
use Rattle.rib_stages.proofs.Candidates.{chosen_among}
use Rattle.graft_model.specs.Decisions.{chosen}
use Rattle.graft_model.specs.Parts.{RouterPart}
use Rattle.graft_model.specs.Setups.{Setup, peerings_in, routers_in}
use Rattle.actor_configs.specs.Configs.{IsRibOf}

-- nothing stands behind the peerings and routers of the laboratory
pub chosen_here : (setup : Setup) (r : ℕ) (rib : RibStore) (part : RouterPart) (prefix : PrefixValue) → IsRibOf setup r rib.config
    → peerings_in setup ≤ 256 → routers_in setup ≤ 256 → NoneBehind (peerings_in setup) (routers_in setup) (rib_of rib) prefix
    → (rib_of rib).entries ≡ part.entries → (rib_of rib).tellings ≡ part.tellings → rib_choice (rib_of rib) prefix ≡ chosen setup r part prefix
chosen_here setup r rib part prefix is few_peerings few_routers behind entries tellings =
    chosen_among (rib_of rib) prefix (peerings_in setup) (routers_in setup) few_peerings few_routers behind
    ∙ (λ i. choice (
    own_candidates (is.home_as i) (is.networks prefix i)
    ++ filter_map (λ p. entry_candidate (is.home_as i) p (map.get (entries i p) prefix)) (range_with_len 0 (peerings_in setup))
    ++ filter_map (λ q. option_map (λ route. (
      record { from = Router (record { 0 = q }); route = route },
      rank_of (is.home_as i) false (is.costs q i) (is.identifiers q i) (is.identifiers q i) route,
    )) (map.get (tellings i q) prefix)) (range_with_len 0 (routers_in setup))))
