use Rattle.std.proofs.Common.{List, ap, subst, ◌∙◌}
use Rattle.std.specs.FinMap as map
use Rattle.bgp_types.specs.Prefixes.{PrefixValue}
use Rattle.bgp_types.specs.declared.rank.Rank.{Rank}
use Rattle.route_policy.specs.Candidates.{own_rank}
use Rattle.rib_stages.specs.Values.{set_of}
use Rattle.rib_stages.specs.Ranks.{HasOwnRanks}
use Rattle.rib_stages.proofs.Whole.{fresh_is, whole_fresh}
use Rattle.rib_stages.proofs.rib.Rib.new.Goals as goal

pub invariant_of-result : goal.invariant_of-result
invariant_of-result c =
    let choices = c.in_ok-own_choices.field-0 in
    whole_fresh (record {
      config = c.args.config;
      own_route = c.in_ok-own_route.field-0;
      networks = c.in_ok-set_from.field-0;
      peerings = c.in_ok-new.field-0;
      routers = c.in_ok-new-2.field-0;
      choices = choices;
    }) c.in_ok-new.ensures c.in_ok-new-2.ensures
    (c.in_ok-own_choices.ensures.loc ∙ ap (λ (ns : List PrefixValue). record { best = map.empty; dirty = set_of ns }) c.as_slice-networks.ensures)
    (subst (λ (ns : List PrefixValue). HasOwnRanks (own_rank c.args.config.home_as) ns choices.groups.contents) c.as_slice-networks.ensures
    (subst (λ (r : Rank). HasOwnRanks r c.as_slice-networks.result.now choices.groups.contents) c.own_rank.ensures c.in_ok-own_choices.ensures.ranks))
    (c.in_ok-set_from.ensures ∙ ap set_of c.as_slice-networks.ensures)
    c.in_ok-own_route.ensures

pub returns : goal.returns
returns c =
    fresh_is (record {
      config = c.args.config;
      own_route = c.in_ok-own_route.field-0;
      networks = c.in_ok-set_from.field-0;
      peerings = c.in_ok-new.field-0;
      routers = c.in_ok-new-2.field-0;
      choices = c.in_ok-own_choices.field-0;
    }) c.in_ok-new.ensures c.in_ok-new-2.ensures
    (c.in_ok-own_choices.ensures.loc ∙ ap (λ (ns : List PrefixValue). record { best = map.empty; dirty = set_of ns }) c.as_slice-networks.ensures)
