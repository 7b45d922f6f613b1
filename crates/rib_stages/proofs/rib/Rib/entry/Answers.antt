use Rattle.std.proofs.Common.{◌≡◌, true, None, rules, sym, ap, subst, ◌∙◌}
use Rattle.std.specs.Prelude.{is_some, option_copied}
use Rattle.bgp_types.specs.declared.rank.From.TheVariants.{Own}
use Rattle.rib_stages.specs.Values.{RibStore, rib_of, tables_of}
use Rattle.rib_stages.specs.Choosing.{has_network, route_from}
use Rattle.rib_stages.specs.Ranks.{route_at}
use Rattle.rib_stages.proofs.Decided.{network_is, no_route, route_is}
use Rattle.rib_stages.proofs.Whole.{value_of}
use Rattle.rib_stages.proofs.rib.Rib.entry.Goals.{then-eq+in_ok-get, else-eq}
use Rattle.rib_stages.proofs.rib.Rib.entry.Goals as goal

pub returns-in_err-get : goal.returns-in_err-get
returns-in_err-get c =
    let i = c.self.inside in
    let is : c.args.from ≡ Own = search rules in
    let network = network_is (value_of i) i.choices.groups.contents i.networks.contents i.own_route c.self.invariant c.args.prefix in
    ap option_copied c.from_residual.ensures
    ∙ subst (λ (s : RibStore). None ≡ route_from (rib_of s) c.args.from c.args.prefix) c.self.view_is
    (no_route (value_of i) i.choices.groups.contents i.networks.contents i.own_route c.self.invariant c.args.from c.args.prefix is
    (sym network ∙ sym (ap is_some c.in_err-get.ensures)))

pub returns : goal.returns
returns c =
    let i = c.self.inside in
    let from = c.args.from in
    let prefix = c.args.prefix in
    let network = network_is (value_of i) i.choices.groups.contents i.networks.contents i.own_route c.self.invariant prefix in
    let there : from ≡ Own → has_network i.config prefix ≡ true =
    elim c.if-eq.branch [
      | then-eq+in_ok-get w ↦ λ is. sym network ∙ sym (ap is_some w.in_ok-get.ensures)
      | else-eq w ↦ λ is. absurd (search rules)
    ] in
    c.route_of.ensures
    ∙ subst (λ (s : RibStore). route_at i.own_route (tables_of i.peerings) (tables_of i.routers) from prefix ≡ route_from (rib_of s) from prefix) c.self.view_is
    (route_is (value_of i) i.choices.groups.contents i.networks.contents i.own_route c.self.invariant from prefix there)
