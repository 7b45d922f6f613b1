use Rattle.std.proofs.Common.{◌≡◌, Option, sym, ap, subst, ◌∙◌}
use Rattle.std.specs.Prelude.{◌≢◌, MatchBool}
use Rattle.std.specs.FinMap as map
use Rattle.bgp_types.specs.declared.attrs.Route.{Route}
use Rattle.bgp_types.specs.declared.rank.From.{From}
use Rattle.bgp_types.specs.declared.rank.From.TheVariants.{Peering, Router}
use Rattle.route_policy.specs.declared.entry.Entry.{Entry}
use Rattle.rib_stages.specs.Values.{RibStore, rib_of, table_at}
use Rattle.rib_stages.specs.Steps.{SetsIn, IsOther, given}
use Rattle.rib_stages.proofs.Whole.{not_own-peering, not_own-router, set_or_other}
use Rattle.rib_stages.proofs.rib.Rib.is_set.Goals as goal

pub returns-in-Peering : goal.returns-in-Peering
returns-in-Peering c =
    let rib = rib_of c.args.self.now in
    let entry = c.args.entry.now in
    let same = c.is_same_entry.result in
    subst (λ (from : From). MatchBool same (SetsIn rib from entry rib) (IsOther rib from entry)) (sym c.in-Peering.is)
    (set_or_other rib (Peering c.in-Peering.p) entry same (not_own-peering c.in-Peering.p.0)
    (subst (λ (held : Option Entry). MatchBool same (given entry ≡ held) (given entry ≢ held))
    (c.get.ensures ∙ ap (λ (s : RibStore). map.get (table_at s.entries c.in-Peering.p.0) entry.prefix) c.self.view_is) c.is_same_entry.ensures))

pub returns-in-Router : goal.returns-in-Router
returns-in-Router c =
    let rib = rib_of c.args.self.now in
    let entry = c.args.entry.now in
    let same = c.is_same_route.result in
    subst (λ (from : From). MatchBool same (SetsIn rib from entry rib) (IsOther rib from entry)) (sym c.in-Router.is)
    (set_or_other rib (Router c.in-Router.q) entry same (not_own-router c.in-Router.q.0)
    (subst (λ (held : Option Route). MatchBool same (entry.route ≡ held) (entry.route ≢ held)) (c.get-in-Router.ensures
    ∙ ap (λ (s : RibStore). map.get (table_at s.tellings c.in-Router.q.0) entry.prefix) c.self.view_is) c.is_same_route.ensures))
