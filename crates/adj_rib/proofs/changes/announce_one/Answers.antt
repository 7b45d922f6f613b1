use Rattle.std.proofs.Common.{List, sym, ap, ◌∙◌, subst}
use Rattle.std.specs.FinMap as map
use Rattle.bgp_types.specs.Prefixes.{PrefixValue}
use Rattle.adj_rib.specs.Changes.{RoutesMoved}
use Rattle.adj_rib.proofs.Moves.{announced, had_it}
use Rattle.adj_rib.proofs.changes.announce_one.Goals as goal

pub returns-then-is_same-clause-routes : goal.returns-then-is_same-clause-routes
returns-then-is_same-clause-routes c = c.in-Ok.ensures.ok ∙ ap (map.insert c.args.routes.now.contents c.args.prefix) c.in_ok-copy.ensures

pub returns-then-is_same-clause-changed : goal.returns-then-is_same-clause-changed
returns-then-is_same-clause-changed c =
    let set = c.in-Ok.ensures.ok ∙ ap (map.insert c.args.routes.now.contents c.args.prefix) c.in_ok-copy.ensures in
    λ before to gives m.
    had_it to before c.args.routes.now.contents c.set.new.self.contents c.args.changed.now m c.args.prefix
    c.args.attrs.now set gives (sym c.in-Ok.ensures.before ∙ c.if-is_same.ensures)

pub returns-clause-routes : goal.returns-clause-routes
returns-clause-routes c = c.in-Ok.ensures.ok ∙ ap (map.insert c.args.routes.now.contents c.args.prefix) c.in_ok-copy.ensures

pub returns-clause-changed : goal.returns-clause-changed
returns-clause-changed c =
    let set = c.in-Ok.ensures.ok ∙ ap (map.insert c.args.routes.now.contents c.args.prefix) c.in_ok-copy.ensures in
    λ before to gives m.
    subst (λ (ps : List PrefixValue). RoutesMoved to before c.set.new.self.contents ps) (sym c.in_ok-push.ensures.ok)
    (announced to before c.args.routes.now.contents c.set.new.self.contents c.args.changed.now m c.args.prefix
    c.args.attrs.now set gives (λ e. c.if-is_same.ensures (c.in-Ok.ensures.before ∙ e)))
