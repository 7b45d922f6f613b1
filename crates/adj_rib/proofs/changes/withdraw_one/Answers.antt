use Rattle.std.proofs.Common.{List, sym, ap, ◌∙◌, subst}
use Rattle.std.specs.Prelude.{is_some}
use Rattle.bgp_types.specs.Prefixes.{PrefixValue}
use Rattle.adj_rib.specs.Changes.{RoutesMoved}
use Rattle.adj_rib.proofs.Moves.{withdrawn, not_there}
use Rattle.adj_rib.proofs.changes.withdraw_one.Goals as goal

pub returns-in_ok-push-clause-changed : goal.returns-in_ok-push-clause-changed
returns-in_ok-push-clause-changed c = λ before to among m.
    let gone = sym among ∙ (sym c.is_among.ensures ∙ c.if-is_among.false) in
    let there = sym (c.is_some.ensures ∙ ap is_some c.remove.ensures.before) ∙ c.if-is_some.true in
    subst (λ (ps : List PrefixValue). RoutesMoved to before c.remove.new.self.contents ps) (sym c.in_ok-push.ensures.ok)
    (withdrawn to before c.args.routes.now.contents c.remove.new.self.contents c.args.changed.now m c.args.prefix c.remove.ensures.removed gone there)

pub returns-else-is_some-clause-changed : goal.returns-else-is_some-clause-changed
returns-else-is_some-clause-changed c = λ before to among m.
    let gone = sym among ∙ (sym c.is_among.ensures ∙ c.if-is_among.false) in
    let absent = sym (c.is_some.ensures ∙ ap is_some c.remove.ensures.before) ∙ c.if-is_some.false in
    not_there to before c.args.routes.now.contents c.remove.new.self.contents c.args.changed.now m c.args.prefix c.remove.ensures.removed gone absent
