use Rattle.std.proofs.Common.{◌≡◌, true, List, [], Some, sym, ap, ◌∙◌, subst}
use Rattle.std.specs.Prelude.{fold}
use Rattle.std.specs.List.{list_any}
use Rattle.bgp_types.specs.Prefixes.{PrefixValue, same_prefix}
use Rattle.bgp_story.specs.Readings.{Routes, announce, apply}
use Rattle.adj_rib.specs.Changes.{RoutesMoved, given_by_update}
use Rattle.adj_rib.proofs.Moves.{applied_some, applied_none, given_announced, starts, listed}
use Rattle.adj_rib.proofs.rib.AdjRib.apply.Goals as goal
use Rattle.adj_rib.proofs.rib.AdjRib.apply.Goals.{in-Some+in_ok-announce, in_default}

pub returns-clause-routes : goal.returns-clause-routes
returns-clause-routes c =
    let old = c.args.self.now in
    let u = c.args.update.now in
    let left : fold (announce u.attrs) c.withdraw_all.new.routes.contents u.nlri ≡ apply old u =
    c.in_ok-withdraw_all.ensures.routes ∙ ap (λ (r : Routes). apply r u) c.self.view_is in
    elim c.match-update.branch [
      | in-Some+in_ok-announce w ↦
          let end : w.announce.new.routes.contents ≡ fold (announce (Some w.in-Some.attrs)) c.withdraw_all.new.routes.contents u.nlri =
          w.in_ok-announce.ensures.routes ∙ ap (fold (announce (Some w.in-Some.attrs)) c.withdraw_all.new.routes.contents) w.as_slice.ensures in
          w.self-is ∙ applied_some old c.withdraw_all.new.routes.contents u left w.in-Some.attrs w.in-Some.is w.announce.new.routes.contents end
      | in_default w ↦ w.self-is ∙ applied_none old c.withdraw_all.new.routes.contents u left w.in_default.is
    ]

pub returns-clause-changed : goal.returns-clause-changed
returns-clause-changed c =
    let old = c.args.self.now in
    let u = c.args.update.now in
    let none : RoutesMoved (given_by_update u) old c.self.inside.routes.contents c.in_ok-changed.changed =
    subst (λ (ps : List PrefixValue). RoutesMoved (given_by_update u) old c.self.inside.routes.contents ps) (sym c.in_ok-changed.ensures)
    (subst (λ (r : Routes). RoutesMoved (given_by_update u) old r []) (sym c.self.view_is) (starts (given_by_update u) old)) in
    let withdrawn = c.in_ok-withdraw_all.ensures.changed old none in
    listed (given_by_update u) old c.match-update.self c.match-update.changed c.in_order.result
    (elim c.match-update.branch [
      | in-Some+in_ok-announce w ↦
          let gives : (p : PrefixValue) → list_any (same_prefix p) w.as_slice.result.now ≡ true → given_by_update u p ≡ Some w.in-Some.attrs =
          λ p e. given_announced u w.in-Some.attrs w.in-Some.is p (ap (list_any (same_prefix p)) (sym w.as_slice.ensures) ∙ e) in
          subst (λ (r : Routes). RoutesMoved (given_by_update u) old r c.match-update.changed) (sym w.self-is)
          (subst (λ (ps : List PrefixValue). RoutesMoved (given_by_update u) old w.announce.new.routes.contents ps)
          (sym w.changed-is) (w.in_ok-announce.ensures.changed old (given_by_update u) gives withdrawn))
      | in_default w ↦
          subst (λ (r : Routes). RoutesMoved (given_by_update u) old r c.match-update.changed) (sym w.self-is)
          (subst (λ (ps : List PrefixValue). RoutesMoved (given_by_update u) old c.withdraw_all.new.routes.contents ps) (sym w.changed-is) withdrawn)
    ])
    c.in_order.ensures.rising c.in_order.ensures.same
