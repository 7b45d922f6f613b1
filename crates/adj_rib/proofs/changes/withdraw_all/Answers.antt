use Rattle.std.proofs.Common.{◌≡◌, List, ap, ◌∙◌}
use Rattle.std.specs.Prelude.{fold, is_some}
use Rattle.std.specs.List.{list_any}
use Rattle.bgp_types.specs.Prefixes.{PrefixValue, same_prefix}
use Rattle.adj_rib.specs.Changes.{given_by_update, withdraw_unless}
use Rattle.adj_rib.proofs.Moves.{all_but_announced, none_withdrawn}
use Rattle.adj_rib.proofs.changes.withdraw_all.Goals as goal

pub returns-then-is_empty-clause-routes : goal.returns-then-is_empty-clause-routes
returns-then-is_empty-clause-routes c = none_withdrawn c.args.routes.now.contents c.args.update.now (c.is_empty.ensures.0 c.if-is_empty.true)

pub returns-clause-routes : goal.returns-clause-routes
returns-clause-routes c =
    let old = c.args.routes.now.contents in
    let u = c.args.update.now in
    let listed = c.in_ok-announced.announced in
    let middle : c.withdraw.new.routes.contents ≡ fold (withdraw_unless listed) old u.withdrawn = c.in_ok-withdraw.ensures.routes
    ∙ (ap (fold (withdraw_unless c.as_slice-2.result.now) old) c.as_slice.ensures
    ∙ ap (λ (ps : List PrefixValue). fold (withdraw_unless ps) old u.withdrawn) c.as_slice-2.ensures) in
    all_but_announced old c.withdraw.new.routes.contents u listed c.in_ok-announced.ensures.given middle

pub returns-clause-changed : goal.returns-clause-changed
returns-clause-changed c =
    let u = c.args.update.now in
    let among : (p : PrefixValue) → list_any (same_prefix p) c.as_slice-2.result.now ≡ is_some (given_by_update u p) =
    λ p. ap (list_any (same_prefix p)) c.as_slice-2.ensures ∙ c.in_ok-announced.ensures.given p in
    λ before m. c.in_ok-withdraw.ensures.changed before (given_by_update u) among m
