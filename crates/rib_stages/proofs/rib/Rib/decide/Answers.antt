use Rattle.std.proofs.Common.{◌≡◌, Option, Some, None, sym, ap, subst, ◌∙◌}
use Rattle.std.specs.Prelude.{option_copied}
use Rattle.std.specs.FinMap as map
use Rattle.loc_rib.specs.Values.{DifferIf, LocValue, with_best}
use Rattle.route_policy.specs.declared.best.Best.{Best}
use Rattle.rib_stages.specs.Values.{RibStore, rib_of, contents_of, tables_of}
use Rattle.rib_stages.specs.Choosing.{rib_choice}
use Rattle.rib_stages.specs.Ranks.{route_at}
use Rattle.rib_stages.proofs.Decided.{chosen_none, chosen_some, route_is_there, not_absent}
use Rattle.rib_stages.proofs.Whole.{value_of, whole_decided, decided_is}
use Rattle.rib_stages.proofs.rib.Rib.decide.Goals as goal

pub invariant_of-self-in_default : goal.invariant_of-self-in_default
invariant_of-self-in_default c =
    let i = c.self.inside in
    let rib = value_of i in
    let none : rib_choice rib c.args.prefix ≡ None = chosen_none rib i.choices.groups.contents i.networks.contents i.own_route
    c.self.invariant c.args.prefix c.best_from.ensures.in_order c.best_from.result c.best_from.ensures.choice c.in_default.is in
    whole_decided i c.self.invariant c.args.prefix c.settle.new.self
    (decided_is i.choices.loc c.set.new.self c.settle.new.self c.args.prefix None
    (rib_choice rib c.args.prefix) c.in_ok-changed.ensures.ok c.settle.ensures none)

pub returns-in_default-clause-changed : goal.returns-in_default-clause-changed
returns-in_default-clause-changed c =
    let i = c.self.inside in
    let rib = value_of i in
    let none : rib_choice rib c.args.prefix ≡ None = chosen_none rib i.choices.groups.contents i.networks.contents i.own_route
    c.self.invariant c.args.prefix c.best_from.ensures.in_order c.best_from.result c.best_from.ensures.choice c.in_default.is in
    subst (λ (s : RibStore). DifferIf (rib_choice (rib_of s) c.args.prefix) (map.get s.best c.args.prefix) c.in_ok-changed.changed) c.self.view_is
    (subst (λ (b : Option Best). DifferIf b (map.get i.choices.loc.best c.args.prefix) c.in_ok-changed.changed) (sym none) c.in_ok-changed.ensures.changed)

pub returns-in_default-clause-ok : goal.returns-in_default-clause-ok
returns-in_default-clause-ok c =
    let i = c.self.inside in
    let rib = value_of i in
    let none : rib_choice rib c.args.prefix ≡ None = chosen_none rib i.choices.groups.contents i.networks.contents i.own_route
    c.self.invariant c.args.prefix c.best_from.ensures.in_order c.best_from.result c.best_from.ensures.choice c.in_default.is in
    subst (λ (s : RibStore). record {
      config = i.config;
      entries = contents_of i.peerings;
      tellings = contents_of i.routers;
      best = c.settle.new.self.best;
      dirty = c.settle.new.self.dirty;
    } ≡ record s { best = with_best s.best c.args.prefix (rib_choice (rib_of s) c.args.prefix); dirty = map.remove s.dirty c.args.prefix })
    c.self.view_is
    (ap (λ (l : LocValue). record { config = i.config; entries = contents_of i.peerings; tellings = contents_of i.routers; best = l.best; dirty = l.dirty })
    (decided_is i.choices.loc c.set.new.self c.settle.new.self c.args.prefix None
    (rib_choice rib c.args.prefix) c.in_ok-changed.ensures.ok c.settle.ensures none))

pub unreachable-requires : goal.unreachable-requires
unreachable-requires c =
    let i = c.self.inside in
    let rib = value_of i in
    not_absent (route_at i.own_route (tables_of i.peerings) (tables_of i.routers) c.in-Some.from c.args.prefix)
    (sym c.route_of.ensures ∙ ap option_copied c.in_default-route_of.is)
    (route_is_there rib i.choices.groups.contents i.networks.contents i.own_route c.self.invariant c.args.prefix
    c.best_from.ensures.in_order c.in-Some.from (sym c.best_from.ensures.choice ∙ c.in-Some.is))

pub invariant_of-self-2 : goal.invariant_of-self-2
invariant_of-self-2 c =
    let i = c.self.inside in
    let rib = value_of i in
    let best : Best = record { from = c.in-Some.from; route = c.in-Some-route_of.route.now } in
    let some : rib_choice rib c.args.prefix ≡ Some best = chosen_some rib i.choices.groups.contents i.networks.contents
    i.own_route c.self.invariant c.args.prefix c.best_from.ensures.in_order c.in-Some.from c.in-Some-route_of.route.now
    (sym c.best_from.ensures.choice ∙ c.in-Some.is) (sym c.route_of.ensures ∙ ap option_copied c.in-Some-route_of.is) in
    whole_decided i c.self.invariant c.args.prefix c.settle-2.new.self
    (decided_is i.choices.loc c.set_copy.new.self c.settle-2.new.self c.args.prefix (Some best)
    (rib_choice rib c.args.prefix) c.in_ok-changed-2.ensures.ok c.settle-2.ensures some)

pub returns-clause-changed : goal.returns-clause-changed
returns-clause-changed c =
    let i = c.self.inside in
    let rib = value_of i in
    let best : Best = record { from = c.in-Some.from; route = c.in-Some-route_of.route.now } in
    let some : rib_choice rib c.args.prefix ≡ Some best = chosen_some rib i.choices.groups.contents i.networks.contents
    i.own_route c.self.invariant c.args.prefix c.best_from.ensures.in_order c.in-Some.from c.in-Some-route_of.route.now
    (sym c.best_from.ensures.choice ∙ c.in-Some.is) (sym c.route_of.ensures ∙ ap option_copied c.in-Some-route_of.is) in
    subst (λ (s : RibStore). DifferIf (rib_choice (rib_of s) c.args.prefix) (map.get s.best c.args.prefix) c.in_ok-changed-2.changed) c.self.view_is
    (subst (λ (b : Option Best). DifferIf b (map.get i.choices.loc.best c.args.prefix) c.in_ok-changed-2.changed) (sym some) c.in_ok-changed-2.ensures.changed)

pub returns-clause-ok : goal.returns-clause-ok
returns-clause-ok c =
    let i = c.self.inside in
    let rib = value_of i in
    let best : Best = record { from = c.in-Some.from; route = c.in-Some-route_of.route.now } in
    let some : rib_choice rib c.args.prefix ≡ Some best = chosen_some rib i.choices.groups.contents i.networks.contents
    i.own_route c.self.invariant c.args.prefix c.best_from.ensures.in_order c.in-Some.from c.in-Some-route_of.route.now
    (sym c.best_from.ensures.choice ∙ c.in-Some.is) (sym c.route_of.ensures ∙ ap option_copied c.in-Some-route_of.is) in
    subst (λ (s : RibStore). record {
      config = i.config;
      entries = contents_of i.peerings;
      tellings = contents_of i.routers;
      best = c.settle-2.new.self.best;
      dirty = c.settle-2.new.self.dirty;
    } ≡ record s { best = with_best s.best c.args.prefix (rib_choice (rib_of s) c.args.prefix); dirty = map.remove s.dirty c.args.prefix })
    c.self.view_is
    (ap (λ (l : LocValue). record { config = i.config; entries = contents_of i.peerings; tellings = contents_of i.routers; best = l.best; dirty = l.dirty })
    (decided_is i.choices.loc c.set_copy.new.self c.settle-2.new.self c.args.prefix (Some best)
    (rib_choice rib c.args.prefix) c.in_ok-changed-2.ensures.ok c.settle-2.ensures some))
