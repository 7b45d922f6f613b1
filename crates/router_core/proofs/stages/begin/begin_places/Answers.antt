use Rattle.std.proofs.Common.{List, sym, subst}
use Rattle.session_value.specs.declared.config.SessionConfig.{SessionConfig}
use Rattle.router_core.proofs.BeginSteps.{Begun, begun_first, begun_next, this_can, this_room, this_there, this_vacant}
use Rattle.router_core.proofs.stages.begin.begin_places.Goals as goal

pub loop-config-init : goal.loop-config-init
loop-config-init c =
    subst (λ (left : List SessionConfig). Begun c.args.count c.args.room c.args.sessions left c.in_ok-places.places) (sym c.into_vec-left.ensures)
    (begun_first c.args.count c.args.room c.args.sessions c.in_ok-places.places c.in_ok-places.ensures.places c.in_ok-places.ensures.room c.requires.room)

pub begin-requires : goal.begin-requires
begin-requires c = (this_can c.args.count c.args.room c.args.sessions c.loop-config.left.items c.pop.new.self.items
    c.loop-config.places c.in-Some.config c.requires.each c.loop-config.invariant c.in-Some.ensures.items).valid

pub put-requires-clause-there : goal.put-requires-clause-there
put-requires-clause-there c =
    this_there c.args.count c.args.room c.args.sessions c.loop-config.left.items c.pop.new.self.items c.loop-config.places c.in-Some.config
    c.requires.each c.loop-config.invariant c.in-Some.ensures.items c.remove.new.self c.from-place.result c.from-place.ensures c.remove.ensures.vacant

pub put-requires-clause-vacant : goal.put-requires-clause-vacant
put-requires-clause-vacant c =
    this_vacant c.args.count c.args.room c.args.sessions c.loop-config.left.items c.pop.new.self.items c.loop-config.places c.in-Some.config
    c.requires.each c.loop-config.invariant c.in-Some.ensures.items c.remove.new.self c.from-place.result c.from-place.ensures c.remove.ensures.vacant

pub put-requires-clause-room : goal.put-requires-clause-room
put-requires-clause-room c =
    this_room c.args.count c.args.room c.args.sessions c.loop-config.left.items c.pop.new.self.items c.loop-config.places c.in-Some.config
    c.requires.each c.loop-config.invariant c.in-Some.ensures.items c.remove.new.self c.from-place.result c.from-place.ensures c.remove.ensures.vacant

pub loop-config-preserved : goal.loop-config-preserved
loop-config-preserved c = begun_next c.args.count c.args.room c.args.sessions c.loop-config.left.items c.pop.new.self.items
    c.loop-config.places c.in-Some.config c.requires.each c.loop-config.invariant c.in-Some.ensures.items c.remove.new.self c.from-place.result
    c.from-place.ensures c.remove.ensures.vacant c.in_ok-session.session c.in_ok-session.ensures c.put.new.self c.put.ensures
