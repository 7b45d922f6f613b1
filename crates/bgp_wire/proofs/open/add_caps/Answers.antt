use Rattle.std.proofs.Common.{◌≡◌, ◌<◌, rules, length, Some, None, sym, ap, subst}
use Rattle.attr_codec.specs.Decoding.{Stops}
use Rattle.bgp_types.specs.OpenBody.{cap_at}
use Rattle.bgp_wire.specs.Caps.{cap_of, caps_fault}
use Rattle.bgp_wire.proofs.CapLaws.{adds_none, adds_one, added_all, stops_short}
use Rattle.bgp_wire.proofs.open.add_caps.Goals as goal

pub loop-rest-init : goal.loop-rest-init
loop-rest-init c = adds_none c.args.octets.now c.args.caps.now

pub returns-in_default-clause-fault : goal.returns-in_default-clause-fault
returns-in_default-clause-fault c =
    let e : cap_at c.loop-rest.rest.now ≡ None = search rules in
    let lt : 0 < length c.loop-rest.rest.now = search rules in
    subst (Stops c.fault.result) (sym (ap caps_fault (stops_short c.args.octets.now c.loop-rest.rest.now c.loop-rest.invariant.so_far e lt))) c.fault.ensures

pub loop-rest-preserved : goal.loop-rest-preserved
loop-rest-preserved c =
    let e : cap_at c.loop-rest.rest.now ≡ Some (cap_of c.in-Some.item, c.in-Some.after.now) = search rules in
    adds_one c.args.octets.now c.loop-rest.rest.now c.args.caps.now c.loop-rest.caps
    (cap_of c.in-Some.item) c.in-Some.after.now c.push.new.self c.loop-rest.invariant e (search rules)

pub returns-clause-fault : goal.returns-clause-fault
returns-clause-fault c = (added_all c.args.octets.now c.loop-rest.rest.now c.args.caps.now c.loop-rest.caps c.loop-rest.invariant (search rules)).1

pub returns-clause-added : goal.returns-clause-added
returns-clause-added c = (added_all c.args.octets.now c.loop-rest.rest.now c.args.caps.now c.loop-rest.caps c.loop-rest.invariant (search rules)).0
