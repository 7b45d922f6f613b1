use Rattle.std.proofs.Common.{◌≡◌, ◌<◌, rules, length, Some, None, sym, ap}
use Rattle.std.specs.Prelude.{is_some}
use Rattle.bgp_types.specs.OpenBody.{cap_at}
use Rattle.bgp_wire.specs.Caps.{cap_of}
use Rattle.bgp_wire.proofs.CapLaws.{goes_on, stops_short, ends}
use Rattle.bgp_wire.proofs.open.are_items.Goals as goal

pub returns-in_default : goal.returns-in_default
returns-in_default c =
    let e : cap_at c.loop-rest.rest.now ≡ None = search rules in
    let lt : 0 < length c.loop-rest.rest.now = search rules in
    sym (ap is_some (stops_short c.args.octets.now c.loop-rest.rest.now c.loop-rest.invariant e lt))

pub loop-rest-preserved : goal.loop-rest-preserved
loop-rest-preserved c =
    let e : cap_at c.loop-rest.rest.now ≡ Some (cap_of c.in-Some._item, c.in-Some.after.now) = search rules in
    goes_on c.args.octets.now c.loop-rest.rest.now (cap_of c.in-Some._item) c.in-Some.after.now c.loop-rest.invariant e

pub returns : goal.returns
returns c = sym (ap is_some (ends c.args.octets.now c.loop-rest.rest.now c.loop-rest.invariant (search rules)))
