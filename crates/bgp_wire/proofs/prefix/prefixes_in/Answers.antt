use Rattle.std.proofs.Common.{◌≡◌, ℕ, ◌<◌, List, rules, length, Some, None, sym, subst}
use Rattle.bgp_types.specs.Prefixes.{put_once}
use Rattle.bgp_wire.specs.Fields.{front_said}
use Rattle.bgp_wire.proofs.PrefixLaws.{Reading, goes_on, stops, ends}
use Rattle.bgp_wire.proofs.prefix.prefixes_in.Goals as goal

pub returns-in_default : goal.returns-in_default
returns-in_default c =
    let e : front_said c.loop-rest.rest.now ≡ None = search rules in
    let lt : 0 < length c.loop-rest.rest.now = search rules in
    sym (stops c.args.field.now c.loop-rest.rest.now c.loop-rest.prefixes c.loop-rest.invariant.so_far e lt)

pub returns : goal.returns
returns c = sym (ends c.args.field.now c.loop-rest.rest.now c.loop-rest.prefixes c.loop-rest.invariant.so_far (search rules))

pub loop-rest-preserved : goal.loop-rest-preserved
loop-rest-preserved c =
    let e : front_said c.loop-rest.rest.now ≡ Some (c.in-Some.prefix, c.in-Some.after.now) = search rules in
    let p : c.put_once.new.list ≡ put_once c.loop-rest.prefixes c.in-Some.prefix = search rules in
    let s : Reading c.args.field.now c.in-Some.after.now c.put_once.new.list = goes_on c.args.field.now c.loop-rest.rest.now
    c.loop-rest.prefixes c.in-Some.prefix c.in-Some.after.now c.put_once.new.list c.loop-rest.invariant.so_far e p in
    record { set = search rules; so_far = subst (λ (left : List ℕ). Reading c.args.field.now left c.put_once.new.list) (search rules) s }
