use Rattle.std.proofs.Common.{◌≡◌, rules, arith, eqb, true, false, Some, None, subst, sym}
use Rattle.std.proofs.lemmas.Bool.Decides.{nat_tests}
use Rattle.std.proofs.lemmas.Result.{err_from_is_err_and}
use Rattle.attr_codec.specs.Decoding.{Stops}
use Rattle.bgp_types.specs.OpenBody.{cap_at}
use Rattle.bgp_wire.specs.Caps.{cap_of}
use Rattle.bgp_wire.proofs.CapLaws.{reads_none, other_type, caps_fail, reads_one, reads_all}
use Rattle.bgp_wire.proofs.open.caps_in.Goals as goal

pub loop-param-init : goal.loop-param-init
loop-param-init c = reads_none c.args.params.now c.new-caps.result c.new-caps.ensures c.requires

pub returns-then-param-ne-CAPABILITIES : goal.returns-then-param-ne-CAPABILITIES
returns-then-param-ne-CAPABILITIES c =
    let e : cap_at c.loop-param.rest.now ≡ Some (cap_of c.in-Some.param, c.in-Some.after.now) = search rules in
    let t = c.if-param-ne-CAPABILITIES.true in
    let other : eqb c.in-Some.param.code 2 ≡ false = grind (arith, nat_tests) in
    subst (Stops c.fault.result) (sym (other_type c.args.params.now c.loop-param.rest.now c.loop-param.caps
    (cap_of c.in-Some.param) c.in-Some.after.now c.loop-param.invariant e other)) c.fault.ensures

pub returns-in_err-add_caps : goal.returns-in_err-add_caps
returns-in_err-add_caps c =
    let e : cap_at c.loop-param.rest.now ≡ Some (cap_of c.in-Some.param, c.in-Some.after.now) = search rules in
    let t = c.if-param-ne-CAPABILITIES.false in
    let caps : eqb c.in-Some.param.code 2 ≡ true = grind (arith, nat_tests) in
    let p = err_from_is_err_and c.from_residual.result c.from_residual.ensures.1 in
    rw (p.1, p.2) (caps_fail c.args.params.now c.loop-param.rest.now c.loop-param.caps
    (cap_of c.in-Some.param) c.in-Some.after.now c.in_err-add_caps.field-0.0 c.loop-param.invariant e caps c.in_err-add_caps.ensures.fault)

pub loop-param-preserved : goal.loop-param-preserved
loop-param-preserved c =
    let e : cap_at c.loop-param.rest.now ≡ Some (cap_of c.in-Some.param, c.in-Some.after.now) = search rules in
    let t = c.if-param-ne-CAPABILITIES.false in
    let caps : eqb c.in-Some.param.code 2 ≡ true = grind (arith, nat_tests) in
    reads_one c.args.params.now c.loop-param.rest.now c.loop-param.caps
    (cap_of c.in-Some.param) c.in-Some.after.now c.add_caps.new.caps c.loop-param.invariant e caps c.in_ok-add_caps.ensures.added

pub returns : goal.returns
returns c =
    let e : cap_at c.loop-param.rest.now ≡ None = search rules in
    reads_all c.args.params.now c.loop-param.rest.now c.loop-param.caps c.loop-param.invariant e
