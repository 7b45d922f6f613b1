use Rattle.std.proofs.Common.{◌≡◌, ◌≤◌, length, sym, ap, ◌∙◌, arith}
use Rattle.std.specs.Prelude.{Some, slice_get}
use Rattle.graft_model.specs.Setups.{peerings_in}
use Rattle.lab_tables.specs.declared.input.PeeringInput.{PeeringInput}
use Rattle.lab_setup.specs.Setups.{setup_of, peering_setup}
use Rattle.lab_setup.proofs.Accepted.{few}
use Rattle.lab_setup.proofs.Ready.{as_many_peerings}
use Rattle.lab_setup.proofs.Setups.{peering_there}
use Rattle.even_inputs.specs.Timers.{has_no_timer_on}
use Rattle.lab_answers.proofs.Tested.{item_at, all_next, all_fail, all_done}
use Rattle.lab_answers.proofs.sureness.has_no_timer.Goals as goal

-- there are few enough for a number of 8 bits
pub overflow_cast-i : goal.overflow_cast-i
overflow_cast-i c =
    let many : length c.deref-peering-items.result.now ≡ length c.args.input.now.peerings = ap length c.deref-peering-items.ensures in
    let most : length c.args.input.now.peerings ≤ 32 = (few c.args.input.now c.requires).peerings in
    omega (arith, c.loop-i-test.true, many, most)

pub has_no_timer_on-requires-clause-there : goal.has_no_timer_on-requires-clause-there
has_no_timer_on-requires-clause-there c =
    item_at c.args.input.now.peerings c.deref-peering-items.result.now c.loop-i.i c.peering-item.result c.deref-peering-items.ensures
    (omega (arith, c.loop-i-test.true)) c.peering-item.is

pub returns-then-not-branch : goal.returns-then-not-branch
returns-then-not-branch c =
    let x : PeeringInput = c.peering-item.result in
    let there : slice_get c.args.input.now.peerings c.loop-i.i ≡ Some x
    = item_at c.args.input.now.peerings c.deref-peering-items.result.now c.loop-i.i x c.deref-peering-items.ensures
    (omega (arith, c.loop-i-test.true)) c.peering-item.is in
    sym (all_fail (has_no_timer_on (setup_of c.args.input.now)) (setup_of c.args.input.now).peerings c.loop-i.i (peering_setup c.args.input.now (c.loop-i.i, x))
    (peering_there c.args.input.now c.loop-i.i x there) (sym c.in_ok-has_no_timer_on.ensures ∙ c.if-not-branch.true))
    ∙ c.loop-i.invariant

pub loop-i-preserved : goal.loop-i-preserved
loop-i-preserved c =
    let x : PeeringInput = c.peering-item.result in
    let there : slice_get c.args.input.now.peerings c.loop-i.i ≡ Some x
    = item_at c.args.input.now.peerings c.deref-peering-items.result.now c.loop-i.i x c.deref-peering-items.ensures
    (omega (arith, c.loop-i-test.true)) c.peering-item.is in
    sym (all_next (has_no_timer_on (setup_of c.args.input.now)) (setup_of c.args.input.now).peerings c.loop-i.i (peering_setup c.args.input.now (c.loop-i.i, x))
    (peering_there c.args.input.now c.loop-i.i x there) (sym c.in_ok-has_no_timer_on.ensures ∙ c.if-not-branch.false))
    ∙ c.loop-i.invariant

pub returns : goal.returns
returns c =
    let many : length c.deref-peering-items.result.now ≡ length c.args.input.now.peerings = ap length c.deref-peering-items.ensures in
    let same : peerings_in (setup_of c.args.input.now) ≡ length c.args.input.now.peerings = as_many_peerings c.args.input.now in
    let past : peerings_in (setup_of c.args.input.now) ≤ c.loop-i.i = omega (arith, c.loop-i-test.false, many, same) in
    sym (all_done (has_no_timer_on (setup_of c.args.input.now)) (setup_of c.args.input.now).peerings c.loop-i.i past) ∙ c.loop-i.invariant
