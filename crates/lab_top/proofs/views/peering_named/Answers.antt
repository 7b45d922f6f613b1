use Rattle.std.proofs.Common.{rules, ◌≤◌, length, arith}
use Rattle.lab_setup.proofs.Accepted.{few}
use Rattle.lab_top.specs.Views.{is_peering}
use Rattle.lab_top.proofs.Numbers.{number_is_small}
use Rattle.lab_top.proofs.views.peering_named.Goals as goal

pub overflow_cast-result : goal.overflow_cast-result
overflow_cast-result c =
    let all = few c.args.input.now c.requires in
    let most = all.peerings in
    let small : length c.args.input.now.peerings ≤ 32 = omega (arith, most) in
    let below = number_is_small (is_peering c.as_str.result.now) _ c.args.input.now.peerings c.in-Some.number c.deref.ensures small c.in-Some.ensures in
    first_of (search (rules, below), omega (arith, below))
