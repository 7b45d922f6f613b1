use Rattle.std.proofs.Common.{◌≡◌, ◌≤◌, length, ap, arith}
use Rattle.lab_setup.proofs.Accepted.{few}
use Rattle.lab_answers.proofs.sureness.sure.Goals as goal

pub plain_peerings-requires : goal.plain_peerings-requires
plain_peerings-requires c =
    let most : length c.args.input.now.peerings ≤ 32 = (few c.args.input.now c.requires).peerings in
    let same : length c.deref-2.result.now ≡ length c.args.input.now.peerings = ap length c.deref-2.ensures in
    omega (arith, most, same)
