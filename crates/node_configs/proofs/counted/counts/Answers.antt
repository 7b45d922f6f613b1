use Rattle.std.proofs.Common.{◌≤◌, length, arith}
use Rattle.node_configs.proofs.Accepted.{few}
use Rattle.node_configs.proofs.counted.counts.Goals as goal

pub overflow_cast-routers : goal.overflow_cast-routers
overflow_cast-routers c =
    let most : length c.args.input.now.routers ≤ 8 = (few c.args.input.now c.requires).routers in omega (arith, most, c.len-routers.ensures)

pub overflow_cast-peerings : goal.overflow_cast-peerings
overflow_cast-peerings c =
    let most : length c.args.input.now.peerings ≤ 32 = (few c.args.input.now c.requires).peerings in omega (arith, most, c.len-peerings.ensures)
