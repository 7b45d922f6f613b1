use Rattle.std.proofs.Common.{◌≤◌, length, arith}
use Rattle.actor_rows.proofs.Configs.{is_config}
use Rattle.actor_rows.proofs.laboratory.far_side.Goals as goal

pub new-requires-2 : goal.new-requires-2
new-requires-2 c =
    let short : length c.in_ok-opening.opening ≤ 4096 = rw c.in_ok-opening.ensures (omega arith) in
    rw c.known_for-known.ensures (is_config c.in_ok-opening.opening c.in_ok-first.first c.in_ok-second.second
    c.in_ok-third.third c.in_ok-says.says c.in_ok-plan.plan short c.in_ok-says.ensures)
