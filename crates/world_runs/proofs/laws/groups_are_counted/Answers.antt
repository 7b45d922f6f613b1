use Rattle.world_runs.proofs.Groups.{groups_counted}
use Rattle.world_runs.proofs.Seen.{group_seen, nothing_open, act_goes}
use Rattle.world_runs.proofs.laws.groups_are_counted.Goals as goal

pub returns-clause-counted : goal.returns-clause-counted
returns-clause-counted g c = groups_counted

pub returns-clause-seen : goal.returns-clause-seen
returns-clause-seen g c = group_seen

pub returns-clause-nothing : goal.returns-clause-nothing
returns-clause-nothing g c = nothing_open

pub returns-clause-begins : goal.returns-clause-begins
returns-clause-begins g c = λ session. act_goes session
