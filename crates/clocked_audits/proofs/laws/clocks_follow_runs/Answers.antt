use Rattle.clocked_audits.proofs.First.{begins}
use Rattle.clocked_audits.proofs.Deciding.{decides}
use Rattle.clocked_audits.proofs.Passing.{passes, levels}
use Rattle.clocked_audits.proofs.laws.clocks_follow_runs.Goals as goal

pub returns-clause-begin : goal.returns-clause-begin
returns-clause-begin c = begins

pub returns-clause-decide : goal.returns-clause-decide
returns-clause-decide c = decides

pub returns-clause-pass : goal.returns-clause-pass
returns-clause-pass c = passes

pub returns-clause-level : goal.returns-clause-level
returns-clause-level c = levels
