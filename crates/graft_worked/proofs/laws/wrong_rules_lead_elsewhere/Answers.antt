use Rattle.graft_worked.proofs.Wrong.{kept_twice, begun_again, told_later}
use Rattle.graft_worked.proofs.laws.wrong_rules_lead_elsewhere.Goals as goal

pub returns : goal.returns
returns c = record { kept = kept_twice; begun_again = begun_again; forgotten = told_later }
