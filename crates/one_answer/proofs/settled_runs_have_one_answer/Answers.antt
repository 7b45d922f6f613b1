use Rattle.one_answer.proofs.Joined.{one_answer}
use Rattle.one_answer.proofs.settled_runs_have_one_answer.Goals as goal

pub returns : goal.returns
returns c = λ setup w v ok timer reached other settled settled_other log even. one_answer setup w v ok timer reached other settled settled_other log even
