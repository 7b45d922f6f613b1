use Rattle.rounds_worked.proofs.Answering.{router_answers_once}
use Rattle.rounds_worked.proofs.Fars.{answers_once}
use Rattle.rounds_worked.proofs.laws.one_answer_follows.Goals as goal

pub returns : goal.returns
returns c = record {
  router = router_answers_once;
  far_side = answers_once;
}
