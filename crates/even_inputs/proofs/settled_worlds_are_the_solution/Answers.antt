use Rattle.one_answer.proofs.Gifts.{placed_same}
use Rattle.even_inputs.proofs.settled_worlds_are_the_solution.Goals as goal
use Rattle.even_inputs.proofs.Solved.{the_solution}
use Rattle.even_inputs.proofs.Timers.{no_timer}

pub returns : goal.returns
returns c setup w ok reached settled = record {
  placed = λ v other settled_other log. placed_same setup w v ok reached other settled settled_other log;
  solved = λ timer even. the_solution setup w ok (no_timer setup timer) reached settled even;
}
