use Rattle.std.proofs.Common.{◌∙◌, arith, [], ◌≤◌, length}
use Rattle.lab_setup.proofs.Accepted.{few}
use Rattle.lab_answers.proofs.evenness.even.Goals as goal

pub note_peerings-requires-clause-few : goal.note_peerings-requires-clause-few
note_peerings-requires-clause-few c = let most : length c.args.input.now.peerings ≤ 32 = (few c.args.input.now c.requires).peerings in omega (arith, most)

pub returns : goal.returns
returns c = c.are_even.ensures ∙ (c.in_ok-note_peerings.ensures _ (c.in_ok-note_routers.ensures [] c.new-meds.ensures)).even
