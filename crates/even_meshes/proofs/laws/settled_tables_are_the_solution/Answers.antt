use Rattle.even_meshes.proofs.Joined.{settled}
use Rattle.even_meshes.proofs.laws.settled_tables_are_the_solution.Goals as goal

pub returns : goal.returns
returns c = λ setup w prefix r. settled setup prefix w r
