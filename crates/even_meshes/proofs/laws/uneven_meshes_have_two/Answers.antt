use Rattle.even_meshes.proofs.Crossed.{crossed_uneven, one_solves, other_solves, first_differs, second_differs}
use Rattle.even_meshes.proofs.laws.uneven_meshes_have_two.Goals as goal

pub returns : goal.returns
returns c = (crossed_uneven, one_solves, other_solves, first_differs, second_differs)
