use Rattle.even_meshes.proofs.Solutions.{one_solution, there_is_one, leaders_tell}
use Rattle.even_meshes.proofs.laws.even_meshes_have_one_solution.Goals as goal

pub returns-clause-only : goal.returns-clause-only
returns-clause-only c = one_solution

pub returns-clause-solves : goal.returns-clause-solves
returns-clause-solves c = there_is_one

pub returns-clause-leaders : goal.returns-clause-leaders
returns-clause-leaders c = leaders_tell
