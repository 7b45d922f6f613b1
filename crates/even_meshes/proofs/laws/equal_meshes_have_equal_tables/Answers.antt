use Rattle.even_meshes.proofs.Joined.{equal_tables}
use Rattle.even_meshes.proofs.laws.equal_meshes_have_equal_tables.Goals as goal

pub returns : goal.returns
returns c = λ setup w v prefix. equal_tables setup prefix w v
