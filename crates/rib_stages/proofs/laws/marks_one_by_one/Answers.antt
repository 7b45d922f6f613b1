use Rattle.rib_stages.proofs.Marks.{marks_next}
use Rattle.rib_stages.proofs.laws.marks_one_by_one.Goals as goal

pub returns : goal.returns
returns g c = λ before marked after old now prefix value marks first one. marks_next before marked after old now prefix value marks first one
