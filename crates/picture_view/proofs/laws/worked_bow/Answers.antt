use Rattle.std.proofs.Common.{refl}
use Rattle.std.specs.Fmt.{digits}
use Rattle.picture_view.specs.Elements.{path_start}
use Rattle.picture_view.specs.Shapes.{bow}
use Rattle.picture_view.proofs.laws.worked_bow.Goals as goal

pub returns : goal.returns
unfolding digits path_start bow
returns c = refl
