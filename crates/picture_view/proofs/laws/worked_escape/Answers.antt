use Rattle.std.proofs.Common.{refl}
use Rattle.std.specs.Char.{encode_utf8}
use Rattle.std.specs.Str.{chars}
use Rattle.picture_view.specs.Elements.{escaped}
use Rattle.picture_view.proofs.laws.worked_escape.Goals as goal

pub returns : goal.returns
unfolding chars encode_utf8 escaped
returns c = refl
