use Rattle.std.proofs.Common.{◌∙◌, string_bytes}
use Rattle.std.specs.Prelude.{codes, decimal}
use Rattle.picture_view.specs.Axes.{rectangle}
use Rattle.picture_view.proofs.Pieces.{eleven}
use Rattle.picture_view.proofs.axes.push_rectangle.Goals as goal

pub returns : goal.returns
unfolding rectangle
returns c =
    c.in_ok-write.ensures.bytes
    ∙ eleven (string_bytes c.args.text.now) (codes "<rect class='") c.args.class.now (codes "' x='") (decimal c.args.x) (codes "' y='") (decimal c.args.y)
    (codes "' width='") (decimal c.args.width) (codes "' height='") (decimal c.args.height) (codes "' rx='4'/>\n")
