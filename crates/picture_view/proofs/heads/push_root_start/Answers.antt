use Rattle.std.proofs.Common.{◌∙◌, string_bytes}
use Rattle.std.specs.Prelude.{codes, decimal}
use Rattle.picture_view.specs.Heads.{root_start}
use Rattle.picture_view.proofs.Pieces.{nine}
use Rattle.picture_view.proofs.heads.push_root_start.Goals as goal

pub returns : goal.returns
unfolding root_start
returns c =
    c.in_ok-write.ensures.bytes
    ∙ nine (string_bytes c.args.text.now) (codes "<svg xmlns='http://www.w3.org/2000/svg' width='") (decimal c.args.width) (codes "' height='")
    (decimal c.args.height) (codes "' viewBox='0 0 ") (decimal c.args.width) (codes " ") (decimal c.args.height) (codes "'>\n")
