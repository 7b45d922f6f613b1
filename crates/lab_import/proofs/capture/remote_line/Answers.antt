use Rattle.std.proofs.Common.{◌∙◌, ap, ◌∷◌, []}
use Rattle.std.specs.Prelude.{codes, decimal}
use Rattle.bgp_types.specs.Texts.{address_text}
use Rattle.lab_import.proofs.Pieces.{around}
use Rattle.lab_import.proofs.capture.remote_line.Goals as goal

pub returns : goal.returns
returns c =
    let remote = c.args.remote in
    c.from_vec.ensures ∙ ap (λ bytes. bytes.items) c.into_bytes.ensures.value ∙ c.in_ok-text.ensures.ok
    ∙ around (codes "bad capture: ") (address_text remote.address) (codes ":") (decimal remote.port) (codes " ") c.args.kind.now (codes " ")
    (decimal c.args.octet) (10 ∷ [])
