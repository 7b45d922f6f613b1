use Rattle.std.proofs.Common.{◌≡◌, length, take, min, ap, ◌∙◌, arith}
use Rattle.std.proofs.lemmas.List.{take_min}
use Rattle.show_view.proofs.show.numbered.Goals as goal

pub returns : goal.returns
returns c =
    let list = c.args.peerings.now in
    let most : c.min.result ≡ min 256 (length list) = omega (arith, c.min.ensures) in
    ap (λ n. take n list) most ∙ take_min 256 list
