use Rattle.std.proofs.Common.{◌≡◌, length, take, min, ap, ◌∙◌, arith}
use Rattle.std.proofs.lemmas.List.{take_min}
use Rattle.why_view.proofs.sources.numbered.Goals as goal

pub returns : goal.returns
returns g c =
    let list = c.args.list.now in
    let most : c.min.result ≡ min 256 (length list) = omega (arith, c.min.ensures) in
    ap (λ n. take n list) most ∙ take_min 256 list
