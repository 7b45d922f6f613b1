use Rattle.std.proofs.Common.{◌≡◌, length, take, min, ap, ◌∙◌, arith}
use Rattle.std.proofs.lemmas.List.{take_min}
use Rattle.lab_report.proofs.traces.numbered.Goals as goal

pub returns : goal.returns
returns c =
    let routers = c.args.routers.now in
    let most : c.min.result ≡ min 256 (length routers) = omega (arith, c.min.ensures) in
    ap (λ n. take n routers) most ∙ take_min 256 routers
