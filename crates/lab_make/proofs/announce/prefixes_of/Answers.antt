use Rattle.std.proofs.Common.{◌≡◌, ℕ, ap, ◌∙◌, arith}
use Rattle.lab_make.specs.Made.{prefixes_below}
use Rattle.lab_make.proofs.Each.{prefixes_none, prefixes_step}
use Rattle.lab_make.proofs.announce.prefixes_of.Goals as goal

pub loop-i-init : goal.loop-i-init
loop-i-init c = c.new-prefixes.ensures ∙ prefixes_none c.args.shift c.args.j

pub loop-i-preserved : goal.loop-i-preserved
loop-i-preserved c = prefixes_step c.loop-i.i c.args.shift c.args.j _ _ c.loop-i.invariant c.in_ok-push_own.ensures

pub returns : goal.returns
returns c =
    let done : c.loop-i.i ≡ 2000 = omega arith in
    c.loop-i.invariant ∙ ap (λ (n : ℕ). prefixes_below n c.args.shift c.args.j) done
