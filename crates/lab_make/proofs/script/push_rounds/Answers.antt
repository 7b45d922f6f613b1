use Rattle.std.proofs.Common.{◌≡◌, ℕ, ◌++◌, ap, ◌∙◌, arith, string_bytes}
use Rattle.lab_make.specs.Made.{each_below, graft_round}
use Rattle.lab_make.proofs.Each.{each_none, each_step}
use Rattle.lab_make.proofs.script.push_rounds.Goals as goal

pub loop-g-init : goal.loop-g-init
loop-g-init c = each_none (graft_round c.args.seed) (string_bytes c.args.text.now)

pub loop-g-preserved : goal.loop-g-preserved
loop-g-preserved c = each_step (graft_round c.args.seed) (string_bytes c.args.text.now) _ _ c.loop-g.g c.loop-g.invariant c.in_ok-push_round.ensures

pub returns : goal.returns
returns c =
    let done : c.loop-g.g ≡ 20 = omega arith in
    c.loop-g.invariant ∙ ap (λ (n : ℕ). string_bytes c.args.text.now ++ each_below (graft_round c.args.seed) n) done
