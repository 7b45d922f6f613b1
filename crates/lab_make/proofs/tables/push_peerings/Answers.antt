use Rattle.std.proofs.Common.{◌≡◌, ℕ, ◌++◌, ap, ◌∙◌, arith, string_bytes}
use Rattle.lab_make.specs.Made.{each_below, peering_table}
use Rattle.lab_make.proofs.Each.{each_none, each_step}
use Rattle.lab_make.proofs.tables.push_peerings.Goals as goal

pub loop-j-init : goal.loop-j-init
loop-j-init c = each_none peering_table (string_bytes c.args.text.now)

pub loop-j-preserved : goal.loop-j-preserved
loop-j-preserved c = each_step peering_table (string_bytes c.args.text.now) _ _ c.loop-j.j c.loop-j.invariant c.in_ok-push_peering.ensures

pub returns : goal.returns
returns c =
    let done : c.loop-j.j ≡ 12 = omega arith in
    c.loop-j.invariant ∙ ap (λ (n : ℕ). string_bytes c.args.text.now ++ each_below peering_table n) done
