use Rattle.std.proofs.Common.{◌≡◌, ℕ, ◌++◌, ap, ◌∙◌, arith, string_bytes}
use Rattle.lab_make.specs.Made.{each_below, router_table}
use Rattle.lab_make.proofs.Each.{each_none, each_step}
use Rattle.lab_make.proofs.tables.push_routers.Goals as goal

pub loop-r-init : goal.loop-r-init
loop-r-init c = each_none router_table (string_bytes c.args.text.now)

pub loop-r-preserved : goal.loop-r-preserved
loop-r-preserved c = each_step router_table (string_bytes c.args.text.now) _ _ c.loop-r.r c.loop-r.invariant c.in_ok-push_router.ensures

pub returns : goal.returns
returns c =
    let done : c.loop-r.r ≡ 4 = omega arith in
    c.loop-r.invariant ∙ ap (λ (n : ℕ). string_bytes c.args.text.now ++ each_below router_table n) done
