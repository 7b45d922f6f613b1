use Rattle.std.proofs.Common.{◌≡◌, ℕ, ◌+◌, ◌∙◌, min, take, sym, ap, arith}
use Rattle.std.specs.Prelude.{sum_by}
use Rattle.std.proofs.lemmas.List.Sums.{sum_by_more}
use Rattle.toml.specs.View.{view}
use Rattle.toml.specs.declared.value.Value.{Value}
use Rattle.lab_tables.specs.Expects.{grafts_of}
use Rattle.lab_tables.proofs.GraftNumbers.{capped}
use Rattle.lab_tables.proofs.expects.most_of.Goals as goal

-- one step more
pub loop-step-preserved : goal.loop-step-preserved
loop-step-preserved c =
    let f : Value → ℕ = λ step. grafts_of c.args.peerings (view step) in
    let steps = c.args.steps.now in
    let i = c.loop-step.step-index in
    let step = c.step-item.result in
    let so_far = sum_by f (take i steps) in
    let more : sum_by f (take (i + 1) steps) ≡ so_far + f step = sum_by_more f steps i step (omega arith) ∙ ap (λ x. so_far + f x) (sym c.step-item.is) in
    let here : c.min-more.result ≡ min (f step) 4294967295 = omega (arith, c.min-more.ensures, c.grafts_of.ensures) in
    capped so_far (f step) _ _ _ c.loop-step.invariant here c.saturating_add-most.ensures
    ∙ ap (min 4294967295) (sym more)
