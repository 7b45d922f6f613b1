use Rattle.std.proofs.Common.{ℕ, Bool, false, ◌&&◌, List, sym, ap, ◌∙◌}
use Rattle.std.specs.Prelude.{slice_get, unwrap_or}
use Rattle.sure_inputs.specs.Sure.{is_plain, is_sure_step}
use Rattle.lab_answers.proofs.PlainPeerings.{plain_at}
use Rattle.lab_answers.proofs.sureness.is_sure_step.Goals as goal

pub returns-then-settled : goal.returns-then-settled
returns-then-settled c = λ input n plain settled.
    let p : ℕ = c.in-Graft.peering.0 in
    c.is_plain.ensures
    ∙ ap (λ (ts : List Bool). unwrap_or (slice_get ts p) false) plain
    ∙ plain_at input.steps input.peerings p
    ∙ ap (λ (t : Bool). t && is_plain input.steps p (slice_get input.peerings p)) (sym c.if-settled.true ∙ settled)
    ∙ ap (is_sure_step input n) (sym c.in-Graft.is)
