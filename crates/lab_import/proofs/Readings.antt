-- A text is read as the laboratory that is wanted, or isn't.
use Rattle.std.proofs.Common.{◌≡◌, ◌≢◌, Bool, true, false, ap, ◌∙◌, sym}
use Rattle.std.specs.Prelude.{IfOk, MatchBool, Result, Ok, Err}
use Rattle.lab_tables.specs.declared.input.LabInput.{LabInput}
use Rattle.lab_input.specs.declared.bad.BadInput.{BadInput}

pub read_tells : {E : Type 0} (answer : Result LabInput BadInput) (lab wanted : LabInput) → answer ≡ Ok lab → (same : Result Bool E)
    → IfOk same (λ b. MatchBool b (lab ≡ wanted) (lab ≢ wanted)) → IfOk same (λ b. MatchBool b (answer ≡ Ok wanted) (¬ (answer ≡ Ok wanted)))
read_tells answer lab wanted is (Ok true) tells = is ∙ ap (λ l. Ok l) tells
read_tells answer lab wanted is (Ok false) tells = λ e. tells (cc (is, e))
read_tells answer lab wanted is (Err stop) tells = tt

pub not_read : (answer : Result LabInput BadInput) (bad : BadInput) (wanted : LabInput) → answer ≡ Err bad → answer ≡ Ok wanted → ⊥
not_read answer bad wanted is e = cc (is, e)
