-- All that a remote says, by the steps of the input.
use Rattle.std.proofs.Common.{◌≡◌, ℕ, Bool, List, ◌++◌, sym, ap, ◌∙◌}
use Rattle.std.specs.Prelude.{Some, slice_get}
use Rattle.lab_tables.specs.declared.input.LabInput.{LabInput}
use Rattle.lab_tables.specs.declared.input.PeeringInput.{PeeringInput}
use Rattle.lab_tables.specs.declared.input.Step.{Step}
use Rattle.lab_input.specs.Counts.{is_wide}
use Rattle.lab_setup.specs.Said.{said_over}
use Rattle.lab_setup.specs.Setups.{setup_of, peering_setup}
use Rattle.lab_setup.proofs.Said.{setup_bytes}
use Rattle.one_answer.specs.Settled.{said_in_all}

-- the opening of the peering, and behind it what the steps have its remote say
pub said_is : (input : LabInput) (p : ℕ) (x : PeeringInput) → slice_get input.peerings p ≡ Some x
    → (opening : List ℕ) (wide : Bool) (steps : List Step) → opening ≡ x.opening → wide ≡ is_wide x → steps ≡ input.steps
    → opening ++ said_over wide p steps ≡ said_in_all (setup_of input) p (peering_setup input (p, x))
said_is input p x there opening wide steps opens width same =
    ap (λ bytes. bytes ++ said_over wide p steps) opens
    ∙ ap (λ w. x.opening ++ said_over w p steps) width
    ∙ ap (λ ss. x.opening ++ said_over (is_wide x) p ss) same
    ∙ ap (λ bytes. x.opening ++ bytes) (sym (setup_bytes input p x there))
