-- The peerings that are plain, by number.
use Rattle.std.proofs.Common.{◌≡◌, ℕ, false, List, refl, ap, ◌∙◌}
use Rattle.std.specs.Prelude.{Option, Some, None, option_map, unwrap_or, slice_get}
use Rattle.lab_tables.specs.declared.input.PeeringInput.{PeeringInput}
use Rattle.lab_tables.specs.declared.input.Step.{Step}
use Rattle.lab_setup.proofs.Lists.{get_numbered}
use Rattle.sure_inputs.specs.Sure.{is_plain}
use Rattle.lab_answers.specs.PlainPeerings.{plain_in}

found : (steps : List Step) (p : ℕ) (o : Option PeeringInput) → unwrap_or (option_map (λ x. is_plain steps p (Some x)) o) false ≡ is_plain steps p o
found steps p None = refl
found steps p (Some peering) = refl

-- A peering that isn't there isn't plain.
pub plain_at : (steps : List Step) (peerings : List PeeringInput) (p : ℕ)
    → unwrap_or (slice_get (plain_in steps peerings) p) false ≡ is_plain steps p (slice_get peerings p)
plain_at steps peerings p =
    ap (λ o. unwrap_or o false) (get_numbered (λ x. is_plain steps x.0 (Some x.1)) peerings p) ∙ found steps p (slice_get peerings p)
