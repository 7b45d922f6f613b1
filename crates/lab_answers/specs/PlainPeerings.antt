-- The peerings whose remotes say nothing but a default opening and UPDATEs.
use Rattle.std.specs.Prelude.{Bool, List, Some, map}
use Rattle.std.specs.List.{enumerate_from}
use Rattle.lab_tables.specs.declared.input.PeeringInput.{PeeringInput}
use Rattle.lab_tables.specs.declared.input.Step.{Step}
use Rattle.sure_inputs.specs.Sure.{is_plain}

-- which peerings are plain, by number
abbrev pub plain_in : List Step → List PeeringInput → List Bool
plain_in steps peerings = map (λ p. is_plain steps p.0 (Some p.1)) (enumerate_from 0 peerings)
