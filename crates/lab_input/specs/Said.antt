-- What the steps of an input say.
use Rattle.std.specs.Prelude.{[], Some, None}
use Rattle.bgp_types.specs.declared.message.Update.{Update}
use Rattle.lab_tables.specs.declared.input.Step.{Step}
use Rattle.lab_tables.specs.declared.input.Step.TheVariants.{Announce, Withdraw}

-- the UPDATE that the remote of a step's peering says; it is empty if the step is of another kind
abbrev pub step_update : Step → Update
step_update (Announce peering prefixes a) = record { withdrawn = []; attrs = Some a; nlri = prefixes }
step_update (Withdraw peering prefixes) = record { withdrawn = prefixes; attrs = None; nlri = [] }
step_update _ = record { withdrawn = []; attrs = None; nlri = [] }
