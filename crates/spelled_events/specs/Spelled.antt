-- Events that name no address and length but those of a prefix.
use Rattle.graft_model.specs.Setups.{Setup, IsSetup}
use Rattle.graft_model.specs.Parts.{World}
use Rattle.graft_model.specs.Codes.{HasPrefix}
use Rattle.graft_model.specs.Steps.{Event, ByRouter, ByFar, ByOperator, Step}
use Rattle.graft_laws.specs.Keeps.{Reached}
use Rattle.graft_laws.specs.Ranges.{IsInRange}

-- the event's prefix, if it has one, has no bit set past its length
abbrev pub IsSpelled : Event → Type 0
IsSpelled (ByRouter r event) = HasPrefix event
IsSpelled (ByFar p event) = Unit {0}
IsSpelled (ByOperator event) = Unit {0}

abbrev pub PrefixesAreSpelled : Type 0
PrefixesAreSpelled = (setup : Setup) (w : World) (event : Event) (after : World) → IsSetup setup → IsInRange setup → Reached setup w
    → Step setup event w after → IsSpelled event
