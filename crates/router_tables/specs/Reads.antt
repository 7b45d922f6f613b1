-- What a router does where a session has read a message, or a round has passed on it.
use Rattle.std.specs.Prelude.{◌≡◌, List, []}
use Rattle.std.specs.FinMap as map
use Rattle.bgp_types.specs.Prefixes.{PrefixValue}
use Rattle.session_value.specs.Sets.{BestRoutes, Prefixes}
use Rattle.bgp_session.specs.declared.answers.ReadStep.{ReadStep}
use Rattle.bgp_session.specs.declared.answers.ReadStep.TheVariants as steps
use Rattle.bgp_session.specs.declared.answers.TickStep.{TickStep}
use Rattle.bgp_session.specs.declared.answers.TickStep.TheVariants.{Plain, Beat, Expired}
use Rattle.router_tables.specs.Dues.{IsDueBest}

-- the prefixes whose routes the message changed
abbrev pub prefixes_in : ReadStep → List PrefixValue
prefixes_in steps.Opened = []
prefixes_in steps.Established = []
prefixes_in (steps.Changed prefixes) = prefixes
prefixes_in (steps.Closed prefixes) = prefixes

-- All best routes are due on a session that is established now, and nothing on one that is closed.
abbrev pub DueBy : ReadStep → BestRoutes → Prefixes → Prefixes → Type 0
DueBy steps.Opened best before after = after ≡ before
DueBy steps.Established best before after = IsDueBest best after
DueBy (steps.Changed prefixes) best before after = after ≡ before
DueBy (steps.Closed prefixes) best before after = after ≡ map.empty

-- the change that the router follows after a round: the end of the session, or none
abbrev pub followed : TickStep → ReadStep
followed Plain = steps.Opened
followed Beat = steps.Opened
followed (Expired prefixes) = steps.Closed prefixes
