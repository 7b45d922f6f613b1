-- What the rulings of an auditor rest on: the laws of a laboratory and of its entries.
use Rattle.bgp_session.specs.Running.{carried}
use Rattle.graft_model.specs.Setups.{Setup, IsSetup}
use Rattle.graft_model.specs.Parts.{World}
use Rattle.graft_laws.specs.Facts.{NothingIsDropped}
use Rattle.graft_laws.specs.Keeps.{Reached}
use Rattle.graft_actors.specs.Laws.{ActorsHaveNumbers, OneEventHasTheEntry, OneWorldIsSeen}
use Rattle.world_runs.specs.Laws.{AnActIsAStep, NobodyWritesToItself}
use Rattle.clocked_audits.specs.Laws.{DeedsMoveItems}
use Rattle.audit_ruling.specs.Senders.{RoutersTakeFromTheNamed, FarSidesTakeFromTheNamed, TheOperatorTakesFromTheNamed}

-- What an actor does is a step, an entry is of one event, and actors and items are those of one world; what an actor takes and sends moves between
-- worlds, never from an actor to itself; nothing that arrives is dropped; actors have their numbers; and events take from the actors that they name.
pub record Grounds : Type 0 where
  pub steps : AnActIsAStep carried
  pub events : OneEventHasTheEntry
  pub worlds : OneWorldIsSeen
  pub moves : DeedsMoveItems carried
  pub itself : NobodyWritesToItself
  pub welcome : (setup : Setup) (w : World) → IsSetup setup → Reached setup w → NothingIsDropped setup w
  pub numbers : ActorsHaveNumbers
  pub routers : RoutersTakeFromTheNamed
  pub far_sides : FarSidesTakeFromTheNamed
  pub operator : TheOperatorTakesFromTheNamed
