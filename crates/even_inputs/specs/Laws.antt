-- What follows for the settled runs of a laboratory that is even.
use Rattle.std.specs.Prelude.{ℕ, ◌≡◌, true}
use Rattle.bgp_types.specs.Prefixes.{PrefixValue}
use Rattle.graft_model.specs.Setups.{Setup, IsSetup}
use Rattle.graft_model.specs.Parts.{World}
use Rattle.graft_model.specs.OperatorRows.{placement}
use Rattle.graft_laws.specs.Keeps.{Reached}
use Rattle.even_meshes.specs.Meshes as meshes
use Rattle.even_meshes.specs.Worlds.{prefix_mesh}
use Rattle.one_answer.specs.Settled.{IsSettled, HaveOneLog}
use Rattle.even_inputs.specs.Evenness.{is_even}
use Rattle.even_inputs.specs.Timers.{has_no_timer}
use Rattle.even_inputs.specs.Solutions.{IsTheSolution}

-- Where no session has a timer, what the routers have by themselves when all is settled is even for each prefix.
abbrev pub EvenLaboratoriesSettleEvenly : Type 0
EvenLaboratoriesSettleEvenly = (setup : Setup) (w : World) (prefix : PrefixValue) → IsSetup setup → has_no_timer setup ≡ true → is_even setup ≡ true
    → Reached setup w → IsSettled setup w → meshes.IsEven (prefix_mesh setup w prefix)

-- What became of the grafts tells where the sessions belong: in whatever other settled run in which the same became of each, they belong at the same routers.
-- Where no session has a timer, and routes of one neighbour AS have one MED for each prefix, the tables and sessions are then those of the solution,
-- whichever events led there and in whatever order.
pub record IsTheAnswer (setup : Setup) (w : World) : Type 0 where
  pub placed : (v : World) → Reached setup v → IsSettled setup v → HaveOneLog w v → (p : ℕ) → placement setup v.operator p ≡ placement setup w.operator p
  pub solved : has_no_timer setup ≡ true → is_even setup ≡ true → IsTheSolution setup w

abbrev pub SettledWorldsAreTheSolution : Type 0
SettledWorldsAreTheSolution = (setup : Setup) (w : World) → IsSetup setup → Reached setup w → IsSettled setup w → IsTheAnswer setup w
