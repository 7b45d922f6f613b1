-- The law of one answer, of two runs.
use Rattle.bgp_types.specs.Prefixes.{PrefixValue}
use Rattle.graft_model.specs.Setups.{Setup, IsSetup}
use Rattle.graft_model.specs.Parts.{World}
use Rattle.graft_laws.specs.Keeps.{Reached}
use Rattle.even_meshes.specs.Meshes.{IsEven}
use Rattle.even_meshes.specs.Worlds.{prefix_mesh}
use Rattle.one_answer.specs.Settled.{HasNoTimer, IsSettled, HaveOneLog, HaveOneAnswer}

-- Whatever other run of the laboratory is settled with the same log has the same tables and sessions, by whichever events and in whatever order: where no
-- session has a timer, and routes of one neighbour AS have one MED for each prefix in what sessions have brought in.
abbrev pub IsTheOneAnswer : Setup → World → Type 0
IsTheOneAnswer setup w = HasNoTimer setup → ((prefix : PrefixValue) → IsEven (prefix_mesh setup w prefix))
    → (v : World) → Reached setup v → IsSettled setup v → HaveOneLog w v → HaveOneAnswer setup w v

-- Two runs of one laboratory, in which no session has a timer, are settled with the same log, and routes of one neighbour AS have one MED for each
-- prefix. Then they have the same tables, whatever events led there and in whatever order.
abbrev pub SettledRunsHaveOneAnswer : Type 0
SettledRunsHaveOneAnswer = (setup : Setup) (w v : World) → IsSetup setup → HasNoTimer setup → Reached setup w → Reached setup v
    → IsSettled setup w → IsSettled setup v → HaveOneLog w v
    → ((prefix : PrefixValue) → IsEven (prefix_mesh setup w prefix)) → HaveOneAnswer setup w v
