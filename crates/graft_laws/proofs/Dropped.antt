-- No actor drops an item.
use Rattle.std.proofs.Common.{ℕ, ◌<◌, Some}
use Rattle.graft_model.specs.Setups.{Setup, IsSetup, peerings_in}
use Rattle.graft_model.specs.Parts.{World}
use Rattle.graft_model.specs.FarRows.{FarTaken, OutwardIn, SayIn}
use Rattle.graft_model.specs.Taking.{FarMayTake}
use Rattle.graft_laws.specs.Moves.{FarHeads}
use Rattle.graft_laws.specs.Said.{IsSayOf}
use Rattle.graft_laws.specs.Keeps.{Reached}
use Rattle.graft_laws.specs.Facts.{NothingIsDropped}
use Rattle.graft_laws.proofs.Lists.{all_head}
use Rattle.graft_laws.proofs.OneGraft.{router_may, operator_may}
use Rattle.graft_laws.proofs.StreamLaws.{says_are_orders, say_has_room}
use Rattle.graft_laws.proofs.Runs.{always_owned}

far_may : (setup : Setup) (w : World) (p : ℕ) (taken : FarTaken) → IsSetup setup → Reached setup w → p < peerings_in setup
    → FarHeads w p (Some taken) → FarMayTake setup p (w.far p) taken
far_may setup w p (OutwardIn r item) ok reached l h = tt
far_may setup w p (SayIn step) ok reached l h =
    let own : IsSayOf setup p step = all_head (IsSayOf setup p) (w.says p) h.rest step h.is (says_are_orders setup p w ok reached l) in
    (own.bytes, own.is, say_has_room setup p step h.rest own.bytes w ok reached l h.is own.is)

pub nothing_is_dropped : (setup : Setup) (w : World) → IsSetup setup → Reached setup w → NothingIsDropped setup w
nothing_is_dropped setup w ok reached = record {
  routers = router_may setup w ok (always_owned setup ok w reached);
  far_sides = λ p taken l h. far_may setup w p taken ok reached l h;
  operator = operator_may setup w ok (always_owned setup ok w reached);
}
