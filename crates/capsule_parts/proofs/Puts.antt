-- An UPDATE that is put again.
use Rattle.std.proofs.Common.{ap}
use Rattle.bgp_types.specs.declared.message.Update.{Update}
use Rattle.session_value.specs.Cases.{PutsUpdate}
use Rattle.session_value.specs.Sessions.{SessionValue}
use Rattle.session_value.proofs.PutTies.{puts_of_story}
use Rattle.capsule_parts.specs.Retold.{StaysTold}

pub put_stays : (old new : SessionValue) (update : Update) → PutsUpdate old update new → StaysTold old new
put_stays old new update puts = record {
  config = ap (λ (x : SessionValue). x.config) puts.effect;
  of_story = puts_of_story old new update puts;
}
