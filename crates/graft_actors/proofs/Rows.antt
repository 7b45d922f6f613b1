-- Each row of the model is an event that its actor makes.
use Rattle.std.proofs.Common.{ℕ, List, Option, Some, refl, sym, subst}
use Rattle.ring_net.specs.declared.entry.JournalEntry.{JournalEntry}
use Rattle.graft_model.specs.Setups.{Setup}
use Rattle.graft_actors.specs.Actors.{ActorPart, RouterIs, FarIs, OperatorIs, Thing, ActorName, Router, FarSide, Operator, number_in, IsActor}
use Rattle.graft_actors.specs.Makes.{makes, makes_as}
use Rattle.graft_actors.specs.Laws.{RouterRowsAreMade, FarRowsAreMade, OperatorRowsAreMade}
use Rattle.graft_actors.proofs.Numbers.{there}

made : (setup : Setup) (x : ActorName) (before after : ActorPart) (entry : JournalEntry) (taken : Option (ℕ × Thing)) (sent : List (ℕ × Thing))
    → IsActor setup x → makes_as setup (Some x) before entry taken sent after
    → makes setup (number_in setup x) before entry taken sent after
made setup x before after entry taken sent known row =
    subst (λ (y : Option ActorName). makes_as setup y before entry taken sent after) (sym (there setup x known)) row

pub router_rows : RouterRowsAreMade
router_rows setup r event before after entry took gave known row coded all =
    made setup (Router r) (RouterIs before) (RouterIs after) entry _ _ known
    (record { event = event; coded = coded; took = took; gave = gave; holds = row; is_taken = refl; is_sent = refl; there = all })

pub far_rows : FarRowsAreMade
far_rows setup p event before after entry took gave known row coded all =
    made setup (FarSide p) (FarIs before) (FarIs after) entry _ _ known
    (record { event = event; coded = coded; took = took; gave = gave; holds = row; is_taken = refl; is_sent = refl; there = all })

pub operator_rows : OperatorRowsAreMade
operator_rows setup event before after entry took gave row coded all =
    made setup Operator (OperatorIs before) (OperatorIs after) entry _ _ tt
    (record { event = event; coded = coded; took = took; gave = gave; holds = row; is_taken = refl; is_sent = refl; there = all })
