use Rattle.graft_worked.proofs.SourceRefusals.{sessions_stay, places_stay}
use Rattle.graft_worked.proofs.frozen_sessions.a_refusal_at_the_source_changes_no_session.Goals as goal

pub returns : goal.returns
returns c = record { sessions = λ setup r k p w u step. sessions_stay setup w u r k p step; places = λ setup r k p w u step. places_stay setup w u r k p step }
