use Rattle.std.proofs.Common.{ap, ◌∙◌, sym}
use Rattle.session_value.specs.Sessions.{state}
use Rattle.graft_model.proofs.Ends.{due_once_closed, due_once_established}
use Rattle.graft_model.proofs.Same.{same_session}
use Rattle.graft_model.proofs.effects.states_say_what_is_due.Goals as goal

-- src/effects.rt
pub returns-clause-closed : goal.returns-clause-closed
returns-clause-closed c setup r p next order x before after taken sent row =
    due_once_closed setup r p before after row.session row.next row.errand row.follows next order x

pub returns-clause-expired : goal.returns-clause-expired
returns-clause-expired c setup r p round next order x before after taken sent row =
    due_once_closed setup r p before after row.session row.next row.errand row.follows next order x

pub returns-clause-established : goal.returns-clause-established
returns-clause-established c setup r p session next order other x before after taken sent row was confirmed =
    due_once_established setup r p before after row.session row.next row.errand row.follows next other x
    (ap state (same_session row.session session row.errand order (sym row.live.is ∙ was)) ∙ confirmed)
