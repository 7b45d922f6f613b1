use Rattle.graft_worked.proofs.Sends.{no_emit, no_send, no_send_elsewhere}
use Rattle.graft_worked.proofs.laws.nothing_is_sent_at_the_end.Goals as goal

-- src/laws.rt
pub returns-clause-emit_bytes : goal.returns-clause-emit_bytes
returns-clause-emit_bytes c = no_emit

pub returns-clause-send_bytes : goal.returns-clause-send_bytes
returns-clause-send_bytes c = no_send

pub returns-clause-send_elsewhere : goal.returns-clause-send_elsewhere
returns-clause-send_elsewhere c = no_send_elsewhere
