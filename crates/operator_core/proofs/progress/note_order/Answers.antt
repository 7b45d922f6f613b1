use Rattle.std.proofs.Common.{None}
use Rattle.operator_core.proofs.Results.{on_ok}
use Rattle.operator_core.proofs.progress.note_order.Goals as goal

pub returns-clause-ok : goal.returns-clause-ok
returns-clause-ok g c = on_ok c.note_operator_sent.result (λ wrote. wrote None) c.note_operator_sent.ensures.ok
