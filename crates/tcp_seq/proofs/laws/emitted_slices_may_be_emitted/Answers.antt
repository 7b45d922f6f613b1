use Rattle.tcp_seq.proofs.laws.emitted_slices_may_be_emitted.Goals as goal
use Rattle.tcp_seq.proofs.Emitting.{next_is_slice, again_is_slice}

pub returns-clause-next : goal.returns-clause-next
returns-clause-next c = next_is_slice

pub returns-clause-again : goal.returns-clause-again
returns-clause-again c = again_is_slice
