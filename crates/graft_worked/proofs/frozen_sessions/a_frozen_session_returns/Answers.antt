use Rattle.std.proofs.Common.{refl}
use Rattle.graft_worked.proofs.Frozen.{returns_from_first}
use Rattle.graft_worked.proofs.frozen_sessions.a_frozen_session_returns.Goals as goal

pub returns : goal.returns
returns c = record { frozen = returns_from_first; returned = refl }
