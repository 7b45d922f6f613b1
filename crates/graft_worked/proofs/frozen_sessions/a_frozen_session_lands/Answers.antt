use Rattle.std.proofs.Common.{refl}
use Rattle.graft_worked.proofs.Frozen.{lands_from_first}
use Rattle.graft_worked.proofs.frozen_sessions.a_frozen_session_lands.Goals as goal

pub returns : goal.returns
returns c = record { frozen = lands_from_first; landed = refl }
