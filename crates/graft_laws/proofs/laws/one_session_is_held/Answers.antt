use Rattle.std.proofs.Common.{length, List, ap}
use Rattle.session_value.specs.Sessions.{SessionValue}
use Rattle.graft_laws.proofs.laws.one_session_is_held.Goals as goal
use Rattle.graft_laws.proofs.Runs.{always_owned}
use Rattle.graft_laws.proofs.Holders.{one_session}
use Rattle.graft_laws.proofs.Heads.{one_phase, nowhere_else}

pub returns : goal.returns
returns c = record {
  phase = one_phase;
  one = one_session;
  count = λ setup w p ok reached l. let h = (always_owned setup ok w reached).peerings p l in
      ap (λ (x : List SessionValue). length x) (one_session setup w p h.phase h.session h.stands);
  alone = λ setup w p r ok reached l some. let h = (always_owned setup ok w reached).peerings p l in nowhere_else setup w p r h.phase h.session h.stands some;
}
