use Rattle.graft_laws.proofs.laws.grafts_are_in_one_phase.Goals as goal
use Rattle.graft_laws.proofs.Runs.{always_owned}
use Rattle.graft_laws.proofs.OneGraft.{under_way_once, nowhere_unordered, at_one_place}

pub returns : goal.returns
returns c = record {
  ordered = λ setup w graft ok reached known ordered unended. under_way_once setup w graft ok (always_owned setup ok w reached) known ordered unended;
  unordered = λ setup w graft x q t stage s ok reached known unordered b. nowhere_unordered setup w graft.graft x q t stage s unordered b;
  once = λ setup w r k ok reached. at_one_place setup w r k (always_owned setup ok w reached);
}
