use Rattle.std.proofs.Common.{rules, sym, subst}
use Rattle.tcp_seq.specs.declared.state.EndState.{EndState}
use Rattle.tcp_seq.specs.Endpoint.{fresh_endpoint}
use Rattle.tcp_end.specs.Standing.{EndStands}
use Rattle.tcp_end.proofs.Followed.{fresh_stands}
use Rattle.tcp_end.proofs.end.End.new.Goals as goal

pub returns-clause-fresh : goal.returns-clause-fresh
returns-clause-fresh c = search rules

pub returns-clause-stands : goal.returns-clause-stands
returns-clause-stands c =
    subst (λ (s : EndState). EndStands s fresh_endpoint) (sym (returns-clause-fresh c))
    (fresh_stands c.args.way c.args.peering c.args.send_first c.args.receive_first)
