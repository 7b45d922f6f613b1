use Rattle.std.proofs.Common.{ap, arith}
use Rattle.tcp_seq.specs.declared.state.EndState.{EndState}
use Rattle.tcp_end.proofs.Taken.{took, rests_took}
use Rattle.tcp_end.proofs.end.End.take_in.Goals as goal

pub returns-clause-arrival : goal.returns-clause-arrival
returns-clause-arrival c = took c.args.self.now c.self.inside c.receive.new.ready c.drop_front.new.self c.receive.new.ahead
    c.args.segment.now c.args.acked c.in_ok-brings.brings c.owes-self-inside.result c.as_slice-bytes.result.now c.taken_as.result
    c.self.view_is c.self.invariant c.receive.ensures.runs c.in_ok-brings.ensures.ok
    c.as_slice-bytes.ensures c.drop_front.ensures c.owes-self-inside.ensures c.taken_as.ensures

pub returns-clause-at_rest : goal.returns-clause-at_rest
returns-clause-at_rest c = rests_took c.self.inside c.receive.new.ready c.drop_front.new.self c.receive.new.ahead
    c.args.segment.now c.args.acked c.in_ok-brings.brings c.owes-self-inside.result c.as_slice-bytes.result.now
    (omega (arith, ap (λ (s : EndState). s.sent) c.self.view_is, ap (λ (s : EndState). s.acked) c.self.view_is, c.requires.acked))
    c.self.invariant c.receive.ensures.runs c.in_ok-brings.ensures.ok c.as_slice-bytes.ensures c.drop_front.ensures c.owes-self-inside.ensures
