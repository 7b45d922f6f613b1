use Rattle.std.proofs.Common.{rules, sym, subst, []}
use Rattle.tcp_seq.specs.Endpoint.{IsInStreams, TakesSegment}
use Rattle.tcp_seq.specs.Placed.{placed}
use Rattle.tcp_end.specs.Whole.{endpoint_of}
use Rattle.remote_end.specs.Remotes.{RemoteValue}
use Rattle.remote_end.proofs.RemoteSteps.{keeps_arrived, takes_arrived}
use Rattle.remote_end.proofs.remote.Remote.arrive.Goals as goal

pub invariant_of-self-2 : goal.invariant_of-self-2
invariant_of-self-2 c =
    let streams = subst (λ (v : RemoteValue). IsInStreams (placed v.receive_first v.send_first c.args.segment)) (sym c.self.view_is) c.requires.in_streams in
    keeps_arrived c.self.inside c.arrive.new.self c.in_ok-arrive.field-0 c.args.segment c.self.invariant streams
    (search rules) (search rules) c.in_ok-arrive.ensures.after c.in_ok-arrive.ensures.step

pub returns-clause-arrives : goal.returns-clause-arrives
returns-clause-arrives c =
    let streams = subst (λ (v : RemoteValue). IsInStreams (placed v.receive_first v.send_first c.args.segment)) (sym c.self.view_is) c.requires.in_streams in
    subst (λ (v : RemoteValue). TakesSegment v.end (placed v.receive_first v.send_first c.args.segment)
    (endpoint_of c.self.inside.said [] c.arrive.new.self)) c.self.view_is
    (takes_arrived c.self.inside c.arrive.new.self c.in_ok-arrive.field-0 c.args.segment c.self.invariant streams
    (search rules) (search rules) c.in_ok-arrive.ensures.after c.in_ok-arrive.ensures.step)
