use Rattle.std.proofs.Common.{◌≤◌, rules, ap, subst, arith}
use Rattle.tcp_seq.specs.declared.state.EndState.{EndState}
use Rattle.tcp_end.specs.State.{IsSending}
use Rattle.tcp_end.proofs.Steps.{turned_by, emits_again_by, same_turn}
use Rattle.tcp_end.proofs.end.End.turn.Goals as goal

pub returns-then-len-eq0-clause-step : goal.returns-then-len-eq0-clause-step
returns-then-len-eq0-clause-step c = turned_by c.args.self.now _ (search rules)

pub returns-clause-step : goal.returns-clause-step
returns-clause-step c =
    let sending : IsSending c.args.self.now = subst IsSending c.self.view_is c.self.invariant.sending in
    let late : c.args.self.now.acked ≤ c.args.self.now.acked_at_turn =
    omega (arith, ap (λ (s : EndState). s.acked) c.self.view_is, ap (λ (s : EndState). s.acked_at_turn) c.self.view_is, c.if-self.false) in
    emits_again_by c.args.self.now c.args.self.now c.in_ok-segment_at.field-0 (search rules) (search rules) (same_turn c.args.self.now sending late)
