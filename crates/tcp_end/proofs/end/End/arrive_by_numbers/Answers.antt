use Rattle.std.proofs.Common.{rules, subst}
use Rattle.std.proofs.lemmas.Result.{IfOk-weaker}
use Rattle.tcp_end.specs.State.{IsSending}
use Rattle.tcp_end.specs.Arriving.{IsAcceptableTo}
use Rattle.tcp_end.proofs.Taken.{rests_owing, old_arrival}
use Rattle.tcp_end.proofs.end.End.arrive_by_numbers.Goals as goal

pub returns-then-not-acceptable-clause-at_rest : goal.returns-then-not-acceptable-clause-at_rest
returns-then-not-acceptable-clause-at_rest c = rests_owing c.self.inside c.self.invariant

pub returns-in-Beyond-clause-at_rest : goal.returns-in-Beyond-clause-at_rest
returns-in-Beyond-clause-at_rest c = rests_owing c.self.inside c.self.invariant

pub returns-in-Old-clause-arrival : goal.returns-in-Old-clause-arrival
returns-in-Old-clause-arrival c =
    let sending : IsSending c.args.self.now = subst IsSending c.self.view_is c.self.invariant.sending in
    let acceptable : IsAcceptableTo c.args.self.now c.args.segment.now = search rules in
    IfOk-weaker c.take_in-in-Old.result _ _ (λ arrival is. old_arrival c.args.self.now c.args.segment.now
    c.take_in-in-Old.new.self arrival sending acceptable c.in-Old.ensures is) c.take_in-in-Old.ensures.arrival
