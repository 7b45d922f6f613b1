use Rattle.std.proofs.Common.{arith}
use Rattle.timeline_view.proofs.Moves.{lands, turns_back, goes_back, clears_else}
use Rattle.timeline_view.proofs.events.taken_event.Goals as goal

pub returns-in_ok-next_to_arrive-in-13 : goal.returns-in_ok-next_to_arrive-in-13
returns-in_ok-next_to_arrive-in-13 c =
    lands c.args.lab.now c.args.moves.now c.args.entry.now _ _ c.as_slice-log.ensures c.from-here.ensures _ c.in-13.is c.in_ok-next_to_arrive-in-13.ensures

pub returns-in_ok-next_to_arrive-in-14 : goal.returns-in_ok-next_to_arrive-in-14
returns-in_ok-next_to_arrive-in-14 c =
    turns_back c.args.lab.now c.args.moves.now c.args.entry.now _ _ c.as_slice-log.ensures c.from-here.ensures _ c.in-14.is c.in_ok-next_to_arrive-in-14.ensures

pub returns-in_ok-next_to_return-in-15 : goal.returns-in_ok-next_to_return-in-15
returns-in_ok-next_to_return-in-15 c =
    goes_back c.args.lab.now c.args.moves.now c.args.entry.now _ _ c.as_slice-log.ensures c.from-here.ensures _ c.in-15.is c.in_ok-next_to_return-in-15.ensures

pub returns-in_ok-next_to_clear-in_default : goal.returns-in_ok-next_to_clear-in_default
returns-in_ok-next_to_clear-in_default c =
    clears_else c.args.lab.now c.args.moves.now c.args.entry.now _ _ c.as_slice-log.ensures c.from-here.ensures _
    (λ is. omega arith) (λ is. omega arith) (λ is. omega arith) c.in_ok-next_to_clear-in_default.ensures
