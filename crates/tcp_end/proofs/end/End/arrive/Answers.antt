use Rattle.tcp_end.proofs.Arrives.{arrives_if_ok}
use Rattle.tcp_end.proofs.end.End.arrive.Goals as goal

pub returns-clause-step : goal.returns-clause-step
returns-clause-step c = arrives_if_ok c.args.self.now c.arrive_by_numbers.new.self c.args.segment.now c.arrive_by_numbers.result c.requires.len
    c.arrive_by_numbers.ensures.arrival c.arrive_by_numbers.ensures.after c.arrive_by_numbers.ensures.at_rest
