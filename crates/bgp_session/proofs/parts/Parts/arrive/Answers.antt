use Rattle.std.proofs.Common.{arith}
use Rattle.bgp_session.proofs.Exchanged.{if_ok, arrived_result, arrived_keeps}
use Rattle.bgp_session.proofs.parts.Parts.arrive.Goals as goal

pub returns-clause-arrives : goal.returns-clause-arrives
returns-clause-arrives c =
    if_ok c.arrive.result (λ a both. both.0)
    (arrived_result c.args.self.now c.arrive.new.self c.args.segment.now c.requires.keeps c.requires.in_streams c.requires.len
    (omega arith) (omega arith) c.arrive.result c.arrive.ensures.arrival c.arrive.ensures.after c.arrive.ensures.step)

pub returns-clause-keeps : goal.returns-clause-keeps
returns-clause-keeps c =
    arrived_keeps c.args.self.now c.arrive.new.self c.args.segment.now c.requires.keeps c.requires.in_streams c.requires.len
    (omega arith) (omega arith) c.arrive.result
    (arrived_result c.args.self.now c.arrive.new.self c.args.segment.now c.requires.keeps c.requires.in_streams c.requires.len
    (omega arith) (omega arith) c.arrive.result c.arrive.ensures.arrival c.arrive.ensures.after c.arrive.ensures.step)
    c.arrive.ensures.err
