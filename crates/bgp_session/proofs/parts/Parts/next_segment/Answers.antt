use Rattle.bgp_session.proofs.Exchanged.{if_ok, next_all, next_none, next_result}
use Rattle.bgp_session.proofs.parts.Parts.next_segment.Goals as goal

pub returns-clause-step : goal.returns-clause-step
returns-clause-step c =
    if_ok c.next_segment.result (λ a both. both.0.step)
    (next_result c.args.self.now c.next_segment.new.self c.next_segment.result c.requires
    c.next_segment.ensures.slice c.next_segment.ensures.after c.next_segment.ensures.step)

pub returns-clause-slice : goal.returns-clause-slice
returns-clause-slice c =
    if_ok c.next_segment.result (λ a both. both.1.step)
    (next_result c.args.self.now c.next_segment.new.self c.next_segment.result c.requires
    c.next_segment.ensures.slice c.next_segment.ensures.after c.next_segment.ensures.step)

pub returns-clause-all : goal.returns-clause-all
returns-clause-all c =
    next_all c.args.self.now c.next_segment.result c.requires (next_none c.args.self.now c.next_segment.result c.requires c.next_segment.ensures.none)
