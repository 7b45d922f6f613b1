use Rattle.bgp_session.proofs.Exchanged.{if_ok, again_result, emitted_within}
use Rattle.bgp_session.proofs.parts.Parts.turn.Goals as goal

pub returns-clause-step : goal.returns-clause-step
returns-clause-step c =
    if_ok c.turn.result (λ a both. both.0.step)
    (again_result c.args.self.now c.turn.new.self c.turn.result c.requires c.turn.ensures.slice c.turn.ensures.after c.turn.ensures.step)

pub returns-clause-slice : goal.returns-clause-slice
returns-clause-slice c =
    if_ok c.turn.result (λ a both. both.1.step)
    (again_result c.args.self.now c.turn.new.self c.turn.result c.requires c.turn.ensures.slice c.turn.ensures.after c.turn.ensures.step)

pub returns-clause-within : goal.returns-clause-within
returns-clause-within c = emitted_within c.args.self.now c.requires
