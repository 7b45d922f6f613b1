use Rattle.bgp_session.proofs.Exchanged.{answer_emits, owing}
use Rattle.bgp_session.proofs.parts.Parts.answer.Goals as goal

pub returns-clause-step : goal.returns-clause-step
returns-clause-step c = (answer_emits c.args.self.now c.answer.new.self c.answer.result c.requires
    (owing c.args.self.now.end c.answer.new.self _ c.answer.ensures.after) c.answer.ensures.empty c.answer.ensures.step).step
