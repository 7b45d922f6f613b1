use Rattle.bgp_session.proofs.Again.{end_is_for}
use Rattle.bgp_session.proofs.Exchanged.{if_ok}
use Rattle.bgp_session.proofs.parts.Parts.end_state.Goals as goal

pub returns-clause-end : goal.returns-clause-end
returns-clause-end c = if_ok c.state.result (λ s same. (end_is_for c.args.self.now s same c.requires).0) c.state.ensures

pub returns-clause-whole : goal.returns-clause-whole
returns-clause-whole c = if_ok c.state.result (λ s same. (end_is_for c.args.self.now s same c.requires).1) c.state.ensures
