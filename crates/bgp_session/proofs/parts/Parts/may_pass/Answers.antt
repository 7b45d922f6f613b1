use Rattle.std.proofs.Common.{ℕ, ap}
use Rattle.std.specs.Prelude.{leb}
use Rattle.bgp_session.proofs.Rounds.{may_be_next, may_match}
use Rattle.bgp_session.proofs.parts.Parts.may_pass.Goals as goal

pub returns-then-not-is_next : goal.returns-then-not-is_next
returns-then-not-is_next c = λ may. c.if-not-is_next.ensures (may_be_next c.args.self.now c.args.round c.requires may)

pub returns : goal.returns
returns c = may_match c.args.self.now c.args.round c.requires c.if-not-is_next.ensures _ (ap (λ (n : ℕ). leb n 1044461) c.stream_len.ensures)
