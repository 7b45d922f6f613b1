use Rattle.std.proofs.Common.{ℕ, ap, arith, rules}
use Rattle.std.specs.Prelude.{leb}
use Rattle.bgp_session.proofs.Rounds.{is_next}
use Rattle.bgp_session.proofs.parts.Parts.is_next.Goals as goal

pub returns : goal.returns
returns c = is_next c.args.self.now c.args.round c.requires (search rules) (omega arith) _
    (ap (λ (n : ℕ). leb c.args.self.now.next_round n) c.from.ensures)
