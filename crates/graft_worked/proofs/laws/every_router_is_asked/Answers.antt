use Rattle.std.proofs.Common.{inl, inr}
use Rattle.graft_worked.proofs.Asked.{asks, answers, counts, ignores, confirms, not_yet}
use Rattle.graft_worked.proofs.laws.every_router_is_asked.Goals as goal

pub returns : goal.returns
returns c = record { asked = asks; answered = answers; counted = inl counts; again = inr ignores; confirmed = confirms; not_before = not_yet }
