use Rattle.std.proofs.Common.{ℕ, List, Option, None, Ok, refl, subst}
use Rattle.bgp_frame.specs.declared.front.FrontFrame.{FrontFrame}
use Rattle.bgp_frame.specs.Next.{IsFrontOf}
use Rattle.bgp_session.proofs.Reading.{cant_read}
use Rattle.bgp_session.proofs.parts.Parts.read.Goals as goal

pub returns-in-Ok-None-clause-step : goal.returns-in-Ok-None-clause-step
returns-in-Ok-None-clause-step c =
    let b : IsFrontOf (Ok None) c.args.self.now.end.ready = subst (λ (bytes : List ℕ). IsFrontOf (Ok None) bytes) c.ready.ensures
    (subst (λ (o : Option FrontFrame). IsFrontOf (Ok o) c.ready.result.now) c.in-Ok-None.field-0-is c.in-Ok-None.ensures.front) in
    (cant_read c.args.self.now c.requires b.0 b.1, refl)
