-- A round passes on the live session at a place, if one may.
use Rattle.std.specs.Prelude.{ℕ, ◌≡◌, Option, Some, None}
use Rattle.bgp_session.specs.Running.{RunningSession}
use Rattle.bgp_session.specs.Steps.{MayPass, SessionTicks}
use Rattle.bgp_session.specs.declared.answers.TickStep.{TickStep}

abbrev pub Ticked : ℕ → RunningSession → Option TickStep → RunningSession → Type 0
Ticked round s None u = (¬ MayPass s.session round) × (u ≡ s)
Ticked round s (Some step) u = MayPass s.session round × SessionTicks step s round u
