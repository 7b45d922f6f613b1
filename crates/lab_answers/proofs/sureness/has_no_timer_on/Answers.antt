use Rattle.std.proofs.Common.{ℕ, List, eqb, ◌&&◌, ap, ◌∙◌}
use Rattle.std.specs.Prelude.{min}
use Rattle.graft_model.specs.Setups.{PeeringSetup, keepalive_interval_of}
use Rattle.lab_setup.specs.Setups.{peering_setup}
use Rattle.even_inputs.specs.Timers.{hold_offered}
use Rattle.lab_answers.proofs.sureness.has_no_timer_on.Goals as goal

pub returns : goal.returns
returns c =
    let p : PeeringSetup = peering_setup c.args.input.now (c.args.number.0, c.args.peering.now) in
    c.needs_no_timer.ensures c.args.input.now c.args.number.0
    ∙ ap (λ (hold : ℕ). eqb (min c.args.peering.now.home_hold hold) 0 && eqb (keepalive_interval_of p) 0)
    (c.in_ok-hold.ensures c.args.input.now c.args.number.0
    ∙ ap (λ (said : List ℕ). hold_offered p said) (c.deref.ensures ∙ c.in_ok-said.ensures c.args.peering.now c.requires.there))
