use Rattle.std.proofs.Common.{◌≡◌, ℕ, Bool, true, eqb, ◌&&◌, sym, ap, ◌∙◌}
use Rattle.std.specs.Prelude.{min}
use Rattle.graft_model.specs.Setups.{keepalive_interval_of}
use Rattle.lab_setup.specs.Setups.{peering_setup}
use Rattle.lab_answers.proofs.sureness.needs_no_timer.Goals as goal

pub returns-then-min-eq0 : goal.returns-then-min-eq0
returns-then-min-eq0 c = λ input p.
    let low : eqb (min c.args.peering.now.home_hold c.args.hold) 0 ≡ true = ap (λ (n : ℕ). eqb n 0) (sym c.min.ensures ∙ c.if-min-eq0.true) in
    ap (λ (n : ℕ). eqb n 0) (c.keepalive_interval_of.ensures input p)
    ∙ ap (λ (t : Bool). t && eqb (keepalive_interval_of (peering_setup input (p, c.args.peering.now))) 0) (sym low)
