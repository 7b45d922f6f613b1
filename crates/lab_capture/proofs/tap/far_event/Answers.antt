use Rattle.std.proofs.Common.{◌≡◌, ◌+◌, ◌-◌, ◌<◌, ◌≤◌, ◌∙◌, ℕ, length, sym, arith}
use Rattle.lab_capture.proofs.Entries.{above_all, below_all, far_entry, no_event}
use Rattle.lab_capture.proofs.tap.far_event.Goals as goal

pub returns-in_err-event-clause-none : goal.returns-in_err-event-clause-none
returns-in_err-event-clause-none c = rw c.from_residual.ensures (no_event c.args.input.now c.args.entry.now
    (λ event is. c.in_err-event.ensures.none event (is ∙ sym c.code_of.ensures)))

pub returns-then-actor-routers-clause-none : goal.returns-then-actor-routers-clause-none
returns-then-actor-routers-clause-none c =
    let less : c.args.entry.now.actor < length c.args.input.now.routers = omega (arith, c.if-actor-routers.true, c.from-actor.ensures, c.len-routers.ensures) in
    below_all c.args.input.now c.args.entry.now less

pub returns-then-peering-len-clause-none : goal.returns-then-peering-len-clause-none
returns-then-peering-len-clause-none c =
    let n : ℕ = c.from-actor.result - c.len-routers.result in
    let at : c.args.entry.now.actor ≡ length c.args.input.now.routers + n =
    omega (arith, c.if-actor-routers.false, c.from-actor.ensures, c.len-routers.ensures) in
    let more : length c.args.input.now.peerings ≤ n = omega (arith, c.if-peering-len.true, c.len.ensures) in
    above_all c.args.input.now c.args.entry.now n at more

pub returns-clause-some : goal.returns-clause-some
returns-clause-some c =
    let n : ℕ = c.from-actor.result - c.len-routers.result in
    let at : c.args.entry.now.actor ≡ length c.args.input.now.routers + n =
    omega (arith, c.if-actor-routers.false, c.from-actor.ensures, c.len-routers.ensures) in
    let below : n < length c.args.input.now.peerings = omega (arith, c.if-peering-len.false, c.len.ensures) in
    far_entry c.args.input.now c.args.entry.now n c.in_ok-event.event (c.in_ok-event.ensures.some ∙ c.code_of.ensures) at below
