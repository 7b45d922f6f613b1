use Rattle.std.proofs.Common.{◌≡◌, true, false, refl, ◌∙◌}
use Rattle.far_side.proofs.BeatSteps.{not_due_each, due_each, sends_keepalive}
use Rattle.far_side.proofs.emit.send_keepalive.Goals as goal

pub returns-then-not-is_due-clause-beaten : goal.returns-then-not-is_due-clause-beaten
returns-then-not-is_due-clause-beaten g c = not_due_each c.args.far.now c.args.post.now c.requires
    (λ due. let yes : false ≡ true = c.if-not-is_due.ensures.1 due in let x : ⊥ = cc in x)

pub returns-clause-beaten : goal.returns-clause-beaten
returns-clause-beaten g c = due_each c.args.far.now c.args.post.now c.requires c.note_far.new.post c.say.new.self (c.if-not-is_due.ensures.0 refl)
    (c.in_ok-say.ensures ∙ sends_keepalive c.args.far.now.remote) c.in_ok-note_far.ensures.ok
