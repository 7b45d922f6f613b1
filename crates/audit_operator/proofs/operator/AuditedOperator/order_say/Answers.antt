use Rattle.std.proofs.Common.{◌≡◌, ◌∙◌, true, false, arith, ap, refl, sym}
use Rattle.std.proofs.lemmas.Option.{slice_get_within}
use Rattle.operator_state.specs.Issues.{waiting_are}
use Rattle.audit_operator.specs.Parts.{operator_state}
use Rattle.audit_operator.proofs.Orders.{say_ordered}
use Rattle.audit_operator.proofs.Refusals.{say_waits_behind}
use Rattle.audit_operator.proofs.operator.AuditedOperator.order_say.Goals as goal

pub returns-then-is_say_before : goal.returns-then-is_say_before
returns-then-is_say_before c = λ step number is. say_waits_behind c.args.self.now c.requires.sound step number c.args.index c.args.task is
    c.args.peering c.requires.says (c.is_say_before.ensures.0 c.if-is_say_before.true)

pub remove-requires : goal.remove-requires
remove-requires c =
    let within = slice_get_within c.args.self.now.tasks.items c.args.index c.args.task c.requires.there in
    omega (arith, within, c.args.self.now.tasks.ok.0)

pub returns : goal.returns
returns c = λ step number is.
    let o = c.args.self.now in
    say_ordered o _ c.requires.sound (record { known = refl; script = refl; numbers = refl }) step number c.args.index c.args.task is c.args.peering
    c.requires.says
    (λ behind. let e : true ≡ false = sym (c.is_say_before.ensures.1 behind) ∙ c.if-is_say_before.false in cc)
    (ap (waiting_are (operator_state o)) c.remove.ensures.items)
    _ (omega (arith, c.len.ensures, c.from.ensures))
