use Rattle.std.proofs.Common.{refl, subst, sym, arith}
use Rattle.graft_model.specs.Steps.{ByOperator}
use Rattle.graft_model.specs.declared.event.OperatorEvent.{OperatorEvent}
use Rattle.graft_model.specs.declared.event.OperatorEvent.TheVariants.{Order}
use Rattle.run_auditor.specs.Ruled.{RulesOn}
use Rattle.run_auditor.specs.declared.auditor.Auditor.{Auditor}
use Rattle.run_auditor.proofs.Operators.{decided}
use Rattle.run_auditor.proofs.auditor.Auditor.rule_operator.Goals as goal

pub returns-in-Order : goal.returns-in-Order
returns-in-Order c =
    let f = c.args.self.now in
    let g : Auditor = record f { operator = c.order.new.self } in
    subst (λ (e : OperatorEvent). RulesOn (ByOperator e) c.order.result f g) (sym c.in-Order.is)
    (decided f g c.requires refl c.rulings_have_grounds.ensures (Order c.in-Order.step c.in-Order.graft) refl (λ go. absurd (omega (arith, go))) refl
    c.order.result c.order.ensures)
