use Rattle.std.proofs.Common.{refl, sym, ◌∙◌}
use Rattle.std.proofs.lemmas.Bool.{false≢true}
use Rattle.std.proofs.lemmas.Result.{IfOk-weaker}
use Rattle.graft_model.specs.Steps.{ByOperator}
use Rattle.graft_model.specs.declared.event.OperatorEvent.TheVariants.{Go}
use Rattle.audit_operator.specs.Decides.{DecidesOperator}
use Rattle.run_auditor.specs.Ruled.{RulesOn}
use Rattle.run_auditor.specs.declared.auditor.Auditor.{Auditor}
use Rattle.run_auditor.proofs.Operators.{decided, no_group}
use Rattle.run_auditor.proofs.auditor.Auditor.rule_go.Goals as goal

pub returns-then-not-is_quiet : goal.returns-then-not-is_quiet
returns-then-not-is_quiet c = no_group c.args.self.now c.requires
    (λ w s quiet. false≢true (sym c.if-not-is_quiet.true ∙ (c.is_quiet.ensures.quiet w s).1 quiet))

pub go-requires-clause-nothing : goal.go-requires-clause-nothing
go-requires-clause-nothing c = (c.is_quiet.ensures.rest.0 c.if-not-is_quiet.false).of_operator

pub returns : goal.returns
returns c =
    let f = c.args.self.now in
    let g : Auditor = record f { operator = c.go.new.self } in
    IfOk-weaker c.go.result (λ ruling. DecidesOperator Go f.operator ruling c.go.new.self) (λ ruling. RulesOn (ByOperator Go) ruling f g)
    (λ ruling d. decided f g c.requires refl c.rulings_have_grounds.ensures Go refl
    (λ go. (c.is_quiet.ensures.quiet c.requires.world c.requires.stands).0 c.if-not-is_quiet.false) refl ruling d)
    c.go.ensures
