use Rattle.std.proofs.Common.{◌∙◌, Some, ap, arith, sym}
use Rattle.std.specs.Option.{option_copied}
use Rattle.graft_steps.specs.Refusals.{freeze_refusal}
use Rattle.audit_router.specs.declared.place.Place.TheVariants.{Live}
use Rattle.audit_router.proofs.AtSource.{begins_with}
use Rattle.audit_router.proofs.place.Place.begins.Goals as goal

pub returns : goal.returns
returns c =
    begins_with c.args.graft c.args.self.now c.in-Live.session c.in-Leaving.ids
    (c.in-Live.is ∙ ap (Live c.in-Live.session) (sym c.as_ref.ensures.value ∙ (ap option_copied c.in_ok-ids.was ∙ ap Some c.in-Leaving.is)))
    (omega (arith, c.if-ids-graft.false)) c.err.result
    (c.err.ensures.value ∙ (c.freeze.ensures.refusal
    ∙ (λ i. freeze_refusal (c.new-ordered.ensures i).source (c.new-ordered.ensures i).target (c.state.ensures i) (c.hold.ensures i))))
