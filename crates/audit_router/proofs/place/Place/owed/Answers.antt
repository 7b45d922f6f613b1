use Rattle.std.proofs.Common.{◌∙◌, Some, ap, arith, sym}
use Rattle.std.specs.Option.{option_copied}
use Rattle.graft_steps.specs.declared.order.GraftIds.{GraftIds}
use Rattle.audit_router.specs.declared.place.Place.TheVariants.{Live}
use Rattle.audit_router.proofs.Landings.{owed_with}
use Rattle.audit_router.proofs.place.Place.owed.Goals as goal

pub returns : goal.returns
returns c =
    owed_with c.args.graft c.args.self.now c.in-Live.session c.in-Owing.landed
    (c.in-Live.is ∙ ap (Live c.in-Live.session) (sym c.as_ref.ensures.value ∙ (ap option_copied c.in_ok-landed.was ∙ ap Some c.in-Owing.is)))
    (ap (λ (ids : GraftIds). ids.graft) (sym c.ids.ensures) ∙ (omega (arith, c.if-ids-graft.false)))
