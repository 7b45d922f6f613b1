use Rattle.std.proofs.Common.{◌≡◌, ◌∙◌, ap, sym}
use Rattle.std.proofs.lemmas.Bool.{eq-eqb, eqb-true}
use Rattle.graft_steps.specs.declared.order.GraftIds.{GraftIds}
use Rattle.audit_router.proofs.place.Place.is_frozen_for.Goals as goal

pub returns-in-Frozen : goal.returns-in-Frozen
returns-in-Frozen c =
    let at = c.in-Frozen in (
      λ yes. (at.session, at.ids, at.is, eqb-true _ _ yes),
      λ frozen.
          let both = sym at.is ∙ frozen.2 in
          let same : at.ids ≡ frozen.1 = cc in eq-eqb _ _ (ap (λ (ids : GraftIds). ids.graft) same ∙ frozen.3),
    )
