use Rattle.std.proofs.Common.{List, [], ◌∷◌, ◌++◌, ap, ◌∙◌}
use Rattle.audit_tables.proofs.Beginning.{replicate_more}
use Rattle.audit_router.specs.declared.place.Place.{Place}
use Rattle.audit_router.specs.declared.place.Place.TheVariants.{Vacant}
use Rattle.audit_router.proofs.router.vacant_places.Goals as goal

pub loop-p-preserved : goal.loop-p-preserved
loop-p-preserved c =
    c.in_ok-push.ensures.items ∙ (ap (λ (xs : List Place). xs ++ Vacant ∷ []) c.loop-p.invariant ∙ replicate_more c.loop-p._p Vacant)
