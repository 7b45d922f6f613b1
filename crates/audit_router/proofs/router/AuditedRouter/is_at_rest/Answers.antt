use Rattle.std.proofs.Common.{sym, ◌∙◌}
use Rattle.std.proofs.lemmas.Bool.{false≢true}
use Rattle.audit_router.proofs.Resting.{nothing_left, places_rest, rests_each, rests_everywhere, tables_rest}
use Rattle.audit_router.proofs.router.AuditedRouter.is_at_rest.Goals as goal

pub returns-then-places_rest : goal.returns-then-places_rest
returns-then-places_rest c =
    let r = c.args.self.now in (
      λ yes. nothing_left r (rests_everywhere r (c.places_rest.ensures.0 c.if-places_rest.true)) (c.is_at_rest.ensures.0 yes),
      λ none. c.is_at_rest.ensures.1 (tables_rest r none),
    )

pub returns-else-places_rest : goal.returns-else-places_rest
returns-else-places_rest c =
    let r = c.args.self.now in (
      λ yes. absurd (false≢true (sym c.if-places_rest.false ∙ yes)),
      λ none. c.places_rest.ensures.1 (rests_each r (places_rest r none)),
    )
