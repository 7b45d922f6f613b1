use Rattle.std.proofs.Common.{◌∙◌, sym, subst, refl, arith}
use Rattle.std.specs.Prelude.{All}
use Rattle.std.proofs.lemmas.List.{take_all}
use Rattle.std.proofs.lemmas.List.Elements.{All-more}
use Rattle.audit_router.specs.Parts.{RouterInvariant}
use Rattle.run_auditor.specs.Rests.{RouterRests}
use Rattle.run_auditor.proofs.entries.routers_rest.Goals as goal

pub is_at_rest-requires : goal.is_at_rest-requires
is_at_rest-requires c = subst RouterInvariant (sym c.router-item.is) (c.requires c.loop-router.router-index c.router-item.result c.loop-router-test.true)

pub returns-then-not-is_at_rest : goal.returns-then-not-is_at_rest
returns-then-not-is_at_rest c = (
  λ no. absurd cc,
  λ all. sym c.if-not-is_at_rest.true ∙ c.is_at_rest.ensures.1
      (subst RouterRests (sym c.router-item.is) (all c.loop-router.router-index c.router-item.result c.loop-router-test.true)),
)

pub loop-router-preserved : goal.loop-router-preserved
loop-router-preserved c = All-more RouterRests c.args.routers.now c.loop-router.router-index c.router-item.result c.loop-router-test.true c.loop-router.invariant
    (subst RouterRests c.router-item.is (c.is_at_rest.ensures.0 c.if-not-is_at_rest.false))

pub returns : goal.returns
returns c = (
  λ yes. subst (All RouterRests) (take_all c.loop-router.router-index c.args.routers.now (omega (arith, c.loop-router-test.false))) c.loop-router.invariant,
  λ all. refl,
)
