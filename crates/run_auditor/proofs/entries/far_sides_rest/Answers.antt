use Rattle.std.proofs.Common.{◌∙◌, sym, subst, refl, arith}
use Rattle.std.specs.Prelude.{All}
use Rattle.std.proofs.lemmas.List.{take_all}
use Rattle.std.proofs.lemmas.List.Elements.{All-more}
use Rattle.audit_far.specs.Parts.{FarInvariant}
use Rattle.run_auditor.specs.Rests.{FarRests}
use Rattle.run_auditor.proofs.entries.far_sides_rest.Goals as goal

pub is_at_rest-requires : goal.is_at_rest-requires
is_at_rest-requires c = subst FarInvariant (sym c.far-item.is) (c.requires c.loop-far.far-index c.far-item.result c.loop-far-test.true)

pub returns-then-not-is_at_rest : goal.returns-then-not-is_at_rest
returns-then-not-is_at_rest c = (
  λ no. absurd cc,
  λ all. sym c.if-not-is_at_rest.true ∙ c.is_at_rest.ensures.1
      (subst FarRests (sym c.far-item.is) (all c.loop-far.far-index c.far-item.result c.loop-far-test.true)),
)

pub loop-far-preserved : goal.loop-far-preserved
loop-far-preserved c = All-more FarRests c.args.far_sides.now c.loop-far.far-index c.far-item.result c.loop-far-test.true c.loop-far.invariant
    (subst FarRests c.far-item.is (c.is_at_rest.ensures.0 c.if-not-is_at_rest.false))

pub returns : goal.returns
returns c = (
  λ yes. subst (All FarRests) (take_all c.loop-far.far-index c.args.far_sides.now (omega (arith, c.loop-far-test.false))) c.loop-far.invariant,
  λ all. refl,
)
