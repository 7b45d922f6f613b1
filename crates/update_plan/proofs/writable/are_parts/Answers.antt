use Rattle.std.proofs.Common.{◌≡◌, Bool, true, subst, arith}
use Rattle.std.specs.Prelude.{All, MatchBool}
use Rattle.std.proofs.lemmas.List.{take_all}
use Rattle.std.proofs.lemmas.List.Elements.{All-more}
use Rattle.bgp_types.specs.Writable.{IsPart}
use Rattle.update_plan.proofs.writable.are_parts.Goals as goal

when_true : (P Q : Type 0) (b : Bool) → b ≡ true → MatchBool b P Q → P
when_true P Q b e h = subst (λ (t : Bool). MatchBool t P Q) e h

pub loop-part-preserved : goal.loop-part-preserved
loop-part-preserved c =
    All-more IsPart c.args.path.now c.loop-part.part-index c.part-item.result (omega arith) c.loop-part.invariant
    (subst IsPart c.part-item.is
    (when_true (IsPart c.part-item.result) (¬ IsPart c.part-item.result) c.is_part.result c.if-not-is_part.false c.is_part.ensures))

pub returns : goal.returns
returns c = subst (All IsPart) (take_all c.loop-part.part-index c.args.path.now (omega arith)) c.loop-part.invariant
