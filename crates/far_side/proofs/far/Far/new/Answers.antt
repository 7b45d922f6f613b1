use Rattle.far_side.proofs.Begins.{begun_keeps}
use Rattle.far_side.proofs.far.Far.new.Goals as goal

pub invariant_of-result : goal.invariant_of-result
invariant_of-result c = record {
  sound = λ fresh. begun_keeps c.args.known c.args.config c.in_ok-new.field-0 c.in_ok-new-2.field-0 c.new-3.result
      c.new-4.result c.requires c.in_ok-new.ensures c.in_ok-new-2.ensures c.new-3.ensures c.new-4.ensures;
}
