use Rattle.std.proofs.Common.{◌≤◌, ◌<◌, arith, get_or, drop, subst}
use Rattle.std.proofs.lemmas.List.Elements.{All-from_recursion, All-more}
use Rattle.bgp_types.specs.declared.attrs.RawAttr.{RawAttr}
use Rattle.bgp_types.specs.Values.{other_kind}
use Rattle.attr_codec.proofs.WriteLaws.{rest_above}
use Rattle.attr_codec.proofs.write.count_below.Goals as goal

pub returns-then-other-kind-clause-above : goal.returns-then-other-kind-clause-above
returns-then-other-kind-clause-above c =
    let item = c.other-item.result in
    let le : c.args.kind ≤ other_kind (get_or c.args.others.now c.loop-other.other-index item) =
    subst (λ (x : RawAttr). c.args.kind ≤ other_kind x) c.other-item.is c.if-other-kind.true in
    let i = c.loop-other.invariant.0 in
    rw i (All-from_recursion (λ x. c.args.kind ≤ other_kind x) (drop c.loop-other.other-index c.args.others.now)
    (rest_above other_kind c.args.kind c.loop-other.other-index c.args.others.now item c.requires c.loop-other-test.true le))

pub loop-other-preserved : goal.loop-other-preserved
loop-other-preserved c =
    let item = c.other-item.result in
    let lt : other_kind (get_or c.args.others.now c.loop-other.other-index item) < c.args.kind =
    subst (λ (x : RawAttr). other_kind x < c.args.kind) c.other-item.is c.if-other-kind.false in (
      omega arith,
      All-more (λ (other : RawAttr). other.kind < c.args.kind) c.args.others.now
          c.loop-other.other-index item c.loop-other-test.true c.loop-other.invariant.1 lt,
    )
