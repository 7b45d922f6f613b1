use Rattle.std.proofs.Common.{◌<◌, ◌≤◌, List, subst, sym}
use Rattle.std.specs.Prelude.{All}
use Rattle.bgp_types.specs.declared.attrs.RawAttr.{RawAttr}
use Rattle.bgp_types.specs.Rising.{IsRising}
use Rattle.bgp_types.specs.Values.{other_kind}
use Rattle.attr_codec.proofs.WriteLaws.{parted, rising_parts}
use Rattle.attr_codec.proofs.write.parts_of.Goals as goal

pub count_below-requires-2 : goal.count_below-requires-2
count_below-requires-2 c =
    subst (IsRising other_kind) (sym c.split_at.ensures.back) (rising_parts other_kind c.count_below.result c.args.others.now c.requires.rising).1

pub returns : goal.returns
returns c =
    parted c.args.others.now c.split_at.result.0.now c.split_at.result.1.now
    c.split_at-2.result.0.now c.split_at-2.result.1.now c.count_below.result c.count_below-2.result
    c.requires.rising c.requires.kinds c.split_at.ensures.front c.split_at.ensures.back c.split_at-2.ensures.front c.split_at-2.ensures.back
    (subst (λ (xs : List RawAttr). All (λ u. other_kind u < 1) xs) (sym c.split_at.ensures.front) c.count_below.ensures.below)
    (subst (λ (xs : List RawAttr). All (λ u. 1 ≤ other_kind u) xs) (sym c.split_at.ensures.back) c.count_below.ensures.above)
    (subst (λ (xs : List RawAttr). All (λ u. other_kind u < 17) xs) (sym c.split_at-2.ensures.front) c.count_below-2.ensures.below)
    (subst (λ (xs : List RawAttr). All (λ u. 17 ≤ other_kind u) xs) (sym c.split_at-2.ensures.back) c.count_below-2.ensures.above)
