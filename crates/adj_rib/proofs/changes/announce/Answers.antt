use Rattle.std.proofs.Common.{◌≡◌, ◌<◌, true, Some, length, take, sym, ap, ◌∙◌, arith}
use Rattle.std.specs.Prelude.{fold}
use Rattle.std.specs.FinMap as map
use Rattle.std.specs.List.{list_any}
use Rattle.std.proofs.lemmas.List.Folds.{list_any_at}
use Rattle.std.proofs.lemmas.List.Sums.{fold_more}
use Rattle.bgp_types.specs.Prefixes.{same_prefix}
use Rattle.bgp_types.proofs.OnceLaws.{same_itself}
use Rattle.bgp_story.specs.Readings.{Routes, announce as announced}
use Rattle.adj_rib.proofs.changes.announce.Goals as goal

pub loop-prefix-preserved : goal.loop-prefix-preserved
loop-prefix-preserved c =
    let p = c.prefix-item.result in
    let i = c.loop-prefix.prefix-index in
    let prefixes = c.args.prefixes.now in
    let attrs = c.args.attrs.now in
    let start = c.args.routes.now.contents in
    let lt : i < length prefixes = omega arith in
    let among : list_any (same_prefix p) prefixes ≡ true =
    list_any_at (same_prefix p) prefixes i p lt (ap (same_prefix p) (sym c.prefix-item.is) ∙ same_itself p) in
    let is : c.in_ok-shared.shared ≡ attrs = c.in_ok-shared.ensures ∙ c.in_ok-copy.ensures in
    record {
      routes = c.in_ok-announce_one.ensures.routes
          ∙ (ap (map.insert c.loop-prefix.routes.contents p) is
          ∙ (ap (λ (r : Routes). map.insert r p attrs) c.loop-prefix.invariant.routes
          ∙ (ap (announced (Some attrs) (fold (announced (Some attrs)) start (take i prefixes))) c.prefix-item.is
          ∙ sym (fold_more (announced (Some attrs)) start prefixes i p lt))));
      changed = λ before to gives m.
          c.in_ok-announce_one.ensures.changed before to (gives p among ∙ ap Some (sym is)) (c.loop-prefix.invariant.changed before to gives m);
    }
