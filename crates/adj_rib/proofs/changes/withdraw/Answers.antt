use Rattle.std.proofs.Common.{◌<◌, length, take, sym, ap, ◌∙◌, arith}
use Rattle.std.specs.Prelude.{fold}
use Rattle.std.proofs.lemmas.List.Sums.{fold_more}
use Rattle.bgp_story.specs.Readings.{Routes}
use Rattle.adj_rib.specs.Changes.{withdraw_unless}
use Rattle.adj_rib.proofs.changes.withdraw.Goals as goal

pub loop-prefix-preserved : goal.loop-prefix-preserved
loop-prefix-preserved c =
    let p = c.prefix-item.result in
    let i = c.loop-prefix.prefix-index in
    let prefixes = c.args.prefixes.now in
    let announced = c.args.announced.now in
    let start = c.args.routes.now.contents in
    let lt : i < length prefixes = omega arith in
    record {
      routes = c.in_ok-withdraw_one.ensures.routes
          ∙ (ap (λ (r : Routes). withdraw_unless announced r p) c.loop-prefix.invariant.routes
          ∙ (ap (withdraw_unless announced (fold (withdraw_unless announced) start (take i prefixes))) c.prefix-item.is
          ∙ sym (fold_more (withdraw_unless announced) start prefixes i p lt)));
      changed = λ before to among m. c.in_ok-withdraw_one.ensures.changed before to (among p) (c.loop-prefix.invariant.changed before to among m);
    }
