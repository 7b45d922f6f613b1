use Rattle.std.proofs.Common.{◌<◌, ◌+◌, length, take, sym, ap, ◌∙◌, arith}
use Rattle.std.specs.Prelude.{fold}
use Rattle.std.specs.FinMap as map
use Rattle.std.proofs.lemmas.List.Sums.{fold_more}
use Rattle.rib_stages.specs.Values.{table_at}
use Rattle.router_core.proofs.PutPlaces.{settled_more}
use Rattle.router_core.proofs.stages.put.settle.Goals as goal

pub loop-prefix-preserved : goal.loop-prefix-preserved
loop-prefix-preserved c =
    let p = c.prefix-item.result in
    let i = c.loop-prefix.prefix-index in
    let prefixes = c.args.prefixes.now in
    let start = table_at c.args.due.now c.args.n in
    let lt : i < length prefixes = omega arith in
    record {
      length = c.remove.ensures.length ∙ c.loop-prefix.invariant.length;
      settled = settled_more (table_at c.args.due.now) (table_at c.loop-prefix.due) (table_at c.remove.new.self) c.args.n
          (fold map.remove start (take i prefixes)) (fold map.remove start (take (i + 1) prefixes)) p
          c.loop-prefix.invariant.settled c.remove.ensures.removed
          (ap (map.remove (fold map.remove start (take i prefixes))) c.prefix-item.is ∙ sym (fold_more map.remove start prefixes i p lt));
    }
