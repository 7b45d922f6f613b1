use Rattle.std.proofs.Common.{rules}
use Rattle.std.proofs.lemmas.Result.{on_ok_weaker}
use Rattle.far_side.proofs.Takings.{IsOther, drop_other_each}
use Rattle.far_side.proofs.take.take.Goals as goal

pub returns : goal.returns
returns g c =
    let other : IsOther c.args.item = search rules in record {
      edges = c.note_dropped.ensures.edges;
      took = on_ok_weaker c.note_dropped.result
          (drop_other_each c.args.far.now c.args.post.now c.note_dropped.new.post c.args.from c.requires c.args.item other) c.note_dropped.ensures.ok;
    }
