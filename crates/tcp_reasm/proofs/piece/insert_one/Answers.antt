use Rattle.std.proofs.Common.{◌∙◌}
use Rattle.std.specs.Prelude.{insert}
use Rattle.tcp_reasm.proofs.Placed.{placed_at, if_ok}
use Rattle.tcp_reasm.proofs.piece.insert_one.Goals as goal

pub returns-clause-runs : goal.returns-clause-runs
returns-clause-runs c = (placed_at c.args.piece c.args.pieces.now.items c.as_slice.result.now c.insert.new.self.items c.begun_count-index.result
    c.requires.some c.requires.within c.requires.runs c.requires.free c.as_slice.ensures.value c.begun_count-index.ensures.count
    (c.insert.ensures.items ∙ if_ok c.insert.result (insert c.args.pieces.now.items c.begun_count-index.result c.args.piece) c.args.pieces.now.items
    (c.insert.ensures.succeeds c.requires.room))).runs

pub returns-clause-bytes : goal.returns-clause-bytes
returns-clause-bytes c = (placed_at c.args.piece c.args.pieces.now.items c.as_slice.result.now c.insert.new.self.items c.begun_count-index.result
    c.requires.some c.requires.within c.requires.runs c.requires.free c.as_slice.ensures.value c.begun_count-index.ensures.count
    (c.insert.ensures.items ∙ if_ok c.insert.result (insert c.args.pieces.now.items c.begun_count-index.result c.args.piece) c.args.pieces.now.items
    (c.insert.ensures.succeeds c.requires.room))).bytes
