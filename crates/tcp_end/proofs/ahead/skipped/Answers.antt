use Rattle.std.proofs.Common.{◌∙◌, ap, arith}
use Rattle.tcp_reasm.specs.Reassembly.{Reassembly}
use Rattle.tcp_end.proofs.Counted.{runs_skipped}
use Rattle.tcp_end.proofs.ahead.skipped.Goals as goal

pub from_pieces-requires : goal.from_pieces-requires
from_pieces-requires c = runs_skipped c.args.ahead.pieces c.into_vec-pieces.result.items c.remove_front.new.pieces.items
    c.count_from.new.pieces.items c.from_vec.result c.args.count c.args.by 0 (omega arith) c.requires.runs
    (c.into_vec-pieces.ensures ∙ c.into_pieces.ensures.pieces) c.remove_front.ensures c.count_from.ensures c.from_vec.ensures

pub returns-clause-runs : goal.returns-clause-runs
returns-clause-runs c = runs_skipped c.args.ahead.pieces c.into_vec-pieces.result.items c.remove_front.new.pieces.items
    c.count_from.new.pieces.items c.from_pieces.result.pieces c.args.count c.args.by 1 (omega arith) c.requires.runs
    (c.into_vec-pieces.ensures ∙ c.into_pieces.ensures.pieces) c.remove_front.ensures c.count_from.ensures
    (ap (λ (r : Reassembly). r.pieces) c.from_pieces.ensures ∙ c.from_vec.ensures)
