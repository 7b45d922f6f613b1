use Rattle.std.proofs.Common.{◌+◌, length, refl, leb, rules}
use Rattle.std.proofs.lemmas.List.Sorted.{IsPartitionPoint-from_clause, IsPartitionedBy-leb}
use Rattle.tcp_seq.specs.declared.state.Piece.{Piece}
use Rattle.tcp_reasm.specs.Steps.{passed}
use Rattle.tcp_reasm.proofs.Counts.{ends_rise, point_counts}
use Rattle.tcp_reasm.proofs.piece.passed_count.Goals as goal

pub returns-clause-count : goal.returns-clause-count
returns-clause-count c =
    let end = λ (p : Piece). p.offset + length p.bytes in
    let parted = IsPartitionedBy-leb end c.args.pieces.now c.args.offset (ends_rise 0 c.args.pieces.now c.requires) in
    let point = IsPartitionPoint-from_clause (λ p. leb (end p) c.args.offset) _ _ c.partition_point.ensures.partitioned parted (λ a r q k. search rules) in
    point_counts (λ p. leb (end p) c.args.offset) (passed c.args.offset) refl
    (λ p ps. refl) c.args.pieces.now c.partition_point.result c.partition_point.ensures.bound point
