use Rattle.std.proofs.Common.{refl, ltb, rules}
use Rattle.std.proofs.lemmas.List.Sorted.{IsPartitionPoint-from_clause, IsPartitionedBy-ltb}
use Rattle.tcp_seq.specs.declared.state.Piece.{Piece}
use Rattle.tcp_reasm.specs.Steps.{begun_below}
use Rattle.tcp_reasm.proofs.Counts.{begins_rise, point_counts}
use Rattle.tcp_reasm.proofs.piece.begun_count.Goals as goal

pub returns-clause-count : goal.returns-clause-count
returns-clause-count c =
    let begin = λ (p : Piece). p.offset in
    let parted = IsPartitionedBy-ltb begin c.args.pieces.now c.args.offset (begins_rise 0 c.args.pieces.now c.requires) in
    let point = IsPartitionPoint-from_clause (λ p. ltb (begin p) c.args.offset) _ _ c.partition_point.ensures.partitioned parted (λ a r q k. search rules) in
    point_counts (λ p. ltb (begin p) c.args.offset) (begun_below c.args.offset) refl
    (λ p ps. refl) c.args.pieces.now c.partition_point.result c.partition_point.ensures.bound point
