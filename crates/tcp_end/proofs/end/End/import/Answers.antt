use Rattle.std.proofs.Common.{◌∙◌, ap, sym, subst, arith}
use Rattle.tcp_seq.specs.declared.state.EndState.{EndState}
use Rattle.tcp_end.specs.Inner.{end_state, EndInvariant}
use Rattle.tcp_end.specs.Standing.{EndStands}
use Rattle.tcp_end.proofs.Handed.{imported_runs, imported_keeps, imported_is, fields_are}
use Rattle.tcp_end.proofs.end.End.import.Goals as goal

pub from_pieces-requires : goal.from_pieces-requires
from_pieces-requires c =
    imported_runs c.args.state c.into_vec-pieces.result.items c.count_from.new.pieces.items c.from_vec.result c.len.result 0 c.requires (omega arith)
    c.len.ensures c.into_vec-pieces.ensures c.count_from.ensures c.from_vec.ensures

pub invariant_of-result : goal.invariant_of-result
invariant_of-result c = subst EndInvariant (sym (fields_are c.args.state c.from_octets.result c.from_octets-2.result
    c.from_pieces.result c.plus.result.0 c.len.result c.into_vec-pieces.result.items c.count_from.new.pieces.items c.from_vec.result
    c.from_octets.ensures c.from_octets-2.ensures c.len.ensures c.into_vec-pieces.ensures c.count_from.ensures
    c.from_vec.ensures c.plus.ensures c.from_pieces.ensures)) (imported_keeps c.args.state c.requires)

pub returns-clause-same : goal.returns-clause-same
returns-clause-same c = ap end_state (fields_are c.args.state c.from_octets.result c.from_octets-2.result c.from_pieces.result
    c.plus.result.0 c.len.result c.into_vec-pieces.result.items c.count_from.new.pieces.items c.from_vec.result
    c.from_octets.ensures c.from_octets-2.ensures c.len.ensures c.into_vec-pieces.ensures c.count_from.ensures
    c.from_vec.ensures c.plus.ensures c.from_pieces.ensures) ∙ imported_is c.args.state c.requires

pub returns-clause-endpoint : goal.returns-clause-endpoint
returns-clause-endpoint c = λ e stands. subst (λ (s : EndState). EndStands s e) (sym (returns-clause-same c)) stands
