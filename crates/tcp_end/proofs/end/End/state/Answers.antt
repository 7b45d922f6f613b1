use Rattle.std.proofs.Common.{◌+◌, length, ap, ◌∙◌, arith}
use Rattle.tcp_end.specs.State.{raised}
use Rattle.tcp_end.proofs.Handed.{base_is, copy_is}
use Rattle.tcp_end.proofs.end.End.state.Goals as goal

pub returns : goal.returns
returns c =
    copy_is c.self.inside c.in_ok-from_slice.field-0 c.in_ok-from_slice-2.field-0 c.from_vec.result c.offset_from.result
    (c.in_ok-from_slice.ensures ∙ c.as_slice.ensures) (c.in_ok-from_slice-2.ensures ∙ c.as_slice-2.ensures)
    (c.from_vec.ensures ∙ c.raise.ensures ∙ ap (raised c.offset_from.result) (c.in_ok-pieces.ensures ∙ c.pieces.ensures.pieces))
    (base_is c.self.inside.receive_first.0 (c.self.inside.taken + length c.self.inside.ready) c.next.result.0 c.offset_from.result
    (omega arith) (c.next.ensures ∙ c.self.invariant.next) c.offset_from.ensures)
    ∙ c.self.view_is
