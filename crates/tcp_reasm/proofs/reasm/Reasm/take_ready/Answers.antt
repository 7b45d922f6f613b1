use Rattle.std.proofs.Common.{◌∙◌, ◌++◌, ap, length, take}
use Rattle.tcp_reasm.specs.Steps.{in_order, piece_bytes}
use Rattle.tcp_reasm.proofs.Ready.{takes_ready, runs_left}
use Rattle.tcp_reasm.proofs.reasm.Reasm.take_ready.Goals as goal

pub invariant_of-self : goal.invariant_of-self
invariant_of-self c =
    runs_left c.self.inside.pieces.items c.remove_first.new.pieces.items c.ready-count.result.0 c.ready-count.result.1 c.self.invariant
    (c.ready-count.ensures.count ∙ ap (in_order 0) c.as_slice.ensures.value)
    (c.ready-count.ensures.bytes ∙ ap (λ ps. length (piece_bytes (take c.ready-count.result.0 ps))) c.as_slice.ensures.value)
    c.remove_first.ensures

pub returns-clause-runs : goal.returns-clause-runs
returns-clause-runs c =
    runs_left c.self.inside.pieces.items c.remove_first.new.pieces.items c.ready-count.result.0 c.ready-count.result.1 c.self.invariant
    (c.ready-count.ensures.count ∙ ap (in_order 0) c.as_slice.ensures.value)
    (c.ready-count.ensures.bytes ∙ ap (λ ps. length (piece_bytes (take c.ready-count.result.0 ps))) c.as_slice.ensures.value)
    c.remove_first.ensures

pub returns-clause-ok : goal.returns-clause-ok
returns-clause-ok c =
    rw (← c.self.view_is) (takes_ready c.self.inside.next.0 c.plus-self-inside.result.0 c.self.inside.pieces.items
    c.remove_first.new.pieces.items c.args.out.now c.append.new.out c.ready-count.result.0 c.ready-count.result.1 c.self.invariant
    (c.ready-count.ensures.count ∙ ap (in_order 0) c.as_slice.ensures.value)
    (c.ready-count.ensures.bytes ∙ ap (λ ps. length (piece_bytes (take c.ready-count.result.0 ps))) c.as_slice.ensures.value)
    (c.in_ok-append.ensures.ok ∙ ap (λ ps. c.args.out.now ++ piece_bytes (take c.ready-count.result.0 ps)) c.deref.ensures.value)
    c.remove_first.ensures
    c.plus-self-inside.ensures)
