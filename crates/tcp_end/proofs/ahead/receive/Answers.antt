use Rattle.std.proofs.Common.{◌≡◌, ℕ, ◌+◌, ◌∙◌, length, ap, subst, sym, arith, refl}
use Rattle.tcp_seq.specs.Endpoint.{byte_from}
use Rattle.tcp_reasm.specs.Reassembly.{brought}
use Rattle.tcp_end.specs.Holes.{HasHole}
use Rattle.tcp_end.proofs.InOrder.{brings_hole, receives_run, receives_ahead, runs_ahead, same_bytes}
use Rattle.tcp_end.proofs.ahead.receive.Goals as goal

pub returns-in_ok-receive_in_order-clause-ok : goal.returns-in_ok-receive_in_order-clause-ok
returns-in_ok-receive_in_order-clause-ok c =
    let same : (k : ℕ)
    → byte_from c.in_window-offset.result.0 c.in_window-offset.result.1.now k ≡ brought c.args.ahead.now.next c.args.seq.0 c.args.bytes.now k =
    same_bytes c.in_window-offset.result.0 c.in_window-offset.result.1.now c.next.result.0
    c.args.ahead.now.next c.args.seq.0 c.args.bytes.now c.next.ensures c.in_window-offset.ensures.bytes in (
      brings_hole c.args.ahead.now c.args.seq.0 c.args.bytes.now c.in_window-offset.result.1.now c.in_window-offset.result.0 _ refl same
          (subst (λ (ps : _). HasHole ps c.in_window-offset.result.0 (c.in_window-offset.result.0 + length c.in_window-offset.result.1.now))
          c.pieces.ensures.pieces c.if-not-has_hole.ensures.hole),
      receives_run c.args.ahead.now c.receive_in_order.new.ahead c.args.ready.now
          c.receive_in_order.new.ready c.args.seq.0 c.args.bytes.now c.in_window-offset.result.1.now
          (omega (arith, c.in_window-offset.ensures.within)) c.requires.runs
          (λ k. ap (λ (n : ℕ). byte_from n c.in_window-offset.result.1.now k) (sym c.if-from-eq0.true) ∙ same k) c.in_ok-receive_in_order.ensures.ok,
    )

pub returns-in_ok-put-clause-ok : goal.returns-in_ok-put-clause-ok
returns-in_ok-put-clause-ok c =
    let same : (k : ℕ)
    → byte_from c.in_window-offset.result.0 c.in_window-offset.result.1.now k ≡ brought c.args.ahead.now.next c.args.seq.0 c.args.bytes.now k =
    same_bytes c.in_window-offset.result.0 c.in_window-offset.result.1.now c.next.result.0
    c.args.ahead.now.next c.args.seq.0 c.args.bytes.now c.next.ensures c.in_window-offset.ensures.bytes in (
      brings_hole c.args.ahead.now c.args.seq.0 c.args.bytes.now c.in_window-offset.result.1.now c.in_window-offset.result.0 _ refl same
          (subst (λ (ps : _). HasHole ps c.in_window-offset.result.0 (c.in_window-offset.result.0 + length c.in_window-offset.result.1.now))
          c.pieces.ensures.pieces c.if-not-has_hole.ensures.hole),
      receives_ahead c.args.ahead.now c.put.new.self c.args.ready.now c.args.seq.0 c.args.bytes.now c.in_window-offset.result.1.now c.in_window-offset.result.0
          c.requires.runs (omega (arith, c.next.type_inv, c.next.ensures)) (omega (arith, c.if-from-eq0.false)) same c.in_ok-put.ensures.ok,
    )

pub returns-in_ok-put-clause-runs : goal.returns-in_ok-put-clause-runs
returns-in_ok-put-clause-runs c =
    runs_ahead c.args.ahead.now c.put.new.self c.args.seq.0 c.args.bytes.now c.in_window-offset.result.1.now c.in_window-offset.result.0
    c.requires.runs (omega (arith, c.if-from-eq0.false))
    (same_bytes c.in_window-offset.result.0 c.in_window-offset.result.1.now c.next.result.0
    c.args.ahead.now.next c.args.seq.0 c.args.bytes.now c.next.ensures c.in_window-offset.ensures.bytes)
    c.in_ok-put.ensures.ok c.in_ok-put.ensures.runs
