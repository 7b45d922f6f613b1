use Rattle.std.proofs.Common.{◌≡◌, ◌-◌, ◌+◌, ◌∙◌, ap, arith, length, drop, subst, sym}
use Rattle.tcp_reasm.specs.Runs.{AreRuns}
use Rattle.tcp_end.specs.Filling.{reached}
use Rattle.tcp_reasm.specs.Reassembly.{Reassembly}
use Rattle.tcp_end.specs.Receiving.{made_ready}
use Rattle.tcp_end.proofs.InOrder.{run_count, run_within, run_behind}
use Rattle.tcp_end.proofs.ahead.receive_in_order.Goals as goal

reaches : (c : goal.After-len) → c.reached_count-reached.result ≡ reached (length c.args.bytes.now) c.args.ahead.now.pieces
reaches c = c.reached_count-reached.ensures.count ∙ ap (reached (length c.args.bytes.now)) c.pieces.ensures.pieces

counts : (c : goal.After-len) → c.len.result - c.len-before.result ≡ length (made_ready c.args.ahead.now c.args.bytes.now)
counts c = run_count c.args.ahead.now c.args.bytes.now c.args.ready.now c.add_in_order.new.ready
    c.len-before.result c.len.result c.reached_count-reached.result c.pieces-2.result.now
    c.len-before.ensures c.len.ensures (reaches c) c.pieces-2.ensures.pieces c.in_ok-add_in_order.ensures.ok

pub overflow_cast-count : goal.overflow_cast-count
overflow_cast-count c = omega (arith, counts c, run_within c.args.ahead.now c.args.bytes.now c.requires.len c.requires.runs)

pub skipped-requires-clause-runs : goal.skipped-requires-clause-runs
skipped-requires-clause-runs c =
    subst (λ (r : Reassembly). AreRuns (c.len.result - c.len-before.result + 1) (drop c.reached_count-reached.result r.pieces)) (sym c.replace.ensures.value)
    (run_behind c.args.ahead.now c.args.bytes.now _ c.reached_count-reached.result c.requires.len c.requires.runs
    (run_count c.args.ahead.now c.args.bytes.now c.args.ready.now c.add_in_order.new.ready
    c.len-before.result c.len.result c.reached_count-reached.result c.pieces-2.result.now
    c.len-before.ensures c.len.ensures (c.reached_count-reached.ensures.count ∙ ap (reached (length c.args.bytes.now)) c.pieces.ensures.pieces)
    c.pieces-2.ensures.pieces c.in_ok-add_in_order.ensures.ok)
    (c.reached_count-reached.ensures.count ∙ ap (reached (length c.args.bytes.now)) c.pieces.ensures.pieces))
