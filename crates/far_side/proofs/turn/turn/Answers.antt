use Rattle.std.proofs.Common.{rules, ◌≡◌, ℕ, ◌+◌, subst}
use Rattle.std.proofs.lemmas.Result.{on_ok_weaker}
use Rattle.ring_net.proofs.TakesEach.{same_edges_then}
use Rattle.tcp_seq.specs.declared.segment.Way.TheVariants.{Home}
use Rattle.far_side.specs.Passes.{LinkPass}
use Rattle.far_side.specs.declared.fields.Fields.{Fields}
use Rattle.far_side.proofs.Kept.{keeps_counts}
use Rattle.far_side.proofs.Sessions.{for_each}
use Rattle.far_side.proofs.TurnSteps.{turns_once}
use Rattle.far_side.proofs.turn.turn.Goals as goal

pub pass-requires : goal.pass-requires
pass-requires g c = keeps_counts c.args.far.now (let f : Fields = record c.args.far.now { turns = c.in-Some.turns } in f) c.requires

pub returns-in_err-pass-2-clause-edges : goal.returns-in_err-pass-2-clause-edges
returns-in_err-pass-2-clause-edges g c = same_edges_then _ _ _ c.pass.ensures.edges c.pass-2.ensures.edges

pub returns-in_err-send_again-clause-edges : goal.returns-in_err-send_again-clause-edges
returns-in_err-send_again-clause-edges g c =
    same_edges_then _ _ _ c.pass.ensures.edges (same_edges_then _ _ _ c.pass-2.ensures.edges c.send_again.ensures.edges)

pub returns-in_err-send_keepalive-clause-edges : goal.returns-in_err-send_keepalive-clause-edges
returns-in_err-send_keepalive-clause-edges g c = same_edges_then _ _ _ c.pass.ensures.edges
    (same_edges_then _ _ _ c.pass-2.ensures.edges (same_edges_then _ _ _ c.send_again.ensures.edges c.send_keepalive.ensures.edges))

pub returns-in_err-send_fresh-clause-edges : goal.returns-in_err-send_fresh-clause-edges
returns-in_err-send_fresh-clause-edges g c =
    same_edges_then _ _ _ c.pass.ensures.edges (same_edges_then _ _ _ c.pass-2.ensures.edges
    (same_edges_then _ _ _ c.send_again.ensures.edges (same_edges_then _ _ _ c.send_keepalive.ensures.edges c.send_fresh.ensures.edges)))

pub returns-clause-edges : goal.returns-clause-edges
returns-clause-edges g c =
    same_edges_then _ _ _ c.pass.ensures.edges (same_edges_then _ _ _ c.pass-2.ensures.edges (same_edges_then _ _ _ c.send_again.ensures.edges
    (same_edges_then _ _ _ c.send_keepalive.ensures.edges (same_edges_then _ _ _ c.send_fresh.ensures.edges c.send_answer.ensures.edges))))

pub returns-clause-turned : goal.returns-clause-turned
returns-clause-turned g c =
    let counted : c.in-Some.turns ≡ c.args.far.now.turns + 1 = search rules in
    on_ok_weaker c.send_answer.result
    (λ answer. for_each _ c.send_answer.new.far
    (λ session. turns_once session c.args.far.now c.pass.new.far c.pass-2.new.far c.send_again.new.far
    c.send_keepalive.new.far c.send_fresh.new.far c.send_answer.new.far
    c.args.post.now c.pass.new.post c.pass-2.new.post c.send_again.new.post c.send_keepalive.new.post c.send_fresh.new.post c.send_answer.new.post
    (subst (λ (n : ℕ). LinkPass session Home (let f : Fields = record c.args.far.now { turns = n } in f) c.args.post.now c.pass.new.far c.pass.new.post)
    counted (c.in_ok-pass.ensures.pass.each session))
    (c.in_ok-pass-2.ensures.pass.each session) (c.in_ok-send_again.ensures.sent.each session)
    (c.in_ok-send_keepalive.ensures.beaten.each session) (c.in_ok-send_fresh.ensures.sent.each session) (answer.each session))
    (λ session t. t.keeps)) c.send_answer.ensures.sent
