use Rattle.std.proofs.Common.{◌≡◌, ◌+◌, ◌≤◌, ◌∙◌, ap, sym, arith, length, drop, List, [], ℕ, Some, Option}
use Rattle.std.specs.List.{cons_option}
use Rattle.bgp_types.specs.declared.message.Update.{Update}
use Rattle.bgp_types.specs.Header.{frame_at}
use Rattle.lab_answers.specs.Imports.{meds_of_updates}
use Rattle.lab_answers.proofs.Adding.{adds_same}
use Rattle.lab_answers.proofs.Framing.{one_frame, last_frame}
use Rattle.lab_answers.proofs.imports.Imports.note_said.Goals as goal

pub loop-len-init : goal.loop-len-init
loop-len-init c = λ new adds. adds

pub loop-len-preserved : goal.loop-len-preserved
loop-len-preserved c =
    let cut : frame_at c.loop-len.left.now ≡ Some (c.split_at.result.0.now, c.split_at.result.1.now) =
    (c.in-Some.ensures).0 ∙ ap (λ (x : List ℕ). Some (x, drop c.in-Some.len c.loop-len.left.now)) (sym c.split_at.ensures.front)
    ∙ ap (λ (y : List ℕ). Some (c.split_at.result.0.now, y)) (sym c.split_at.ensures.back) in
    one_frame c.args.self.now c.args.expected.now c.split_at.result.0.now c.split_at.result.1.now
    c.loop-len.left.now c.args.said.now _ _ _ cut c.loop-len.invariant
    (adds_same _ _ _ _ (ap (λ (o : Option Update). meds_of_updates c.args.self.now (cons_option o [])) c.in_ok-update.ensures) c.in_ok-note_if_update.ensures)

pub loop-len-preserved-in_ok-note_if_update : goal.loop-len-preserved-in_ok-note_if_update
loop-len-preserved-in_ok-note_if_update c =
    let cut : frame_at c.loop-len.left.now ≡ Some (c.split_at.result.0.now, c.split_at.result.1.now) =
    (c.in-Some.ensures).0 ∙ ap (λ (x : List ℕ). Some (x, drop c.in-Some.len c.loop-len.left.now)) (sym c.split_at.ensures.front)
    ∙ ap (λ (y : List ℕ). Some (c.split_at.result.0.now, y)) (sym c.split_at.ensures.back) in
    one_frame c.args.self.now c.args.expected.now c.split_at.result.0.now c.split_at.result.1.now
    c.loop-len.left.now c.args.said.now _ _ _ cut c.loop-len.invariant
    (adds_same _ _ _ _ (ap (λ (o : Option Update). meds_of_updates c.args.self.now (cons_option o [])) c.in_ok-update.ensures) c.in_ok-note_if_update.ensures)

pub loop-len-smaller : goal.loop-len-smaller
loop-len-smaller c =
    let shorter : length c.split_at.result.1.now + c.in-Some.len ≡ length c.loop-len.left.now = c.split_at.ensures.back_len in
    let long : 19 ≤ c.in-Some.len = (c.in-Some.ensures).2 in
    omega (arith, shorter, long)

pub returns : goal.returns
returns c = last_frame c.args.self.now c.args.expected.now c.loop-len.left.now c.args.said.now _ _ (sym c.in_default.ensures) c.loop-len.invariant
