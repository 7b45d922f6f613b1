use Rattle.std.proofs.Common.{List, ℕ, sym, ap, subst, ◌∙◌}
use Rattle.std.proofs.lemmas.List.{drop_all}
use Rattle.std.proofs.lemmas.Result.{IfOk-weaker}
use Rattle.bgp_types.specs.FirstFault.{message_of}
use Rattle.bgp_types.specs.declared.fault.Expected.{Expected}
use Rattle.bgp_story.specs.Legal.{IsGot, got_open, open_in}
use Rattle.why_view.specs.Stories.{expected_open}
use Rattle.why_view.proofs.Got.{bytes_at, opened_here, opened_later}
use Rattle.why_view.proofs.stories.first_open.Goals as goal

pub open_got-requires : goal.open_got-requires
open_got-requires c =
    subst (λ (bytes : List ℕ). IsGot bytes) (sym c.deref.ensures)
    (bytes_at c.args.lines.now c.loop-line.line-index c.line-item.result c.in-Got.bytes c.loop-line-test.true c.line-item.is c.in-Got.is c.requires)

pub returns-in-Got : goal.returns-in-Got
returns-in-Got c = λ p e. IfOk-weaker c.open_got.result _ _
    (λ opened is. is ∙ ap (λ (x : Expected). open_in (message_of x c.deref.result.now)) e
    ∙ ap (λ (bytes : List ℕ). open_in (message_of (expected_open p) bytes)) c.deref.ensures
    ∙ sym (c.loop-line.invariant p
    ∙ opened_here p c.args.lines.now c.loop-line.line-index c.line-item.result c.in-Got.bytes c.loop-line-test.true c.line-item.is c.in-Got.is))
    c.open_got.ensures

pub loop-line-preserved : goal.loop-line-preserved
loop-line-preserved c = λ p. c.loop-line.invariant p
    ∙ opened_later p c.args.lines.now c.loop-line.line-index c.line-item.result c.loop-line-test.true c.line-item.is c.in_default.not-Got

pub returns : goal.returns
returns c = λ p e. sym (c.loop-line.invariant p ∙ ap (got_open p) (drop_all c.loop-line.line-index c.args.lines.now c.loop-line-test.false))
