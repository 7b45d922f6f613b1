use Rattle.std.proofs.Common.{◌+◌, drop}
use Rattle.capsule_parts.proofs.Told.{stays_same, telling_more, telling_next}
use Rattle.capsule_parts.proofs.retell.tell_lines.Goals as goal

pub loop-line-init : goal.loop-line-init
loop-line-init c = (stays_same c.args.session.now.session, λ told t. t)

pub returns-then-not-branch-clause-told : goal.returns-then-not-branch-clause-told
returns-then-not-branch-clause-told c = λ told t.
    let next = telling_next c.args.story.now c.args.session.now.session c.loop-line.session.session c.loop-line.line-index c.line-item.result
    c.loop-line-test.true c.line-item.is c.loop-line.invariant told t in
    let goes = (c.in_ok-tell_line.ensures.told told (drop (c.loop-line.line-index + 1) c.args.story.now) next).0 in
    absurd cc

pub loop-line-preserved : goal.loop-line-preserved
loop-line-preserved c =
    telling_more c.args.story.now c.args.session.now.session c.loop-line.session.session c.loop-line.line-index c.line-item.result
    c.loop-line-test.true c.line-item.is c.loop-line.invariant c.tell_line.new.session.session c.in_ok-tell_line.ensures.stays
    (λ told rest t. (c.in_ok-tell_line.ensures.told told rest t).1)
