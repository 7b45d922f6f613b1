use Rattle.std.proofs.Common.{arith}
use Rattle.std.proofs.lemmas.Result.{on_ok_weaker}
use Rattle.far_side.proofs.Takings.{drop_word_each, followed_each, ignored_each}
use Rattle.far_side.proofs.take.take_word.Goals as goal

pub returns-then-from-far-clause-took : goal.returns-then-from-far-clause-took
returns-then-from-far-clause-took g c = on_ok_weaker c.note_dropped.result (drop_word_each c.args.far.now c.args.post.now
    c.note_dropped.new.post c.args.from c.requires c.args.graft (omega (arith, c.if-from-far.true))) c.note_dropped.ensures.ok

pub returns-then-far-graft-clause-took : goal.returns-then-far-graft-clause-took
returns-then-far-graft-clause-took g c = ignored_each c.args.far.now c.args.post.now c.note_far.new.post c.args.from c.requires c.args.graft
    (omega (arith, c.if-from-far.false)) (omega (arith, c.if-far-graft.true)) c.in_ok-note_far.ensures.ok

pub returns-clause-took : goal.returns-clause-took
returns-clause-took g c = followed_each c.args.far.now c.args.post.now c.note_far.new.post c.args.from c.requires c.args.graft _ (omega
    (arith, c.if-from-far.false, c.requires.few)) (omega (arith, c.if-from-far.false)) (omega (arith, c.if-far-graft.false)) c.in_ok-note_far.ensures.ok
