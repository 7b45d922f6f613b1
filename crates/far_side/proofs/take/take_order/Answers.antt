use Rattle.std.proofs.Common.{◌≡◌, ℕ, List, true, false, arith, ap, refl, sym, ◌∙◌}
use Rattle.std.specs.Option.{option_copied}
use Rattle.std.proofs.lemmas.Result.{on_ok_weaker}
use Rattle.session_value.specs.Cases.{sending}
use Rattle.remote_end.specs.Remotes.{RemoteValue}
use Rattle.far_side.proofs.Takings.{drop_order_each, drop_silent_each, drop_long_each, order_each}
use Rattle.far_side.proofs.take.take_order.Goals as goal

pub returns-then-from-far-clause-took : goal.returns-then-from-far-clause-took
returns-then-from-far-clause-took g c = on_ok_weaker c.note_dropped.result (drop_order_each c.args.far.now c.args.post.now
    c.note_dropped.new.post c.args.from c.requires c.args.step (omega (arith, c.if-from-far.true))) c.note_dropped.ensures.ok

pub returns-in_default-clause-took : goal.returns-in_default-clause-took
returns-in_default-clause-took g c = on_ok_weaker c.note_dropped-in_default.result
    (drop_silent_each c.args.far.now c.args.post.now c.note_dropped-in_default.new.post c.args.from c.requires c.args.step
    (sym c.get.ensures ∙ ap option_copied c.in_default.is)) c.note_dropped-in_default.ensures.ok

pub returns-then-not-has_room-clause-took : goal.returns-then-not-has_room-clause-took
returns-then-not-has_room-clause-took g c = on_ok_weaker c.note_dropped-then-not-has_room.result
    (drop_long_each c.args.far.now c.args.post.now c.note_dropped-then-not-has_room.new.post c.args.from c.requires c.args.step c.in-Some.bytes.now
    (sym c.get.ensures ∙ ap option_copied c.in-Some.is)
    (λ room. let yes : false ≡ true = c.if-not-has_room.ensures.1 (omega (arith, room, c.len.ensures)) in
    let x : ⊥ = cc in x)) c.note_dropped-then-not-has_room.ensures.ok

pub returns-clause-took : goal.returns-clause-took
returns-clause-took g c = on_ok_weaker c.say.result
    (λ same. order_each c.args.far.now c.args.post.now c.note_far.new.post c.args.from c.requires c.args.step c.in-Some.bytes.now c.say.new.self
    (omega (arith, c.if-from-far.false)) (sym c.get.ensures ∙ ap option_copied c.in-Some.is)
    (omega (arith, c.if-not-has_room.ensures.0 refl, c.len.ensures)) c.in_ok-note_far.ensures.ok
    (same ∙ ap (λ (xs : List ℕ). let r : RemoteValue = record c.args.far.now.remote { end = sending xs c.args.far.now.remote.end } in r)
    c.as_slice.ensures)) c.say.ensures
