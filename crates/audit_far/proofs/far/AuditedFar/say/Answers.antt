use Rattle.std.proofs.Common.{◌≡◌, ◌∙◌, List, ℕ, true, false, ap, arith, refl, sym}
use Rattle.std.specs.Option.{option_copied}
use Rattle.std.proofs.lemmas.Bool.{not-true, not-false}
use Rattle.session_value.specs.Cases.{sending}
use Rattle.remote_end.specs.Remotes.{RemoteValue}
use Rattle.audit_channels.specs.Channels.{parcels_in}
use Rattle.graft_steps.specs.declared.item.Item.TheVariants as items
use Rattle.audit_far.proofs.Heads.{ordered_is, other_number, same_number, say_made, say_nothing, say_other, say_too_much, taken_is}
use Rattle.audit_far.proofs.far.AuditedFar.say.Goals as goal

pub returns-then-ne : goal.returns-then-ne
returns-then-ne c = say_other c.args.self.now c.requires.sound c.args.step c.args.self.now (parcels_in c.args.channel.now) (parcels_in c.args.channel.now)
    (λ is. other_number c.next_step.result c.args.step (not-true _ (sym c.ne.ensures ∙ c.if-ne.true)) (c.next_step.ensures ∙ is)) refl refl

pub returns-in_default : goal.returns-in_default
returns-in_default c = say_nothing c.args.self.now c.requires.sound c.args.step c.args.self.now (parcels_in c.args.channel.now) (parcels_in c.args.channel.now)
    (sym c.get.ensures ∙ ap option_copied c.in_default.is) refl refl

pub returns-then-not-has_room : goal.returns-then-not-has_room
returns-then-not-has_room c = say_too_much c.args.self.now c.requires.sound c.args.step c.args.self.now
    (parcels_in c.args.channel.now) (parcels_in c.args.channel.now) c.in-Some.bytes.now
    (sym c.get.ensures ∙ ap option_copied c.in-Some.is)
    (λ room. let yes : false ≡ true = c.if-not-has_room.ensures.1 (omega (arith, room, c.len.ensures)) in let b : ⊥ = cc in b) refl refl

pub returns : goal.returns
returns c =
    let next = ordered_is _ c.args.step (sym c.next_step.ensures ∙ same_number c.next_step.result c.args.step (not-false _ (sym c.ne.ensures ∙ c.if-ne.false))) in
    say_made c.args.self.now c.requires.sound c.args.step _ (parcels_in c.args.channel.now) (parcels_in c.take.new.self) c.in-Some.bytes.now c.say.new.self
    (sym c.get.ensures ∙ ap option_copied c.in-Some.is)
    (omega (arith, c.if-not-has_room.ensures.0 refl, c.len.ensures))
    (c.in_ok-say.ensures ∙ ap (λ (xs : List ℕ). let r : RemoteValue =
    record c.args.self.now.remote { end = sending xs c.args.self.now.remote.end } in r) c.as_slice.ensures)
    refl
    (taken_is c.take.result (parcels_in c.args.channel.now) (parcels_in c.take.new.self) (items.SayOrder c.args.step)
    c.take.ensures.some c.take.ensures.none next)
