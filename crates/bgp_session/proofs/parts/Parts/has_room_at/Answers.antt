use Rattle.std.proofs.Common.{◌≡◌, ℕ, ◌/◌, ◌%◌, ap, ◌∙◌, subst, arith}
use Rattle.std.specs.Prelude.{leb}
use Rattle.bgp_session.proofs.Opens.{kept_hold}
use Rattle.bgp_session.proofs.Rounds.{hold_third, room_if_over, room_if_beats}
use Rattle.bgp_session.proofs.parts.Parts.has_room_at.Goals as goal

pub returns-then-self-eq1 : goal.returns-then-self-eq1
returns-then-self-eq1 c = room_if_over c.args.self.now c.args.round c.requires.keeps c.requires.next (omega arith)

pub nonzero_rem-round : goal.nonzero_rem-round
nonzero_rem-round c =
    let long = hold_third c.args.self.now c.args.round c.requires.keeps c.requires.next in
    let hold = c.hold_so_far-keepalive_interval.ensures in
    omega arith

pub returns : goal.returns
returns c = room_if_beats c.args.self.now c.args.round c.requires.keeps c.requires.next _ (omega arith)
    (subst (λ (n : ℕ). c.args.round % (n / 3) ≡ 0) (c.hold_so_far-keepalive_interval.ensures ∙ kept_hold c.args.self.now c.requires.keeps) (omega arith))
    (ap (λ (n : ℕ). leb n 1044461) c.stream_len.ensures)
