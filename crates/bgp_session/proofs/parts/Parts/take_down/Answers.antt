use Rattle.std.proofs.Common.{rules, refl, ℕ, ◌+◌, ◌^◌, ◌≤◌, length, List, subst}
use Rattle.tcp_end.specs.State.{stream_length}
use Rattle.bgp_session.proofs.Got.{got_begins, got_room, reply_of, reply_writable}
use Rattle.bgp_session.proofs.parts.Parts.take_down.Goals as goal

pub written-requires : goal.written-requires
written-requires c = reply_writable _ c.args.bytes _ c.args.answer refl c.requires.reply

pub write_down-requires-clause-begins : goal.write_down-requires-clause-begins
write_down-requires-clause-begins c =
    got_begins c.args.self.now c.args.bytes _ _ c.requires.front (reply_of c.args.self.now c.args.bytes c.args.answer c.requires.reply)

pub write_down-requires-clause-room : goal.write_down-requires-clause-room
write_down-requires-clause-room c =
    let o = c.in_ok-octets.ensures in
    subst (λ (xs : List ℕ). stream_length c.args.self.now.end + length xs ≤ 2 ^ 20) (search rules)
    (got_room c.args.self.now c.args.bytes _ _ c.requires.front (reply_of c.args.self.now c.args.bytes c.args.answer c.requires.reply))

pub write_down-requires-clause-emitted : goal.write_down-requires-clause-emitted
write_down-requires-clause-emitted c = c.requires.front.keeps.stands.sound.sending.emitted
