use Rattle.std.proofs.Common.{rules, List, ℕ, ◌+◌, ◌^◌, ◌≤◌, length, subst, refl}
use Rattle.tcp_end.specs.State.{stream_length}
use Rattle.bgp_session.proofs.Rounds.{passed_begins, passed_room, reply_of, round_writable}
use Rattle.bgp_session.proofs.parts.Parts.pass_down.Goals as goal

pub written-requires : goal.written-requires
written-requires c = round_writable c.args.self.now c.args.round _ _ c.requires.at
    (reply_of c.args.self.now c.args.round c.requires.at c.args.answer c.requires.reply) c.args.answer refl

pub write_down-requires-clause-begins : goal.write_down-requires-clause-begins
write_down-requires-clause-begins c =
    passed_begins c.args.self.now c.args.round _ _ c.requires.at (reply_of c.args.self.now c.args.round c.requires.at c.args.answer c.requires.reply)

pub write_down-requires-clause-room : goal.write_down-requires-clause-room
write_down-requires-clause-room c =
    subst (λ (xs : List ℕ). stream_length c.args.self.now.end + length xs ≤ 2 ^ 20) (search rules)
    (passed_room c.args.self.now c.args.round _ _ c.requires.at (reply_of c.args.self.now c.args.round c.requires.at c.args.answer c.requires.reply))

pub write_down-requires-clause-emitted : goal.write_down-requires-clause-emitted
write_down-requires-clause-emitted c = c.requires.at.keeps.stands.sound.sending.emitted
