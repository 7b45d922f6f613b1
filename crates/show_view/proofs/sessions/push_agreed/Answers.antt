use Rattle.std.proofs.Common.{◌≡◌, min, string_bytes, arith}
use Rattle.why_view.specs.Stories.{story_peering}
use Rattle.show_view.proofs.Agreeing.{agreed_are}
use Rattle.show_view.proofs.Pieces.{worded}
use Rattle.show_view.proofs.sessions.push_agreed.Goals as goal

pub returns : goal.returns
returns c = λ input.
    let hold : c.min-hold.result ≡ min c.args.peering.now.home_hold c.in-Some.theirs.hold = omega (arith, c.min-hold.ensures) in
    worded (string_bytes c.args.text.now)
    (agreed_are (story_peering input c.args.peering.now).first c.args.opened.now c.in-Some.theirs c.min-hold.result c.as_octets-octets.result
    c.is_wide.result c.in-Some.is hold c.as_octets-octets.ensures (c.is_wide.ensures input)) c.in_ok-write.ensures.bytes
