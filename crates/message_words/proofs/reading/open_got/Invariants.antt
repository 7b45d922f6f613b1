use Rattle.std.proofs.Common.{◌≡◌, drop}
use Rattle.bgp_story.specs.Legal.{Peering, got_open}
use Rattle.message_words.proofs.reading.open_got.Given as goal

-- the OPEN is that of the lines that are left: nothing was got so far
abbrev pub invariant-loop-line : goal.invariant-loop-line
invariant-loop-line l =
    let peering : Peering = record { first = l.first; remote_as = l.remote_as } in
    got_open peering (drop l.line-index l.lines) ≡ got_open peering l.lines
