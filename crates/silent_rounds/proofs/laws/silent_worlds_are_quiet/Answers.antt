use Rattle.silent_rounds.proofs.Quieted.{worlds_quiet}
use Rattle.silent_rounds.proofs.laws.silent_worlds_are_quiet.Goals as goal

pub returns : goal.returns
returns c = worlds_quiet c.actors_have_their_numbers.ensures.actors c.what_is_told_can_be_written.ensures
    c.sessions_are_unbroken.ensures.unbroken c.still_worlds_have_no_graft_left.ensures c.worlds_are_on_the_way.ensures.way
    c.quiet_is_found.ensures.nothing c.silent_links_are_empty.ensures
