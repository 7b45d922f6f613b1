use Rattle.lab_top.proofs.Journaled.{passes}
use Rattle.lab_top.proofs.laws.what_is_journaled_passes.Goals as goal

pub returns : goal.returns
returns c = λ bytes lab told end input ran fit is. passes bytes lab input ran fit (c.journals_read_back.ensures.divides bytes lab.journal fit)
    c.a_text_is_read_in_one_way.ensures.divided c.a_text_is_read_in_one_way.ensures.entries c.a_text_is_read_in_one_way.ensures.sound
    c.answers_tell_of_runs.ensures.no (c.accepted_is_a_setup.ensures bytes lab.input input) (c.accepted_is_in_range.ensures bytes lab.input input)
    told end is
