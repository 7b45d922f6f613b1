use Rattle.session_value.proofs.Ties.{begun_is}
use Rattle.session_value.proofs.laws.a_begun_session_is_of_its_story.Goals as goal

pub returns : goal.returns
returns c = begun_is
