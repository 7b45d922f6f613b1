use Rattle.show_view.proofs.Telling.{still_to_be_told_is}
use Rattle.show_view.proofs.laws.still_to_be_told.Goals as goal

pub returns : goal.returns
returns c = still_to_be_told_is
