use Rattle.graft_model.proofs.Dirties.{hear_dirties, clear_dirties}
use Rattle.graft_model.proofs.effects.what_changed_is_dirty.Goals as goal

-- src/effects.rt
pub returns-clause-hear : goal.returns-clause-hear
returns-clause-hear c setup r q prefix route before after sent row = hear_dirties q prefix route before after sent row

pub returns-clause-clear : goal.returns-clause-clear
returns-clause-clear c setup r q k p x before after sent row = clear_dirties q k p x before after sent row
