use Rattle.journal_form.proofs.Dividing.{divided_once}
use Rattle.journal_form.proofs.OneReading.{one_list, no_fault, one_fault}
use Rattle.journal_form.proofs.laws.a_text_is_read_in_one_way.Goals as goal

pub returns-clause-divided : goal.returns-clause-divided
returns-clause-divided c = divided_once

pub returns-clause-entries : goal.returns-clause-entries
returns-clause-entries c = one_list

pub returns-clause-sound : goal.returns-clause-sound
returns-clause-sound c = no_fault

pub returns-clause-fault : goal.returns-clause-fault
returns-clause-fault c = one_fault
