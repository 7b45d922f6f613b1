use Rattle.capsule_bytes.proofs.OneSpelling.{no_fault, one_fault}
use Rattle.capsule_bytes.proofs.laws.faults_exclude_one_another.Goals as goal

pub returns-clause-sound : goal.returns-clause-sound
returns-clause-sound c = no_fault

pub returns-clause-fault : goal.returns-clause-fault
returns-clause-fault c = one_fault
