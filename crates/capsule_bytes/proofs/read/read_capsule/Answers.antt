use Rattle.std.proofs.Common.{subst}
use Rattle.capsule_bytes.specs.Stops.{Answers}
use Rattle.capsule_bytes.proofs.OneSpelling.{answers_capsule, answers_back, answers_fault}
use Rattle.capsule_bytes.proofs.read.read_capsule.Goals as goal

pub returns-clause-capsule : goal.returns-clause-capsule
returns-clause-capsule c = answers_capsule c.args.bytes.now c.read_whole.result c.read_whole.ensures

pub returns-clause-magic : goal.returns-clause-magic
returns-clause-magic c = λ is. subst (λ r. Answers c.args.bytes.now r) is c.read_whole.ensures

pub returns-clause-cut : goal.returns-clause-cut
returns-clause-cut c = λ place is. subst (λ r. Answers c.args.bytes.now r) is c.read_whole.ensures

pub returns-clause-value : goal.returns-clause-value
returns-clause-value c = λ place is. subst (λ r. Answers c.args.bytes.now r) is c.read_whole.ensures

pub returns-clause-rest : goal.returns-clause-rest
returns-clause-rest c = λ place is. subst (λ r. Answers c.args.bytes.now r) is c.read_whole.ensures

pub returns-clause-back : goal.returns-clause-back
returns-clause-back c = answers_back c.args.bytes.now c.read_whole.result c.read_whole.ensures

pub returns-clause-fault : goal.returns-clause-fault
returns-clause-fault c = answers_fault c.args.bytes.now c.read_whole.result c.read_whole.ensures
