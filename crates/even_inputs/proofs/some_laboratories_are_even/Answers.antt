use Rattle.even_inputs.proofs.some_laboratories_are_even.Goals as goal
use Rattle.even_inputs.proofs.Worked as worked

pub returns-clause-uneven : goal.returns-clause-uneven
returns-clause-uneven c = worked.uneven

pub returns-clause-absent : goal.returns-clause-absent
returns-clause-absent c = worked.absent

pub returns-clause-another : goal.returns-clause-another
returns-clause-another c = worked.another

pub returns-clause-prefixes : goal.returns-clause-prefixes
returns-clause-prefixes c = worked.prefixes

pub returns-clause-set : goal.returns-clause-set
returns-clause-set c = worked.set

pub returns-clause-same : goal.returns-clause-same
returns-clause-same c = worked.same
