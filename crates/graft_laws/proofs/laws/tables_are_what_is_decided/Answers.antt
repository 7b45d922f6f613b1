use Rattle.graft_laws.proofs.TableLaws.{always_decided, always_informed, always_answered, always_whole}
use Rattle.graft_laws.proofs.laws.tables_are_what_is_decided.Goals as goal

pub returns-clause-decided : goal.returns-clause-decided
returns-clause-decided c setup w r reached = always_decided setup w reached r

pub returns-clause-informed : goal.returns-clause-informed
returns-clause-informed c setup w a b reached = always_informed setup w reached a b

pub returns-clause-answered : goal.returns-clause-answered
returns-clause-answered c setup w r sound reached = always_answered setup w sound reached r

pub returns-clause-whole : goal.returns-clause-whole
returns-clause-whole c = always_whole
