use Rattle.tcp_seq.proofs.Flows.{fresh_linked, turned, sends_linked, emits_linked, reads_linked, takes_linked, emitted_in_streams}
use Rattle.tcp_seq.proofs.laws.ends_stay_linked.Goals as goal

pub returns-clause-fresh : goal.returns-clause-fresh
returns-clause-fresh c = fresh_linked

pub returns-clause-turned : goal.returns-clause-turned
returns-clause-turned c = turned

pub returns-clause-sends : goal.returns-clause-sends
returns-clause-sends c = sends_linked

pub returns-clause-emits : goal.returns-clause-emits
returns-clause-emits c = emits_linked

pub returns-clause-reads : goal.returns-clause-reads
returns-clause-reads c = reads_linked

pub returns-clause-takes : goal.returns-clause-takes
returns-clause-takes c = takes_linked

pub returns-clause-in_streams : goal.returns-clause-in_streams
returns-clause-in_streams c = emitted_in_streams
