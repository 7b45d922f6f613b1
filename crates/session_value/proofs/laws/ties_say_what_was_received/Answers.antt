use Rattle.session_value.proofs.Ties.{received_is, got_is_first, read_is, stream_fits}
use Rattle.session_value.proofs.laws.ties_say_what_was_received.Goals as goal

pub returns-clause-received : goal.returns-clause-received
returns-clause-received c = received_is

pub returns-clause-got : goal.returns-clause-got
returns-clause-got c = got_is_first

pub returns-clause-read : goal.returns-clause-read
returns-clause-read c = read_is

pub returns-clause-stream : goal.returns-clause-stream
returns-clause-stream c = stream_fits
