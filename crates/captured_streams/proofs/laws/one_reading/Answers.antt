use Rattle.captured_streams.proofs.OneReading.{same_readings, no_hole, same_holes}
use Rattle.captured_streams.proofs.laws.one_reading.Goals as goal

pub returns-clause-streams : goal.returns-clause-streams
returns-clause-streams c = same_readings

pub returns-clause-sound : goal.returns-clause-sound
returns-clause-sound c = no_hole

pub returns-clause-hole : goal.returns-clause-hole
returns-clause-hole c = same_holes
