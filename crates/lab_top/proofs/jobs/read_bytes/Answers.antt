use Rattle.std.proofs.Common.{ap}
use Rattle.std.specs.Prelude.{Err}
use Rattle.lab_top.proofs.Parts.{too_long_stops}
use Rattle.lab_top.proofs.jobs.read_bytes.Goals as goal

pub returns-in-Err-TooLong : goal.returns-in-Err-TooLong
returns-in-Err-TooLong g c =
    too_long_stops _ _ (g.S.Source.faults c.args.source.now) (g.S.Source.faults c.read_all.new.source) c.too_long_text.result c.stop_with.result
    (c.in-Err-TooLong.ensures.too_long (ap Err c.in-Err-TooLong.field-0-is)) c.too_long_text.ensures c.stop_with.ensures
