use Rattle.lab_answers.proofs.Framing.{faulty_is_none}
use Rattle.lab_answers.proofs.announced.read_update.Goals as goal

pub returns-in-Err-Wire : goal.returns-in-Err-Wire
returns-in-Err-Wire c = faulty_is_none c.in-Err-Wire.field-0-0 _ _ c.in-Err-Wire.field-0-is c.in-Err-Wire.ensures
