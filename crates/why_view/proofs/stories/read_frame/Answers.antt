use Rattle.std.proofs.Common.{sym}
use Rattle.why_view.proofs.Got.{some_message, none_by_fault}
use Rattle.why_view.proofs.stories.read_frame.Goals as goal

pub returns-in-Ok : goal.returns-in-Ok
returns-in-Ok c = sym (some_message _ c.in-Ok.message c.in-Ok.ensures)

pub returns-in-Err-Wire : goal.returns-in-Err-Wire
returns-in-Err-Wire c = none_by_fault c.in-Err-Wire.field-0-0 _ _ c.in-Err-Wire.field-0-is c.in-Err-Wire.ensures
