use Rattle.imported_sessions.proofs.Feeding.{front_at, none_faulty}
use Rattle.imported_sessions.proofs.heard.front_message.Goals as goal

pub returns-in-Ok : goal.returns-in-Ok
returns-in-Ok c = front_at c.first_frame.result c.args.octets.now c.first_frame.ensures.front c.in-Ok.front c.in-Ok.is

pub returns-in-Err : goal.returns-in-Err
returns-in-Err c = none_faulty c.args.octets.now c.in-Err.field-0 c.in-Err.ensures.front.1
