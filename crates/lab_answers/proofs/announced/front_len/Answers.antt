use Rattle.lab_answers.proofs.Framing.{not_framed}
use Rattle.lab_answers.proofs.announced.front_len.Goals as goal

pub returns-in-Err : goal.returns-in-Err
returns-in-Err c = not_framed c.args.bytes.now c.in-Err.field-0 (c.in-Err.ensures.front).1
