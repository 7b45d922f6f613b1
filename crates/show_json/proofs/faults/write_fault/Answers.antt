use Rattle.std.proofs.Common.{length, rules}
use Rattle.show_json.proofs.faults.write_fault.Goals as goal

pub returns-then-segments_on-from : goal.returns-then-segments_on-from
returns-then-segments_on-from c = λ journal are. search (rules, c.segments_on.ensures (length c.args.input.now.routers) journal are)

pub returns : goal.returns
returns c = λ journal are. search (rules, c.segments_on.ensures (length c.args.input.now.routers) journal are)
