use Rattle.std.proofs.lemmas.List.{get_or_default}
use Rattle.report_json.proofs.Tokens.{gathered_further}
use Rattle.show_json.specs.Show.{fault_json}
use Rattle.show_json.proofs.faults.write_counted.Goals as goal

pub loop-fault-preserved : goal.loop-fault-preserved
loop-fault-preserved c = λ journal are.
    let faults = c.args.faults.now in
    let i = c.loop-fault.fault-index in
    let below = c.loop-fault-test.true in
    gathered_further faults i _ below (get_or_default faults i _ _ below) (fault_json c.args.input.now journal)
    _ _ _ (c.loop-fault.invariant journal are) (c.in_ok-write_fault.ensures journal are)
