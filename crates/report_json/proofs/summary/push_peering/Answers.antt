use Rattle.std.proofs.Common.{◌≤◌, length, ap, arith}
use Rattle.std.proofs.lemmas.Option.{slice_get_past}
use Rattle.report_json.proofs.Listed.{none_there}
use Rattle.report_json.proofs.summary.push_peering.Goals as goal

-- nothing is added where there is no session
pub returns-in-None : goal.returns-in-None
returns-in-None c =
    let sessions = c.args.lab.now.sessions in
    let past : length sessions ≤ c.args.index = omega (arith, ap length c.as_slice-sessions.ensures, c.in-None.ensures.lookup) in
    none_there _ _ _ (slice_get_past sessions c.args.index past)
