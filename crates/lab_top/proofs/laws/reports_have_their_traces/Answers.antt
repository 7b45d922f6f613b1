use Rattle.lab_top.proofs.Traced.{without_traces}
use Rattle.lab_top.proofs.laws.reports_have_their_traces.Goals as goal

pub returns : goal.returns
returns c = without_traces
