use Rattle.std.proofs.Common.{subst}
use Rattle.lab_top.specs.Cases.{AnswersOrStops}
use Rattle.lab_top.proofs.Parts.{source_read}
use Rattle.lab_top.proofs.jobs.read_source.Goals as goal

pub returns-in-Ok : goal.returns-in-Ok
returns-in-Ok g c =
    let answered = subst (λ bytes. AnswersOrStops bytes c.input_in.result) c.deref.ensures c.input_in.ensures in
    source_read _ _ (g.S.Source.faults c.args.source.now) (g.S.Source.faults c.read_bytes.new.source) _ c.input_in.result c.in-Ok.ensures answered
