use Rattle.std.proofs.Common.{subst, ap, sym, ◌∙◌, refl}
use Rattle.std.specs.Prelude.{Ok, Err}
use Rattle.lab_input.specs.Labs.{input_of}
use Rattle.journal_form.specs.Journals.{journal_text}
use Rattle.lab_words.specs.declared.job.Job.TheVariants.{Journal}
use Rattle.lab_top.specs.Cases.{AnswersOrStops, BuiltOr}
use Rattle.lab_top.proofs.Parts.{bad_run, stopped_ends, stops_of, reads_of, unbuilt_ends, run_ends}
use Rattle.lab_top.proofs.jobs.journal_job.Goals as goal

pub returns-in-Err : goal.returns-in-Err
returns-in-Err g c =
    let job = Journal c.args.workers in
    stopped_ends job _ _ c.in-Err.stop c.end_stopped.result tt (bad_run job _ _ tt tt) c.in-Err.ensures c.end_stopped.ensures

pub returns-in-Err-input_in : goal.returns-in-Err-input_in
returns-in-Err-input_in g c =
    let job = Journal c.args.workers in
    let stop = c.in-Err-input_in.stop in
    let answered = subst (λ bytes. AnswersOrStops bytes (Err stop)) c.deref.ensures c.in-Err-input_in.ensures in
    let why = stops_of _ _ (g.S.Source.faults c.args.source.now) (g.S.Source.faults c.read_bytes.new.source) _ stop c.in-Ok.ensures answered in
    stopped_ends job _ _ stop c.end_stopped-in-Err-input_in.result tt (bad_run job _ _ tt tt) why c.end_stopped-in-Err-input_in.ensures

pub returns-in-Some : goal.returns-in-Some
returns-in-Some g c =
    let is = ap input_of (sym c.deref.ensures) ∙ c.in-Ok-input_in.ensures in
    let built = subst (λ found. BuiltOr c.in-Ok-input_in.input (Ok found)) c.in-Some.is c.in_ok-lab.ensures in
    let told = c.deref-in-Some-2.ensures ∙ c.in_ok-text-in-Some.ensures ∙ ap (λ bytes. journal_text bytes c.as_slice.result.now) c.deref-in-Some.ensures
    ∙ ap (λ journal. journal_text c.in-Ok.bytes journal) c.as_slice.ensures in
    run_ends (Journal c.args.workers) _ _ c.in-Ok.bytes c.in-Ok-input_in.input c.in-Some.lab c.deref-in-Some-2.result.now _
    c.end_run.result tt c.in-Ok.ensures is built told refl c.end_run.ensures

pub returns : goal.returns
returns g c =
    let is = ap input_of (sym c.deref.ensures) ∙ c.in-Ok-input_in.ensures in
    let built = subst (λ found. BuiltOr c.in-Ok-input_in.input (Ok found)) c.in-None.is c.in_ok-lab.ensures in
    let read = reads_of _ _ _ _ c.in-Ok.ensures is in
    unbuilt_ends (Journal c.args.workers) _ _ c.in-Ok-input_in.input c.end_unbuilt.result tt tt read built c.end_unbuilt.ensures
