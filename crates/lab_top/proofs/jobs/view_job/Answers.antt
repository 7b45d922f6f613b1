use Rattle.std.proofs.Common.{subst, ap, sym, ◌∙◌}
use Rattle.std.specs.Prelude.{Ok}
use Rattle.lab_top.specs.Cases.{BuiltOr}
use Rattle.lab_top.specs.Views.{view_named, viewing}
use Rattle.lab_top.proofs.Asking.{views_run, views_read, view_told, view_status}
use Rattle.lab_top.proofs.Parts.{bad_run, stopped_ends, unknown_ends, unbuilt_ends, read_ends}
use Rattle.lab_top.proofs.jobs.view_job.Goals as goal

pub returns-in-Err : goal.returns-in-Err
returns-in-Err g c =
    let job = viewing c.args.view c.args.workers in
    let run = views_run c.args.view c.args.workers in
    let read = views_read c.args.view c.args.workers in
    stopped_ends job _ _ c.in-Err.stop c.end_stopped.result read (bad_run job _ _ run read) c.in-Err.ensures c.end_stopped.ensures

pub returns-in-Err-view_named : goal.returns-in-Err-view_named
returns-in-Err-view_named g c =
    unknown_ends c.args.view c.args.workers _ _ c.in-Ok.input c.in-Err-view_named.name c.deref.result.now _ _ c.in-Ok.ensures
    (sym c.in-Err-view_named.ensures) (c.deref.ensures ∙ c.in_ok-text-in-Err-view_named.ensures) c.end_with.ensures.lab c.end_with.ensures.writes

pub returns-in_ok-text-in-Some : goal.returns-in_ok-text-in-Some
returns-in_ok-text-in-Some g c =
    let run = views_run c.args.view c.args.workers in
    let read = views_read c.args.view c.args.workers in
    let built = subst (λ found. BuiltOr c.in-Ok.input (Ok found)) c.in-Some.is c.in_ok-lab.ensures in
    let named = ap (λ input. view_named input c.args.view) built.0 ∙ sym c.in-Ok-view_named.ensures in
    let text = c.deref-in-Some.result.now in
    let told = c.deref-in-Some.ensures ∙ c.in_ok-text-in-Some.ensures in
    read_ends (viewing c.args.view c.args.workers) _ _ c.in-Ok.input c.in-Some.lab text _ c.end_run.result run read c.in-Ok.ensures built
    (λ bytes. view_told c.args.view c.args.workers bytes c.in-Some.lab text (c.in-Ok-view_named.view, named, told))
    (sym (view_status c.args.view c.args.workers c.in-Some.lab)) c.end_run.ensures

pub returns-in-None : goal.returns-in-None
returns-in-None g c =
    let job = viewing c.args.view c.args.workers in
    let run = views_run c.args.view c.args.workers in
    let read = views_read c.args.view c.args.workers in
    let built = subst (λ found. BuiltOr c.in-Ok.input (Ok found)) c.in-None.is c.in_ok-lab.ensures in
    unbuilt_ends job _ _ c.in-Ok.input c.end_unbuilt.result run read c.in-Ok.ensures built c.end_unbuilt.ensures
