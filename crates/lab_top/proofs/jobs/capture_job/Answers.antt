use Rattle.std.proofs.Common.{subst, sym, refl}
use Rattle.std.specs.Prelude.{Ok}
use Rattle.lab_words.specs.declared.job.Job.TheVariants.{Capture}
use Rattle.node_configs.specs.Accepted.{IsAccepted}
use Rattle.lab_capture.specs.Captures.{IsLabCapture}
use Rattle.lab_top.specs.Cases.{BuiltOr}
use Rattle.lab_top.proofs.Parts.{bad_run, stopped_ends, unbuilt_ends, read_ends}
use Rattle.lab_top.proofs.jobs.capture_job.Goals as goal

pub capture_octets-requires : goal.capture_octets-requires
capture_octets-requires g c =
    let built = subst (λ found. BuiltOr c.in-Ok.input (Ok found)) c.in-Some.is c.in_ok-lab.ensures in
    let read = c.in-Ok.ensures in
    let accepted : IsAccepted c.in-Ok.input = record { bytes = read.bytes; is = read.is } in
    rw built.0 accepted

pub returns-in-Err : goal.returns-in-Err
returns-in-Err g c =
    let job = Capture c.args.workers in
    stopped_ends job _ _ c.in-Err.stop c.end_stopped.result tt (bad_run job _ _ tt tt) c.in-Err.ensures c.end_stopped.ensures

pub returns-in_ok-octets-in-Some : goal.returns-in_ok-octets-in-Some
returns-in_ok-octets-in-Some g c =
    let built = subst (λ found. BuiltOr c.in-Ok.input (Ok found)) c.in-Some.is c.in_ok-lab.ensures in
    let told = subst (IsLabCapture c.in-Some.lab) (sym c.deref.ensures) c.in_ok-octets-in-Some.ensures in
    read_ends (Capture c.args.workers) _ _ c.in-Ok.input c.in-Some.lab c.deref.result.now _ c.end_run.result tt tt c.in-Ok.ensures built (λ bytes. told)
    refl c.end_run.ensures

pub returns-in-None : goal.returns-in-None
returns-in-None g c =
    let built = subst (λ found. BuiltOr c.in-Ok.input (Ok found)) c.in-None.is c.in_ok-lab.ensures in
    unbuilt_ends (Capture c.args.workers) _ _ c.in-Ok.input c.end_unbuilt.result tt tt c.in-Ok.ensures built c.end_unbuilt.ensures
