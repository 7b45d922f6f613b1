use Rattle.std.proofs.Common.{ℕ, List, ◌∙◌, ap, map}
use Rattle.std.specs.Borrow.{Bor}
use Rattle.clap.specs.Words.{is_simple, is_simple_and_free}
use Rattle.lab_words.proofs.Accepted.{is_simple-graft, is_free-graft, faults_of-none, rows_read-is, accepted_line, refused_line}
use Rattle.lab_words.proofs.command.read_line.Goals as goal

pub returns-in-Ok-try_get_matches_from : goal.returns-in-Ok-try_get_matches_from
returns-in-Ok-try_get_matches_from c =
    let line = map (λ (word : Bor (List ℕ)). word.now) c.args.line.now in
    let same = c.in-Ok.ensures in
    let parsed = c.in-Ok-try_get_matches_from.ensures in
    let none = faults_of-none _ line same (parsed.kinds (ap is_simple_and_free same ∙ is_free-graft)) in
    let read = rows_read-is _ line _ same (parsed.matches (ap is_simple same ∙ is_simple-graft)).0 in
    accepted_line line _ c.job_of_matches.result none read c.job_of_matches.ensures

pub returns : goal.returns
returns c =
    let line = map (λ (word : Bor (List ℕ)). word.now) c.args.line.now in
    let same = c.in-Ok.ensures in
    let failed = c.in-Err-try_get_matches_from.ensures.kinds (ap is_simple_and_free same ∙ is_free-graft) in
    λ job is. refused_line _ line c.in-Err-try_get_matches_from.error same failed (λ h. c.in_default.not-OutOfMemory (c.kind.ensures ∙ h)) is.0
