use Rattle.std.proofs.Common.{ℕ, List, ap}
use Rattle.std.specs.Borrow.{Bor}
use Rattle.std.specs.Prelude.{Some, option_map}
use Rattle.lab_words.proofs.Rows.{job_found, unread_arguments}
use Rattle.lab_words.proofs.table.job_of.Goals as goal

pub returns-in-Some-job_named : goal.returns-in-Some-job_named
returns-in-Some-job_named c =
    let named = ap (option_map (λ (s : Bor (List ℕ)). s.now)) c.in-Some.is in
    job_found _ c.in-Some.name.now _ _ _ _ c.in-Ok.arguments (Some c.in-Some-job_named.job) c.in-Ok.ensures named c.in-Some-job_named.ensures

pub returns-in-Err : goal.returns-in-Err
returns-in-Err c = unread_arguments (option_map (λ (s : Bor (List ℕ)). s.now) c.args.name) _ _ _ _ c.in-Err.stop c.in-Err.ensures
