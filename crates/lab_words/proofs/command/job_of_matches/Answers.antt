use Rattle.std.proofs.Common.{codes, ◌∙◌}
use Rattle.clap.specs.Words.{found_of}
use Rattle.clap.proofs.WalkLemmas.{first_value-rows}
use Rattle.lab_words.proofs.command.job_of_matches.Goals as goal

pub returns : goal.returns
returns c =
    let found = found_of c.args.matches.now in
    let job = c.get_str.ensures ∙ first_value-rows found (codes "job") in
    let subject = c.get_str-2.ensures ∙ first_value-rows found (codes "subject") in
    let prefix = c.get_str-3.ensures ∙ first_value-rows found (codes "prefix") in
    let workers = c.get_str-4.ensures ∙ first_value-rows found (codes "workers") in
    let json = c.get_str-5.ensures ∙ first_value-rows found (codes "json") in
    rw (← job, ← subject, ← prefix, ← workers, ← json) c.job_of.ensures
