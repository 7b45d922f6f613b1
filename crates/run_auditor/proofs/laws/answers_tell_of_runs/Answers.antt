use Rattle.run_auditor.proofs.Exact.{no_run, one_answer}
use Rattle.run_auditor.proofs.laws.answers_tell_of_runs.Goals as goal

pub returns-clause-yes : goal.returns-clause-yes
returns-clause-yes c = λ setup journal events quiet sound is. record {
  world = is.world;
  run = is.run;
  transparent = λ p below. c.always_transparent.ensures setup is.run.events is.world p sound is.run.run below;
  unchanged = c.always_unchanged.ensures setup is.run.events sound;
  solves = λ settled. c.quiet_solves.ensures setup is.run.events is.world sound is.run.run (is.settled.0 settled);
}

pub returns-clause-no : goal.returns-clause-no
returns-clause-no c = λ setup journal index why w sound ranges is. no_run c.an_entry_is_of_one_event.ensures.one c.an_entry_is_of_one_event.ensures.all
    c.prefixes_are_spelled.ensures c.runs_lead_to_one_world.ensures setup sound ranges journal index why w is

pub returns-clause-one : goal.returns-clause-one
returns-clause-one c = λ setup journal one other sound ranges is also. one_answer c.an_entry_is_of_one_event.ensures.one c.an_entry_is_of_one_event.ensures.all
    c.prefixes_are_spelled.ensures c.runs_lead_to_one_world.ensures setup sound ranges journal one other is also
