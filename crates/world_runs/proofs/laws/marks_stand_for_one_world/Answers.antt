use Rattle.std.proofs.Common.{◌≡◌, List, sym, subst}
use Rattle.graft_model.specs.First.{first_world}
use Rattle.graft_model.specs.Steps.{Event, Run}
use Rattle.journal_merge.specs.Merges.{upto}
use Rattle.world_runs.specs.Marks.{before}
use Rattle.world_runs.proofs.laws.marks_stand_for_one_world.Goals as goal

pub returns : goal.returns
returns c setup journal mark u v sound one other =
    let same : one.events ≡ other.events =
    c.an_entry_is_of_one_event.ensures.all setup one.events other.events (upto (before mark) journal) one.entries_of other.entries_of in
    c.runs_lead_to_one_world.ensures setup one.events u v sound one.run (subst (λ (es : List Event). Run setup (first_world setup) es v) (sym same) other.run)
