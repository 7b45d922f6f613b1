use Rattle.std.proofs.Common.{◌≡◌, map, take}
use Rattle.std.specs.List.{range_with_len}
use Rattle.imported_sessions.specs.Heard.{session_at, told_by}
use Rattle.imported_sessions.specs.Packed.{AreStepsOf}
use Rattle.imported_sessions.proofs.heard.hear.Given as goal

abbrev pub invariant-loop-flow : goal.invariant-loop-flow
invariant-loop-flow l = record {
  sessions : l.heard.sessions.items ≡ map (session_at (take l.flow-index l.flows)) (range_with_len 0 l.count);
  steps : AreStepsOf l.opened l.home_as (told_by l.count l.flows l.flow-index) l.heard.steps.items;
}
