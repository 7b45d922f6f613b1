use Rattle.std.proofs.Common.{◌≡◌, ◌++◌, take, string_bytes}
use Rattle.std.specs.List.{flat_map}
use Rattle.timeline_view.specs.Lines.{happening_lines}
use Rattle.timeline_view.proofs.rounds.push_events.Given as goal

-- the text so far is that of what happened so far
abbrev pub invariant-loop-happening : goal.invariant-loop-happening
invariant-loop-happening l = string_bytes l.text ≡ string_bytes l.initial.text ++ flat_map (happening_lines l.lab) (take l.happening-index l.here)
