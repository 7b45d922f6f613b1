use Rattle.std.proofs.Common.{◌≡◌, ◌≤◌, ◌++◌, take, string_bytes}
use Rattle.std.specs.Prelude.{count_by}
use Rattle.std.specs.List.{flat_map, enumerate_from}
use Rattle.bgp_story.specs.States.{state_of}
use Rattle.story_view.specs.Story.{begins, story_line}
use Rattle.story_view.proofs.lines.push_lines.Given as goal

-- the text so far is that of the lines so far; the events among these, and the state after them
abbrev pub invariant-loop-index : goal.invariant-loop-index
invariant-loop-index l = record {
  text : string_bytes l.text
      ≡ string_bytes l.initial.text ++ flat_map (story_line l.input l.all l.opening l.first l.lines) (enumerate_from 0 (take l.index l.lines));
  events : l.events ≡ count_by begins (take l.index l.lines);
  few : l.events ≤ l.index;
  state : l.state ≡ state_of (take l.index l.lines);
}
