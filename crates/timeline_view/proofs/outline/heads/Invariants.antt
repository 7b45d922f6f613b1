use Rattle.std.proofs.Common.{◌≡◌, take}
use Rattle.std.specs.List.{flat_map, enumerate_from}
use Rattle.bgp_story.specs.States.{state_of}
use Rattle.timeline_view.specs.Messages.{head_in}
use Rattle.timeline_view.proofs.outline.heads.Given as goal

-- the heads among the lines so far, and the state after them
abbrev pub invariant-loop-index : goal.invariant-loop-index
invariant-loop-index l = record {
  found : l.all ≡ flat_map (head_in l.lines) (enumerate_from 0 (take l.index l.lines));
  state : l.state ≡ state_of (take l.index l.lines);
}
