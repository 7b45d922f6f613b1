use Rattle.std.proofs.Common.{◌≡◌, map, take}
use Rattle.timeline_view.specs.Messages.{outline_of}
use Rattle.timeline_view.proofs.outline.outlines_in.Given as goal

-- the outlines so far are those of the sessions so far
abbrev pub invariant-loop-view : goal.invariant-loop-view
invariant-loop-view l = l.all ≡ map (λ v. outline_of v.story) (take l.view-index l.sessions)
