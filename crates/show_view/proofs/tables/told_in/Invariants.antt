use Rattle.std.proofs.Common.{◌≡◌, take}
use Rattle.std.specs.Prelude.{fold}
use Rattle.std.specs.FinMap as map
use Rattle.bgp_story.specs.Readings.{tell}
use Rattle.show_view.proofs.tables.told_in.Given as goal

-- the routes of the lines so far
abbrev pub invariant-loop-line : goal.invariant-loop-line
invariant-loop-line l = l.routes ≡ fold tell map.empty (take l.line-index l.lines)
