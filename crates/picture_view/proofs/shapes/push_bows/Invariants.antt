use Rattle.std.proofs.Common.{◌≡◌, ◌++◌, take, string_bytes}
use Rattle.std.specs.List.{flat_map}
use Rattle.picture_view.specs.Shapes.{bow_from}
use Rattle.picture_view.proofs.shapes.push_bows.Given as goal

-- the ways so far
abbrev pub invariant-loop-point : goal.invariant-loop-point
invariant-loop-point l = string_bytes l.text ≡ string_bytes l.initial.text ++ flat_map (bow_from l.input l.plan) (take l.point-index l.points)
