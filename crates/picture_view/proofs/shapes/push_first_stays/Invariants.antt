use Rattle.std.proofs.Common.{◌≡◌, ◌++◌, take, string_bytes}
use Rattle.std.specs.List.{flat_map, enumerate_from}
use Rattle.picture_view.specs.Shapes.{first_stay}
use Rattle.picture_view.proofs.shapes.push_first_stays.Given as goal

-- the first stays so far
abbrev pub invariant-loop-index : goal.invariant-loop-index
invariant-loop-index l = string_bytes l.text ≡ string_bytes l.initial.text ++ flat_map (first_stay l.input l.plan) (enumerate_from 0 (take l.index l.peerings))
