use Rattle.std.proofs.Common.{◌≡◌, ◌++◌, string_bytes}
use Rattle.std.specs.List.{flat_map, range_with_len}
use Rattle.picture_view.specs.Axes.{names_before}
use Rattle.picture_view.proofs.axes.push_names.Given as goal

-- the names in front of the rounds so far
abbrev pub invariant-loop-sixteen : goal.invariant-loop-sixteen
invariant-loop-sixteen l = string_bytes l.text ≡ string_bytes l.initial.text ++ flat_map (names_before l.input l.plan) (range_with_len 0 l.sixteen)
