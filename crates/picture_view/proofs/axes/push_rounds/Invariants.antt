use Rattle.std.proofs.Common.{◌≡◌, ◌++◌, take, string_bytes}
use Rattle.std.specs.List.{flat_map}
use Rattle.picture_view.specs.Axes.{round_shape}
use Rattle.picture_view.proofs.axes.push_rounds.Given as goal

-- the rounds so far
abbrev pub invariant-loop-round : goal.invariant-loop-round
invariant-loop-round l = string_bytes l.text ≡ string_bytes l.initial.text ++ flat_map (round_shape l.plan) (take l.round-index l.rounds)
