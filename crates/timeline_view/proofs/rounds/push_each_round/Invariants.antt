use Rattle.std.proofs.Common.{◌≡◌, ◌++◌, take, string_bytes}
use Rattle.std.specs.List.{flat_map, enumerate_from}
use Rattle.timeline_view.specs.Rounds.{lines_of_round}
use Rattle.timeline_view.proofs.rounds.push_each_round.Given as goal

-- the text so far is that of the rounds so far
abbrev pub invariant-loop-round : goal.invariant-loop-round
invariant-loop-round l = string_bytes l.text ≡ string_bytes l.initial.text
    ++ flat_map (λ m. lines_of_round l.lab m.0 m.1) (enumerate_from 0 (take l.round l.rounds))
