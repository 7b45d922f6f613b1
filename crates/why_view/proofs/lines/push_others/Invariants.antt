use Rattle.std.proofs.Common.{◌≡◌, ◌++◌, take, string_bytes}
use Rattle.std.specs.List.{flat_map, enumerate_from}
use Rattle.why_view.specs.Why.{unless_best}
use Rattle.why_view.proofs.lines.push_others.Given as goal

-- the lines of the candidates so far
abbrev pub invariant-loop-index : goal.invariant-loop-index
invariant-loop-index l = string_bytes l.text
    ≡ string_bytes l.initial.text ++ flat_map (unless_best l.input l.ranks l.best) (enumerate_from 0 (take l.index l.candidates))
