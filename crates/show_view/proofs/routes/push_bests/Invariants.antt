use Rattle.std.proofs.Common.{◌≡◌, ◌++◌, take, string_bytes}
use Rattle.std.specs.List.{flat_map}
use Rattle.show_view.specs.Routes.{best_line}
use Rattle.show_view.proofs.routes.push_bests.Given as goal

-- the lines of the routes so far
abbrev pub invariant-loop-best : goal.invariant-loop-best
invariant-loop-best l = string_bytes l.text ≡ string_bytes l.initial.text ++ flat_map (best_line l.input l.name) (take l.best-index l.table)
