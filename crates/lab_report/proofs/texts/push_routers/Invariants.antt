use Rattle.std.proofs.Common.{◌≡◌, ◌++◌, take, string_bytes}
use Rattle.std.specs.List.{flat_map, enumerate_from}
use Rattle.lab_report.specs.Report.{router_lines}
use Rattle.lab_report.proofs.texts.push_routers.Given as goal

-- the text so far is that of the members so far
abbrev pub invariant-loop-index : goal.invariant-loop-index
invariant-loop-index l =
    string_bytes l.text ≡ string_bytes l.initial.text ++ flat_map (router_lines l.input l.tables) (enumerate_from 0 (take l.index l.routers))
