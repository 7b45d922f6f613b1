use Rattle.std.proofs.Common.{◌≡◌, ◌++◌, take, string_bytes}
use Rattle.std.specs.List.{flat_map, enumerate_from}
use Rattle.lab_report.specs.Report.{peering_line}
use Rattle.lab_report.proofs.texts.push_peerings.Given as goal

-- the text so far is that of the members so far
abbrev pub invariant-loop-index : goal.invariant-loop-index
invariant-loop-index l = string_bytes l.text
    ≡ string_bytes l.initial.text ++ flat_map (peering_line l.input l.sessions l.placement) (enumerate_from 0 (take l.index l.peerings))
