use Rattle.std.proofs.Common.{◌≡◌, ◌++◌, length, filter, take, string_bytes}
use Rattle.std.specs.List.{flat_map, enumerate_from}
use Rattle.lab_report.specs.Summary.{was_refused}
use Rattle.picture_view.specs.Heads.{refused_line}
use Rattle.picture_view.proofs.heads.push_refused.Given as goal

-- how many were refused so far, and their lines
abbrev pub invariant-loop-graft : goal.invariant-loop-graft
invariant-loop-graft l = record {
  count : l.number ≡ length (filter was_refused (take l.graft-index l.log));
  lines : string_bytes l.text
      ≡ string_bytes l.initial.text ++ flat_map (refused_line l.input l.plan) (enumerate_from 0 (filter was_refused (take l.graft-index l.log)));
}
