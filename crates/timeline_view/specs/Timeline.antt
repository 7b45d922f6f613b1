-- The timeline of a run.
use Rattle.std.specs.Prelude.{ℕ, List, ◌++◌}
use Rattle.std.specs.List.{flat_map, enumerate_from}
use Rattle.lab_report.specs.declared.lab.Lab.{Lab}
use Rattle.lab_report.specs.Report.{end_line}
use Rattle.timeline_view.specs.declared.event.Happening.{Happening}
use Rattle.timeline_view.specs.Events.{happenings}
use Rattle.timeline_view.specs.Grafts.{graft_lines}
use Rattle.timeline_view.specs.Rounds.{opening_line, rounds_text}
use Rattle.timeline_view.specs.Sessions.{peering_session_line, total_line}

-- how the run ended; the OPENs of all sessions; what happened, by round; each graft, in the order of the log; the OPENs and NOTIFICATIONs of each
-- session; and those of the whole run
abbrev pub text_of : Lab → List Happening → List ℕ
text_of lab all = end_line lab.input lab.end
    ++ flat_map (opening_line lab.input lab.sessions) (enumerate_from 0 lab.input.peerings)
    ++ rounds_text lab all
    ++ flat_map (graft_lines lab all) lab.log
    ++ flat_map (peering_session_line lab.sessions) (enumerate_from 0 lab.input.peerings)
    ++ total_line lab all

abbrev pub timeline_text : Lab → List ℕ
timeline_text lab = text_of lab (happenings lab)
