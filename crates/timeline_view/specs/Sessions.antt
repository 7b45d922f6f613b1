-- OPENs and NOTIFICATIONs of sessions.
use Rattle.std.specs.Prelude.{ℕ, ◌+◌, ◌-◌, Bool, true, false, List, [], ◌++◌, count_by, sum_by, Option, Some, None, slice_get, codes, decimal}
use Rattle.bgp_types.specs.declared.message.Message.TheVariants.{OpenMsg, NoticeMsg}
use Rattle.bgp_story.specs.declared.line.Line.{Line}
use Rattle.bgp_story.specs.declared.line.Line.TheVariants.{Put, Got}
use Rattle.bgp_story.specs.States.{is_type}
use Rattle.graft_steps.specs.declared.log.GraftEntry.{GraftEntry}
use Rattle.lab_tables.specs.declared.input.PeeringInput.{PeeringInput}
use Rattle.lab_report.specs.declared.lab.Lab.{Lab}
use Rattle.lab_report.specs.declared.lab.SessionView.{SessionView}
use Rattle.lab_report.specs.Report.{line_end}
use Rattle.timeline_view.specs.declared.event.Happening.{Happening}
use Rattle.timeline_view.specs.Grafts.{updates_after, withdrawn_in}

abbrev pub is_open_put : Line → Bool
is_open_put (Put (OpenMsg _)) = true
is_open_put line = false

abbrev pub is_notice_put : Line → Bool
is_notice_put (Put (NoticeMsg _)) = true
is_notice_put line = false

-- a message of this type that was got
abbrev pub is_got : (kind : ℕ) → Line → Bool
is_got kind (Got bytes) = is_type kind bytes
is_got kind line = false

-- how many OPENs and NOTIFICATIONs were put and got on a session
abbrev pub opens_put : SessionView → ℕ
opens_put view = count_by is_open_put view.story.lines

abbrev pub opens_got : SessionView → ℕ
opens_got view = count_by (is_got 1) view.story.lines

abbrev pub notices_put : SessionView → ℕ
notices_put view = count_by is_notice_put view.story.lines

abbrev pub notices_got : SessionView → ℕ
notices_got view = count_by (is_got 3) view.story.lines

-- a peering that has no session has no line
abbrev pub session_line : (name : List ℕ) → Option SessionView → List ℕ
session_line name None = []
session_line name (Some view) = codes "session " ++ name ++ codes "  OPEN put " ++ decimal (opens_put view) ++ codes " got " ++ decimal (opens_got view)
    ++ codes "  NOTIFICATION put " ++ decimal (notices_put view) ++ codes " got " ++ decimal (notices_got view) ++ line_end

abbrev pub peering_session_line : List SessionView → ℕ × PeeringInput → List ℕ
peering_session_line sessions p = session_line p.1.name (slice_get sessions p.0)

-- ---- the whole run

-- the OPENs behind the first one each way
abbrev pub further_opens : SessionView → ℕ
further_opens view = (opens_put view - 1) + (opens_got view - 1)

abbrev pub notices : SessionView → ℕ
notices view = notices_put view + notices_got view

-- the prefixes that were withdrawn from the remote of a graft, from its landing to the end of its group
abbrev pub withdrawn_after : Lab → List Happening → GraftEntry → ℕ
withdrawn_after lab all g = withdrawn_in (updates_after lab g all)

abbrev pub total_line : Lab → List Happening → List ℕ
total_line lab all = codes "total  further OPENs " ++ decimal (sum_by further_opens lab.sessions)
    ++ codes "  NOTIFICATIONs " ++ decimal (sum_by notices lab.sessions)
    ++ codes "  withdrawn from moved remotes " ++ decimal (sum_by (withdrawn_after lab all) lab.log) ++ line_end
