-- What a graft took and what its remote heard of it.
use Rattle.std.specs.Prelude.{ℕ, ◌-◌, ◌==◌, Bool, true, false, List, ◌++◌, length, count_by, sum_by, Option}
use Rattle.std.specs.Prelude.{Some, None, slice_get, codes, decimal, if◌then◌else◌}
use Rattle.std.specs.List.{find, filter_map, before_first, after_first}
use Rattle.std.specs.Option.{option_map}
use Rattle.bgp_types.specs.declared.message.Update.{Update}
use Rattle.graft_steps.specs.declared.log.GraftEntry.{GraftEntry}
use Rattle.lab_report.specs.declared.lab.Lab.{Lab}
use Rattle.lab_report.specs.Report.{graft_line, line_end}
use Rattle.timeline_view.specs.declared.event.Event.{Event}
use Rattle.timeline_view.specs.declared.event.Event.TheVariants.{Message, Stray, Begin}
use Rattle.timeline_view.specs.declared.event.Happening.{Happening}
use Rattle.timeline_view.specs.declared.event.Moment.{Moment}
use Rattle.timeline_view.specs.declared.event.Moment.TheVariants.{Ordered, Frozen, Left, Landed}
use Rattle.timeline_view.specs.Messages.{update_at}
use Rattle.timeline_view.specs.Moments.{graft_at}

-- ---- moments

abbrev pub is_begin : Event → Bool
is_begin (Begin group) = true
is_begin event = false

abbrev pub is_number : (number : ℕ) → Option ℕ → Bool
is_number number None = false
is_number number (Some n) = n == number

-- this moment of a graft
abbrev pub is_of : Moment → (graft : ℕ) → Happening → Bool
is_of moment graft h = is_number graft (graft_at moment h.event)

-- the round of a graft's moment, if it came
abbrev pub round_of_graft : Moment → (graft : ℕ) → List Happening → Option ℕ
round_of_graft moment graft all = option_map (λ h. h.round) (find (is_of moment graft) all)

-- what happened behind a graft's moment, to the end of its group
abbrev pub from_then : Moment → (graft : ℕ) → List Happening → List Happening
from_then moment graft all = before_first (λ h. is_begin h.event) (after_first (is_of moment graft) all)

-- ---- rounds

-- how many rounds one event was after another, or a dash where one of them never was
abbrev pub span_text : Option ℕ → Option ℕ → List ℕ
span_text (Some from) (Some to) = decimal (to - from)
span_text (Some from) None = codes "-"
span_text None to = codes "-"

-- from the order to the freeze, frozen, and on the way until it landed
abbrev pub spans_words : (graft : ℕ) → List Happening → List ℕ
spans_words graft all =
    codes " rounds to freeze " ++ span_text (round_of_graft Ordered graft all) (round_of_graft Frozen graft all)
    ++ codes " frozen " ++ span_text (round_of_graft Frozen graft all) (round_of_graft Left graft all)
    ++ codes " to landing " ++ span_text (round_of_graft Left graft all) (round_of_graft Landed graft all)

-- ---- segments and UPDATEs

abbrev pub is_stray_of : (peering : ℕ) → Event → Bool
is_stray_of peering (Stray p) = p == peering
is_stray_of peering event = false

-- the segments that came astray from the freeze to the end of the group
abbrev pub strays_of : GraftEntry → List Happening → ℕ
strays_of g all = count_by (λ h. is_stray_of g.peering.0 h.event) (from_then Frozen g.graft all)

-- the UPDATE that an event of a peering put
abbrev pub update_of : Lab → (peering : ℕ) → Event → Option Update
update_of lab peering (Message p nth) = if p == peering then update_at nth (slice_get lab.sessions p) else None
update_of lab peering event = None

-- the UPDATEs that were put to the remote from the landing to the end of the group
abbrev pub updates_after : Lab → GraftEntry → List Happening → List Update
updates_after lab g all = filter_map (λ h. update_of lab g.peering.0 h.event) (from_then Landed g.graft all)

abbrev pub announced_in : List Update → ℕ
announced_in updates = sum_by (λ u. length u.nlri) updates

abbrev pub withdrawn_in : List Update → ℕ
withdrawn_in updates = sum_by (λ u. length u.withdrawn) updates

abbrev pub updates_words : List Update → List ℕ
updates_words updates = codes " UPDATEs " ++ decimal (length updates) ++ codes " announced " ++ decimal (announced_in updates)
    ++ codes " withdrawn " ++ decimal (withdrawn_in updates)

-- ---- the whole

-- the graft as the report has it; and behind its number its rounds, the segments that came astray, and the UPDATEs that its remote was put
abbrev pub graft_lines : Lab → List Happening → GraftEntry → List ℕ
graft_lines lab all g = graft_line lab.input g
    ++ codes "graft " ++ decimal g.graft ++ spans_words g.graft all ++ codes " astray " ++ decimal (strays_of g all)
    ++ updates_words (updates_after lab g all) ++ line_end
