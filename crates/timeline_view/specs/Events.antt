-- What the entries of a run's journal tell of. Kinds stand by number here alone.
--
-- Listed are: messages that sessions put and got, and their answers to rounds; segments that come astray, which is how it shows that a link handed
-- one to another router than the session's; grafts that are ordered, admitted, refused and confirmed, and the sessions that are frozen, leave, land,
-- are turned back, return and are cleared; says; segments that links lose and repeat; and the beginnings of groups. Counted are prefixes that are
-- decided, told and heard. Left out are segments that are sent, taken, delivered and arrive; where links point; questions and answers about what was
-- heard; the operator's notes and its orders to say; and the remotes' timers.
use Rattle.std.specs.Prelude.{ℕ, ◌+◌, ◌==◌, Bool, List, [], ◌∷◌, length, take, count_by, sum_by, Option, Some, None, get_or, slice_get, nat_lt, ◌&&◌, ◌||◌}
use Rattle.std.specs.Prelude.{if◌then◌else◌}
use Rattle.std.specs.List.{flat_map, enumerate_from}
use Rattle.tcp_seq.specs.declared.segment.Way.{Way}
use Rattle.tcp_seq.specs.declared.segment.Way.TheVariants.{Home, Remote}
use Rattle.ring_net.specs.declared.entry.JournalEntry.{JournalEntry}
use Rattle.entry_rounds.specs.Rounds.{entry_rounds}
use Rattle.lab_tables.specs.declared.input.LabInput.{LabInput}
use Rattle.lab_tables.specs.declared.input.Step.{Step}
use Rattle.lab_tables.specs.declared.input.Step.TheVariants as steps
use Rattle.lab_input.specs.Counts.{step_grafts}
use Rattle.lab_report.specs.declared.lab.Lab.{Lab}
use Rattle.story_view.specs.Story.{adds_to}
use Rattle.timeline_view.specs.declared.event.Event.{Event}
use Rattle.timeline_view.specs.declared.event.Event.TheVariants.{Decide, Tell, Hear, Message, Stray, Admit, Refuse, Freeze, Leave, Land, TurnBack}
use Rattle.timeline_view.specs.declared.event.Event.TheVariants.{Return, Clear, Confirm, Say, Lose, Repeat, Order, Begin}
use Rattle.timeline_view.specs.declared.event.Happening.{Happening}
use Rattle.timeline_view.specs.Numbers.{next_to_arrive, next_to_return, next_to_clear}

-- ---- sessions

-- the next message or round of a session that the lab has: its number is how many entries before it added to the story
abbrev pub message_event : Lab → List JournalEntry → (peering : ℕ) → Option Event
message_event lab before p = if nat_lt p (length lab.sessions) then Some (Message p (count_by (adds_to p) before)) else None

-- a Put of prefixes (1), a Stray (4), a Got (5) and a Tick (31)
abbrev pub session_event : Lab → List JournalEntry → JournalEntry → Option Event
session_event lab before e =
    if e.kind == 4 then Some (Stray e.a)
    else if (e.kind == 1) && (e.b == 0) then None
    else message_event lab before e.a

-- ---- tables

-- Decide (6), Tell (7) and Hear (8)
abbrev pub table_event : JournalEntry → Event
table_event e = if e.kind == 6 then Decide else if e.kind == 7 then Tell else Hear

-- ---- grafts

-- Admit (9), Refuse (10), Freeze (11), Leave (12) and Confirm (33), which name their grafts
abbrev pub named_event : JournalEntry → Event
named_event e =
    if e.kind == 9 then Admit e.a
    else if e.kind == 10 then Refuse e.a
    else if e.kind == 11 then Freeze e.a
    else if e.kind == 12 then Leave e.a
    else Confirm e.a

-- Land (13) and TurnBack (14), of a session of the other router; Return (15), of a session that the other router turned back; and Clear (16), by word
-- of the other router
abbrev pub taken_event : Lab → List JournalEntry → JournalEntry → Event
taken_event lab before e =
    if e.kind == 13 then Land (next_to_arrive lab.log e.a e.actor before)
    else if e.kind == 14 then TurnBack (next_to_arrive lab.log e.a e.actor before)
    else if e.kind == 15 then Return (next_to_return lab.log e.actor e.a before)
    else Clear (next_to_clear lab.log e.actor e.a before)

-- ---- far sides

-- the way of a segment by its number
abbrev pub way_of : ℕ → Way
way_of number = if number == 0 then Home else Remote

-- Say (17), Pass (20) and Reach (21) where the link keeps the segment, and Lose (22)
abbrev pub far_event : JournalEntry → Option Event
far_event e =
    if e.kind == 17 then Some (Say e.a)
    else if (e.kind == 20) && (e.b == 1) then Some (Repeat Home)
    else if (e.kind == 21) && (e.b == 1) then Some (Repeat Remote)
    else if e.kind == 22 then Some (Lose (way_of e.a))
    else None

-- ---- the operator

-- the number of the graft of a graft step, counted from 1 over the script
abbrev pub graft_of_step : LabInput → (step : ℕ) → ℕ
graft_of_step input step = sum_by (step_grafts (length input.peerings)) (take step input.steps) + 1

-- an order of a graft step, or of an evacuate step, which names the graft; orders to say are left out
abbrev pub order_event : LabInput → (step graft : ℕ) → Option Step → Option Event
order_event input step graft (Some (steps.Graft peering target)) = Some (Order (graft_of_step input step))
order_event input step graft (Some (steps.Evacuate router)) = Some (Order graft)
order_event input step graft other = None

-- the first group is at work from the beginning
abbrev pub begin_event : List JournalEntry → Event
begin_event before = Begin (count_by (λ e. e.kind == 26) before + 2)

-- Order (24) and Go (26)
abbrev pub operator_event : Lab → List JournalEntry → JournalEntry → Option Event
operator_event lab before e =
    if e.kind == 24 then order_event lab.input e.a e.b (slice_get lab.input.steps e.a)
    else if e.kind == 26 then Some (begin_event before)
    else None

-- ---- all

abbrev pub is_of_sessions : ℕ → Bool
is_of_sessions kind = (kind == 1) || ((kind == 4) || ((kind == 5) || (kind == 31)))

-- what an entry tells of, by the entries before it
abbrev pub event_of : Lab → (before : List JournalEntry) → JournalEntry → Option Event
event_of lab before e =
    if is_of_sessions e.kind then session_event lab before e
    else if nat_lt e.kind 6 then None
    else if nat_lt e.kind 9 then Some (table_event e)
    else if nat_lt e.kind 13 || (e.kind == 33) then Some (named_event e)
    else if nat_lt e.kind 17 then Some (taken_event lab before e)
    else if nat_lt e.kind 24 then far_event e
    else operator_event lab before e

abbrev pub happening_of : JournalEntry → (round : ℕ) → Option Event → List Happening
happening_of e round None = []
happening_of e round (Some event) = record { round = round; actor = e.actor; event = event } ∷ []

-- the entry at an index of the journal, with its round
abbrev pub happening_at : Lab → (rounds : List ℕ) → ℕ × JournalEntry → List Happening
happening_at lab rounds x = happening_of x.1 (get_or rounds x.0 0) (event_of lab (take x.0 lab.journal) x.1)

-- what the entries of the journal tell of, in their order, with their rounds
abbrev pub happenings : Lab → List Happening
happenings lab = flat_map (happening_at lab (entry_rounds lab.marks lab.journal)) (enumerate_from 0 lab.journal)
