-- The events of a run, round by round.
use Rattle.std.specs.Prelude.{ℕ, ◌==◌, Bool, true, false, List, [], ◌++◌, filter, count_by, Option, Some, None, slice_get, ◌&&◌, codes, decimal}
use Rattle.std.specs.Prelude.{if◌then◌else◌}
use Rattle.std.specs.List.{flat_map, enumerate_from}
use Rattle.bgp_story.specs.declared.line.Line.{Line}
use Rattle.bgp_story.specs.declared.line.Line.TheVariants.{Put, Got, Tick}
use Rattle.lab_tables.specs.declared.input.LabInput.{LabInput}
use Rattle.lab_tables.specs.declared.input.PeeringInput.{PeeringInput}
use Rattle.lab_tables.specs.declared.input.RouterInput.{RouterInput}
use Rattle.lab_report.specs.declared.lab.Lab.{Lab}
use Rattle.lab_report.specs.declared.lab.SessionView.{SessionView}
use Rattle.lab_report.specs.Report.{router_name}
use Rattle.timeline_view.specs.declared.event.Event.{Event}
use Rattle.timeline_view.specs.declared.event.Event.TheVariants.{Decide, Tell, Hear}
use Rattle.timeline_view.specs.declared.event.Happening.{Happening}
use Rattle.timeline_view.specs.Lines.{did, happening_lines}
use Rattle.timeline_view.specs.Messages.{put_line}

-- ---- the first round

-- the OPEN with which a session begins, at the router where its peering starts
abbrev pub opening_of : (holder remote : List ℕ) → Option Line → List ℕ
opening_of holder remote None = []
opening_of holder remote (Some (Put message)) = put_line 0 holder remote message
opening_of holder remote (Some (Got _)) = []
opening_of holder remote (Some (Tick _)) = []

abbrev pub view_opening : (holder remote : List ℕ) → Option SessionView → List ℕ
view_opening holder remote None = []
view_opening holder remote (Some view) = opening_of holder remote (slice_get view.story.lines 0)

abbrev pub opening_line : LabInput → List SessionView → ℕ × PeeringInput → List ℕ
opening_line input sessions p = view_opening (router_name input p.1.at.0) p.1.name (slice_get sessions p.0)

-- ---- prefixes that were decided, told and heard

abbrev pub is_decide : Event → Bool
is_decide Decide = true
is_decide event = false

abbrev pub is_tell : Event → Bool
is_tell Tell = true
is_tell event = false

abbrev pub is_hear : Event → Bool
is_hear Hear = true
is_hear event = false

-- how many events of a router are of a kind
abbrev pub count_at : (Event → Bool) → (router : ℕ) → List Happening → ℕ
count_at is_kind router here = count_by (λ h. (h.actor == router) && is_kind h.event) here

abbrev pub counts_words : (decided told heard : ℕ) → List ℕ
counts_words decided told heard = codes "decided " ++ decimal decided ++ codes " told " ++ decimal told ++ codes " heard " ++ decimal heard

-- no line where there were none
abbrev pub counts_line : (round : ℕ) → (name : List ℕ) → (decided told heard : ℕ) → List ℕ
counts_line round name decided told heard =
    if (decided == 0) && ((told == 0) && (heard == 0)) then [] else did round name (counts_words decided told heard)

abbrev pub router_line : (round : ℕ) → List Happening → ℕ × RouterInput → List ℕ
router_line round here r = counts_line round r.1.name (count_at is_decide r.0 here) (count_at is_tell r.0 here) (count_at is_hear r.0 here)

-- ---- rounds

abbrev pub in_round : (round : ℕ) → List Happening → List Happening
in_round round all = filter (λ h. h.round == round) all

-- the lines of what happened in a round, in the order of the journal, and what each router decided, told and heard in it
abbrev pub lines_of_round : Lab → (round : ℕ) → List Happening → List ℕ
lines_of_round lab round here = flat_map (happening_lines lab) here ++ flat_map (router_line round here) (enumerate_from 0 lab.input.routers)

-- all rounds, of which each has a mark behind it
abbrev pub rounds_text : Lab → List Happening → List ℕ
rounds_text lab all = flat_map (λ m. lines_of_round lab m.0 (in_round m.0 all)) (enumerate_from 0 lab.marks)
