-- The values of why and timeline have no floats.
use Rattle.std.proofs.Common.{ℕ, ◌≡◌, ◌==◌, ◌&&◌, List, [], ◌∷◌, ◌++◌, Option}
use Rattle.std.proofs.Common.{Some, None, option_map, option_and_then, refl, slice_get, ◌+◌}
use Rattle.std.proofs.Common.{codes}
use Rattle.std.specs.List.{flat_map, enumerate_from}
use Rattle.serde_json.specs.Data.{Data, null}
use Rattle.bgp_types.specs.Prefixes.{PrefixValue}
use Rattle.bgp_types.specs.FirstFault.{message_of}
use Rattle.bgp_types.specs.declared.attrs.Attrs.{Attrs}
use Rattle.bgp_types.specs.declared.attrs.Route.{Route}
use Rattle.bgp_types.specs.declared.fault.Expected.{Expected}
use Rattle.bgp_types.specs.declared.message.Message.{Message}
use Rattle.bgp_types.specs.declared.message.Message.TheVariants.{OpenMsg, UpdateMsg, NoticeMsg, KeepaliveMsg}
use Rattle.bgp_types.specs.declared.rank.Rank.{Rank}
use Rattle.bgp_story.specs.declared.line.Line.{Line}
use Rattle.bgp_story.specs.declared.line.Line.TheVariants.{Put, Got, Tick}
use Rattle.graft_steps.specs.declared.log.GraftEntry.{GraftEntry}
use Rattle.route_policy.specs.Candidates.{SessionRoute, Candidate, imported}
use Rattle.route_policy.specs.Rules.{holds_as}
use Rattle.lab_tables.specs.declared.input.LabInput.{LabInput}
use Rattle.lab_tables.specs.declared.input.RouterInput.{RouterInput}
use Rattle.lab_tables.specs.declared.input.Step.{Step}
use Rattle.lab_report.specs.declared.lab.Lab.{Lab}
use Rattle.lab_report.specs.declared.lab.SessionView.{SessionView}
use Rattle.lab_report.specs.Report.{peering_name, router_name}
use Rattle.lab_report.specs.Summary.{announced_in_step}
use Rattle.report_json.specs.Values.{count_or_null}
use Rattle.report_json.proofs.NoFloats.{Whole, AllWhole, with, number_whole, text_whole, mapped_whole}
use Rattle.report_json.proofs.NoFloats.{appended_whole, gathered_whole, either_whole, listed_whole}
use Rattle.report_json.proofs.Forms.{end_whole, path_whole, from_whole, stage_whole, source_whole, graft_whole, there_whole}
use Rattle.timeline_view.specs.declared.event.Event.{Event}
use Rattle.timeline_view.specs.declared.event.Event.TheVariants.{Decide, Tell, Hear, Message as MessageEvent, Stray, Admit, Refuse}
use Rattle.timeline_view.specs.declared.event.Event.TheVariants.{Freeze, Leave, Land, TurnBack}
use Rattle.timeline_view.specs.declared.event.Event.TheVariants.{Return, Clear, Confirm, Say, Lose, Repeat, Order, Begin}
use Rattle.timeline_view.specs.declared.event.Happening.{Happening}
use Rattle.timeline_view.specs.declared.event.Moment.TheVariants.{Ordered, Frozen, Left, Landed}
use Rattle.timeline_view.specs.declared.outline.Head.{Head}
use Rattle.timeline_view.specs.Events.{happenings}
use Rattle.timeline_view.specs.Grafts.{round_of_graft}
use Rattle.timeline_view.specs.Lines.{actor_name}
use Rattle.timeline_view.specs.Messages.{outline_of}
use Rattle.timeline_view.specs.Numbers.{graft_in}
use Rattle.timeline_view.specs.Rounds.{count_at, is_decide, is_tell, is_hear, in_round}
use Rattle.why_view.specs.Rules.{in_order, goes_at}
use Rattle.why_view.specs.Sources.{sessions_at, candidates_at}
use Rattle.why_view.specs.Why.{matching}
use Rattle.why_view.specs.Winners.{ranks_of, best_index, is_index, winner}
use Rattle.why_view.specs.declared.rules.DecisionRule.{DecisionRule}
use Rattle.message_json.proofs.Forms.{prefixes_whole, message_whole, answer_whole}
use Rattle.view_json.specs.Events.{put_json, reading_json, head_json, answered_json, messages_at, messages_json}
use Rattle.view_json.specs.Events.{refusal_of, did_graft, octets_in_step, prefixes_in, withdrawn_in_step, about_step, events_of, happening_json}
use Rattle.view_json.specs.Timeline.{opening_of, view_opening, opening_json, events_json, some_counts, counts_json}
use Rattle.view_json.specs.Timeline.{router_counts, tables_json, span_json, moved_json}
use Rattle.view_json.specs.Timeline.{session_json, peering_json, timeline_of, timeline_json}
use Rattle.view_json.specs.Why.{candidate_json, best_json, rule_json, lost_json, unless_best, others_json, import_json}
use Rattle.view_json.specs.Why.{excluded_json, looped_json, denied_json, kept_out_json}
use Rattle.view_json.specs.Why.{excluded_route, excluded_of, why_fields, why_if_there, why_json}

-- ---- why

candidate_whole : (input : LabInput) (c : Candidate) → Whole (candidate_json input c)
candidate_whole input c = with (from_whole input c.0.from) (with (path_whole c.0.route.attrs.path) refl)

best_whole : (input : LabInput) (c : Option Candidate) → Whole (best_json input c)
best_whole input None = refl
best_whole input (Some c) = candidate_whole input c

rule_whole : (rule : Option DecisionRule) → Whole (rule_json rule)
rule_whole None = refl
rule_whole (Some rule) = refl

lost_whole : (input : LabInput) (ranks : List Rank) (c : Candidate) → Whole (lost_json input ranks c)
lost_whole input ranks c = with (candidate_whole input c) (with (rule_whole (goes_at in_order ranks c.1)) refl)

unless_whole : (input : LabInput) (ranks : List Rank) (best : Option ℕ) (c : ℕ × Candidate) → AllWhole (unless_best input ranks best c)
unless_whole input ranks best c =
    listed_whole (is_index best c.0) [] (lost_json input ranks c.1 ∷ []) refl (with (lost_whole input ranks c.1) refl)

others_whole : (input : LabInput) (found : List Candidate) → Whole (others_json input found)
others_whole input found = gathered_whole (unless_best input (ranks_of found) (best_index found))
    (unless_whole input (ranks_of found) (best_index found)) (enumerate_from 0 found)

excluded_whole : (input : LabInput) (by : List ℕ) (session : SessionRoute) (heard : Attrs) (policy rule : Data) → Whole policy → Whole rule
    → Whole (excluded_json input by session heard policy rule)
excluded_whole input by session heard policy rule p q = with (path_whole heard.path) (with p (with q refl))

denied_whole : (input : LabInput) (prefix : PrefixValue) (session : SessionRoute) (heard : Attrs) → Whole (denied_json input prefix session heard)
denied_whole input prefix session heard = excluded_whole input (codes "policy") session heard
    (import_json input session.peering.0) (count_or_null (option_map (λ index. index + 1) (matching prefix session heard)))
    (text_whole (option_and_then (λ peering. peering.«import») (slice_get input.peerings session.peering.0)))
    (number_whole (option_map (λ index. index + 1) (matching prefix session heard)))

kept_out_whole : (input : LabInput) (prefix : PrefixValue) (session : SessionRoute) (heard : Attrs) → Whole (kept_out_json input prefix session heard)
kept_out_whole input prefix session heard =
    either_whole (holds_as heard.path input.home_as) (looped_json input session heard) (denied_json input prefix session heard)
    (excluded_whole input (codes "loop") session heard null null refl refl) (denied_whole input prefix session heard)

route_whole : (input : LabInput) (prefix : PrefixValue) (session : SessionRoute) (heard : Option Attrs) (route : Option Route)
    → AllWhole (excluded_route input prefix session heard route)
route_whole input prefix session None route = refl
route_whole input prefix session (Some heard) (Some route) = refl
route_whole input prefix session (Some heard) None = with (kept_out_whole input prefix session heard) refl

why_fields_whole : (input : LabInput) (prefix : PrefixValue) (router : List ℕ) (found : List Candidate) (sessions : List SessionRoute)
    → Whole (why_fields input prefix router found sessions)
why_fields_whole input prefix router found sessions =
    with (best_whole input (winner found))
    (with (gathered_whole (excluded_of input prefix)
    (λ s. route_whole input prefix s s.heard (imported input.home_as prefix s s.heard)) sessions)
    (with (others_whole input found) refl))

there : (lab : Lab) (prefix : PrefixValue) (r : ℕ) (router : Option RouterInput) → Whole (why_if_there lab prefix r router)
there lab prefix r None = why_fields_whole lab.input prefix (router_name lab.input r) [] []
there lab prefix r (Some router) = why_fields_whole lab.input prefix router.name (candidates_at lab (r, router) prefix) (sessions_at lab (r, router) prefix)

pub why_whole : (lab : Lab) (r : ℕ) (prefix : PrefixValue) → Whole (why_json lab r prefix)
why_whole lab r prefix = there lab prefix r (slice_get lab.input.routers r)

-- ---- events

put_whole : (round : ℕ) (holder remote : List ℕ) (message : Message) → Whole (put_json round holder remote message)
put_whole round holder remote message = with (with (message_whole message) refl) refl

reading_whole : (expected : Option Expected) (head : Head) (bytes : List ℕ) → Whole (reading_json expected head bytes)
reading_whole None head bytes = refl
reading_whole (Some expected) head bytes = answer_whole bytes (message_of (record expected { state = head.state }) bytes)

head_whole : (round : ℕ) (holder remote : List ℕ) (expected : Option Expected) (head : Head) (line : Option Line)
    → AllWhole (head_json round holder remote expected head line)
head_whole round holder remote expected head None = refl
head_whole round holder remote expected head (Some (Put message)) = with (put_whole round holder remote message) refl
head_whole round holder remote expected head (Some (Got bytes)) = with (with (with (reading_whole expected head bytes) refl) refl) refl
head_whole round holder remote expected head (Some (Tick number)) = refl

answered_whole : (round : ℕ) (holder remote : List ℕ) (line : Option Line) → AllWhole (answered_json round holder remote line)
answered_whole round holder remote None = refl
answered_whole round holder remote (Some (Put (OpenMsg o))) = refl
answered_whole round holder remote (Some (Put (UpdateMsg u))) = refl
answered_whole round holder remote (Some (Put (NoticeMsg n))) = with (put_whole round holder remote (NoticeMsg n)) refl
answered_whole round holder remote (Some (Put KeepaliveMsg)) = refl
answered_whole round holder remote (Some (Got bytes)) = refl
answered_whole round holder remote (Some (Tick number)) = refl

at_whole : (round : ℕ) (holder remote : List ℕ) (lines : List Line) (expected : Option Expected) (head : Option Head)
    → AllWhole (messages_at round holder remote lines expected head)
at_whole round holder remote lines expected None = refl
at_whole round holder remote lines expected (Some head) =
    appended_whole (head_json round holder remote expected head (slice_get lines head.index))
    (answered_json round holder remote (slice_get lines (head.index + 1)))
    (head_whole round holder remote expected head (slice_get lines head.index)) (answered_whole round holder remote (slice_get lines (head.index + 1)))

messages_whole : (round : ℕ) (holder remote : List ℕ) (nth : ℕ) (view : Option SessionView) → AllWhole (messages_json round holder remote nth view)
messages_whole round holder remote nth None = refl
messages_whole round holder remote nth (Some view) =
    at_whole round holder remote view.story.lines (outline_of view.story).expected (slice_get (outline_of view.story).heads nth)

did_whole : (input : LabInput) (round : ℕ) (name : List ℕ) (event : Event) (graft : Option GraftEntry)
    → ((g : GraftEntry) → Whole (refusal_of g event)) → AllWhole (did_graft input round name event graft)
did_whole input round name event None each = refl
did_whole input round name event (Some g) each = with (with (with (each g) (with (source_whole input g.source) refl)) refl) refl

prefixes_in_whole : (form : Step → List PrefixValue) (step : Option Step) → Whole (prefixes_in form step)
prefixes_in_whole form None = refl
prefixes_in_whole form (Some step) = prefixes_whole (form step)

step_whole : (input : LabInput) (step : ℕ) → Whole (about_step input step)
step_whole input step =
    with (prefixes_in_whole announced_in_step (slice_get input.steps step))
    (with (number_whole (option_and_then octets_in_step (slice_get input.steps step)))
    (with (prefixes_in_whole withdrawn_in_step (slice_get input.steps step)) refl))

events_whole : (lab : Lab) (round : ℕ) (name : List ℕ) (event : Event) → AllWhole (events_of lab round name event)
events_whole lab round name Decide = refl
events_whole lab round name Tell = refl
events_whole lab round name Hear = refl
events_whole lab round name (MessageEvent p nth) = messages_whole round name (peering_name lab.input p) nth (slice_get lab.sessions p)
events_whole lab round name (Stray p) = refl
events_whole lab round name (Admit k) = did_whole lab.input round name (Admit k) (graft_in lab.log k) (λ g. refl)
events_whole lab round name (Refuse k) = did_whole lab.input round name (Refuse k) (graft_in lab.log k) (λ g. stage_whole g.stage)
events_whole lab round name (Freeze k) = did_whole lab.input round name (Freeze k) (graft_in lab.log k) (λ g. refl)
events_whole lab round name (Leave k) = did_whole lab.input round name (Leave k) (graft_in lab.log k) (λ g. refl)
events_whole lab round name (Land k) = did_whole lab.input round name (Land k) (graft_in lab.log k) (λ g. refl)
events_whole lab round name (TurnBack k) = did_whole lab.input round name (TurnBack k) (graft_in lab.log k) (λ g. stage_whole g.stage)
events_whole lab round name (Return k) = did_whole lab.input round name (Return k) (graft_in lab.log k) (λ g. refl)
events_whole lab round name (Clear k) = did_whole lab.input round name (Clear k) (graft_in lab.log k) (λ g. refl)
events_whole lab round name (Confirm k) = did_whole lab.input round name (Confirm k) (graft_in lab.log k) (λ g. refl)
events_whole lab round name (Order k) = did_whole lab.input round name (Order k) (graft_in lab.log k) (λ g. refl)
events_whole lab round name (Say step) = with (with (step_whole lab.input step) refl) refl
events_whole lab round name (Lose way) = refl
events_whole lab round name (Repeat way) = refl
events_whole lab round name (Begin group) = refl

-- ---- the timeline

opening_whole : (holder remote : List ℕ) (line : Option Line) → AllWhole (opening_of holder remote line)
opening_whole holder remote None = refl
opening_whole holder remote (Some (Put message)) = with (put_whole 0 holder remote message) refl
opening_whole holder remote (Some (Got bytes)) = refl
opening_whole holder remote (Some (Tick number)) = refl

view_opening_whole : (holder remote : List ℕ) (view : Option SessionView) → AllWhole (view_opening holder remote view)
view_opening_whole holder remote None = refl
view_opening_whole holder remote (Some view) = opening_whole holder remote (slice_get view.story.lines 0)

module _ (lab : Lab) (all : List Happening) where
  all_events_whole : Whole (events_json lab all)
  all_events_whole =
      let openings = flat_map (opening_json lab.input lab.sessions) (enumerate_from 0 lab.input.peerings) in
      let rounds = flat_map (λ m. flat_map (happening_json lab) (in_round m.0 all)) (enumerate_from 0 lab.marks) in
      appended_whole openings rounds
      (gathered_whole (opening_json lab.input lab.sessions)
      (λ p. view_opening_whole (router_name lab.input p.1.at.0) p.1.name (slice_get lab.sessions p.0)) (enumerate_from 0 lab.input.peerings))
      (gathered_whole (λ m. flat_map (happening_json lab) (in_round m.0 all))
      (λ m. gathered_whole (happening_json lab) (λ h. events_whole lab h.round (actor_name lab.input h.actor) h.event) (in_round m.0 all))
      (enumerate_from 0 lab.marks))

  counts_whole : (round : ℕ) (name : List ℕ) (decided told heard : ℕ) → AllWhole (counts_json round name decided told heard)
  counts_whole round name decided told heard =
      listed_whole ((decided == 0) && ((told == 0) && (heard == 0))) [] (some_counts round name decided told heard ∷ []) refl refl

  router_whole : (round : ℕ) (here : List Happening) (r : ℕ × RouterInput) → AllWhole (router_counts round here r)
  router_whole round here r =
      counts_whole round r.1.name (count_at is_decide r.0 here) (count_at is_tell r.0 here) (count_at is_hear r.0 here)

  all_tables_whole : Whole (tables_json lab all)
  all_tables_whole = gathered_whole (λ m. flat_map (router_counts m.0 (in_round m.0 all)) (enumerate_from 0 lab.input.routers))
      (λ m. gathered_whole (router_counts m.0 (in_round m.0 all))
      (λ r. router_whole m.0 (in_round m.0 all) r) (enumerate_from 0 lab.input.routers))
      (enumerate_from 0 lab.marks)

  span_whole : (from to : Option ℕ) → Whole (span_json from to)
  span_whole (Some from) (Some to) = refl
  span_whole (Some from) None = refl
  span_whole None to = refl

  moved_whole : (g : GraftEntry) → Whole (moved_json lab all g)
  moved_whole g =
      with (span_whole (round_of_graft Frozen g.graft all) (round_of_graft Left g.graft all))
      (with (graft_whole lab.input g)
      (with (span_whole (round_of_graft Ordered g.graft all) (round_of_graft Frozen g.graft all))
      (with (span_whole (round_of_graft Left g.graft all) (round_of_graft Landed g.graft all)) refl)))

  pub timeline_of_whole : Whole (timeline_of lab all)
  timeline_of_whole =
      with all_events_whole
      (with (mapped_whole (moved_json lab all) moved_whole lab.log)
      (with (end_whole lab.input lab.end)
      (with (gathered_whole (peering_json lab.sessions) (λ p. there_whole (session_json p.1.name) (λ view. refl) (slice_get lab.sessions p.0))
      (enumerate_from 0 lab.input.peerings))
      (with all_tables_whole refl))))

pub timeline_whole : (lab : Lab) → Whole (timeline_json lab)
timeline_whole lab = timeline_of_whole lab (happenings lab)
