-- What a take does.
use Rattle.std.proofs.Common.{◌≡◌, ℕ, ◌+◌, ◌<◌, ◌≤◌, true, List, [], length, Option, Some, None, refl, sym, ap, subst, arith}
use Rattle.std.specs.Prelude.{◌≢◌, ◌↔◌}
use Rattle.session_value.specs.Sessions.{SessionValue}
use Rattle.ring_net.specs.declared.post.Post.{Post}
use Rattle.ring_net.specs.Posts.{actor_of, clock_of}
use Rattle.graft_steps.specs.declared.item.Item.{Item}
use Rattle.graft_steps.specs.declared.item.Item.TheVariants as items
use Rattle.graft_steps.specs.declared.refusal.Outcome.{Outcome}
use Rattle.graft_model.specs.Codes.{operator_code}
use Rattle.graft_model.specs.Setups.{Setup, routers_in}
use Rattle.graft_model.specs.Parts.{OperatorPart}
use Rattle.graft_model.specs.OperatorRows.{ReportIn, Notes}
use Rattle.graft_model.specs.declared.event.OperatorEvent.TheVariants.{Note}
use Rattle.graft_actors.specs.Actors.{OperatorIs, Router, FarSide, Operator, ActorName, actor_at}
use Rattle.graft_actors.specs.Laws.{ActorsHaveNumbers, NumbersAreOfActors}
use Rattle.graft_actors.specs.Acts.{IsWelcome, MayComeFrom}
use Rattle.graft_actors.specs.Notes.{deed_of, WroteOne, dropped}
use Rattle.operator_state.specs.declared.grafts.Slot.{Slot}
use Rattle.operator_core.specs.declared.progress.Progress.{Progress}
use Rattle.operator_state.specs.Grafts.{is_open}
use Rattle.operator_state.specs.Slots.{source_in, outcome_in}
use Rattle.operator_state.specs.States.{part_of_state}
use Rattle.operator_state.specs.Keeps.{OperatorInvariant}
use Rattle.operator_state.specs.Notes.{graft_noted, IsOpenIndex}
use Rattle.operator_core.specs.Progresses.{progress_state, own_part_of, IsKnown, ProgressInvariant, Ends, TakesItem}
use Rattle.operator_state.proofs.Steps.{as_many_routers}
use Rattle.operator_state.proofs.Notes.{note_keeps, note_ordered, was_none, none_to_note, noted_is_open, noted_row}
use Rattle.operator_core.proofs.Acts.{notes, drops}
use Rattle.operator_core.proofs.Calls.{known_still}

-- which reports are welcome
abbrev TakesReports : (C : Type 0) → Type 0
TakesReports C = (session : C → SessionValue) (setup : Setup) (n k : ℕ) (part : OperatorPart) (outcome : Outcome)
    → IsWelcome session (record { setup = setup; name = Operator; part = OperatorIs part }) n (items.Report k outcome)
    ↔ (((r : ℕ) × (actor_at setup n ≡ Some (Router r))) × (part.source k ≢ None) × (part.outcome k ≡ None))

module _ {C : Type 0} where
  -- nothing but a report may come to the operator
  only_reports : (session : C → SessionValue) (setup : Setup) (o : Option ActorName) (item : Item C)
      → ((k : ℕ) (x : Outcome) → item ≡ items.Report k x → ⊥) → MayComeFrom session setup o Operator item → ⊥
  only_reports session setup None (items.Seg g) not_report comes = absurd comes
  only_reports session setup (Some (Router r)) (items.Seg g) not_report comes = absurd comes
  only_reports session setup (Some (FarSide p)) (items.Seg g) not_report comes = absurd comes
  only_reports session setup (Some Operator) (items.Seg g) not_report comes = absurd comes
  only_reports session setup None (items.PointAt k) not_report comes = absurd comes
  only_reports session setup (Some (Router r)) (items.PointAt k) not_report comes = absurd comes
  only_reports session setup (Some (FarSide p)) (items.PointAt k) not_report comes = absurd comes
  only_reports session setup (Some Operator) (items.PointAt k) not_report comes = absurd comes
  only_reports session setup None (items.Told prefix route) not_report comes = absurd comes
  only_reports session setup (Some (Router r)) (items.Told prefix route) not_report comes = absurd comes
  only_reports session setup (Some (FarSide p)) (items.Told prefix route) not_report comes = absurd comes
  only_reports session setup (Some Operator) (items.Told prefix route) not_report comes = absurd comes
  only_reports session setup None (items.Moved k capsule) not_report comes = absurd comes
  only_reports session setup (Some (Router r)) (items.Moved k capsule) not_report comes = absurd comes
  only_reports session setup (Some (FarSide p)) (items.Moved k capsule) not_report comes = absurd comes
  only_reports session setup (Some Operator) (items.Moved k capsule) not_report comes = absurd comes
  only_reports session setup None (items.Back k capsule refusal) not_report comes = absurd comes
  only_reports session setup (Some (Router r)) (items.Back k capsule refusal) not_report comes = absurd comes
  only_reports session setup (Some (FarSide p)) (items.Back k capsule refusal) not_report comes = absurd comes
  only_reports session setup (Some Operator) (items.Back k capsule refusal) not_report comes = absurd comes
  only_reports session setup None (items.Asked k peering) not_report comes = absurd comes
  only_reports session setup (Some (Router r)) (items.Asked k peering) not_report comes = absurd comes
  only_reports session setup (Some (FarSide p)) (items.Asked k peering) not_report comes = absurd comes
  only_reports session setup (Some Operator) (items.Asked k peering) not_report comes = absurd comes
  only_reports session setup None (items.Answered k peering) not_report comes = absurd comes
  only_reports session setup (Some (Router r)) (items.Answered k peering) not_report comes = absurd comes
  only_reports session setup (Some (FarSide p)) (items.Answered k peering) not_report comes = absurd comes
  only_reports session setup (Some Operator) (items.Answered k peering) not_report comes = absurd comes
  only_reports session setup None (items.Done k peering) not_report comes = absurd comes
  only_reports session setup (Some (Router r)) (items.Done k peering) not_report comes = absurd comes
  only_reports session setup (Some (FarSide p)) (items.Done k peering) not_report comes = absurd comes
  only_reports session setup (Some Operator) (items.Done k peering) not_report comes = absurd comes
  only_reports session setup None (items.GraftOrder k peering target) not_report comes = absurd comes
  only_reports session setup (Some (Router r)) (items.GraftOrder k peering target) not_report comes = absurd comes
  only_reports session setup (Some (FarSide p)) (items.GraftOrder k peering target) not_report comes = absurd comes
  only_reports session setup (Some Operator) (items.GraftOrder k peering target) not_report comes = absurd comes
  only_reports session setup None (items.Report k x) not_report comes = absurd comes
  only_reports session setup (Some (Router r)) (items.Report k x) not_report comes = not_report k x refl
  only_reports session setup (Some (FarSide p)) (items.Report k x) not_report comes = absurd comes
  only_reports session setup (Some Operator) (items.Report k x) not_report comes = absurd comes
  only_reports session setup None (items.SayOrder step) not_report comes = absurd comes
  only_reports session setup (Some (Router r)) (items.SayOrder step) not_report comes = absurd comes
  only_reports session setup (Some (FarSide p)) (items.SayOrder step) not_report comes = absurd comes
  only_reports session setup (Some Operator) (items.SayOrder step) not_report comes = absurd comes

  pub take_drops : (p : Progress) (from : ℕ) (item : Item C) (before after : Post (Item C)) → ActorsHaveNumbers → ProgressInvariant p
      → WroteOne before dropped [] after
      → ((session : C → SessionValue) → ¬ IsWelcome session (own_part_of (progress_state p)) from item) → TakesItem from item p before p after
  take_drops p from item before after numbers sound wrote unwelcome = record {
    deed = deed_of before dropped (Some (from, item)) [];
    does = record {
      wrote = wrote (Some (from, item));
      replay = λ session. (
        own_part_of (progress_state p),
        drops session p.known.setup (part_of_state (progress_state p)) (part_of_state (progress_state p))
            (clock_of before + 1) (actor_of before) from item (unwelcome session) refl,
        refl,
      );
      known = refl;
      sound = sound;
    };
    takes = refl;
  }

  pub other_unwelcome : (p : Progress) (from : ℕ) (item : Item C) (session : C → SessionValue)
      → ((k : ℕ) (x : Outcome) → item ≡ items.Report k x → ⊥) → ¬ IsWelcome session (own_part_of (progress_state p)) from item
  other_unwelcome p from item session other welcome = only_reports session p.known.setup (actor_at p.known.setup from) item other welcome.comes

  pub stranger_unwelcome : (p : Progress) (from k : ℕ) (x : Outcome) (session : C → SessionValue) → TakesReports C → NumbersAreOfActors → IsKnown p
      → length p.script.rooms ≤ from → ¬ IsWelcome session (own_part_of (progress_state p)) from (items.Report k x)
  stranger_unwelcome p from k x session law actors known le welcome =
      let h = (law session p.known.setup from k (part_of_state (progress_state p)) x).0 welcome in
      let r : ℕ = h.0.0 in
      let there = actors p.known.setup from (Router h.0.0) h.0.1 in
      let l : h.0.0 < routers_in p.known.setup = there.0 in
      let e : from ≡ h.0.0 = there.1 in
      let f : length p.script.rooms ≡ routers_in p.known.setup = as_many_routers p.known.setup p.script known.script in
      absurd (omega arith)

  pub closed_unwelcome : (p : Progress) (from k : ℕ) (x : Outcome) (session : C → SessionValue) → TakesReports C → ProgressInvariant p
      → IsOpenIndex p.slots.items k None → ¬ IsWelcome session (own_part_of (progress_state p)) from (items.Report k x)
  closed_unwelcome p from k x session law sound none welcome =
      let h = (law session p.known.setup from k (part_of_state (progress_state p)) x).0 welcome in
      absurd (none_to_note (progress_state p) sound.keeps k none h.1 h.2)

  pub take_notes : (old new : Progress) (from k index : ℕ) (x : Outcome) (before after : Post (Item C)) → ActorsHaveNumbers → TakesReports C
      → ProgressInvariant old → from < length old.script.rooms → IsOpenIndex old.slots.items k (Some index)
      → WroteOne before (operator_code (Note from)) [] after → Ends old index x new → TakesItem from (items.Report k x) old before new after
  take_notes old new from k index x before after numbers law sound l is_index wrote ends = record {
    deed = deed_of before (operator_code (Note from)) (Some (from, items.Report k x)) [];
    does = record {
      wrote = wrote (Some (from, items.Report k x));
      replay = λ session. (
        own_part_of (graft_noted (progress_state old) index ends.entry x ends.seat),
        notes session old.known.setup (part_of_state (progress_state old)) (part_of_state (graft_noted (progress_state old) index ends.entry x ends.seat))
            (clock_of before + 1) (actor_of before) from k x there (welcome session) row,
        ap own_part_of ends.changes,
      );
      known = ends.same.known;
      sound = record {
        known = known_still old new ends.same sound.known;
        keeps = subst OperatorInvariant (sym ends.changes)
            (note_keeps (progress_state old) sound.keeps index ends.entry ends.there open_is x ends.seat ends.seated);
      };
    };
    takes = refl;
  }
    where
      there : from < routers_in old.known.setup
      there = let e : length old.script.rooms ≡ routers_in old.known.setup = as_many_routers old.known.setup old.script sound.known.script in omega arith

      open_is : is_open ends.entry.stage ≡ true
      open_is = noted_is_open (progress_state old) sound.keeps k index is_index ends.entry ends.there

      row : Notes from (part_of_state (progress_state old)) (Some (ReportIn from (record { graft = k; outcome = x }))) []
          (part_of_state (graft_noted (progress_state old) index ends.entry x ends.seat))
      row = noted_row (progress_state old) sound.keeps k index is_index ends.entry ends.there x ends.seat ends.seated from

      welcome : (session : C → SessionValue) → IsWelcome session (own_part_of (progress_state old)) from (items.Report k x)
      welcome session = (law session old.known.setup from k (part_of_state (progress_state old)) x).1 (
        (from, numbers old.known.setup (Router from) there),
        subst (λ (j : ℕ). source_in old.slots.items j ≢ None) is_index.2
            (note_ordered (progress_state old) sound.keeps index ends.entry ends.there open_is x ends.seat ends.seated),
        subst (λ (j : ℕ). outcome_in old.slots.items j ≡ None) is_index.2
            (was_none (progress_state old) sound.keeps index ends.entry ends.there open_is x ends.seat ends.seated),
      )

pub not_open : (slots : List Slot) (k : ℕ) (o : Option ℕ) → ((index : ℕ) → o ≡ Some index → ⊥) → IsOpenIndex slots k o → IsOpenIndex slots k None
not_open slots k None none is = is
not_open slots k (Some index) none is = absurd (none index refl)
