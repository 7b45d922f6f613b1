-- Reports that the operator notes.
use Rattle.std.proofs.Common.{◌≡◌, ℕ, List, [], ◌∷◌, Some, None, refl, sym, ap, ◌∙◌, subst, arith}
use Rattle.std.specs.Prelude.{slice_get}
use Rattle.std.proofs.lemmas.Option.{none-some, same_Some}
use Rattle.tcp_seq.specs.Endpoint.{PlacedSegment}
use Rattle.tcp_seq.specs.declared.segment.Way.{Way}
use Rattle.tcp_seq.specs.declared.segment.Way.TheVariants.{Home, Remote}
use Rattle.bgp_session.specs.Running.{carried}
use Rattle.graft_steps.specs.declared.item.Item.TheVariants as items
use Rattle.graft_steps.specs.declared.refusal.Outcome.{Outcome}
use Rattle.graft_model.specs.Setups.{Setup}
use Rattle.graft_model.specs.Parts.{OperatorPart, Report}
use Rattle.graft_model.specs.OperatorRows.{OperatorSent, OperatorTaken, ReportIn, Notes}
use Rattle.graft_model.specs.declared.event.OperatorEvent.TheVariants.{Note}
use Rattle.graft_actors.specs.Actors.{Router}
use Rattle.graft_actors.specs.Items.{segment_of, segment_thing, thing_of}
use Rattle.operator_state.specs.declared.grafts.Slot.TheVariants.{Made}
use Rattle.operator_state.specs.Notes.{IsOpenIndex, graft_noted}
use Rattle.operator_state.specs.States.{State, part_of_state}
use Rattle.operator_state.proofs.Notes.{none_to_note, note_keeps, noted_is_open, noted_row}
use Rattle.operator_state.proofs.SlotLaws.{graft_there, owner, peering_there}
use Rattle.audit_ruling.specs.Rulings.{Parcel, operator_takes}
use Rattle.audit_ruling.specs.declared.ruling.Ruling.TheVariants.{Refused, Silent}
use Rattle.audit_operator.specs.Decides.{DecidesOperatorTaking}
use Rattle.audit_operator.specs.Opens.{Ends, HaveSeats}
use Rattle.audit_operator.specs.Parts.{OperatorStands, operator_part, operator_state}
use Rattle.audit_operator.specs.Tasks.{reported}
use Rattle.audit_operator.specs.declared.operator.AuditedOperator.{AuditedOperator}
use Rattle.audit_operator.proofs.Keeping.{keeps_then}

-- ---- what a row takes

abbrev report_in : OperatorTaken → Report
report_in (ReportIn router report) = report

no_segment : (way : Way) (segment : PlacedSegment) (r : ℕ) (taken : OperatorTaken) → operator_takes (Router r) (segment_thing way segment) ≡ Some taken → ⊥
no_segment Home segment r taken e = none-some taken e
no_segment Remote segment r taken e = none-some taken e

taken_report : (setup : Setup) (r : ℕ) (item : Parcel) (report : Report) → operator_takes (Router r) (thing_of carried setup item) ≡ Some (ReportIn r report)
    → reported (Some item) ≡ Some report.graft
taken_report setup r (items.Seg g) report e = absurd (no_segment g.way (segment_of setup g) r (ReportIn r report) e)
taken_report setup r (items.Report k outcome) report e =
    ap (λ (taken : OperatorTaken). Some (report_in taken).graft)
    (same_Some (ReportIn r (record { graft = k; outcome = outcome })) (ReportIn r report) e)
taken_report setup r item report e = absurd (none-some (ReportIn r report) e)

-- ---- answers

module _ (o : AuditedOperator) (k : OperatorStands o) (r : ℕ) (channel : List Parcel) where
  refuses : ((item : Parcel) (more : List Parcel) → channel ≡ item ∷ more → (gave : List OperatorSent) (after : OperatorPart)
      → ¬ Notes r (operator_part o) (operator_takes (Router r) (thing_of carried o.known.setup item)) gave after)
      → DecidesOperatorTaking (Note r) (Router r) o channel Refused o channel
  refuses never = record { rules = (refl, refl, never); keeps = record { setup = refl; sound = k } }

  -- a row's report is the next item
  next_is : (item : Parcel) (more : List Parcel) → channel ≡ item ∷ more → (gave : List OperatorSent) (after : OperatorPart)
      → (row : Notes r (operator_part o) (operator_takes (Router r) (thing_of carried o.known.setup item)) gave after)
      → reported (slice_get channel 0) ≡ Some row.report.graft
  next_is item more is gave after row = ap (λ (xs : List Parcel). reported (slice_get xs 0)) is ∙ taken_report o.known.setup r item row.report row.takes

  pub note_nothing : reported (slice_get channel 0) ≡ None → DecidesOperatorTaking (Note r) (Router r) o channel Refused o channel
  note_nothing none = refuses (λ item more is gave after row.
      none-some row.report.graft (sym none ∙ next_is item more is gave after row))

  pub note_closed : (graft : ℕ) → reported (slice_get channel 0) ≡ Some graft → IsOpenIndex o.slots.items graft None
      → DecidesOperatorTaking (Note r) (Router r) o channel Refused o channel
  note_closed graft next closed = refuses (λ item more is gave after row.
      let same : graft ≡ row.report.graft = same_Some graft row.report.graft (sym next ∙ next_is item more is gave after row) in
      none_to_note (operator_state o) k.keeps row.report.graft (subst (λ (n : ℕ). IsOpenIndex o.slots.items n None) same closed) row.ordered row.unended)

  pub note_made : (p : AuditedOperator) (rest : List Parcel) (graft index : ℕ) (outcome : Outcome) → IsOpenIndex o.slots.items graft (Some index)
      → channel ≡ items.Report graft outcome ∷ rest → Ends o index outcome p → DecidesOperatorTaking (Note r) (Router r) o channel Silent p rest
  note_made p rest graft index outcome is_index first ends = record {
    rules = record {
      item = items.Report graft outcome;
      first = first;
      holds = record {
        gave = [];
        row = subst (λ (s : State). Notes r (operator_part o) (Some (ReportIn r (record { graft = graft; outcome = outcome }))) [] (part_of_state s))
            (sym ends.changes)
            (noted_row (operator_state o) k.keeps graft index is_index ends.entry ends.there outcome ends.seat ends.seated r);
        is_sent = refl;
        there = tt;
        fit = tt;
      };
    };
    keeps = keeps_then o p k ends.same (graft_noted (operator_state o) index ends.entry outcome ends.seat) ends.changes k.unissued
        (note_keeps (operator_state o) k.keeps index ends.entry ends.there
        (noted_is_open (operator_state o) k.keeps graft index is_index ends.entry ends.there) outcome ends.seat ends.seated);
  }

-- each graft's peering has a seat
pub have_seats : (o : AuditedOperator) → OperatorStands o → HaveSeats o
have_seats o k index entry e =
    let own = owner o.known.setup o.group o.tasks.items o.slots.items k.keeps.slots index (Made entry) e in
    let there = peering_there o.known.setup k.keeps.sound own.graft (graft_there o.known.setup index own.graft own.index) in
    let names = (own.is.fits.made entry refl).peering in
    let all = k.keeps.seats.all in
    omega (arith, there, names, all)
