use Rattle.std.proofs.Common.{◌∙◌, Some, sym, subst}
use Rattle.operator_state.specs.Notes.{IsOpenIndex}
use Rattle.audit_channels.specs.Channels.{parcels_in}
use Rattle.audit_operator.proofs.Reports.{have_seats, note_closed, note_made, note_nothing}
use Rattle.audit_operator.proofs.operator.AuditedOperator.note.Goals as goal

pub returns-in_default : goal.returns-in_default
returns-in_default c = note_nothing c.args.self.now c.requires c.args.router.0 (parcels_in c.args.channel.now) (sym c.next_report.ensures ∙ c.in_default.is)

pub returns-in_default-open_index : goal.returns-in_default-open_index
returns-in_default-open_index c = note_closed c.args.self.now c.requires c.args.router.0 (parcels_in c.args.channel.now)
    c.in-Some.graft (sym c.next_report.ensures ∙ c.in-Some.is)
    (subst (IsOpenIndex c.args.self.now.slots.items c.in-Some.graft) c.in_default-open_index.is c.open_index.ensures)

pub take_outcome-outcome-requires : goal.take_outcome-outcome-requires
take_outcome-outcome-requires c = (c.in-Some.graft, sym c.next_report.ensures ∙ c.in-Some.is)

pub end-requires-clause-made : goal.end-requires-clause-made
end-requires-clause-made c =
    let is_index : IsOpenIndex c.args.self.now.slots.items c.in-Some.graft (Some c.in-Some-open_index.index) =
    subst (IsOpenIndex c.args.self.now.slots.items c.in-Some.graft) c.in-Some-open_index.is c.open_index.ensures in
    (is_index.0, is_index.1)

pub end-requires-clause-seated : goal.end-requires-clause-seated
end-requires-clause-seated c = have_seats c.args.self.now c.requires

pub returns : goal.returns
returns c =
    let is_index : IsOpenIndex c.args.self.now.slots.items c.in-Some.graft (Some c.in-Some-open_index.index) =
    subst (IsOpenIndex c.args.self.now.slots.items c.in-Some.graft) c.in-Some-open_index.is c.open_index.ensures in
    note_made c.args.self.now c.requires c.args.router.0 (parcels_in c.args.channel.now) c.end.new.self
    (parcels_in c.take_outcome-outcome.new.channel) c.in-Some.graft c.in-Some-open_index.index c.take_outcome-outcome.result is_index
    (c.take_outcome-outcome.ensures c.in-Some.graft (sym c.next_report.ensures ∙ c.in-Some.is)) c.end.ensures
