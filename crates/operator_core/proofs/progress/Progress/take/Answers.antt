use Rattle.std.proofs.Common.{◌≡◌, ◌≤◌, sym, subst, length, Some, arith}
use Rattle.operator_core.specs.Progresses.{progress_state, own_part_of, TakesItem}
use Rattle.operator_state.specs.Notes.{IsOpenIndex}
use Rattle.graft_actors.specs.Acts.{IsWelcome}
use Rattle.operator_core.proofs.Results.{on_ok}
use Rattle.operator_core.proofs.Calls.{have_seats}
use Rattle.operator_core.proofs.Takes.{take_drops, take_notes, other_unwelcome, stranger_unwelcome, closed_unwelcome, not_open}
use Rattle.operator_core.proofs.progress.Progress.take.Goals as goal

pub returns-in_default-clause-ok : goal.returns-in_default-clause-ok
returns-in_default-clause-ok g c = on_ok c.note_dropped.result
    (λ wrote. take_drops c.args.self.now c.args.from c.args.item c.args.post.now
    c.note_dropped.new.post c.actors_have_their_numbers.ensures.numbers c.requires wrote
    (λ session. other_unwelcome c.args.self.now c.args.from c.args.item session (λ k x e. c.in_default.not-Report k x e))) c.note_dropped.ensures.ok

pub returns-then-from-len-clause-ok : goal.returns-then-from-len-clause-ok
returns-then-from-len-clause-ok g c = on_ok c.note_dropped-then-from-len.result
    (λ wrote. take_drops c.args.self.now c.args.from c.args.item c.args.post.now
    c.note_dropped-then-from-len.new.post c.actors_have_their_numbers.ensures.numbers c.requires wrote
    (λ session. subst (λ item. ¬ IsWelcome session (own_part_of (progress_state c.args.self.now)) c.args.from item) (sym c.in-Report.is)
    (stranger_unwelcome c.args.self.now c.args.from c.in-Report.graft c.in-Report.outcome session
    c.the_operator_takes_what_comes.ensures.report c.actors_have_their_numbers.ensures.actors c.requires.known
    (let l : c.len.result ≤ c.args.from = c.if-from-len.true in
    let e : c.len.result ≡ length c.args.self.now.script.rooms = c.len.ensures in omega arith)))) c.note_dropped-then-from-len.ensures.ok

pub returns-in_default-open_index-clause-ok : goal.returns-in_default-open_index-clause-ok
returns-in_default-open_index-clause-ok g c = on_ok c.note_dropped-in_default-open_index.result
    (λ wrote. take_drops c.args.self.now c.args.from c.args.item c.args.post.now
    c.note_dropped-in_default-open_index.new.post c.actors_have_their_numbers.ensures.numbers c.requires wrote
    (λ session. subst (λ item. ¬ IsWelcome session (own_part_of (progress_state c.args.self.now)) c.args.from item) (sym c.in-Report.is)
    (closed_unwelcome c.args.self.now c.args.from c.in-Report.graft c.in-Report.outcome session c.the_operator_takes_what_comes.ensures.report c.requires
    (not_open c.args.self.now.slots.items c.in-Report.graft c.open_index.result
    (λ index e. c.in_default-open_index.not-Some index e) c.open_index.ensures)))) c.note_dropped-in_default-open_index.ensures.ok

pub end-requires-clause-made : goal.end-requires-clause-made
end-requires-clause-made g c =
    let is_index : IsOpenIndex c.args.self.now.slots.items c.in-Report.graft (Some c.in-Some.index) =
    subst (IsOpenIndex c.args.self.now.slots.items c.in-Report.graft) c.in-Some.is c.open_index.ensures in
    (is_index.0, is_index.1)

pub end-requires-clause-seated : goal.end-requires-clause-seated
end-requires-clause-seated g c = have_seats c.args.self.now c.requires.keeps

pub returns-clause-ok : goal.returns-clause-ok
returns-clause-ok g c =
    let is_index : IsOpenIndex c.args.self.now.slots.items c.in-Report.graft (Some c.in-Some.index) =
    subst (IsOpenIndex c.args.self.now.slots.items c.in-Report.graft) c.in-Some.is c.open_index.ensures in
    subst (λ item. TakesItem c.args.from item c.args.self.now c.args.post.now c.end.new.self c.note_operator.new.post) (sym c.in-Report.is)
    (take_notes c.args.self.now c.end.new.self c.args.from c.in-Report.graft c.in-Some.index c.in-Report.outcome c.args.post.now
    c.note_operator.new.post c.actors_have_their_numbers.ensures.numbers c.the_operator_takes_what_comes.ensures.report c.requires
    (let l = c.if-from-len.false in let e : c.len.result ≡ length c.args.self.now.script.rooms = c.len.ensures in omega arith) is_index
    c.in_ok-note_operator.ensures.ok c.end.ensures)
