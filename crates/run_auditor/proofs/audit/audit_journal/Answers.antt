use Rattle.std.proofs.Common.{◌≡◌, ◌+◌, ◌<◌, ◌≤◌, ℕ, [], List, length, get_or, take, Option, Some, None, ap, subst, sym, ◌∙◌}
use Rattle.std.proofs.lemmas.List.{get_or_default}
use Rattle.ring_net.specs.declared.entry.JournalEntry.{JournalEntry}
use Rattle.graft_model.specs.First.{first_world}
use Rattle.graft_model.specs.Setups.{Setup}
use Rattle.world_runs.specs.Labs.{actors_in}
use Rattle.audit_clocks.specs.Clocks.{IsNew}
use Rattle.clocked_audits.specs.Timed.{IsTimed}
use Rattle.lab_setup.specs.Setups.{setup_of}
use Rattle.run_auditor.specs.Replays.{Replays}
use Rattle.run_auditor.specs.declared.audit.Why.{Why}
use Rattle.run_auditor.proofs.Replays.{Replayed, all_replayed, fault_here, none_replayed, replayed_here}
use Rattle.run_auditor.proofs.audit.audit_journal.Goals as goal

pub loop-event-init : goal.loop-event-init
loop-event-init c =
    let setup = setup_of c.args.input.now in
    let auditor = c.in_ok-auditor.auditor in
    let clocks = c.in_ok-clocks.clocks in
    let many : c.len.result ≡ actors_in setup =
    c.len.ensures ∙ (auditor.inboxes.ok.0 ∙ (c.in_ok-auditor.ensures.sound.square.all ∙ ap (λ (s : Setup). actors_in s) c.in_ok-auditor.ensures.setup)) in
    let timed : IsTimed setup (first_world setup) [] clocks =
    c.clocks_follow_runs.ensures.begin setup clocks (subst (λ (n : ℕ). IsNew n clocks) many c.in_ok-clocks.ensures) in
    (c.in_ok-auditor.ensures.sound, none_replayed setup auditor clocks c.in_ok-auditor.ensures.setup c.in_ok-auditor.ensures.first timed)

pub next_fault-requires-clause-sound : goal.next_fault-requires-clause-sound
next_fault-requires-clause-sound c = c.loop-event.invariant.0

pub next_fault-requires-clause-all : goal.next_fault-requires-clause-all
next_fault-requires-clause-all c =
    let r = c.loop-event.invariant.1 in r.timed.count ∙ ap (λ (s : Setup). actors_in s) (sym r.setup_is)

-- an entry of no event, which the code reads behind the last one
abbrev blank : JournalEntry
blank = record { clock = 0; actor = 0; kind = 0; a = 0; b = 0; c = 0 }

pub returns-in-Some : goal.returns-in-Some
returns-in-Some c =
    let i = c.loop-event.event in
    let journal = c.args.journal.now in
    let items = c.deref-entry-items.result.now in
    let last = c.loop-event.last in
    let auditor = c.loop-event.auditor in
    let clocks = c.loop-event.clocks in
    let new = c.next_fault.new.auditor in
    let after = c.next_fault.new.clocks in
    let below : i < length journal = subst (λ (es : List JournalEntry). i < length es) c.deref-entry-items.ensures c.loop-event-test.true in
    let entry : JournalEntry = get_or journal i blank in
    let replays : Replays last entry auditor clocks (Some c.in-Some.why) new after =
    subst (λ (es : List JournalEntry). Replays last (get_or es i blank) auditor clocks (Some c.in-Some.why) new after) c.deref-entry-items.ensures
    (subst (λ (o : Option Why). Replays last (get_or items i blank) auditor clocks o new after) c.in-Some.is c.in_ok-why.ensures) in
    fault_here (setup_of c.args.input.now) journal i entry below (get_or_default journal i blank entry below) last auditor new clocks after
    c.loop-event.invariant.1 c.in-Some.why replays

pub loop-event-preserved : goal.loop-event-preserved
loop-event-preserved c =
    let i = c.loop-event.event in
    let items = c.deref-entry-items.result.now in
    let last = c.loop-event.last in
    let auditor = c.loop-event.auditor in
    let clocks = c.loop-event.clocks in
    let new = c.next_fault.new.auditor in
    let after = c.next_fault.new.clocks in
    let below : i < length items = c.loop-event-test.true in
    let entry : JournalEntry = get_or items i blank in
    let replays : Replays last entry auditor clocks None new after =
    subst (λ (o : Option Why). Replays last entry auditor clocks o new after) c.in_default.is c.in_ok-why.ensures in (
      replays.sound,
      subst (λ (es : List JournalEntry). Replayed (setup_of c.args.input.now) (take (i + 1) es) (Some entry) new after) c.deref-entry-items.ensures
          (replayed_here (setup_of c.args.input.now) items i entry below (get_or_default items i blank entry below) last auditor new clocks after
          (subst (λ (es : List JournalEntry). Replayed (setup_of c.args.input.now) (take i es) last auditor clocks) (sym c.deref-entry-items.ensures)
          c.loop-event.invariant.1) replays),
    )

pub returns : goal.returns
returns c = all_replayed (setup_of c.args.input.now) c.args.journal.now c.loop-event.event c.loop-event.last c.loop-event.auditor c.loop-event.clocks
    c.len-2.result c.is_quiet.result c.loop-event.invariant.1
    (subst (λ (es : List JournalEntry). length es ≤ c.loop-event.event) c.deref-entry-items.ensures c.loop-event-test.false)
    c.len-2.ensures c.is_quiet.ensures.quiet
