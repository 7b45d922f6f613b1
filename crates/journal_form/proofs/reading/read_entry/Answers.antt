use Rattle.std.proofs.Common.{◌^◌, ◌-◌, [], arith}
use Rattle.ring_net.specs.declared.entry.JournalEntry.{JournalEntry}
use Rattle.journal_form.proofs.Entries.{first_field, at_actor, at_kind, at_a, at_b, at_c, entry_from_fields}
use Rattle.journal_form.proofs.Entries.{from_third, from_fourth, from_fifth, from_sixth}
use Rattle.journal_form.proofs.reading.read_entry.Goals as goal

pub returns-in_err-actor : goal.returns-in_err-actor
returns-in_err-actor c =
    rw c.from_residual-in_err-actor.ensures (λ begins. c.in_err-actor.ensures (first_field (2 ^ 16 - 1) 32 from_third c.in_ok-clock.text.now
    (at_actor c.args.text.now c.in_ok-clock.text.now c.in_ok-clock.clock c.in_ok-clock.ensures begins)))

pub returns-in_err-kind : goal.returns-in_err-kind
returns-in_err-kind c =
    rw c.from_residual-in_err-kind.ensures (λ begins. c.in_err-kind.ensures (first_field (2 ^ 16 - 1) 32 from_fourth c.in_ok-actor.text.now
    (at_kind c.in_ok-clock.text.now c.in_ok-actor.text.now c.in_ok-actor.actor c.in_ok-actor.ensures
    (at_actor c.args.text.now c.in_ok-clock.text.now c.in_ok-clock.clock c.in_ok-clock.ensures begins))))

pub returns-in_err-a : goal.returns-in_err-a
returns-in_err-a c =
    rw c.from_residual-in_err-a.ensures (λ begins. c.in_err-a.ensures (first_field (2 ^ 32 - 1) 32 from_fifth c.in_ok-kind.text.now
    (at_a c.in_ok-actor.text.now c.in_ok-kind.text.now c.in_ok-kind.kind c.in_ok-kind.ensures
    (at_kind c.in_ok-clock.text.now c.in_ok-actor.text.now c.in_ok-actor.actor c.in_ok-actor.ensures
    (at_actor c.args.text.now c.in_ok-clock.text.now c.in_ok-clock.clock c.in_ok-clock.ensures begins)))))

pub returns-in_err-b : goal.returns-in_err-b
returns-in_err-b c =
    rw c.from_residual-in_err-b.ensures (λ begins. c.in_err-b.ensures (first_field (2 ^ 32 - 1) 32 from_sixth c.in_ok-a.text.now
    (at_b c.in_ok-kind.text.now c.in_ok-a.text.now c.in_ok-a.a c.in_ok-a.ensures
    (at_a c.in_ok-actor.text.now c.in_ok-kind.text.now c.in_ok-kind.kind c.in_ok-kind.ensures
    (at_kind c.in_ok-clock.text.now c.in_ok-actor.text.now c.in_ok-actor.actor c.in_ok-actor.ensures
    (at_actor c.args.text.now c.in_ok-clock.text.now c.in_ok-clock.clock c.in_ok-clock.ensures begins))))))

pub returns-in_err-c : goal.returns-in_err-c
returns-in_err-c c =
    rw c.from_residual-in_err-c.ensures (λ begins. c.in_err-c.ensures (first_field (2 ^ 32 - 1) 10 [] c.in_ok-b.text.now
    (at_c c.in_ok-a.text.now c.in_ok-b.text.now c.in_ok-b.b c.in_ok-b.ensures
    (at_b c.in_ok-kind.text.now c.in_ok-a.text.now c.in_ok-a.a c.in_ok-a.ensures
    (at_a c.in_ok-actor.text.now c.in_ok-kind.text.now c.in_ok-kind.kind c.in_ok-kind.ensures
    (at_kind c.in_ok-clock.text.now c.in_ok-actor.text.now c.in_ok-actor.actor c.in_ok-actor.ensures
    (at_actor c.args.text.now c.in_ok-clock.text.now c.in_ok-clock.clock c.in_ok-clock.ensures begins)))))))

pub returns : goal.returns
returns c =
    let e : JournalEntry = record {
      clock = c.in_ok-clock.clock;
      actor = c.in_ok-actor.actor;
      kind = c.in_ok-kind.kind;
      a = c.in_ok-a.a;
      b = c.in_ok-b.b;
      c = c.in_ok-c.c;
    } in (
      record {
        clock = omega (arith, c.in_ok-clock.ensures.0);
        actor = omega (arith, c.in_ok-actor.ensures.0);
        kind = omega (arith, c.in_ok-kind.ensures.0);
        a = omega (arith, c.in_ok-a.ensures.0);
        b = omega (arith, c.in_ok-b.ensures.0);
        c = omega (arith, c.in_ok-c.ensures.0);
      },
      entry_from_fields e c.args.text.now c.in_ok-clock.text.now c.in_ok-actor.text.now c.in_ok-kind.text.now c.in_ok-a.text.now c.in_ok-b.text.now
          c.in_ok-c.text.now c.in_ok-clock.ensures.1 c.in_ok-actor.ensures.1 c.in_ok-kind.ensures.1 c.in_ok-a.ensures.1 c.in_ok-b.ensures.1
          c.in_ok-c.ensures.1,
    )
