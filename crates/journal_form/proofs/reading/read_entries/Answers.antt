use Rattle.std.proofs.Common.{List, sym, subst, arith}
use Rattle.ring_net.specs.declared.entry.JournalEntry.{JournalEntry}
use Rattle.journal_form.proofs.ReadSoFar.{SoFar, SoFar-none, SoFar-one, shorter, whole, at_fault}
use Rattle.journal_form.proofs.reading.read_entries.Goals as goal

pub loop-entry-init : goal.loop-entry-init
loop-entry-init c = subst (λ (es : List JournalEntry). SoFar c.args.rest.now es c.args.rest.now) (sym c.new-entries.ensures) (SoFar-none c.args.rest.now)

pub loop-entry-preserved : goal.loop-entry-preserved
loop-entry-preserved c =
    subst (λ (es : List JournalEntry). SoFar c.args.rest.now es c.in-Some.behind.now) (sym c.in_ok-push.ensures.ok)
    (SoFar-one c.args.rest.now c.loop-entry.entries c.in-Some.entry c.loop-entry.left.now c.in-Some.behind.now c.loop-entry.invariant
    c.in-Some.ensures.0 c.in-Some.ensures.1)

pub loop-entry-smaller : goal.loop-entry-smaller
loop-entry-smaller c = shorter c.loop-entry.left.now c.in-Some.entry c.in-Some.behind.now c.in-Some.ensures.1

pub end_reading-requires-clause-fits : goal.end_reading-requires-clause-fits
end_reading-requires-clause-fits c = omega (arith, c.loop-entry.invariant.long)

pub returns-clause-entries : goal.returns-clause-entries
returns-clause-entries c =
    whole c.args.rest.now c.loop-entry.entries c.loop-entry.left.now c.end_reading.result c.loop-entry.invariant c.end_reading.ensures.entries

pub returns-clause-fault : goal.returns-clause-fault
returns-clause-fault c = λ i is.
    at_fault c.args.rest.now c.loop-entry.entries c.loop-entry.left.now i c.loop-entry.invariant (c.end_reading.ensures.fault i is)
