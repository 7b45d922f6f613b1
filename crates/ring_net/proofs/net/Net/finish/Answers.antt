use Rattle.std.proofs.Common.{◌∙◌, List, ap, subst, sym}
use Rattle.ring_net.specs.declared.entry.JournalEntry.{JournalEntry}
use Rattle.ring_net.specs.Nets.{view_of}
use Rattle.ring_net.specs.Left.{HasJournals, actors_of, journals_of}
use Rattle.ring_net.proofs.Lists.{written_back}
use Rattle.ring_net.proofs.Order.{has_written, are_journals}
use Rattle.ring_net.proofs.net.Net.finish.Goals as goal

pub from_items-requires : goal.from_items-requires
from_items-requires g c =
    let net = c.args.self in
    are_journals (view_of net.cells.items net.edges.items) c.in_ok-actors.journals
    (has_written net.cells.len net.cells.items c.drain_all.new.cells net.edges.items c.in_ok-actors.journals net.cells.ok.0
    (c.drain_all.auto.cells ∙ c.as_mut_slice.ensures.len) c.in_ok-actors.ensures.journals
    (c.drain_all.ensures.journals ∙ ap (λ cells. journals_of cells) c.as_mut_slice.ensures.value))
    (net.ordered c.if-has_failed.false)

pub returns-clause-actors : goal.returns-clause-actors
returns-clause-actors g c =
    let net = c.args.self in
    c.in_ok-actors.ensures.actors
    ∙ ap (λ cells. actors_of cells) (written_back net.cells.len c.drain_all.new.cells net.cells.items net.cells.ok.0
    (c.drain_all.auto.cells ∙ c.as_mut_slice.ensures.len ∙ net.cells.ok.0))
    ∙ c.drain_all.ensures.actors ∙ ap (λ cells. actors_of cells) c.as_mut_slice.ensures.value

pub returns-clause-journals : goal.returns-clause-journals
returns-clause-journals g c =
    let net = c.args.self in
    subst (λ (journals : List (List JournalEntry)). HasJournals (view_of net.cells.items net.edges.items) journals) (sym c.from_items.ensures)
    (has_written net.cells.len net.cells.items c.drain_all.new.cells net.edges.items c.in_ok-actors.journals net.cells.ok.0
    (c.drain_all.auto.cells ∙ c.as_mut_slice.ensures.len) c.in_ok-actors.ensures.journals
    (c.drain_all.ensures.journals ∙ ap (λ cells. journals_of cells) c.as_mut_slice.ensures.value))
