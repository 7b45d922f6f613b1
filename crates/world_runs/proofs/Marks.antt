-- The world behind a mark.
use Rattle.std.proofs.Common.{ℕ, List, take, sym, ap, ◌∙◌, take_at}
use Rattle.ring_net.specs.declared.entry.JournalEntry.{JournalEntry}
use Rattle.ring_net.specs.Phases.{View}
use Rattle.journal_merge.specs.Merges.{Interleaves, upto}
use Rattle.journal_merge.proofs.Orders.{merged_upto}
use Rattle.graft_steps.specs.declared.item.Item.{Item}
use Rattle.session_value.specs.Sessions.{SessionValue}
use Rattle.graft_model.specs.Setups.{Setup}
use Rattle.graft_model.specs.Parts.{World}
use Rattle.graft_actors.specs.Acts.{OwnPart}
use Rattle.world_runs.specs.Runs.{IsSeenAs, RanAs, Ran}
use Rattle.world_runs.specs.Marks.{before, IsWorldAtMark, IsMarkOf}

-- what stands before a mark is the merge of the journals that it was made of
pub up_to_mark : {A I : Type 0} (u v : View A I) (mark : List ℕ) (journal : List JournalEntry) → IsMarkOf u v mark → Interleaves v.journal journal
    → Interleaves u.journal (upto (before mark) journal)
up_to_mark u v mark journal is merge =
    let cut : Interleaves (λ k. take (before mark k) (v.journal k)) (upto (before mark) journal) = merged_upto v.journal journal (before mark) merge in
    record {
      each = λ k. cut.each k ∙ ap (take (before mark k)) (is.later k).1 ∙ take_at (u.journal k) (is.later k).0 (before mark k) (sym (is.lengths k));
      sorted = cut.sorted;
    }

pub world_at_mark : {A C : Type 0} (own : A → OwnPart) (session : C → SessionValue)
    (setup : Setup) (u v : View A (Item C)) (mark : List ℕ) (journal : List JournalEntry)
    → IsMarkOf u v mark → Interleaves v.journal journal
    → Ran own session setup u → (w : World) × IsWorldAtMark setup journal mark w × IsSeenAs own session setup u w
world_at_mark own session setup u v mark journal is merge ran =
    let r : RanAs own session setup (upto (before mark) journal) u = ran (upto (before mark) journal) (up_to_mark u v mark journal is merge) in
    (r.world, record { events = r.events; entries_of = r.entries_of; run = r.run }, r.seen)
