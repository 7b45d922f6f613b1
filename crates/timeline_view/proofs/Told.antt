-- What entries tell of, one more at a time.
use Rattle.std.proofs.Common.{ℕ, ◌≡◌, ◌+◌, ◌<◌, List, ◌∷◌, [], ◌++◌, length, filter, take, sym, ap, ◌∙◌, subst, slice_index_or, get_or, Option}
use Rattle.std.proofs.lemmas.List.Elements.{filter-append}
use Rattle.std.specs.List.{flat_map, enumerate_from}
use Rattle.ring_net.specs.declared.entry.JournalEntry.{JournalEntry}
use Rattle.lab_report.specs.declared.lab.Lab.{Lab}
use Rattle.timeline_view.specs.declared.event.Event.{Event}
use Rattle.timeline_view.specs.declared.event.Happening.{Happening}
use Rattle.timeline_view.specs.Events.{event_of, happening_of, happening_at}
use Rattle.timeline_view.specs.Walks.{AreCounts, is_move}
use Rattle.story_view.proofs.Steps.{numbered_more}
use Rattle.timeline_view.proofs.Elements.{taken_more}

module _ (lab : Lab) (rounds : List ℕ) (journal : List JournalEntry) (whole : journal ≡ lab.journal) (i : ℕ) (e : JournalEntry)
    (lt : i < length journal) (at : e ≡ slice_index_or journal i e) where
  pub told_more : (round : ℕ) (event : Option Event) (so_far after : List Happening) → round ≡ get_or rounds i 0
      → event ≡ event_of lab (take i journal) e → so_far ≡ flat_map (happening_at lab rounds) (enumerate_from 0 (take i journal))
      → after ≡ so_far ++ happening_of e round event → after ≡ flat_map (happening_at lab rounds) (enumerate_from 0 (take (i + 1) journal))
  told_more round event so_far after in_round tells so is =
      let here : happening_of e round event ≡ happening_at lab rounds (i, e) =
      ap (λ r. happening_of e r event) in_round
      ∙ ap (happening_of e (get_or rounds i 0)) (tells ∙ ap (λ (j : List JournalEntry). event_of lab (take i j) e) whole) in
      numbered_more (happening_at lab rounds) journal i e [] so_far after lt at so (is ∙ ap (λ (l : List Happening). so_far ++ l) here)

  pub moves_more : (moves after : List JournalEntry) → moves ≡ filter is_move (take i journal) → after ≡ moves ++ filter is_move (e ∷ [])
      → after ≡ filter is_move (take (i + 1) journal)
  moves_more moves after so is =
      is ∙ ap (λ (l : List JournalEntry). l ++ filter is_move (e ∷ [])) so ∙ sym (filter-append is_move (take i journal) (e ∷ []))
      ∙ ap (filter is_move) (taken_more journal i e lt at)

  pub counts_more : (counts : List ℕ) → AreCounts lab (take i journal ++ e ∷ []) counts → AreCounts lab (take (i + 1) journal) counts
  counts_more counts are = subst (λ (entries : List JournalEntry). AreCounts lab entries counts) (taken_more journal i e lt at) are
