-- Lines of stories, and the numbers of events.
use Rattle.std.proofs.Common.{ℕ, zero, suc, ◌≡◌, ◌<◌, ◌≤◌, inl, inr, Bool, true, false, cond, List, [], ◌∷◌, length}
use Rattle.std.proofs.Common.{Option, Some, None, is_some, sym, ap, ◌∙◌, subst, slice_index, arith}
use Rattle.std.proofs.lemmas.Bool.{false≢true, lt-ltb, le-ltb, cases_lt}
use Rattle.std.proofs.lemmas.Option.{slice_get-map, slice_get-get_or, slice_get_within}
use Rattle.std.specs.Prelude.{slice_get, unwrap_or, count_by}
use Rattle.std.specs.List.{AllByRecursion}
use Rattle.std.specs.Option.{option_map}
use Rattle.bgp_story.specs.declared.line.Line.{Line}
use Rattle.bgp_story.specs.declared.line.Line.TheVariants.{Got}
use Rattle.bgp_story.specs.Laws.{IsGotLine}
use Rattle.bgp_story.specs.Legal.{IsGot}
use Rattle.ring_net.specs.declared.entry.JournalEntry.{JournalEntry}
use Rattle.lab_report.specs.declared.lab.Lab.{Lab}
use Rattle.lab_report.specs.declared.lab.SessionView.{SessionView}
use Rattle.story_view.specs.Story.{adds_to}
use Rattle.timeline_view.specs.declared.event.Event.TheVariants.{Message}
use Rattle.timeline_view.specs.declared.outline.Outline.{Outline}
use Rattle.timeline_view.specs.Events.{message_event}
use Rattle.timeline_view.specs.Messages.{outline_of, outlines_of}
use Rattle.timeline_view.specs.Walks.{AreCounts}

-- what was got at an index
pub got_at : (lines : List Line) (i : ℕ) (bytes : List ℕ) → AllByRecursion IsGotLine lines → slice_get lines i ≡ Some (Got bytes) → IsGot bytes
got_at [] i bytes all e = absurd (false≢true (ap (λ (o : Option Line). is_some o) e))
got_at (line ∷ lines) zero bytes all e = subst IsGotLine (ap (λ (o : Option Line). unwrap_or o line) e) all.0
got_at (line ∷ lines) (suc i) bytes all e = got_at lines i bytes all.1 e

-- ---- numbers

module _ (lab : Lab) (before : List JournalEntry) (counts : List ℕ) (are : AreCounts lab before counts) (p : ℕ) where
  pub message_at : (nth : ℕ) → Some nth ≡ slice_get counts p → message_event lab before p ≡ Some (Message p nth)
  message_at nth e =
      let below : p < length counts = slice_get_within counts p nth (sym e) in
      let there : p < length lab.sessions = omega (arith, below, are.size) in
      let number : nth ≡ slice_index counts p = ap (λ (o : Option ℕ). unwrap_or o 0) (e ∙ slice_get-get_or counts p 0 below) in
      ap (λ (b : Bool). cond b (Some (Message p (count_by (adds_to p) before))) None) (lt-ltb p (length lab.sessions) there)
      ∙ ap (λ (n : ℕ). Some (Message p n)) (sym (number ∙ are.each p below))

  pub no_message : None ≡ slice_get counts p → message_event lab before p ≡ None
  no_message e = elim (cases_lt p (length counts)) [
    | inl below ↦ absurd (false≢true (ap (λ (o : Option ℕ). is_some o) (e ∙ slice_get-get_or counts p 0 below)))
    | inr beyond ↦
        let none : length lab.sessions ≤ p = omega (arith, beyond, are.size) in
        ap (λ (b : Bool). cond b (Some (Message p (count_by (adds_to p) before))) None) (le-ltb p (length lab.sessions) none)
  ]

-- ---- outlines

module _ (lab : Lab) (outlines : List Outline) (are : outlines ≡ outlines_of lab) (p : ℕ) where
  at_index : slice_get outlines p ≡ option_map (λ (view : SessionView). outline_of view.story) (slice_get lab.sessions p)
  at_index = ap (λ (os : List Outline). slice_get os p) are ∙ slice_get-map (λ (view : SessionView). outline_of view.story) lab.sessions p

  -- a session's outline
  pub outline_at : (view : SessionView) (outline : Outline) → Some view ≡ slice_get lab.sessions p → Some outline ≡ slice_get outlines p
      → outline ≡ outline_of view.story
  outline_at view outline v o =
      ap (λ (x : Option Outline). unwrap_or x outline)
      (o ∙ at_index ∙ ap (option_map (λ (view : SessionView). outline_of view.story)) (sym v))

  -- each session has one
  pub has_outline : (view : SessionView) → Some view ≡ slice_get lab.sessions p → None ≡ slice_get outlines p → true ≡ false
  has_outline view v o =
      sym (ap (λ (x : Option Outline). is_some x) (o ∙ at_index ∙ ap (option_map (λ (view : SessionView). outline_of view.story)) (sym v)))
