-- One line more of a story.
use Rattle.std.proofs.Common.{ℕ, zero, suc, ◌≡◌, ◌+◌, ◌<◌, List, [], ◌∷◌, ◌++◌, Bool, true, false, length, take, refl, sym, ap, subst, ◌∙◌}
use Rattle.std.proofs.Common.{append_assoc, slice_index_or, arith}
use Rattle.std.specs.Prelude.{slice_get, count_by, if◌then◌else◌}
use Rattle.std.specs.List.{flat_map, enumerate_from, AllByRecursion}
use Rattle.std.proofs.lemmas.List.Sums.{fold_more, count_by_more_yes, count_by_more_no}
use Rattle.bgp_types.specs.declared.fault.Expected.{Expected}
use Rattle.bgp_types.specs.declared.message.SessionState.{SessionState}
use Rattle.bgp_types.specs.declared.message.SessionState.TheVariants.{OpenSent}
use Rattle.bgp_story.specs.declared.line.Line.{Line}
use Rattle.bgp_story.specs.States.{after as state_after, state_of}
use Rattle.lab_input.proofs.Numbered.{flat_map_numbered}
use Rattle.lab_tables.specs.declared.input.LabInput.{LabInput}
use Rattle.story_view.specs.declared.moments.Moment.{Moment}
use Rattle.story_view.specs.Readings.{expected_at}
use Rattle.story_view.specs.Story.{begins, ends, events_to, moment_at, line_words, moment_line, story_line}

-- what holds of each element holds of one
pub each_at : {X : Type 0} (P : X → Type 0) (xs : List X) (i : ℕ) (x : X) → AllByRecursion P xs → i < length xs → x ≡ slice_index_or xs i x → P x
each_at P [] i x all lt at = absurd (omega (arith, lt))
each_at P (y ∷ xs) zero x all lt at = subst P (sym at) all.0
each_at P (y ∷ xs) (suc i) x all lt at = each_at P xs i x all.1 (omega (arith, lt)) at

-- what one element more adds, behind what stood there before
pub numbered_more : {X A : Type 0} (f : ℕ × X → List A) (xs : List X) (i : ℕ) (x : X) (before so_far after : List A) → i < length xs
    → x ≡ slice_index_or xs i x → so_far ≡ before ++ flat_map f (enumerate_from 0 (take i xs)) → after ≡ so_far ++ f (i, x)
    → after ≡ before ++ flat_map f (enumerate_from 0 (take (i + 1) xs))
numbered_more {X} {A} f xs i x before so_far after lt at so is =
    is ∙ ap (λ (l : List A). l ++ f (i, x)) so ∙ append_assoc before (flat_map f (enumerate_from 0 (take i xs))) (f (i, x))
    ∙ ap (λ (l : List A). before ++ l) (sym (flat_map_numbered f xs i x lt at))

counted_if : {X : Type 0} (p : X → Bool) (xs : List X) (i : ℕ) (x : X) (b : Bool) → i < length xs → x ≡ slice_index_or xs i x → p x ≡ b
    → count_by p (take (i + 1) xs) ≡ count_by p (take i xs) + (if b then 1 else 0)
counted_if p xs i x true lt at is = count_by_more_yes p xs i x lt (ap p (sym at) ∙ is)
counted_if p xs i x false lt at is =
    let same : count_by p (take i xs) ≡ count_by p (take i xs) + 0 = omega arith in
    count_by_more_no p xs i x lt (ap p (sym at) ∙ is) ∙ same

-- how many events the lines have with one more
pub events_more : (lines : List Line) (i : ℕ) (line : Line) (events next : ℕ) → i < length lines → line ≡ slice_index_or lines i line
    → events ≡ count_by begins (take i lines) → next ≡ events + (if begins line then 1 else 0) → next ≡ events_to lines i
events_more lines i line events next lt at so is =
    is ∙ ap (λ (n : ℕ). n + (if begins line then 1 else 0)) so ∙ sym (counted_if begins lines i line (begins line) lt at refl)

-- the state after one line more
pub state_more : (lines : List Line) (i : ℕ) (line : Line) (state next : SessionState) → i < length lines → line ≡ slice_index_or lines i line
    → state ≡ state_of (take i lines) → next ≡ state_after state line → next ≡ state_of (take (i + 1) lines)
state_more lines i line state next lt at so is =
    is ∙ ap (λ (s : SessionState). state_after s line) so ∙ ap (state_after (state_of (take i lines))) at
    ∙ sym (fold_more state_after OpenSent lines i line lt)

-- the line that is written is that of the story
pub line_is : (input : LabInput) (all : List Moment) (opening : Moment) (first : Expected) (lines : List Line) (i : ℕ) (line : Line)
    (events : ℕ) (state : SessionState) (moment : Moment) (expected : Expected) (ended : Bool) → moment ≡ moment_at all opening events
    → events ≡ events_to lines i → expected ≡ record first { state = state } → state ≡ state_of (take i lines)
    → ended ≡ ends (slice_get lines (i + 1)) → moment_line input moment (line_words expected ended line) ≡ story_line input all opening first lines (i, line)
line_is input all opening first lines i line events state moment expected ended moment_is counted expected_is so ended_is =
    let there = moment_at all opening (events_to lines i) in
    ap (λ (m : Moment). moment_line input m (line_words expected ended line)) (moment_is ∙ ap (moment_at all opening) counted)
    ∙ ap (λ (e : Expected). moment_line input there (line_words e ended line)) (expected_is ∙ ap (λ (s : SessionState). record first { state = s }) so)
    ∙ ap (λ (b : Bool). moment_line input there (line_words (expected_at first lines i) b line)) ended_is
