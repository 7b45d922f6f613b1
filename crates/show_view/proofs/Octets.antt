-- The lines of a story in a loop, one further.
use Rattle.std.proofs.Common.{◌≡◌, ℕ, ◌+◌, ◌<◌, Bool, List, length, take, refl, sym, ap, ◌∙◌, slice_index_or}
use Rattle.std.specs.Prelude.{◌≢◌, cond, count_by, fold, sum_by}
use Rattle.std.specs.FinMap as map
use Rattle.std.proofs.lemmas.List.Concat.{length-flat_map}
use Rattle.std.proofs.lemmas.List.Sums.{fold_more, sum_by_more}
use Rattle.bgp_types.specs.declared.message.SessionState.{SessionState}
use Rattle.bgp_types.specs.declared.message.SessionState.TheVariants.{OpenSent, OpenConfirm, Established, Closed}
use Rattle.bgp_story.specs.declared.line.Line.{Line}
use Rattle.bgp_story.specs.Readings.{Routes, got_in, tell, told, unless_closed}
use Rattle.bgp_story.specs.States.{state_of, after}
use Rattle.show_view.specs.Sessions.{put_size, received_octets, sent_octets}

pub count_more : (p : Line → Bool) (lines : List Line) (i : ℕ) (line : Line) (n one : ℕ) → i < length lines → line ≡ slice_index_or lines i line
    → n ≡ count_by p (take i lines) → one ≡ cond (p line) 1 0 → n + one ≡ count_by p (take (i + 1) lines)
count_more p lines i line n one lt at so_far is =
    ap (λ k. k + one) so_far ∙ ap (λ k. count_by p (take i lines) + k) (is ∙ ap (λ l. cond (p l) 1 0) at)
    ∙ sym (sum_by_more (λ l. cond (p l) 1 0) lines i line lt)

pub sent_more : (wide : Bool) (lines : List Line) (i : ℕ) (line : Line) (octets size : ℕ) → i < length lines → line ≡ slice_index_or lines i line
    → octets ≡ sent_octets wide (take i lines) → size ≡ put_size wide line → octets + size ≡ sent_octets wide (take (i + 1) lines)
sent_more wide lines i line octets size lt at so_far is =
    ap (λ n. n + size) so_far ∙ ap (λ n. sent_octets wide (take i lines) + n) (is ∙ ap (put_size wide) at)
    ∙ sym (sum_by_more (put_size wide) lines i line lt)

pub received_more : (lines : List Line) (i : ℕ) (line : Line) (octets size : ℕ) → i < length lines → line ≡ slice_index_or lines i line
    → octets ≡ received_octets (take i lines) → size ≡ length (got_in line) → octets + size ≡ received_octets (take (i + 1) lines)
received_more lines i line octets size lt at so_far is =
    ap (λ n. n + size) (so_far ∙ length-flat_map got_in (take i lines))
    ∙ ap (λ n. sum_by (λ x. length (got_in x)) (take i lines) + n) (is ∙ ap (λ l. length (got_in l)) at)
    ∙ sym (length-flat_map got_in (take (i + 1) lines) ∙ sum_by_more (λ x. length (got_in x)) lines i line lt)

pub state_more : (lines : List Line) (i : ℕ) (line : Line) (before next : SessionState) → i < length lines → line ≡ slice_index_or lines i line
    → before ≡ state_of (take i lines) → next ≡ after before line → next ≡ state_of (take (i + 1) lines)
state_more lines i line before next lt at so_far step =
    step ∙ ap (λ s. after s line) so_far ∙ ap (after (state_of (take i lines))) at ∙ sym (fold_more after OpenSent lines i line lt)

pub told_more : (lines : List Line) (i : ℕ) (line : Line) (before next : Routes) → i < length lines → line ≡ slice_index_or lines i line
    → before ≡ fold tell map.empty (take i lines) → next ≡ tell before line → next ≡ fold tell map.empty (take (i + 1) lines)
told_more lines i line before next lt at so_far step =
    step ∙ ap (λ r. tell r line) so_far ∙ ap (tell (fold tell map.empty (take i lines))) at ∙ sym (fold_more tell map.empty lines i line lt)

-- a closed session has told nothing
pub told_closed : (lines : List Line) → state_of lines ≡ Closed → told lines ≡ map.empty
told_closed lines closed = ap (λ s. unless_closed s (fold tell map.empty lines)) closed

pub told_open : (lines : List Line) → state_of lines ≢ Closed → told lines ≡ fold tell map.empty lines
told_open lines unclosed = by_state (state_of lines) unclosed (fold tell map.empty lines) where
  by_state : (s : SessionState) → s ≢ Closed → (routes : Routes) → unless_closed s routes ≡ routes
  by_state OpenSent isnt routes = refl
  by_state OpenConfirm isnt routes = refl
  by_state Established isnt routes = refl
  by_state Closed isnt routes = absurd (isnt refl)
