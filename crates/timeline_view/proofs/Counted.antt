-- Counts, one more at a time.
use Rattle.std.proofs.Common.{ℕ, ◌≡◌, ◌+◌, ◌<◌, inl, inr, Bool, true, false, cond, ◌==◌, List, [], ◌∷◌, ◌++◌, length, count_by, take, Option}
use Rattle.std.proofs.Common.{refl, sym, ap, ◌∙◌, subst, slice_index, slice_index_or, set, length-append, append-nil, get_or-set_same, get_or-set_other, arith}
use Rattle.std.proofs.lemmas.Bool.{ne_eqb, and_left, cases_eq}
use Rattle.std.proofs.lemmas.List.{take_more, length-set}
use Rattle.std.proofs.lemmas.List.Elements.{filter_map-append}
use Rattle.std.proofs.lemmas.List.Sums.{sum_by-append, sum_by-cons}
use Rattle.std.specs.List.{cons_option, filter_map}
use Rattle.bgp_types.specs.declared.message.Update.{Update}
use Rattle.ring_net.specs.declared.entry.JournalEntry.{JournalEntry}
use Rattle.lab_report.specs.declared.lab.Lab.{Lab}
use Rattle.story_view.specs.Story.{adds_to}
use Rattle.timeline_view.specs.declared.grafts.UpdateCounts.{UpdateCounts}
use Rattle.timeline_view.specs.Walks.{AreCounts, CountsUpdates}

-- ---- entries that add to stories

abbrev pub one_if : Bool → ℕ
one_if b = cond b 1 0

counted_behind : {X : Type 0} (p : X → Bool) (xs : List X) (x : X) → count_by p (xs ++ x ∷ []) ≡ count_by p xs + one_if (p x)
counted_behind {X} p xs x =
    let alone : one_if (p x) + 0 ≡ one_if (p x) = omega arith in
    sum_by-append (λ (y : X). cond (p y) 1 0) xs (x ∷ []) ∙ ap (λ n. count_by p xs + n) (sum_by-cons (λ (y : X). cond (p y) 1 0) x [] ∙ alone)

module _ (lab : Lab) (before : List JournalEntry) (e : JournalEntry) where
  -- counts to which an entry is added where it belongs
  counted_more : (old new : List ℕ) → AreCounts lab before old → length new ≡ length old
      → ((p : ℕ) → p < length old → slice_index new p ≡ slice_index old p + one_if (adds_to p e)) → AreCounts lab (before ++ e ∷ []) new
  counted_more old new counts same each = record {
    size = same ∙ counts.size;
    each = λ p lt.
        let below : p < length old = omega (arith, lt, same) in
        each p below ∙ ap (λ n. n + one_if (adds_to p e)) (counts.each p below) ∙ sym (counted_behind (adds_to p) before e);
  }

  none_of_others : (p : ℕ) → (p ≡ e.a → ⊥) → adds_to p e ≡ false
  none_of_others p other = and_left (e.a == p) _ (ne_eqb e.a p (λ same. other (sym same)))

  -- the entry adds to its session's story
  pub counted : (old : List ℕ) (count : ℕ) → AreCounts lab before old → e.a < length old → adds_to e.a e ≡ true → count ≡ slice_index old e.a + 1
      → AreCounts lab (before ++ e ∷ []) (set old e.a count)
  counted old count counts there adds one = counted_more old (set old e.a count) counts (length-set old e.a count) each where
    here : (p : ℕ) → p ≡ e.a → slice_index (set old e.a count) p ≡ slice_index old p + one_if (adds_to p e)
    here p same =
        ap (λ q. slice_index (set old e.a count) q) same ∙ get_or-set_same old e.a count 0 there ∙ one
        ∙ ap (λ b. slice_index old e.a + one_if b) (sym adds) ∙ ap (λ q. slice_index old q + one_if (adds_to q e)) (sym same)

    elsewhere : (p : ℕ) → (p ≡ e.a → ⊥) → slice_index (set old e.a count) p ≡ slice_index old p + one_if (adds_to p e)
    elsewhere p other =
        let none : 0 ≡ one_if (adds_to p e) = ap one_if (sym (none_of_others p other)) in
        get_or-set_other old e.a p count 0 other ∙ (let same : slice_index old p ≡ slice_index old p + 0 = omega arith in same)
        ∙ ap (λ n. slice_index old p + n) none

    each : (p : ℕ) → p < length old → slice_index (set old e.a count) p ≡ slice_index old p + one_if (adds_to p e)
    each p lt = elim (cases_eq p e.a) [ inl same ↦ here p same | inr other ↦ elsewhere p other ]

  -- it adds to none that is counted
  pub not_counted : (old : List ℕ) → AreCounts lab before old → (e.a < length old → adds_to e.a e ≡ false) → AreCounts lab (before ++ e ∷ []) old
  not_counted old counts none = counted_more old old counts refl each where
    adds : (p : ℕ) → p < length old → adds_to p e ≡ false
    adds p lt = elim (cases_eq p e.a) [
      | inl same ↦ ap (λ q. adds_to q e) same ∙ none (subst (λ (q : ℕ). q < length old) same lt)
      | inr other ↦ none_of_others p other
    ]

    each : (p : ℕ) → p < length old → slice_index old p ≡ slice_index old p + one_if (adds_to p e)
    each p lt =
        let same : slice_index old p ≡ slice_index old p + 0 = omega arith in
        same ∙ ap (λ b. slice_index old p + one_if b) (sym (adds p lt))

-- ---- UPDATEs

pub with_one : (these : List Update) (u : Update) (counts : UpdateCounts) → CountsUpdates these counts
    → CountsUpdates (these ++ u ∷ [])
    (record { updates = counts.updates + 1; announced = counts.announced + length u.nlri; withdrawn = counts.withdrawn + length u.withdrawn })
with_one these u counts c = record {
  updates = ap (λ n. n + 1) c.updates ∙ sym (length-append these (u ∷ []));
  announced =
      let more = sum_by-append (λ (v : Update). length v.nlri) these (u ∷ []) in
      omega (arith, c.announced, more);
  withdrawn =
      let more = sum_by-append (λ (v : Update). length v.withdrawn) these (u ∷ []) in
      omega (arith, c.withdrawn, more);
}

-- what one element more gives stands behind what those before it gave
pub filter_map_more : {X Y : Type 0} (f : X → Option Y) (xs : List X) (i : ℕ) (x : X) → i < length xs → x ≡ slice_index_or xs i x
    → filter_map f (take i xs) ++ cons_option (f x) [] ≡ filter_map f (take (i + 1) xs)
filter_map_more {X} {Y} f xs i x lt at =
    sym (filter_map-append f (take i xs) (x ∷ [])) ∙ ap (λ (y : X). filter_map f (take i xs ++ y ∷ [])) at ∙ ap (filter_map f) (sym (take_more xs i x lt))

pub with_none : (these : List Update) (counts : UpdateCounts) → CountsUpdates these counts → CountsUpdates (these ++ []) counts
with_none these counts c = subst (λ (us : List Update). CountsUpdates us counts) (sym (append-nil these)) c

-- counts that were carried on over one element more
pub counts_further : {X : Type 0} (f : X → Option Update) (xs : List X) (i : ℕ) (x : X) (u : Option Update) (next : UpdateCounts) → i < length xs
    → x ≡ slice_index_or xs i x → u ≡ f x → CountsUpdates (filter_map f (take i xs) ++ cons_option u []) next
    → CountsUpdates (filter_map f (take (i + 1) xs)) next
counts_further {X} f xs i x u next lt at is c =
    subst (λ (us : List Update). CountsUpdates us next)
    (ap (λ (o : Option Update). filter_map f (take i xs) ++ cons_option o []) is ∙ filter_map_more f xs i x lt at) c
