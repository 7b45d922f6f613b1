-- What a search by halves finds among entries whose prefixes rise, and what a change there leaves.
use Rattle.std.proofs.Common.{◌≡◌, ℕ, zero, suc, ◌+◌, ◌<◌, ◌≤◌, false, List, [], ◌∷◌, ◌++◌, length, get_or, set, take, drop, Some, None}
use Rattle.std.proofs.Common.{Result, Ok, Err, IfOk, IfErr, refl, sym, ap, ◌∙◌, subst, arith, add-one, map, length-drop}
use Rattle.std.specs.Prelude.{T}
use Rattle.std.specs.declared.cmp.Ordering.TheVariants.{Less, Greater}
use Rattle.std.specs.Ordering.{is_lt, ordering_reverse}
use Rattle.std.specs.List.{AllByRecursion}
use Rattle.std.specs.List as list
use Rattle.std.specs.List.Sorted.{IsSearchInRange, IsBinarySearchResult}
use Rattle.std.specs.FinMap.{is_sorted, find, put}
use Rattle.std.proofs.Math.Seq.{split_at}
use Rattle.std.proofs.lemmas.List.Sorted.{searchable_from_sorted}
use Rattle.std.proofs.lemmas.List.{set_split, take-append-drop, get_or-drop}
use Rattle.std.proofs.lemmas.List.Elements.{All-from_recursion}
use Rattle.std.specs.Cmp.{tied_itself}
use Rattle.bgp_types.specs.Prefixes.{PrefixValue}
use Rattle.bgp_types.specs.Tables.{prefix_cmp, first_above}
use Rattle.bgp_types.proofs.TableLaws.{prefix_total, exact_prefixes, without, put_right, put_left, find_right, find_above}
use Rattle.bgp_types.proofs.TableLaws.{without_right, without_above, rising_parts, next_right, below_not_above}
use Rattle.prefix_table.specs.Indices.{AllBelow, AllAbove, IsIndexOfPrefix, IsGapForPrefix, first_prefix}

module _ {A : Type 0} (P : A → Type 0) where
  each_taken : (xs : List A) (i : ℕ) → ((k : ℕ) (d : A) → k < i → k < length xs → P (get_or xs k d)) → AllByRecursion P (take i xs)
  each_taken xs zero h = tt
  each_taken [] (suc i) h = tt
  each_taken (x ∷ xs) (suc i) h = (h 0 x (omega arith) (omega arith), each_taken xs i (λ k d lt in_range. h (suc k) d (omega arith) (omega arith)))

  each_dropped : (xs : List A) (i : ℕ) → ((k : ℕ) (d : A) → i ≤ k → k < length xs → P (get_or xs k d)) → AllByRecursion P (drop i xs)
  each_dropped [] zero h = tt
  each_dropped [] (suc i) h = tt
  each_dropped (x ∷ xs) zero h = (h 0 x (omega arith) (omega arith), each_dropped xs zero (λ k d le in_range. h (suc k) d (omega arith) (omega arith)))
  each_dropped (x ∷ xs) (suc i) h = each_dropped xs i (λ k d le in_range. h (suc k) d (omega arith) (omega arith))

module _ {V : Type 0} where
  -- neighbours rise
  neighbours : (es : List (PrefixValue × V)) → T (is_sorted prefix_cmp es) → (k : ℕ) (d : PrefixValue × V) → k + 1 < length es
      → is_lt (prefix_cmp (get_or es (k + 1) d).0 (get_or es k d).0) ≡ false
  neighbours es rise k d h =
      let at : k < length es = omega arith in
      let e = split_at es k d at in
      let parts = rising_parts prefix_total (take k es) (get_or es k d) (drop (suc k) es)
      (subst (λ (xs : List (PrefixValue × V)). T (is_sorted prefix_cmp xs)) e rise) in
      let less : prefix_cmp (get_or es k d).0 (get_or es (k + 1) d).0 ≡ Less =
      subst (λ (x : PrefixValue × V). prefix_cmp (get_or es k d).0 x.0 ≡ Less) (get_or-drop (suc k) es 0 d ∙ ap (λ (i : ℕ). get_or es i d) (omega arith))
      (All-from_recursion (λ x. prefix_cmp (get_or es k d).0 x.0 ≡ Less) (drop (suc k) es) parts.1 0 d (omega (arith, length-drop (suc k) es))) in
      ap is_lt (prefix_total.antisymm (get_or es (k + 1) d).0 (get_or es k d).0 ∙ ap ordering_reverse less)

  -- where a prefix stands is its index
  pub placed : (es : List (PrefixValue × V)) → T (is_sorted prefix_cmp es) → (p : PrefixValue) (at : ℕ) → at < length es
      → ((d : PrefixValue × V) → (get_or es at d).0 ≡ p) → IsIndexOfPrefix es p at
  placed [] rise p at h has = absurd (omega arith)
  placed (e ∷ es) rise p at h has =
      let all = e ∷ es in
      let parts = rising_parts prefix_total (take at all) (get_or all at e) (drop (suc at) all)
      (subst (λ (xs : List (PrefixValue × V)). T (is_sorted prefix_cmp xs)) (split_at all at e h) rise) in
      record {
        in_range = h;
        has = has;
        before = subst (λ (q : PrefixValue). AllBelow q (take at all)) (has e) parts.0;
        after = subst (λ (i : ℕ). AllAbove p (drop i all)) (sym (add-one at)) (subst (λ (q : PrefixValue). AllAbove q (drop (suc at) all)) (has e) parts.1);
      }

  -- a search by halves ends where the prefix stands, or would stand
  pub searched : (es : List (PrefixValue × V)) → T (is_sorted prefix_cmp es) → (p : PrefixValue) (r : Result ℕ ℕ) → IsSearchInRange r (length es)
      → IsBinarySearchResult (λ e. prefix_cmp e.0 p) es r → record { found : IfOk r (IsIndexOfPrefix es p); absent : IfErr r (IsGapForPrefix es p) }
  searched es rise p (Ok at) in_range equal = record { found = placed es rise p at in_range (λ d. exact_prefixes _ _ (equal d)); absent = tt }
  searched es rise p (Err at) in_range parted =
      let parts = parted (searchable_from_sorted prefix_total (λ e. e.0) es p (λ k d low high. neighbours es rise k d high)) in
      record {
        found = tt;
        absent = record {
          in_range = in_range;
          before = each_taken (λ e. prefix_cmp p e.0 ≡ Greater) es at
              (λ k d lt h. prefix_total.antisymm p (get_or es k d).0 ∙ ap ordering_reverse (parts.0 k d (omega arith) lt));
          after = each_dropped (λ e. prefix_cmp p e.0 ≡ Less) es at
              (λ k d le h. prefix_total.antisymm p (get_or es k d).0 ∙ ap ordering_reverse (parts.1 k d le h));
        };
      }

  -- ---- at the prefix

  module _ (es : List (PrefixValue × V)) (p : PrefixValue) (at : ℕ) (here : IsIndexOfPrefix es p at) where
    split : (d : PrefixValue × V) → es ≡ take at es ++ (p, (get_or es at d).1) ∷ drop (at + 1) es
    split d = split_at es at d here.in_range
        ∙ ap (λ (e : PrefixValue × V). take at es ++ e ∷ drop (suc at) es) (ap (λ (q : PrefixValue). (q, (get_or es at d).1)) (here.has d))
        ∙ ap (λ (i : ℕ). take at es ++ (p, (get_or es at d).1) ∷ drop i es) (sym (add-one at))

    pub find_at : (d : PrefixValue × V) → find prefix_cmp p es ≡ Some (get_or es at d).1
    find_at d =
        ap (find prefix_cmp p) (split d)
        ∙ (find_right prefix_cmp p (take at es) ((p, (get_or es at d).1) ∷ drop (at + 1) es) here.before
        ∙ rw (tied_itself prefix_total p) refl)

    pub put_at : (d : PrefixValue × V) (v : V) → put prefix_cmp p v es ≡ set es at (p, v)
    put_at d v =
        ap (put prefix_cmp p v) (split d)
        ∙ (put_right prefix_cmp p v (take at es) ((p, (get_or es at d).1) ∷ drop (at + 1) es) here.before
        ∙ (rw (tied_itself prefix_total p) refl
        ∙ (ap (λ (i : ℕ). take at es ++ (p, v) ∷ drop i es) (add-one at)
        ∙ sym (set_split es at (p, v) here.in_range))))

    -- m is the entry there, as it was read
    pub put_over : (m : PrefixValue × V) (v : V) → m ≡ get_or es at m → put prefix_cmp p v es ≡ set es at (m.0, v)
    put_over m v e = put_at m v ∙ ap (λ (q : PrefixValue). set es at (q, v)) (sym (ap (λ (x : PrefixValue × V). x.0) e ∙ here.has m))

    pub without_at : (d : PrefixValue × V) → without prefix_cmp p es ≡ list.remove es at
    without_at d =
        ap (without prefix_cmp p) (split d)
        ∙ (without_right prefix_cmp p (take at es) ((p, (get_or es at d).1) ∷ drop (at + 1) es) here.before
        ∙ (ap (λ (xs : List (PrefixValue × V)). take at es ++ xs) (rw (tied_itself prefix_total p) (without_above prefix_cmp p (drop (at + 1) es) here.after))
        ∙ ap (λ (i : ℕ). take at es ++ drop i es) (add-one at)))

  -- ---- where it would stand

  module _ (es : List (PrefixValue × V)) (p : PrefixValue) (at : ℕ) (gap : IsGapForPrefix es p at) where
    pub find_gap : find prefix_cmp p es ≡ None
    find_gap =
        ap (find prefix_cmp p) (sym (take-append-drop at es))
        ∙ (find_right prefix_cmp p (take at es) (drop at es) gap.before
        ∙ find_above prefix_cmp p (drop at es) gap.after)

    pub put_gap : (v : V) → put prefix_cmp p v es ≡ list.insert es at (p, v)
    put_gap v =
        ap (put prefix_cmp p v) (sym (take-append-drop at es))
        ∙ (put_right prefix_cmp p v (take at es) (drop at es) gap.before
        ∙ ap (λ (xs : List (PrefixValue × V)). take at es ++ xs) (put_left prefix_cmp p v [] (drop at es) gap.after))

    pub without_gap : without prefix_cmp p es ≡ es
    without_gap =
        ap (without prefix_cmp p) (sym (take-append-drop at es))
        ∙ (without_right prefix_cmp p (take at es) (drop at es) gap.before
        ∙ (ap (λ (xs : List (PrefixValue × V)). take at es ++ xs) (without_above prefix_cmp p (drop at es) gap.after)
        ∙ take-append-drop at es))

  -- ---- the next prefix

  pub first_of_all : (es : List (PrefixValue × V)) → first_prefix es ≡ first_above None (map (λ e. e.0) es)
  first_of_all [] = refl
  first_of_all (e ∷ es) = refl

  first_of_above : (p : PrefixValue) (es : List (PrefixValue × V)) → AllAbove p es → first_above (Some p) (map (λ e. e.0) es) ≡ first_prefix es
  first_of_above p [] a = refl
  first_of_above p (e ∷ es) a = rw a.0 refl

  pub first_in_gap : (es : List (PrefixValue × V)) (p : PrefixValue) (at : ℕ) → IsGapForPrefix es p at
      → first_above (Some p) (map (λ e. e.0) es) ≡ first_prefix (drop at es)
  first_in_gap es p at gap =
      ap (λ (xs : List (PrefixValue × V)). first_above (Some p) (map (λ e. e.0) xs)) (sym (take-append-drop at es))
      ∙ (next_right p (take at es) (drop at es) (below_not_above p (take at es) gap.before)
      ∙ first_of_above p (drop at es) gap.after)

  pub first_past : (es : List (PrefixValue × V)) (p : PrefixValue) (at : ℕ) → IsIndexOfPrefix es p at
      → first_above (Some p) (map (λ e. e.0) es) ≡ first_prefix (drop (at + 1) es)
  first_past [] p at here = absurd (omega (arith, here.in_range))
  first_past (e ∷ es) p at here =
      let all = e ∷ es in
      ap (λ (xs : List (PrefixValue × V)). first_above (Some p) (map (λ x. x.0) xs)) (split all p at here e)
      ∙ (next_right p (take at all) ((p, (get_or all at e).1) ∷ drop (at + 1) all) (below_not_above p (take at all) here.before)
      ∙ (rw (tied_itself prefix_total p) (first_of_above p (drop (at + 1) all) here.after)))
