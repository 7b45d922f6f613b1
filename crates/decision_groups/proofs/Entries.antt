-- Entries in the order of their keys: one is put in or taken out, beside a filter by values.
use Rattle.std.proofs.Common.{◌≡◌, Bool, true, false, cond, List, [], ◌∷◌, Option, Some, None, refl, sym, ap, ◌∙◌}
use Rattle.std.specs.List.{filter, AllByRecursion}
use Rattle.std.specs.List.Sorted.{IsStrictlySortedBy}
use Rattle.std.specs.Map.{lookup, keys_of, remove_entry}
use Rattle.std.specs.BTreeMap.{is_at, insert_entry}
use Rattle.std.specs.Cmp.{IsTotalOrder, Equal-is}
use Rattle.std.specs.Ordering.{is_eq, ordering_reverse, match_ordering}
use Rattle.std.specs.declared.cmp.Ordering.{Ordering}
use Rattle.std.specs.declared.cmp.Ordering.TheVariants.{Less, Equal, Greater}
use Rattle.std.proofs.lemmas.Map.Keys.{sorted_head, sorted_tail}
use Rattle.std.proofs.lemmas.Map.Lookups.{CmpEqualImpliesEq}
use Rattle.std.proofs.lemmas.Cmp.{tied_itself, alike_right}
use Rattle.decision_groups.specs.Indices.{IsBelowAll}

below_further : {K : Type 0} {R : K → K → Ordering} → IsTotalOrder R → (j k : K) → R j k ≡ Less → (ks : List K)
    → AllByRecursion (λ q. R k q ≡ Less) ks → AllByRecursion (λ q. R j q ≡ Less) ks
below_further o j k less [] h = tt
below_further o j k less (q ∷ ks) h = (o.trans j k q less h.0, below_further o j k less ks h.1)

below_equal : {K : Type 0} {R : K → K → Ordering} → IsTotalOrder R → (j k : K) → R j k ≡ Equal → (ks : List K)
    → AllByRecursion (λ q. R k q ≡ Less) ks → AllByRecursion (λ q. R j q ≡ Less) ks
below_equal o j k same [] h = tt
below_equal o j k same (q ∷ ks) h = (o.congr j k q same ∙ h.0, below_equal o j k same ks h.1)

below_of_cond : {K X : Type 0} (R : K → K → Ordering) (k : K) (b : Bool) (e : K × X) (es : List (K × X)) → R k e.0 ≡ Less → IsBelowAll R k es
    → IsBelowAll R k (cond b (e ∷ es) es)
below_of_cond R k true e es less h = (less, h)
below_of_cond R k false e es less h = h

below_filter : {K X : Type 0} (R : K → K → Ordering) (k : K) (p : K × X → Bool) (es : List (K × X)) → IsBelowAll R k es → IsBelowAll R k (filter p es)
below_filter R k p [] h = tt
below_filter R k p (e ∷ es) h = below_of_cond R k (p e) e (filter p es) h.0 (below_filter R k p es h.1)

pub insert_below : {K X : Type 0} (R : K → K → Ordering) (k : K) (v : X) (es : List (K × X)) → IsBelowAll R k es → insert_entry R es k v ≡ (k, v) ∷ es
insert_below R k v [] h = refl
insert_below R k v (e ∷ es) h = rw h.0 refl

pub lookup_below : {K X : Type 0} (R : K → K → Ordering) (k : K) (es : List (K × X)) → IsBelowAll R k es → lookup (is_at (R k)) es ≡ None
lookup_below R k [] h = refl
lookup_below R k (e ∷ es) h = rw h.0 (lookup_below R k es h.1)

-- ---- what isn't there can be taken out

absent_step : {K X : Type 0} (b : Bool) (e : K × X) (es ys : List (K × X)) (r : Option X) → cond b (Some e.1) r ≡ None → (r ≡ None → ys ≡ es)
    → cond b es (e ∷ ys) ≡ e ∷ es
absent_step true e es ys r h same = cc
absent_step false e es ys r h same = ap (λ zs. e ∷ zs) (same h)

pub remove_absent : {K X : Type 0} (test : K → Bool) (es : List (K × X)) → lookup test es ≡ None → remove_entry test es ≡ es
remove_absent test [] h = refl
remove_absent test (e ∷ es) h = absent_step (test e.0) e es (remove_entry test es) (lookup test es) h (remove_absent test es)

-- ---- what is put in and taken out again

undone_step : {K X : Type 0} {R : K → K → Ordering} → IsTotalOrder R → (k : K) (v : X) (e : K × X) (es : List (K × X)) (a : Ordering) → R k e.0 ≡ a
    → cond (is_eq a) (Some e.1) (lookup (is_at (R k)) es) ≡ None
    → (lookup (is_at (R k)) es ≡ None → remove_entry (is_at (R k)) (insert_entry R es k v) ≡ es)
    → remove_entry (is_at (R k)) (match_ordering a ((k, v) ∷ (e ∷ es)) ((e.0, v) ∷ es) (e ∷ insert_entry R es k v)) ≡ e ∷ es
undone_step o k v e es Less is h same = rw (tied_itself o k) refl
undone_step o k v e es Equal is h same = cc
undone_step o k v e es Greater is h same = rw is (ap (λ zs. e ∷ zs) (same h))

pub remove_undoes : {K X : Type 0} {R : K → K → Ordering} → IsTotalOrder R → (k : K) (v : X) (es : List (K × X)) → lookup (is_at (R k)) es ≡ None
    → remove_entry (is_at (R k)) (insert_entry R es k v) ≡ es
remove_undoes o k v [] h = rw (tied_itself o k) refl
remove_undoes {R = R} o k v (e ∷ es) h = undone_step o k v e es (R k e.0) refl h (remove_undoes o k v es)

-- ---- a filter that keeps what is put in

kept_equal : {K X : Type 0} (R : K → K → Ordering) → CmpEqualImpliesEq R → (k : K) (v : X) (e : K × X) (ys : List (K × X)) (b : Bool)
    → R k e.0 ≡ Equal → IsBelowAll R k ys → (e.0, v) ∷ ys ≡ insert_entry R (cond b (e ∷ ys) ys) k v
kept_equal R exact k v e ys true is below = rw is refl
kept_equal R exact k v e ys false is below = ap (λ q. (q, v) ∷ ys) (sym (exact k e.0 is)) ∙ sym (insert_below R k v ys below)

kept_greater : {K X : Type 0} (R : K → K → Ordering) (k : K) (v : X) (e : K × X) (ys zs : List (K × X)) (b : Bool) → R k e.0 ≡ Greater
    → zs ≡ insert_entry R ys k v → cond b (e ∷ zs) zs ≡ insert_entry R (cond b (e ∷ ys) ys) k v
kept_greater R k v e ys zs true is h = rw is (ap (λ ws. e ∷ ws) h)
kept_greater R k v e ys zs false is h = h

kept_step : {K X : Type 0} {R : K → K → Ordering} → IsTotalOrder R → CmpEqualImpliesEq R → (p : X → Bool) (k : K) (v : X) → p v ≡ true
    → (e : K × X) (es : List (K × X)) → AllByRecursion (λ q. R e.0 q ≡ Less) (keys_of es) → (a : Ordering) → R k e.0 ≡ a
    → filter (λ c. p c.1) (insert_entry R es k v) ≡ insert_entry R (filter (λ c. p c.1) es) k v
    → filter (λ c. p c.1) (match_ordering a ((k, v) ∷ (e ∷ es)) ((e.0, v) ∷ es) (e ∷ insert_entry R es k v))
    ≡ insert_entry R (cond (p e.1) (e ∷ filter (λ c. p c.1) es) (filter (λ c. p c.1) es)) k v
kept_step {R = R} o exact p k v passes e es above Less is rest =
    rw passes
    (sym (insert_below R k v (filter (λ c. p c.1) (e ∷ es)) (below_filter R k (λ c. p c.1) (e ∷ es) (is, below_further o k e.0 is (keys_of es) above))))
kept_step {R = R} o exact p k v passes e es above Equal is rest =
    rw passes (kept_equal R exact k v e (filter (λ c. p c.1) es) (p e.1) is (below_filter R k (λ c. p c.1) es (below_equal o k e.0 is (keys_of es) above)))
kept_step {R = R} o exact p k v passes e es above Greater is rest =
    kept_greater R k v e (filter (λ c. p c.1) es) (filter (λ c. p c.1) (insert_entry R es k v)) (p e.1) is rest

pub filter-insert_kept : {K X : Type 0} {R : K → K → Ordering} → IsTotalOrder R → CmpEqualImpliesEq R → (p : X → Bool) (k : K) (v : X) → p v ≡ true
    → (es : List (K × X)) → IsStrictlySortedBy R (keys_of es)
    → filter (λ c. p c.1) (insert_entry R es k v) ≡ insert_entry R (filter (λ c. p c.1) es) k v
filter-insert_kept o exact p k v passes [] s = rw passes refl
filter-insert_kept {R = R} o exact p k v passes (e ∷ es) s =
    kept_step o exact p k v passes e es (sorted_head R e.0 (keys_of es) s) (R k e.0) refl
    (filter-insert_kept o exact p k v passes es (sorted_tail R e.0 (keys_of es) s))

-- ---- a filter that doesn't keep what is put in

lost_equal : {K X : Type 0} (R : K → K → Ordering) (k : K) (e : K × X) (ys : List (K × X)) (b : Bool) → R k e.0 ≡ Equal → IsBelowAll R k ys
    → ys ≡ remove_entry (is_at (R k)) (cond b (e ∷ ys) ys)
lost_equal R k e ys true is below = rw is refl
lost_equal R k e ys false is below = sym (remove_absent (is_at (R k)) ys (lookup_below R k ys below))

lost_other : {K X : Type 0} (test : K → Bool) (e : K × X) (ys zs : List (K × X)) (b : Bool) → test e.0 ≡ false → zs ≡ remove_entry test ys
    → cond b (e ∷ zs) zs ≡ remove_entry test (cond b (e ∷ ys) ys)
lost_other test e ys zs true is h = rw is (ap (λ ws. e ∷ ws) h)
lost_other test e ys zs false is h = h

lost_step : {K X : Type 0} {R : K → K → Ordering} → IsTotalOrder R → (p : X → Bool) (k : K) (v : X) → p v ≡ false → (e : K × X) (es : List (K × X))
    → AllByRecursion (λ q. R e.0 q ≡ Less) (keys_of es) → (a : Ordering) → R k e.0 ≡ a
    → filter (λ c. p c.1) (insert_entry R es k v) ≡ remove_entry (is_at (R k)) (filter (λ c. p c.1) es)
    → filter (λ c. p c.1) (match_ordering a ((k, v) ∷ (e ∷ es)) ((e.0, v) ∷ es) (e ∷ insert_entry R es k v))
    ≡ remove_entry (is_at (R k)) (cond (p e.1) (e ∷ filter (λ c. p c.1) es) (filter (λ c. p c.1) es))
lost_step {R = R} o p k v fails e es above Less is rest =
    rw fails (sym (remove_absent (is_at (R k)) (filter (λ c. p c.1) (e ∷ es))
    (lookup_below R k (filter (λ c. p c.1) (e ∷ es)) (below_filter R k (λ c. p c.1) (e ∷ es) (is, below_further o k e.0 is (keys_of es) above)))))
lost_step {R = R} o p k v fails e es above Equal is rest =
    rw fails (lost_equal R k e (filter (λ c. p c.1) es) (p e.1) is (below_filter R k (λ c. p c.1) es (below_equal o k e.0 is (keys_of es) above)))
lost_step {R = R} o p k v fails e es above Greater is rest =
    lost_other (is_at (R k)) e (filter (λ c. p c.1) es) (filter (λ c. p c.1) (insert_entry R es k v)) (p e.1) (ap is_eq is) rest

pub filter-insert_lost : {K X : Type 0} {R : K → K → Ordering} → IsTotalOrder R → (p : X → Bool) (k : K) (v : X) → p v ≡ false → (es : List (K × X))
    → IsStrictlySortedBy R (keys_of es) → filter (λ c. p c.1) (insert_entry R es k v) ≡ remove_entry (is_at (R k)) (filter (λ c. p c.1) es)
filter-insert_lost o p k v fails [] s = rw fails refl
filter-insert_lost {R = R} o p k v fails (e ∷ es) s =
    lost_step o p k v fails e es (sorted_head R e.0 (keys_of es) s) (R k e.0) refl (filter-insert_lost o p k v fails es (sorted_tail R e.0 (keys_of es) s))

-- ---- a filter of what is left where an entry is taken out

removed_step : {K X : Type 0} {R : K → K → Ordering} → IsTotalOrder R → (p : X → Bool) (k : K) (e : K × X) (es : List (K × X))
    → AllByRecursion (λ q. R e.0 q ≡ Less) (keys_of es) → (a : Ordering) → R k e.0 ≡ a
    → filter (λ c. p c.1) (remove_entry (is_at (R k)) es) ≡ remove_entry (is_at (R k)) (filter (λ c. p c.1) es)
    → filter (λ c. p c.1) (cond (is_eq a) es (e ∷ remove_entry (is_at (R k)) es))
    ≡ remove_entry (is_at (R k)) (cond (p e.1) (e ∷ filter (λ c. p c.1) es) (filter (λ c. p c.1) es))
removed_step {R = R} o p k e es above Less is rest =
    lost_other (is_at (R k)) e (filter (λ c. p c.1) es) (filter (λ c. p c.1) (remove_entry (is_at (R k)) es)) (p e.1) (ap is_eq is) rest
removed_step {R = R} o p k e es above Equal is rest =
    lost_equal R k e (filter (λ c. p c.1) es) (p e.1) is (below_filter R k (λ c. p c.1) es (below_equal o k e.0 is (keys_of es) above))
removed_step {R = R} o p k e es above Greater is rest =
    lost_other (is_at (R k)) e (filter (λ c. p c.1) es) (filter (λ c. p c.1) (remove_entry (is_at (R k)) es)) (p e.1) (ap is_eq is) rest

pub filter-remove : {K X : Type 0} {R : K → K → Ordering} → IsTotalOrder R → (p : X → Bool) (k : K) (es : List (K × X))
    → IsStrictlySortedBy R (keys_of es) → filter (λ c. p c.1) (remove_entry (is_at (R k)) es) ≡ remove_entry (is_at (R k)) (filter (λ c. p c.1) es)
filter-remove o p k [] s = refl
filter-remove {R = R} o p k (e ∷ es) s =
    removed_step o p k e es (sorted_head R e.0 (keys_of es) s) (R k e.0) refl (filter-remove o p k es (sorted_tail R e.0 (keys_of es) s))

-- ---- the order of what is put in or taken out

below_placed : {K X : Type 0} (R : K → K → Ordering) (j k : K) (v : X) (e : K × X) (es fs : List (K × X)) (a : Ordering) → R j k ≡ Less
    → IsBelowAll R j (e ∷ es) → IsBelowAll R j fs → IsBelowAll R j (match_ordering a ((k, v) ∷ (e ∷ es)) ((e.0, v) ∷ es) (e ∷ fs))
below_placed R j k v e es fs Less less h rest = (less, h)
below_placed R j k v e es fs Equal less h rest = h
below_placed R j k v e es fs Greater less h rest = (h.0, rest)

below_insert : {K X : Type 0} (R : K → K → Ordering) (j k : K) (v : X) (es : List (K × X)) → R j k ≡ Less → IsBelowAll R j es
    → IsBelowAll R j (insert_entry R es k v)
below_insert R j k v [] less h = (less, tt)
below_insert R j k v (e ∷ es) less h = below_placed R j k v e es (insert_entry R es k v) (R k e.0) less h (below_insert R j k v es less h.1)

sorted_placed : {K X : Type 0} {R : K → K → Ordering} → IsTotalOrder R → (k : K) (v : X) (e : K × X) (es : List (K × X)) (a : Ordering) → R k e.0 ≡ a
    → IsStrictlySortedBy R (keys_of (e ∷ es)) → IsStrictlySortedBy R (keys_of (insert_entry R es k v))
    → IsStrictlySortedBy R (keys_of (match_ordering a ((k, v) ∷ (e ∷ es)) ((e.0, v) ∷ es) (e ∷ insert_entry R es k v)))
unfolding IsStrictlySortedBy
sorted_placed o k v e es Less is s rest = ((is, below_further o k e.0 is (keys_of es) s.0), s)
sorted_placed o k v e es Equal is s rest = s
sorted_placed {R = R} o k v e es Greater is s rest = (below_insert R e.0 k v es (o.antisymm e.0 k ∙ ap ordering_reverse is) s.0, rest)

pub sorted-insert : {K X : Type 0} {R : K → K → Ordering} → IsTotalOrder R → (k : K) (v : X) (es : List (K × X)) → IsStrictlySortedBy R (keys_of es)
    → IsStrictlySortedBy R (keys_of (insert_entry R es k v))
unfolding IsStrictlySortedBy
sorted-insert o k v [] s = (tt, tt)
sorted-insert {R = R} o k v (e ∷ es) s = sorted_placed o k v e es (R k e.0) refl s (sorted-insert o k v es s.1)

below_taken : {K X : Type 0} (R : K → K → Ordering) (j : K) (b : Bool) (e : K × X) (es fs : List (K × X)) → IsBelowAll R j (e ∷ es)
    → IsBelowAll R j fs → IsBelowAll R j (cond b es (e ∷ fs))
below_taken R j true e es fs h rest = h.1
below_taken R j false e es fs h rest = (h.0, rest)

below_remove : {K X : Type 0} (R : K → K → Ordering) (j : K) (test : K → Bool) (es : List (K × X)) → IsBelowAll R j es → IsBelowAll R j (remove_entry test es)
below_remove R j test [] h = tt
below_remove R j test (e ∷ es) h = below_taken R j (test e.0) e es (remove_entry test es) h (below_remove R j test es h.1)

sorted_taken : {K X : Type 0} (R : K → K → Ordering) (b : Bool) (e : K × X) (es fs : List (K × X)) → IsStrictlySortedBy R (keys_of (e ∷ es))
    → IsBelowAll R e.0 fs → IsStrictlySortedBy R (keys_of fs) → IsStrictlySortedBy R (keys_of (cond b es (e ∷ fs)))
unfolding IsStrictlySortedBy
sorted_taken R true e es fs s below rest = s.1
sorted_taken R false e es fs s below rest = (below, rest)

pub sorted-remove : {K X : Type 0} (R : K → K → Ordering) (test : K → Bool) (es : List (K × X)) → IsStrictlySortedBy R (keys_of es)
    → IsStrictlySortedBy R (keys_of (remove_entry test es))
unfolding IsStrictlySortedBy
sorted-remove R test [] s = tt
sorted-remove R test (e ∷ es) s = sorted_taken R (test e.0) e es (remove_entry test es) s (below_remove R e.0 test es s.0) (sorted-remove R test es s.1)

-- ---- what is found once an entry is put in

found_equal : {X : Type 0} (a : Bool) (v w : X) (o : Option X) → cond a (Some v) o ≡ cond a (Some v) (cond a (Some w) o)
found_equal true v w o = refl
found_equal false v w o = refl

found_greater : {X : Type 0} (a b : Bool) (v w : X) (o : Option X) → (a ≡ true → b ≡ true → ⊥)
    → cond b (Some w) (cond a (Some v) o) ≡ cond a (Some v) (cond b (Some w) o)
found_greater true true v w o apart = absurd (apart refl refl)
found_greater true false v w o apart = refl
found_greater false b v w o apart = refl

found_placed : {K X : Type 0} {R : K → K → Ordering} → IsTotalOrder R → (q k : K) (v : X) (e : K × X) (es fs : List (K × X)) (a : Ordering)
    → R k e.0 ≡ a → lookup (is_at (R q)) fs ≡ cond (is_at (R q) k) (Some v) (lookup (is_at (R q)) es)
    → lookup (is_at (R q)) (match_ordering a ((k, v) ∷ (e ∷ es)) ((e.0, v) ∷ es) (e ∷ fs)) ≡ cond (is_at (R q) k) (Some v) (lookup (is_at (R q)) (e ∷ es))
found_placed o q k v e es fs Less is rest = refl
found_placed {R = R} o q k v e es fs Equal is rest =
    rw (alike_right o k e.0 q is) (found_equal (is_at (R q) e.0) v e.1 (lookup (is_at (R q)) es))
found_placed {R = R} o q k v e es fs Greater is rest =
    rw rest (found_greater (is_at (R q) k) (is_at (R q) e.0) v e.1 (lookup (is_at (R q)) es)
    (λ here there. let equal : R k e.0 ≡ Equal = sym (o.congr q k e.0 ((Equal-is (R q k)).0 here)) ∙ (Equal-is (R q e.0)).0 there in cc))

pub lookup-insert_entry : {K X : Type 0} {R : K → K → Ordering} → IsTotalOrder R → (q k : K) (v : X) (es : List (K × X))
    → lookup (is_at (R q)) (insert_entry R es k v) ≡ cond (is_at (R q) k) (Some v) (lookup (is_at (R q)) es)
lookup-insert_entry o q k v [] = refl
lookup-insert_entry {R = R} o q k v (e ∷ es) = found_placed o q k v e es (insert_entry R es k v) (R k e.0) refl (lookup-insert_entry o q k v es)
