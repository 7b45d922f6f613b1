-- Lists in rising order of type, and what is looked up in them.
use Rattle.std.proofs.Common.{◌≡◌, ℕ, ◌<◌, ◌≤◌, List, [], ◌∷◌, ◌++◌, Bool, true, false, cond, eqb, ltb, Option, Some, None, refl, sym, ap, ◌∙◌, arith}
use Rattle.std.specs.Prelude.{◌≢◌}
use Rattle.std.specs.List.{AllByRecursion}
use Rattle.std.proofs.lemmas.Bool.{ltb-true, ltb-false}
use Rattle.std.proofs.lemmas.Option.{same_Some}
use Rattle.std.proofs.lemmas.Bool.Decides.{nat_tests}
use Rattle.bgp_types.specs.WireAttrs.{WireAttr}
use Rattle.bgp_types.specs.declared.attrs.RawAttr.{RawAttr}
use Rattle.bgp_types.specs.declared.message.Notice.{Notice}
use Rattle.bgp_types.specs.Values.{other_kind, is_other}
use Rattle.bgp_types.specs.WireAttrs.{wire_kind}
use Rattle.bgp_types.specs.Rising.{insert_by, in_rising, IsRising}
use Rattle.bgp_types.specs.Faults.{is_transitive, is_partial, attr_of, own_fault, fault_after, earlier_notice, attrs_fault, kept_raw}
use Rattle.bgp_types.specs.Reads.{Differ}
use Rattle.bgp_types.specs.Found.{join, kept}

pub insert_swap : {A : Type 0} (key : A → ℕ) (x y : A) (zs : List A) → key x ≢ key y
    → insert_by key x (insert_by key y zs) ≡ insert_by key y (insert_by key x zs)
insert_swap key x y [] h = grind (arith, nat_tests)
insert_swap key x y (z ∷ zs) h = let e = insert_swap key x y zs h in grind (arith, nat_tests)

pub kept_kind : (a : WireAttr) (r : RawAttr) → kept_raw a ≡ Some r → other_kind r ≡ a.kind
kept_kind a r e = by_test (is_transitive a) e where
  by_test : (t : Bool) → cond t (Some (record { kind = a.kind; partial = is_partial a; bytes = a.value })) None ≡ Some r → other_kind r ≡ a.kind
  by_test true f = sym (ap other_kind (same_Some _ r f))
  by_test false f = absurd cc

all_weaker : {A : Type 0} (P Q : A → Type 0) (xs : List A) → ((x : A) → P x → Q x) → AllByRecursion P xs → AllByRecursion Q xs
all_weaker P Q [] h all = tt
all_weaker P Q (x ∷ xs) h all = (h x all.0, all_weaker P Q xs h all.1)

pub all_both : {A : Type 0} (P Q R : A → Type 0) (xs : List A) → ((x : A) → P x → Q x → R x) → AllByRecursion P xs → AllByRecursion Q xs → AllByRecursion R xs
all_both P Q R [] h all more = tt
all_both P Q R (x ∷ xs) h all more = (h x all.0 more.0, all_both P Q R xs h all.1 more.1)

all_either : {A : Type 0} (P : A → Type 0) (t : Bool) (xs ys : List A) → AllByRecursion P xs → AllByRecursion P ys → AllByRecursion P (cond t xs ys)
all_either P true xs ys all more = all
all_either P false xs ys all more = more

all_insert : {A : Type 0} (P : A → Type 0) (key : A → ℕ) (x : A) (xs : List A) → P x → AllByRecursion P xs → AllByRecursion P (insert_by key x xs)
all_insert P key x [] p all = (p, tt)
all_insert P key x (y ∷ ys) p all = all_either P (ltb (key y) (key x)) (y ∷ insert_by key x ys) (x ∷ y ∷ ys) (all.0, all_insert P key x ys p all.1) (p, all)

pub all_rising : {A : Type 0} (P : A → Type 0) (key : A → ℕ) (xs : List A) → AllByRecursion P xs → AllByRecursion P (in_rising key xs)
all_rising P key [] all = tt
all_rising P key (x ∷ xs) all = all_insert P key x (in_rising key xs) all.0 (all_rising P key xs all.1)

rising_either : {A : Type 0} (key : A → ℕ) (t : Bool) (xs ys : List A) → (t ≡ true → IsRising key xs) → (t ≡ false → IsRising key ys)
    → IsRising key (cond t xs ys)
rising_either key true xs ys r q = r refl
rising_either key false xs ys r q = q refl

rising_insert : {A : Type 0} (key : A → ℕ) (x : A) (ys : List A) → AllByRecursion (λ y. key y ≢ key x) ys → IsRising key ys → IsRising key (insert_by key x ys)
rising_insert key x [] d r = (tt, tt)
rising_insert key x (y ∷ ys) d r =
    let other = d.0 in
    rising_either key (ltb (key y) (key x)) (y ∷ insert_by key x ys) (x ∷ y ∷ ys)
    (λ e. (all_insert (λ z. key y < key z) key x ys (ltb-true _ _ e) r.0, rising_insert key x ys d.1 r.1))
    (λ e. let le : key x ≤ key y = ltb-false _ _ e in
    let lt : key x < key y = grind (arith, nat_tests) in
    ((lt, all_weaker (λ z. key y < key z) (λ z. key x < key z) ys (λ z h. omega arith) r.0), r))

pub rising_of : {A : Type 0} (key : A → ℕ) (xs : List A) → Differ key xs → IsRising key (in_rising key xs)
rising_of key [] d = tt
rising_of key (x ∷ xs) d = rising_insert key x (in_rising key xs) (all_rising (λ y. key y ≢ key x) key xs d.0) (rising_of key xs d.1)

find_insert : (k : ℕ) (x : WireAttr) (xs : List WireAttr) → attr_of k (insert_by wire_kind x xs) ≡ attr_of k (x ∷ xs)
find_insert k x [] = refl
find_insert k x (y ∷ ys) = let e = find_insert k x ys in grind (arith, nat_tests)

pub find_rising : (k : ℕ) (xs : List WireAttr) → attr_of k (in_rising wire_kind xs) ≡ attr_of k xs
find_rising k [] = refl
find_rising k (x ∷ xs) = find_insert k x (in_rising wire_kind xs) ∙ ap (λ (o : Option WireAttr). cond (eqb x.kind k) (Some x) o) (find_rising k xs)

-- members in rising order stay as they are
pub rising_same : {A : Type 0} (key : A → ℕ) (xs : List A) → IsRising key xs → in_rising key xs ≡ xs
rising_same key [] r = refl
rising_same key (x ∷ xs) r = ap (insert_by key x) (rising_same key xs r.1) ∙ first key x xs r.0 where
  first : {A : Type 0} (key : A → ℕ) (x : A) (ys : List A) → AllByRecursion (λ y. key x < key y) ys → insert_by key x ys ≡ x ∷ ys
  first key x [] all = refl
  first key x (y ∷ ys) all = let lt = all.0 in grind (arith, nat_tests)

pub rising_differ : {A : Type 0} (key : A → ℕ) (xs : List A) → IsRising key xs → Differ key xs
rising_differ key [] r = tt
rising_differ key (x ∷ xs) r = (all_weaker (λ y. key x < key y) (λ y. key y ≢ key x) xs (λ y h. λ e. omega arith) r.0, rising_differ key xs r.1)

none_last : (k : ℕ) (before : List WireAttr) (a : WireAttr) → attr_of k before ≡ None → a.kind ≢ k → attr_of k (before ++ a ∷ []) ≡ None
none_last k [] a h n = grind (arith, nat_tests)
none_last k (b ∷ before) a h n = let f = none_last k before a in grind (arith, nat_tests, f)

-- attributes of different types that have no fault of their own have none
pub clean_differ : (wide : Bool) (before raws : List WireAttr) → AllByRecursion (λ a. own_fault wide a ≡ None) raws → Differ wire_kind raws
    → AllByRecursion (λ a. attr_of a.kind before ≡ None) raws → attrs_fault wide before raws [] ≡ None
unfolding attrs_fault
clean_differ wide before [] own differ fresh = refl
clean_differ wide before (a ∷ others) own differ fresh =
    let no_fault : fault_after wide before a ≡ None = rw (fresh.0, own.0) refl in
    ap (λ (o : Option Notice). earlier_notice o (attrs_fault wide (before ++ a ∷ []) others [])) no_fault
    ∙ clean_differ wide (before ++ a ∷ []) others own.1 differ.1
    (all_both (λ b. wire_kind b ≢ wire_kind a) (λ b. attr_of b.kind before ≡ None) (λ b. attr_of b.kind (before ++ a ∷ []) ≡ None) others
    (λ b n none. none_last b.kind before a none (λ e. n (sym e))) differ.0 fresh.1)

nothing_before : (raws : List WireAttr) → AllByRecursion (λ a. attr_of a.kind [] ≡ None) raws
nothing_before [] = tt
nothing_before (a ∷ raws) = (refl, nothing_before raws)

pub clean_alone : (wide : Bool) (raws : List WireAttr) → AllByRecursion (λ a. own_fault wide a ≡ None) raws → Differ wire_kind raws
    → attrs_fault wide [] raws [] ≡ None
clean_alone wide raws own differ = clean_differ wide [] raws own differ (nothing_before raws)

-- ---- the unknown ones

-- a swap past what is kept
join_swap : (o p : Option RawAttr) (others : List RawAttr) → ((r s : RawAttr) → o ≡ Some r → p ≡ Some s → other_kind r ≢ other_kind s)
    → in_rising other_kind (join o (join p others)) ≡ in_rising other_kind (join p (join o others))
join_swap None p others h = refl
join_swap (Some r) None others h = refl
join_swap (Some r) (Some s) others h = insert_swap other_kind r s (in_rising other_kind others) (h r s refl refl)

join_same : (o : Option RawAttr) (xs ys : List RawAttr) → in_rising other_kind xs ≡ in_rising other_kind ys
    → in_rising other_kind (join o xs) ≡ in_rising other_kind (join o ys)
join_same None xs ys e = e
join_same (Some r) xs ys e = ap (insert_by other_kind r) e

-- what an attribute adds to the kept ones
abbrev adds : WireAttr → Option RawAttr
adds a = cond (is_other a.kind) (kept_raw a) None

kept_cons : (a : WireAttr) (others : List WireAttr) → kept (a ∷ others) ≡ join (adds a) (kept others)
kept_cons a others = by_test (is_other a.kind) (kept_raw a) (kept others) where
  by_test : (t : Bool) (o : Option RawAttr) (xs : List RawAttr) → cond t (join o xs) xs ≡ join (cond t o None) xs
  by_test true o xs = refl
  by_test false o xs = refl

adds_kind : (a : WireAttr) (r : RawAttr) → adds a ≡ Some r → other_kind r ≡ a.kind
adds_kind a r e = by_test (is_other a.kind) e where
  by_test : (t : Bool) → cond t (kept_raw a) None ≡ Some r → other_kind r ≡ a.kind
  by_test true e = kept_kind a r e
  by_test false e = absurd cc

kept_insert : (x : WireAttr) (ys : List WireAttr) → in_rising other_kind (kept (insert_by wire_kind x ys)) ≡ in_rising other_kind (kept (x ∷ ys))
kept_insert x [] = refl
kept_insert x (y ∷ ys) = by_test (ltb (wire_kind y) (wire_kind x)) refl (kept_insert x ys) where
  by_test : (t : Bool) → ltb (wire_kind y) (wire_kind x) ≡ t
      → in_rising other_kind (kept (insert_by wire_kind x ys)) ≡ in_rising other_kind (kept (x ∷ ys))
      → in_rising other_kind (kept (cond t (y ∷ insert_by wire_kind x ys) (x ∷ y ∷ ys))) ≡ in_rising other_kind (kept (x ∷ y ∷ ys))
  by_test false e ih = refl
  by_test true e ih =
      let lt : wire_kind y < wire_kind x = ltb-true _ _ e in
      ap (in_rising other_kind) (kept_cons y (insert_by wire_kind x ys))
      ∙ (join_same (adds y) (kept (insert_by wire_kind x ys)) (kept (x ∷ ys)) ih
      ∙ (ap (λ (zs : List RawAttr). in_rising other_kind (join (adds y) zs)) (kept_cons x ys)
      ∙ (join_swap (adds y) (adds x) (kept ys) (λ r s f g. let k = adds_kind y r f in let l = adds_kind x s g in λ same. omega arith)
      ∙ (sym (ap (λ (zs : List RawAttr). in_rising other_kind (join (adds x) zs)) (kept_cons y ys))
      ∙ sym (ap (in_rising other_kind) (kept_cons x (y ∷ ys)))))))

pub kept_rising : (xs : List WireAttr) → in_rising other_kind (kept (in_rising wire_kind xs)) ≡ in_rising other_kind (kept xs)
kept_rising [] = refl
kept_rising (x ∷ xs) =
    kept_insert x (in_rising wire_kind xs)
    ∙ (ap (in_rising other_kind) (kept_cons x (in_rising wire_kind xs))
    ∙ (join_same (adds x) (kept (in_rising wire_kind xs)) (kept xs) (kept_rising xs)
    ∙ sym (ap (in_rising other_kind) (kept_cons x xs))))
