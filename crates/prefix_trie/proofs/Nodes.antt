-- What the entries of a node answer, and what a change of them leaves.
use Rattle.std.proofs.Common.{◌≡◌, ◌≢◌, ℕ, ◌<◌, ◌≤◌, Bool, true, false, List, [], ◌∷◌, ◌++◌, Option, Some, None, refl, sym, ap, ◌∙◌, subst, arith}
use Rattle.std.specs.Prelude.{nat_eq, ◌&&◌}
use Rattle.std.proofs.Common.{ltb}
use Rattle.std.specs.declared.cmp.Ordering.{Ordering}
use Rattle.std.specs.declared.cmp.Ordering.TheVariants.{Less, Equal, Greater}
use Rattle.std.specs.Ordering.{eq_by_cmp, is_eq, is_lt, is_some_and, ordering_then, partial_ordering_then}
use Rattle.std.specs.Cmp.{tied_itself}
use Rattle.std.specs.List.{AllByRecursion}
use Rattle.std.specs.FinMap.{find, put}
use Rattle.std.proofs.lemmas.Bool.Decides.{nat_tests}
use Rattle.std.proofs.lemmas.Bool.{and_parts, ltb-true, ltb-false}
use Rattle.bgp_types.specs.Prefixes.{PrefixValue}
use Rattle.bgp_types.specs.Tables.{prefix_cmp}
use Rattle.bgp_types.proofs.TableLaws.{prefix_total, exact_prefixes, AllBelow, AllAbove, without, put_right, put_left}
use Rattle.bgp_types.proofs.TableLaws.{find_right, find_left, find_above, without_right, without_left}
use Rattle.prefix_trie.specs.Halves.{middle, past, Within}
use Rattle.prefix_trie.specs.Nodes.{own, IsNode}
use Rattle.prefix_trie.proofs.Halves.{positive}

-- ---- the order

pub first_address : (p q : PrefixValue) → p.address < q.address → prefix_cmp p q ≡ Less
first_address p q h = grind (arith, nat_tests)

pub later_address : (p q : PrefixValue) → q.address < p.address → prefix_cmp p q ≡ Greater
later_address p q h = grind (arith, nat_tests)

pub shorter_first : (p q : PrefixValue) → p.address ≤ q.address → p.len < q.len → prefix_cmp p q ≡ Less
shorter_first p q h k = grind (arith, nat_tests)

pub longer_later : (p q : PrefixValue) → q.address ≤ p.address → q.len < p.len → prefix_cmp p q ≡ Greater
longer_later p q h k = grind (arith, nat_tests)

pub equal_from_test : (o : Ordering) → is_eq o ≡ true → o ≡ Equal
equal_from_test Less e = absurd cc
equal_from_test Equal e = refl
equal_from_test Greater e = absurd cc

pub apart : (p q : PrefixValue) → p ≢ q → eq_by_cmp prefix_cmp p q ≡ false
apart p q h = by_test (eq_by_cmp prefix_cmp p q) refl where
  by_test : (t : Bool) → eq_by_cmp prefix_cmp p q ≡ t → eq_by_cmp prefix_cmp p q ≡ false
  by_test true e = absurd (h (exact_prefixes p q (equal_from_test (prefix_cmp p q) e)))
  by_test false e = e

module _ {V : Type 0} where
  pub every : (P Q : PrefixValue → Type 0) (es : List (PrefixValue × V)) → ((p : PrefixValue) → P p → Q p) → AllByRecursion (λ e. P e.0) es
      → AllByRecursion (λ e. Q e.0) es
  every P Q [] h all = tt
  every P Q (e ∷ es) h all = (h e.0 all.0, every P Q es h all.1)

  pub every_both : (P : PrefixValue → Type 0) (xs ys : List (PrefixValue × V)) → AllByRecursion (λ e. P e.0) xs → AllByRecursion (λ e. P e.0) ys
      → AllByRecursion (λ e. P e.0) (xs ++ ys)
  every_both P [] ys a b = b
  every_both P (x ∷ xs) ys a b = (a.0, every_both P xs ys a.1 b)

  -- no entry has the prefix
  pub find_apart : (p : PrefixValue) (es fs : List (PrefixValue × V)) → AllByRecursion (λ e. p ≢ e.0) es → find prefix_cmp p (es ++ fs) ≡ find prefix_cmp p fs
  find_apart p [] fs h = refl
  find_apart p (e ∷ es) fs h = rw (apart p e.0 h.0) (find_apart p es fs h.1)

  pub find_none : (p : PrefixValue) (es : List (PrefixValue × V)) → AllByRecursion (λ e. p ≢ e.0) es → find prefix_cmp p es ≡ None
  find_none p [] h = refl
  find_none p (e ∷ es) h = rw (apart p e.0 h.0) (find_none p es h.1)

  pub without_apart : (p : PrefixValue) (es fs : List (PrefixValue × V)) → AllByRecursion (λ e. p ≢ e.0) es
      → without prefix_cmp p (es ++ fs) ≡ es ++ without prefix_cmp p fs
  without_apart p [] fs h = refl
  without_apart p (e ∷ es) fs h = rw (apart p e.0 h.0) (ap (λ (xs : List (PrefixValue × V)). e ∷ xs) (without_apart p es fs h.1))

  pub without_none : (p : PrefixValue) (es : List (PrefixValue × V)) → AllByRecursion (λ e. p ≢ e.0) es → without prefix_cmp p es ≡ es
  without_none p [] h = refl
  without_none p (e ∷ es) h = rw (apart p e.0 h.0) (ap (λ (xs : List (PrefixValue × V)). e ∷ xs) (without_none p es h.1))

  pub own_apart : (q p : PrefixValue) (o : Option V) → q ≢ p → AllByRecursion (λ e. q ≢ e.0) (own p o)
  own_apart q p None h = tt
  own_apart q p (Some v) h = (h, tt)

  pub own_below : (q p : PrefixValue) (o : Option V) → prefix_cmp q p ≡ Greater → AllBelow prefix_cmp q (own p o)
  own_below q p None h = tt
  own_below q p (Some v) h = (h, tt)

  -- ---- a node

  module _ (p : PrefixValue) (o : Option V) (zs os : List (PrefixValue × V)) (node : IsNode p zs os) where
    all : List (PrefixValue × V)
    all = own p o ++ (zs ++ os)

    -- what lies before the second half is below what stands there, and the other way
    pub ones_above : (q : PrefixValue) → q.address < middle p → AllAbove prefix_cmp q os
    ones_above q h = every (Within (middle p) (past p) p.len) (λ k. prefix_cmp q k ≡ Less) os
        (λ k w. let from = w.from in first_address q k (omega arith)) node.ones

    pub zeros_below : (q : PrefixValue) → middle p ≤ q.address → AllBelow prefix_cmp q zs
    zeros_below q h = every (Within p.address (middle p) p.len) (λ k. prefix_cmp q k ≡ Greater) zs
        (λ k w. let to = w.to in let pos = positive k in later_address q k (omega arith)) node.zeros

    pub branches_above : (q : PrefixValue) → q.address ≤ p.address → q.len ≤ p.len → AllAbove prefix_cmp q (zs ++ os)
    branches_above q h k = every_both (λ x. prefix_cmp q x ≡ Less) zs os
        (every (Within p.address (middle p) p.len) (λ x. prefix_cmp q x ≡ Less) zs
        (λ x w. let from = w.from in let longer = w.longer in shorter_first q x (omega arith) (omega arith)) node.zeros)
        (every (Within (middle p) (past p) p.len) (λ x. prefix_cmp q x ≡ Less) os
        (λ x w. let from = w.from in let longer = w.longer in shorter_first q x (omega arith) (omega arith)) node.ones)

    -- a prefix that isn't longer stands in no branch
    pub branches_apart : (q : PrefixValue) → q.len ≤ p.len → AllByRecursion (λ e. q ≢ e.0) (zs ++ os)
    branches_apart q k = every_both (λ x. q ≢ x) zs os
        (every (Within p.address (middle p) p.len) (λ x. q ≢ x) zs
        (λ x w (e : q ≡ x). let longer = w.longer in let same = ap (λ (y : PrefixValue). y.len) e in omega arith) node.zeros)
        (every (Within (middle p) (past p) p.len) (λ x. q ≢ x) os
        (λ x w (e : q ≡ x). let longer = w.longer in let same = ap (λ (y : PrefixValue). y.len) e in omega arith) node.ones)

    -- ---- the value of a prefix

    pub find_here : find prefix_cmp p (own p o ++ (zs ++ os)) ≡ o
    find_here = by_value o where
      by_value : (x : Option V) → find prefix_cmp p (own p x ++ (zs ++ os)) ≡ x
      by_value None = find_above prefix_cmp p (zs ++ os) (branches_above p (omega arith) (omega arith))
      by_value (Some v) = rw (tied_itself prefix_total p) refl

    pub find_early : (q : PrefixValue) → q ≢ p → q.address < middle p → find prefix_cmp q (own p o ++ (zs ++ os)) ≡ find prefix_cmp q zs
    find_early q k h = find_apart q (own p o) (zs ++ os) (own_apart q p o k) ∙ find_left prefix_cmp q zs os (ones_above q h)

    pub find_late : (q : PrefixValue) → q ≢ p → middle p ≤ q.address → find prefix_cmp q (own p o ++ (zs ++ os)) ≡ find prefix_cmp q os
    find_late q k h = find_apart q (own p o) (zs ++ os) (own_apart q p o k) ∙ find_right prefix_cmp q zs os (zeros_below q h)

    -- ---- a prefix with another value

    pub put_here : (v : V) → put prefix_cmp p v (own p o ++ (zs ++ os)) ≡ own p (Some v) ++ (zs ++ os)
    put_here v = by_value o where
      by_value : (x : Option V) → put prefix_cmp p v (own p x ++ (zs ++ os)) ≡ (p, v) ∷ (zs ++ os)
      by_value None = put_left prefix_cmp p v [] (zs ++ os) (branches_above p (omega arith) (omega arith))
      by_value (Some w) = rw (tied_itself prefix_total p) refl

    pub put_early : (q : PrefixValue) (v : V) → prefix_cmp q p ≡ Greater → q.address < middle p
        → put prefix_cmp q v (own p o ++ (zs ++ os)) ≡ own p o ++ (put prefix_cmp q v zs ++ os)
    put_early q v k h = put_right prefix_cmp q v (own p o) (zs ++ os) (own_below q p o k)
        ∙ ap (λ (xs : List (PrefixValue × V)). own p o ++ xs) (put_left prefix_cmp q v zs os (ones_above q h))

    pub put_late : (q : PrefixValue) (v : V) → prefix_cmp q p ≡ Greater → middle p ≤ q.address
        → put prefix_cmp q v (own p o ++ (zs ++ os)) ≡ own p o ++ (zs ++ put prefix_cmp q v os)
    put_late q v k h = put_right prefix_cmp q v (own p o) (zs ++ os) (own_below q p o k)
        ∙ ap (λ (xs : List (PrefixValue × V)). own p o ++ xs) (put_right prefix_cmp q v zs os (zeros_below q h))

    -- ---- without a prefix

    pub without_here : without prefix_cmp p (own p o ++ (zs ++ os)) ≡ own p None ++ (zs ++ os)
    without_here = by_value o where
      by_value : (x : Option V) → without prefix_cmp p (own p x ++ (zs ++ os)) ≡ zs ++ os
      by_value None = without_none p (zs ++ os) (branches_apart p (omega arith))
      by_value (Some v) = rw (tied_itself prefix_total p) (without_none p (zs ++ os) (branches_apart p (omega arith)))

    pub without_early : (q : PrefixValue) → q ≢ p → q.address < middle p
        → without prefix_cmp q (own p o ++ (zs ++ os)) ≡ own p o ++ (without prefix_cmp q zs ++ os)
    without_early q k h = without_apart q (own p o) (zs ++ os) (own_apart q p o k)
        ∙ ap (λ (xs : List (PrefixValue × V)). own p o ++ xs) (without_left prefix_cmp q zs os (ones_above q h))

    pub without_late : (q : PrefixValue) → q ≢ p → middle p ≤ q.address
        → without prefix_cmp q (own p o ++ (zs ++ os)) ≡ own p o ++ (zs ++ without prefix_cmp q os)
    without_late q k h = without_apart q (own p o) (zs ++ os) (own_apart q p o k)
        ∙ ap (λ (xs : List (PrefixValue × V)). own p o ++ xs) (without_right prefix_cmp q zs os (zeros_below q h))

-- ---- tests

pub same_prefix : (p q : PrefixValue) → (nat_eq p.address q.address && nat_eq p.len q.len) ≡ true → p ≡ q
same_prefix p q e =
    let t = and_parts (nat_eq p.address q.address) (nat_eq p.len q.len) e in
    let a : p.address ≡ q.address = grind (arith, nat_tests) in
    let b : p.len ≡ q.len = grind (arith, nat_tests) in
    λ i. record { address = a i; len = b i }

pub other_prefix : (p q : PrefixValue) → (nat_eq p.address q.address && nat_eq p.len q.len) ≡ false → p ≢ q
other_prefix p q e same =
    let a = ap (λ (x : PrefixValue). x.address) same in
    let b = ap (λ (x : PrefixValue). x.len) same in
    grind (arith, nat_tests)

-- what the test of the half says
pub is_before : (t : Bool) (a b m : ℕ) → a ≡ b → t ≡ ltb a m → t ≡ true → b < m
is_before t a b m e f g = subst (λ (n : ℕ). n < m) e (ltb-true a m (sym f ∙ g))

pub is_past : (t : Bool) (a b m : ℕ) → a ≡ b → t ≡ ltb a m → t ≡ false → m ≤ b
is_past t a b m e f g = subst (λ (n : ℕ). m ≤ n) e (ltb-false a m (sym f ∙ g))

pub shorter_differs : (p q : PrefixValue) → p.len < q.len → q ≢ p
shorter_differs p q h e = let same = ap (λ (x : PrefixValue). x.len) e in omega arith

pub less_from_test : (o : Ordering) → is_lt o ≡ true → o ≡ Less
less_from_test Less e = refl
less_from_test Equal e = absurd cc
less_from_test Greater e = absurd cc

-- the derived `<` is that of the order
pub lt_same : (o r : Ordering) → is_some_and is_lt (partial_ordering_then (Some o) (Some r)) ≡ is_lt (ordering_then o r)
lt_same Less r = refl
lt_same Equal r = refl
lt_same Greater r = refl
