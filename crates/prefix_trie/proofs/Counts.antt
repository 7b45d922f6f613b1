-- The entries of a trie rise, and there are fewer of them than a table can count.
use Rattle.std.proofs.Common.{◌≡◌, ℕ, subst, ◌+◌, ◌*◌, ◌^◌, ◌<◌, ◌≤◌, Bool, true, false, cond, List, [], ◌∷◌}
use Rattle.std.proofs.Common.{◌++◌, length, Option, Some, None, refl, sym, ap, ◌∙◌, arith, inl, inr}
use Rattle.std.specs.Prelude.{T, ◌&&◌, is_some}
use Rattle.std.specs.declared.cmp.Ordering.{Ordering}
use Rattle.std.specs.declared.cmp.Ordering.TheVariants.{Less, Greater}
use Rattle.std.specs.Ordering.{is_lt}
use Rattle.std.specs.List.{AllByRecursion}
use Rattle.std.specs.FinMap.{find, put, is_sorted}
use Rattle.std.specs.FinMap.Entries.{below_all, length-put, length_without}
use Rattle.std.proofs.lemmas.Bool.{cases_lt}
use Rattle.std.proofs.lemmas.Bool.Decides.{nat_tests}
use Rattle.bgp_types.specs.Prefixes.{PrefixValue, IsPrefix}
use Rattle.bgp_types.specs.Tables.{prefix_cmp}
use Rattle.bgp_types.proofs.TableLaws.{prefix_total, AllAbove, without, rising_append, rising_parts}
use Rattle.prefix_trie.specs.Halves.{middle, Within}
use Rattle.prefix_trie.specs.Nodes.{own, IsNode}
use Rattle.prefix_trie.specs.declared.node.Node.{Node}
use Rattle.prefix_trie.specs.declared.tree.Tree.{Tree}
use Rattle.prefix_trie.specs.Arena.{value_at, entries_at, IsTrieAt}
use Rattle.prefix_trie.specs.Trees.{entries, IsTrie}
use Rattle.prefix_trie.proofs.Levels.{by_trie, node_entries, none_at}
use Rattle.prefix_trie.proofs.Indices.{halves_of}
use Rattle.prefix_trie.proofs.Halves.{positive}
use Rattle.prefix_trie.proofs.Nodes.{every, every_both, later_address, branches_above, ones_above}

rising_own : {V : Type 0} (p : PrefixValue) (o : Option V) → T (is_sorted prefix_cmp (own p o))
rising_own p None = tt
rising_own p (Some v) = tt

rising_node : {V : Type 0} (p : PrefixValue) (o : Option V) (zs os : List (PrefixValue × V)) → IsNode p zs os → T (is_sorted prefix_cmp zs)
    → T (is_sorted prefix_cmp os) → T (is_sorted prefix_cmp (own p o ++ (zs ++ os)))
rising_node {V} p o zs os node rz ro =
    rising_append prefix_total (own p o) (zs ++ os) (rising_own p o)
    (rising_append prefix_total zs os rz ro (every (Within p.address (middle p) p.len) (λ q. AllAbove prefix_cmp q os) zs
    (λ q w. let to = w.to in let pos = positive q in ones_above p o zs os node q (omega arith)) node.zeros))
    (own_first o)
  where
    own_first : (x : Option V) → AllByRecursion (λ e. AllAbove prefix_cmp e.0 (zs ++ os)) (own p x)
    own_first None = tt
    own_first (Some v) = (branches_above p o zs os node p (omega arith) (omega arith), tt)

-- the entries of nodes, which are none or those of a node over its branches
by_entries : {V : Type 0} (P : List (PrefixValue × V) → Type 0) (nodes : List Node) (values : List (Option V)) → P []
    → ((p : PrefixValue) (o : Option V) (zs os : List (PrefixValue × V)) → IsNode p zs os → P zs → P os → P (own p o ++ (zs ++ os)))
    → (index : ℕ) → IsTrieAt nodes index → P (entries_at nodes values index)
by_entries P nodes values none over =
    by_trie nodes (λ index. P (entries_at nodes values index)) (λ index is empty. subst P (sym (none_at nodes values index is)) none)
    (λ index n at zeros ones. subst P (sym (node_entries nodes values index n at)) (over n.prefix (value_at values index)
    (entries_at nodes values n.zero) (entries_at nodes values n.one) (halves_of nodes values index n at) zeros ones))

pub rising_trie : {V : Type 0} (t : Tree V) → IsTrie t → T (is_sorted prefix_cmp (entries t))
rising_trie t h = by_entries (λ es. T (is_sorted prefix_cmp es)) t.nodes.items t.values.items tt
    (λ p o zs os node a b. rising_node p o zs os node a b) t.root h.trie

-- ---- how many

itself : {V : Type 0} (p : PrefixValue) (o : Option V) → IsPrefix p → AllByRecursion (λ e. IsPrefix e.0) (own p o)
itself p None is = tt
itself p (Some v) is = (is, tt)

all_are : {V : Type 0} (t : Tree V) → IsTrie t → AllByRecursion (λ e. IsPrefix e.0) (entries t)
all_are {V} t h = by_entries (λ es. AllByRecursion (λ e. IsPrefix e.0) es) t.nodes.items t.values.items tt
    (λ p o zs os node a b. every_both IsPrefix (own p o) (zs ++ os) (itself p o node.is) (every_both IsPrefix zs os a b)) t.root h.trie

-- a number for each prefix, in the same order
rank : PrefixValue → ℕ
rank p = p.address * 33 + p.len

rank_below : (p : PrefixValue) → IsPrefix p → rank p < 2 ^ 38
unfolding rank
rank_below p is = omega (arith, is.len, is.address)

rank_rises : (p q : PrefixValue) → IsPrefix p → IsPrefix q → prefix_cmp p q ≡ Less → rank p < rank q
unfolding rank
rank_rises p q is isq less = elim (cases_lt p.address q.address) [
  | inl lt ↦ omega (arith, is.len)
  | inr ge ↦ elim (cases_lt q.address p.address) [
    | inl gt ↦ let e : prefix_cmp p q ≡ Greater = later_address p q gt in absurd (differ (sym less ∙ e))
    | inr le ↦ elim (cases_lt p.len q.len) [
      | inl shorter ↦ omega arith
      | inr longer ↦
          let same : p.address ≡ q.address = omega arith in
          let e : is_lt (prefix_cmp p q) ≡ false = grind (arith, nat_tests) in
          absurd (is_less (sym (ap is_lt less) ∙ e))
    ]
  ]
]
  where
    differ : ◌≡◌ {A = Ordering} Less Greater → ⊥
    differ e = cc

    is_less : true ≡ false → ⊥
    is_less e = cc

above_rank : {V : Type 0} (p : PrefixValue) (es : List (PrefixValue × V)) → IsPrefix p → AllByRecursion (λ e. IsPrefix e.0) es
    → AllAbove prefix_cmp p es → AllByRecursion (λ e. rank p + 1 ≤ rank e.0) es
above_rank p [] is all above = tt
above_rank p (e ∷ es) is all above = (let lt = rank_rises p e.0 is all.0 above.0 in omega arith, above_rank p es is all.1 above.1)

counted : {V : Type 0} (low : ℕ) (es : List (PrefixValue × V)) → low ≤ 2 ^ 38 → T (is_sorted prefix_cmp es) → AllByRecursion (λ e. IsPrefix e.0) es
    → AllByRecursion (λ e. low ≤ rank e.0) es → low + length es ≤ 2 ^ 38
counted low [] h rise all from = omega arith
counted low (e ∷ es) h rise all from =
    let parts = rising_parts prefix_total [] e es rise in
    let next = counted (rank e.0 + 1) es (let b = rank_below e.0 all.0 in omega arith) (tail e es rise) all.1 (above_rank e.0 es all.0 all.1 parts.1) in
    let here = from.0 in
    omega arith
  where
    second : (a b : Bool) → T (a && b) → T b
    second true b k = k
    second false b k = absurd k

    tail : {V : Type 0} (x : PrefixValue × V) (xs : List (PrefixValue × V)) → T (is_sorted prefix_cmp (x ∷ xs)) → T (is_sorted prefix_cmp xs)
    tail x xs k = second (below_all prefix_cmp x.0 xs) (is_sorted prefix_cmp xs) k

from_zero : {V : Type 0} (es : List (PrefixValue × V)) → AllByRecursion (λ e. 0 ≤ rank e.0) es
from_zero [] = tt
from_zero (e ∷ es) = (omega arith, from_zero es)

pub countable : {V : Type 0} (t : Tree V) → IsTrie t → length (entries t) ≤ 2 ^ 38
countable t h =
    let n = counted 0 (entries t) (omega arith) (rising_trie t h) (all_are t h) (from_zero (entries t)) in
    omega arith

-- after a change
pub put_len : {V : Type 0} (p : PrefixValue) (v : V) (es : List (PrefixValue × V)) → T (is_sorted prefix_cmp es) → (b : Bool)
    → is_some (find prefix_cmp p es) ≡ b → length (put prefix_cmp p v es) ≡ cond b (length es) (length es + 1)
put_len p v es rise b e = length-put prefix_cmp prefix_total p v es rise ∙ ap (λ (t : Bool). cond t (length es) (length es + 1)) e

pub none_of : {V : Type 0} (o : Option V) → is_some o ≡ false → o ≡ None
none_of None e = refl
none_of (Some v) e = absurd cc

pub one_less : {V : Type 0} (p : PrefixValue) (w : V) (es : List (PrefixValue × V)) → T (is_sorted prefix_cmp es) → find prefix_cmp p es ≡ Some w
    → 1 + length (without prefix_cmp p es) ≡ length es
one_less {V} p w es rise some = ap (λ (o : Option V). cond (is_some o) 1 0 + length (without prefix_cmp p es)) (sym some)
    ∙ length_without prefix_cmp prefix_total p es rise

pub none_less : {V : Type 0} (p : PrefixValue) (es : List (PrefixValue × V)) → T (is_sorted prefix_cmp es) → find prefix_cmp p es ≡ None
    → length (without prefix_cmp p es) ≡ length es
none_less {V} p es rise none =
    let e = ap (λ (o : Option V). cond (is_some o) 1 0 + length (without prefix_cmp p es)) (sym none) ∙ length_without prefix_cmp prefix_total p es rise in
    omega arith
