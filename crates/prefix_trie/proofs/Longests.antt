-- The walk down a tree to the longest prefix that covers host.
use Rattle.std.proofs.Common.{◌≡◌, ◌≢◌, ◌<◌, ◌≤◌, Bool, true, false, cond, List, [], ◌∷◌, ◌++◌, Option, Some, None, refl, sym, ap, ◌∙◌, subst, arith, inl, inr}
use Rattle.std.specs.Prelude.{◌⊎◌, IsSome, IsTrue, is_some}
use Rattle.std.specs.Ordering.{eq_by_cmp}
use Rattle.std.specs.List.{AllByRecursion}
use Rattle.std.specs.Cmp.{eq_by_cmp_equiv}
use Rattle.std.specs.FinMap.{find}
use Rattle.std.proofs.lemmas.Bool.{cases_lt}
use Rattle.bgp_types.specs.Prefixes.{PrefixValue, Covers}
use Rattle.bgp_types.specs.Tables.{prefix_cmp}
use Rattle.bgp_types.proofs.TableLaws.{exact_prefixes, prefix_total}
use Rattle.prefix_trie.specs.Halves.{middle, past, Within, Under}
use Rattle.prefix_trie.specs.Longest.{LongestOf}
use Rattle.prefix_trie.specs.Nodes.{own, IsNode}
use Rattle.prefix_trie.proofs.Halves.{positive, middle_le_past, covered_from, covered_to, covers_in}
use Rattle.prefix_trie.proofs.Nodes.{every, every_both, equal_from_test, apart, shorter_differs, find_here, find_early, find_late}
use Rattle.prefix_trie.proofs.Indices.{alone}

-- what a node has is under its prefix
all_under : {V : Type 0} (p : PrefixValue) (o : Option V) (zs os : List (PrefixValue × V)) → IsNode p zs os
    → AllByRecursion (λ e. Under p e.0) (own p o ++ (zs ++ os))
all_under {V} p o zs os node =
    let le = middle_le_past p node.is.len in
    every_both (Under p) (own p o) (zs ++ os) (alone (Under p) p o (record { is = node.is; long = omega arith; from = omega arith; to = omega arith }))
    (every_both (Under p) zs os
    (every (Within p.address (middle p) p.len) (Under p) zs
    (λ q w. let a = w.longer in let b = w.to in record { is = w.is; long = omega arith; from = w.from; to = omega arith }) node.zeros)
    (every (Within (middle p) (past p) p.len) (Under p) os
    (λ q w. let a = w.longer in let b = w.from in record { is = w.is; long = omega arith; from = omega arith; to = w.to }) node.ones))

abbrev pub Has : {V : Type 0} → List (PrefixValue × V) → PrefixValue → Type 0
Has es q = IsSome (find prefix_cmp q es)

-- q is no longer than the best so far
abbrev pub AtMost : PrefixValue → Option PrefixValue → Type 0
AtMost q None = ⊥
AtMost q (Some p) = q.len ≤ p.len

abbrev pub Found : {V : Type 0} → PrefixValue → List (PrefixValue × V) → Option PrefixValue → Type 0
Found host es None = Unit {0}
Found host es (Some p) = Has es p × Covers p host

abbrev pub Below : {V : Type 0} → List (PrefixValue × V) → Option PrefixValue → Type 0
Below here None = Unit {0}
Below here (Some p) = (q : PrefixValue) → Has here q → p.len ≤ q.len

-- Of all entries, those that cover host stand here, or are no longer than the best so far.
pub record Walk {V : Type 0} (host : PrefixValue) (es here : List (PrefixValue × V)) (best : Option PrefixValue) : Type 0 where
  pub inside : (q : PrefixValue) → Has here q → Has es q
  pub rest : (q : PrefixValue) → Has es q → Covers q host → Has here q ⊎ AtMost q best
  pub found : Found host es best
  pub below : Below here best

pub walk_begins : {V : Type 0} (host : PrefixValue) (es : List (PrefixValue × V)) → Walk host es es None
walk_begins host es = record { inside = λ q h. h; rest = λ q h c. inl h; found = tt; below = tt }

pub walk_ends : {V : Type 0} (host : PrefixValue) (es here : List (PrefixValue × V)) (best : Option PrefixValue) → Walk host es here best
    → ((q : PrefixValue) → Has here q → Covers q host → ⊥) → LongestOf (Has es) host best
walk_ends host es here None w none = record { none = λ q h c. elim (w.rest q h c) [ inl k ↦ none q k c | inr k ↦ k ] }
walk_ends host es here (Some p) w none = record {
  there = w.found.0;
  covers = w.found.1;
  longest = λ q h c. elim (w.rest q h c) [ inl k ↦ absurd (none q k c) | inr k ↦ k ];
}

-- what a test says that fails
pub untrue : (b : Bool) → b ≡ false → IsTrue b → ⊥
untrue b e h = absurd cc

nothing : {A : Type 0} (o : Option A) → o ≡ None → IsSome o → ⊥
nothing {A} o e h = empty (subst (λ (x : Option A). IsSome x) e h) where
  empty : IsSome {T = A} None → ⊥
  empty k = cc

pub none_in_leaf : (V : Type 0) (q : PrefixValue) → Has {V = V} [] q → ⊥
none_in_leaf V q h = nothing {A = V} None refl h

same_or_not : (q p : PrefixValue) → (q ≡ p) ⊎ (q ≢ p)
same_or_not q p = by_test (eq_by_cmp prefix_cmp q p) refl where
  by_test : (t : Bool) → eq_by_cmp prefix_cmp q p ≡ t → (q ≡ p) ⊎ (q ≢ p)
  by_test true e = inl (exact_prefixes q p (equal_from_test (prefix_cmp q p) e))
  by_test false e = inr (λ (same : q ≡ p). differ (sym e ∙ (ap (λ (x : PrefixValue). eq_by_cmp prefix_cmp x p) same ∙ itself)))
    where
      itself : eq_by_cmp prefix_cmp p p ≡ true
      itself = (eq_by_cmp_equiv prefix_total).refl p

      differ : false ≡ true → ⊥
      differ k = cc

-- what holds of each entry holds of a prefix that has a value
has_within : {V : Type 0} (P : PrefixValue → Type 0) (es : List (PrefixValue × V)) (q : PrefixValue) → AllByRecursion (λ e. P e.0) es → Has es q → P q
has_within {V} P [] q all h = absurd (none_in_leaf V q h)
has_within {V} P (e ∷ es) q all h = elim (same_or_not q e.0) [
  | inl same ↦ subst P (sym same) all.0
  | inr other ↦ has_within P es q all.1 (subst (λ (o : Option V). IsSome o) (rw (apart q e.0 other) refl) h)
]

module _ {V : Type 0} (p : PrefixValue) (o : Option V) (zs os : List (PrefixValue × V)) (node : IsNode p zs os) (host : PrefixValue) where
  -- a node that doesn't cover host has nothing that does
  pub none_below : (Covers p host → ⊥) → (q : PrefixValue) → Has (own p o ++ (zs ++ os)) q → Covers q host → ⊥
  none_below not_covers q h c =
      let u = has_within (Under p) (own p o ++ (zs ++ os)) q (all_under p o zs os node) h in
      let a = u.long in
      let b = u.from in
      let d = u.to in
      let e = c.shorter in
      let f = covered_from q host c in
      let k = covered_to q host c in
      not_covers (covers_in p host node.is (omega arith) (omega arith) (omega arith))

  early_has : (q : PrefixValue) → Has zs q → Has (own p o ++ (zs ++ os)) q
  early_has q h =
      let w = has_within (Within p.address (middle p) p.len) zs q node.zeros h in
      let a = w.to in
      let b = w.longer in
      let pos = positive q in
      subst (λ (x : Option V). IsSome x) (sym (find_early p o zs os node q (shorter_differs p q b) (omega arith))) h

  late_has : (q : PrefixValue) → Has os q → Has (own p o ++ (zs ++ os)) q
  late_has q h =
      let w = has_within (Within (middle p) (past p) p.len) os q node.ones h in
      subst (λ (x : Option V). IsSome x) (sym (find_late p o zs os node q (shorter_differs p q w.longer) w.from)) h

  own_has : is_some o ≡ true → Has (own p o ++ (zs ++ os)) p
  own_has e = subst (λ (x : Option V). IsSome x) (sym (find_here p o zs os node)) e

  -- what covers host is the prefix itself, or stands in the half of host
  early_rest : host.address < middle p → (q : PrefixValue) → Has (own p o ++ (zs ++ os)) q → Covers q host → ((q ≡ p) × (is_some o ≡ true)) ⊎ Has zs q
  early_rest h q there c = elim (same_or_not q p) [
    | inl same ↦
        inl (same, ap is_some (sym (find_here p o zs os node) ∙ ap (λ (x : PrefixValue). find prefix_cmp x (own p o ++ (zs ++ os))) (sym same)) ∙ there)
    | inr other ↦ inr (subst (λ (x : Option V). IsSome x) (find_early p o zs os node q other (let f = covered_from q host c in omega arith)) there)
  ]

  late_rest : middle p ≤ host.address → (q : PrefixValue) → Has (own p o ++ (zs ++ os)) q → Covers q host → ((q ≡ p) × (is_some o ≡ true)) ⊎ Has os q
  late_rest h q there c = elim (same_or_not q p) [
    | inl same ↦
        inl (same, ap is_some (sym (find_here p o zs os node) ∙ ap (λ (x : PrefixValue). find prefix_cmp x (own p o ++ (zs ++ os))) (sym same)) ∙ there)
    | inr other ↦ elim (cases_lt q.address (middle p)) [
      | inl early ↦
          let k = subst (λ (x : Option V). IsSome x) (find_early p o zs os node q other early) there in
          let w = has_within (Within p.address (middle p) p.len) zs q node.zeros k in
          let a = w.to in
          let f = covered_to q host c in
          absurd (omega arith)
      | inr late ↦ inr (subst (λ (x : Option V). IsSome x) (find_late p o zs os node q other late) there)
    ]
  ]

  -- a step into a half, given what stands in it
  step : (es half : List (PrefixValue × V)) (best : Option PrefixValue) (t : Bool) → is_some o ≡ t → Covers p host
      → ((q : PrefixValue) → Has half q → Has (own p o ++ (zs ++ os)) q) → ((q : PrefixValue) → Has half q → p.len ≤ q.len)
      → ((q : PrefixValue) → Has (own p o ++ (zs ++ os)) q → Covers q host → ((q ≡ p) × (is_some o ≡ true)) ⊎ Has half q)
      → Walk host es (own p o ++ (zs ++ os)) best → Walk host es half (cond t (Some p) best)
  step es half best true e covers inner longer split w = record {
    inside = λ q h. w.inside q (inner q h);
    rest = λ q h c. elim (w.rest q h c) [
      | inl k ↦ elim (split q k c) [
        | inl same ↦ inr (let l = ap (λ (x : PrefixValue). x.len) same.0 in omega arith)
        | inr deeper ↦ inl deeper
      ]
      | inr k ↦ inr (shorter_best q best k w.below)
    ];
    found = (w.inside p (own_has e), covers);
    below = longer;
  }
    where
      shorter_best : (q : PrefixValue) (b : Option PrefixValue) → AtMost q b → Below (own p o ++ (zs ++ os)) b → q.len ≤ p.len
      shorter_best q None k under = absurd k
      shorter_best q (Some x) k under = let l = under p (own_has e) in omega arith
  step es half best false e covers inner longer split w = record {
    inside = λ q h. w.inside q (inner q h);
    rest = λ q h c. elim (w.rest q h c) [
      | inl k ↦ elim (split q k c) [
        | inl same ↦ absurd (clash (sym e ∙ same.1))
        | inr deeper ↦ inl deeper
      ]
      | inr k ↦ inr k
    ];
    found = w.found;
    below = deeper_below best w.below;
  }
    where
      clash : false ≡ true → ⊥
      clash k = cc

      deeper_below : (b : Option PrefixValue) → Below (own p o ++ (zs ++ os)) b → Below half b
      deeper_below None under = tt
      deeper_below (Some x) under = λ q h. under q (inner q h)

  pub step_early : (es : List (PrefixValue × V)) (best : Option PrefixValue) → Covers p host → host.address < middle p
      → Walk host es (own p o ++ (zs ++ os)) best → Walk host es zs (cond (is_some o) (Some p) best)
  step_early es best covers h w = step es zs best (is_some o) refl covers early_has
      (λ q k. let l = (has_within (Within p.address (middle p) p.len) zs q node.zeros k).longer in omega arith) (early_rest h) w

  pub step_late : (es : List (PrefixValue × V)) (best : Option PrefixValue) → Covers p host → middle p ≤ host.address
      → Walk host es (own p o ++ (zs ++ os)) best → Walk host es os (cond (is_some o) (Some p) best)
  step_late es best covers h w = step es os best (is_some o) refl covers late_has
      (λ q k. let l = (has_within (Within (middle p) (past p) p.len) os q node.ones k).longer in omega arith) (late_rest h) w

-- the same of another word for what there is
pub same_longest : (has other : PrefixValue → Type 0) (host : PrefixValue) (r : Option PrefixValue) → ((q : PrefixValue) → has q → other q)
    → ((q : PrefixValue) → other q → has q) → LongestOf has host r → LongestOf other host r
same_longest has other host None to from l = record { none = λ q h c. l.none q (from q h) c }
same_longest has other host (Some p) to from l = record { there = to p l.there; covers = l.covers; longest = λ q h c. l.longest q (from q h) c }
