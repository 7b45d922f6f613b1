-- A walk over the prefixes of a table, each the next one above the last, in rising order.
use Rattle.std.proofs.Common.{◌≡◌, ◌<◌, ◌≤◌, Bool, true, false, cond, ◌&&◌, List, [], ◌∷◌, ◌++◌, append_assoc}
use Rattle.std.proofs.Common.{append-nil, Option, Some, None, refl, sym, ap, ◌∙◌, subst, arith}
use Rattle.std.specs.Prelude.{T, map, length}
use Rattle.std.specs.declared.cmp.Ordering.{Ordering}
use Rattle.std.specs.declared.cmp.Ordering.TheVariants.{Less, Equal, Greater}
use Rattle.std.specs.Ordering.{eq_by_cmp, is_lt, ordering_reverse}
use Rattle.std.specs.Cmp.{tied_itself}
use Rattle.std.specs.FinMap as table
use Rattle.std.specs.List.{filter}
use Rattle.std.proofs.lemmas.Bool.{false≢true}
use Rattle.std.proofs.lemmas.Option.{same_Some}
use Rattle.bgp_types.specs.Prefixes.{PrefixValue}
use Rattle.bgp_types.specs.Tables.{prefix_cmp, is_above, first_above}
use Rattle.bgp_types.proofs.TableLaws.{prefix_total, exact_prefixes, tied, AllAbove, rising_parts}

-- ---- the order

less : (o : Ordering) → is_lt o ≡ true → o ≡ Less
less Less e = refl
less Equal e = absurd (false≢true e)
less Greater e = absurd (false≢true e)

reversed : (p q : PrefixValue) (o : Ordering) → prefix_cmp p q ≡ o → prefix_cmp q p ≡ ordering_reverse o
reversed p q o e = prefix_total.antisymm q p ∙ ap ordering_reverse e

-- what is above a later prefix is above an earlier one
above_too : (last : Option PrefixValue) (p q : PrefixValue) → is_above last p ≡ true → is_above (Some p) q ≡ true → is_above last q ≡ true
above_too None p q a b = refl
above_too (Some l) p q a b = ap is_lt (prefix_total.trans l p q (less _ a) (less _ b))

-- what isn't above the last one is below what is
pub below : (last : Option PrefixValue) (p q : PrefixValue) → is_above last p ≡ true → is_above last q ≡ false → prefix_cmp q p ≡ Less
below last p q a n = elim (prefix_cmp q p) as (λ o. prefix_cmp q p ≡ o → prefix_cmp q p ≡ Less) [
  | Less ↦ λ e. e
  | Equal ↦ λ e. absurd (false≢true (sym n ∙ (ap (is_above last) (exact_prefixes q p e) ∙ a)))
  | Greater ↦ λ e. absurd (false≢true (sym n ∙ above_too last p q a (ap is_lt (reversed q p Greater e))))
] refl

pub not_above : (p q : PrefixValue) → prefix_cmp q p ≡ Less → is_above (Some p) q ≡ false
not_above p q e = ap is_lt (reversed q p Less e)

pub not_itself : (p : PrefixValue) → is_above (Some p) p ≡ false
not_itself p = ap is_lt (tied_itself prefix_total p)

-- ---- the next prefix

pub next_passes : (last : Option PrefixValue) (p : PrefixValue) (ks : List PrefixValue) → first_above last ks ≡ Some p → is_above last p ≡ true
next_passes last p [] e = absurd cc
next_passes last p (k ∷ ks) e =
    elim (is_above last k) as (λ b. is_above last k ≡ b → cond b (Some k) (first_above last ks) ≡ Some p → is_above last p ≡ true) [
      | true ↦ λ a f. subst (λ (x : PrefixValue). is_above last x ≡ true) (same_Some k p f) a
      | false ↦ λ a f. next_passes last p ks f
    ] refl e

module _ (k : PrefixValue) (xs ys : List PrefixValue) where
  step_le : (a b : Bool) → (a ≡ true → b ≡ true) → length xs ≤ length ys → length (cond a (k ∷ xs) xs) ≤ length (cond b (k ∷ ys) ys)
  step_le true true h l = omega arith
  step_le true false h l = absurd (false≢true (h refl))
  step_le false true h l = omega arith
  step_le false false h l = l

  step_lt : (a b : Bool) → (a ≡ true → b ≡ true) → length xs < length ys → length (cond a (k ∷ xs) xs) < length (cond b (k ∷ ys) ys)
  step_lt true true h l = omega arith
  step_lt true false h l = absurd (false≢true (h refl))
  step_lt false true h l = omega arith
  step_lt false false h l = l

  first_lt : (a b : Bool) → a ≡ false → b ≡ true → length xs ≤ length ys → length (cond a (k ∷ xs) xs) < length (cond b (k ∷ ys) ys)
  first_lt true b e f l = absurd (false≢true (sym e))
  first_lt false true e f l = omega arith
  first_lt false false e f l = absurd (false≢true f)

fewer_or_same : (last : Option PrefixValue) (p : PrefixValue) → is_above last p ≡ true → (ks : List PrefixValue)
    → length (filter (is_above (Some p)) ks) ≤ length (filter (is_above last) ks)
fewer_or_same last p a [] = omega arith
fewer_or_same last p a (k ∷ ks) = step_le k (filter (is_above (Some p)) ks) (filter (is_above last) ks)
    (is_above (Some p) k) (is_above last k) (above_too last p k a) (fewer_or_same last p a ks)

-- there are fewer prefixes above the next one
pub fewer : (last : Option PrefixValue) (p : PrefixValue) (ks : List PrefixValue) → first_above last ks ≡ Some p
    → length (filter (is_above (Some p)) ks) < length (filter (is_above last) ks)
fewer last p [] e = absurd cc
fewer last p (k ∷ ks) e =
    let a = next_passes last p (k ∷ ks) e in
    elim (is_above last k) as (λ b. is_above last k ≡ b → cond b (Some k) (first_above last ks) ≡ Some p
    → length (filter (is_above (Some p)) (k ∷ ks)) < length (filter (is_above last) (k ∷ ks))) [
      | true ↦ λ f g. first_lt k (filter (is_above (Some p)) ks) (filter (is_above last) ks) (is_above (Some p) k)
          (is_above last k) (ap (is_above (Some p)) (same_Some k p g) ∙ not_itself p) f (fewer_or_same last p a ks)
      | false ↦ λ f g. step_lt k (filter (is_above (Some p)) ks) (filter (is_above last) ks)
          (is_above (Some p) k) (is_above last k) (above_too last p k a) (fewer last p ks g)
    ] refl e

rest_rises : (b c : Bool) → T (b && c) → T c
rest_rises true c h = h
rest_rises false c h = absurd h

another : (last : Option PrefixValue) (q k : PrefixValue) → is_above last q ≡ true → is_above last k ≡ false → eq_by_cmp prefix_cmp q k ≡ true → ⊥
another last q k a n e = false≢true (sym n ∙ (ap (is_above last) (sym (tied q k e)) ∙ a))

miss : {A : Type 0} (b : Bool) (x : A) (o : Option A) → (b ≡ true → ⊥) → o ≡ None → cond b (Some x) o ≡ None
miss true x o h e = absurd (h refl)
miss false x o h e = e

-- ---- what has no entry

module _ {X : Type 0} where
  above_all : (q p : PrefixValue) (es : List (PrefixValue × X)) → prefix_cmp q p ≡ Less → AllAbove prefix_cmp p es → AllAbove prefix_cmp q es
  above_all q p [] e a = tt
  above_all q p (x ∷ es) e a = (prefix_total.trans q p x.0 e a.0, above_all q p es e a.1)

  -- nor is there one above the last of all
  pub none_past : (last : Option PrefixValue) (q : PrefixValue) → is_above last q ≡ true → (es : List (PrefixValue × X))
      → first_above last (map (λ e. e.0) es) ≡ None → table.find prefix_cmp q es ≡ None
  none_past last q a [] e = refl
  none_past last q a (x ∷ es) e =
      elim (is_above last x.0)
      as (λ b. is_above last x.0 ≡ b → cond b (Some x.0) (first_above last (map (λ e. e.0) es)) ≡ None → table.find prefix_cmp q (x ∷ es) ≡ None) [
        | true ↦ λ f g. absurd cc
        | false ↦ λ f g. miss (eq_by_cmp prefix_cmp q x.0) x.1 (table.find prefix_cmp q es) (another last q x.0 a f) (none_past last q a es g)
      ] refl e

-- ---- the entries that are left

module _ {X : Type 0} where
  -- the entries above a prefix
  abbrev pub kept : Option PrefixValue → List (PrefixValue × X) → List (PrefixValue × X)
  kept last es = filter (λ e. is_above last e.0) es

  all_kept : (last : Option PrefixValue) (p : PrefixValue) (es : List (PrefixValue × X)) → is_above last p ≡ true → AllAbove prefix_cmp p es → kept last es ≡ es
  all_kept last p [] a h = refl
  all_kept last p (x ∷ es) a h = rw (above_too last p x.0 a (ap is_lt h.0)) (ap (λ (l : List (PrefixValue × X)). x ∷ l) (all_kept last p es a h.1))

  all_past : (p : PrefixValue) (es : List (PrefixValue × X)) → AllAbove prefix_cmp p es → kept (Some p) es ≡ es
  all_past p [] h = refl
  all_past p (x ∷ es) h = rw h.0 (ap (λ (l : List (PrefixValue × X)). x ∷ l) (all_past p es h.1))

  -- the next prefix is above those that all are above
  next_above : (last : Option PrefixValue) (k p : PrefixValue) (es : List (PrefixValue × X)) → AllAbove prefix_cmp k es
      → first_above last (map (λ e. e.0) es) ≡ Some p → prefix_cmp k p ≡ Less
  next_above last k p [] h e = absurd cc
  next_above last k p (x ∷ es) h e =
      elim (is_above last x.0) as (λ b. cond b (Some x.0) (first_above last (map (λ e. e.0) es)) ≡ Some p → prefix_cmp k p ≡ Less) [
        | true ↦ λ f. subst (λ (q : PrefixValue). prefix_cmp k q ≡ Less) (same_Some x.0 p f) h.0
        | false ↦ λ f. next_above last k p es h.1 f
      ] e

  -- what is above the last prefix: the entry of the next one, and what is above that
  pub record Next (last : Option PrefixValue) (p : PrefixValue) (es : List (PrefixValue × X)) : Type 0 where
    pub value : X
    pub found : table.find prefix_cmp p es ≡ Some value
    pub is : kept last es ≡ (p, value) ∷ kept (Some p) es

  module _ (last : Option PrefixValue) (x : PrefixValue × X) (es : List (PrefixValue × X)) (above : AllAbove prefix_cmp x.0 es) where
    here : is_above last x.0 ≡ true → Next last x.0 (x ∷ es)
    here a =
        let itself = tied_itself prefix_total x.0 in
        let kept_here : kept last (x ∷ es) ≡ x ∷ es = rw a (ap (λ (l : List (PrefixValue × X)). x ∷ l) (all_kept last x.0 es a above)) in
        let kept_then : kept (Some x.0) (x ∷ es) ≡ es = rw itself (all_past x.0 es above) in
        record {
          value = x.1;
          found = rw itself refl;
          is = kept_here ∙ ap (λ (l : List (PrefixValue × X)). x ∷ l) (sym kept_then);
        }

    there : (p : PrefixValue) → is_above last x.0 ≡ false → first_above last (map (λ e. e.0) es) ≡ Some p → Next last p es → Next last p (x ∷ es)
    there p a f next =
        let later = reversed x.0 p Less (next_above last x.0 p es above f) in
        record {
          value = next.value;
          found = rw later next.found;
          is = rw a (rw later next.is);
        }

  pub next_entry : (last : Option PrefixValue) (p : PrefixValue) (es : List (PrefixValue × X)) → T (table.is_sorted prefix_cmp es)
      → first_above last (map (λ e. e.0) es) ≡ Some p → Next last p es
  next_entry last p [] rise e = absurd cc
  next_entry last p (x ∷ es) rise e =
      let above : AllAbove prefix_cmp x.0 es = (rising_parts prefix_total [] x es rise).1 in
      elim (is_above last x.0) as (λ b. is_above last x.0 ≡ b → cond b (Some x.0) (first_above last (map (λ e. e.0) es)) ≡ Some p → Next last p (x ∷ es)) [
        | true ↦ λ a f. subst (λ (q : PrefixValue). Next last q (x ∷ es)) (same_Some x.0 p f) (here last x es above a)
        | false ↦ λ a f. there last x es above p a f (next_entry last p es (rest_rises _ _ rise) f)
      ] refl e

  pub none_left : (last : Option PrefixValue) (es : List (PrefixValue × X)) → first_above last (map (λ e. e.0) es) ≡ None → kept last es ≡ []
  none_left last [] e = refl
  none_left last (x ∷ es) e =
      elim (is_above last x.0)
      as (λ b. is_above last x.0 ≡ b → cond b (Some x.0) (first_above last (map (λ e. e.0) es)) ≡ None → cond b (x ∷ kept last es) (kept last es) ≡ []) [
        | true ↦ λ a f. absurd cc
        | false ↦ λ a f. none_left last es f
      ] refl e

  -- none but the first entries are left out at the beginning
  all_at_first : (es : List (PrefixValue × X)) → kept None es ≡ es
  all_at_first [] = refl
  all_at_first (x ∷ es) = ap (λ (l : List (PrefixValue × X)). x ∷ l) (all_at_first es)

  -- ---- the walk: what was made of the entries so far, and of those that are left, is made of all

  module _ {A : Type 0} (f : PrefixValue × X → A) (es : List (PrefixValue × X)) where
    pub walk_begins : (done : List A) → done ≡ [] → done ++ map f (kept None es) ≡ map f es
    walk_begins done e = ap (λ (l : List A). l ++ map f (kept None es)) e ∙ ap (map f) (all_at_first es)

    pub walk_more : (done : List A) (last : Option PrefixValue) (p : PrefixValue) (value : X) → T (table.is_sorted prefix_cmp es)
        → first_above last (map (λ e. e.0) es) ≡ Some p → table.find prefix_cmp p es ≡ Some value
        → done ++ map f (kept last es) ≡ map f es → (done ++ f (p, value) ∷ []) ++ map f (kept (Some p) es) ≡ map f es
    walk_more done last p value rise first found so_far =
        let next = next_entry last p es rise first in
        let same : next.value ≡ value = same_Some next.value value (sym next.found ∙ found) in
        let is : kept last es ≡ (p, value) ∷ kept (Some p) es = next.is ∙ ap (λ (x : X). (p, x) ∷ kept (Some p) es) same in
        append_assoc done (f (p, value) ∷ []) (map f (kept (Some p) es)) ∙ ap (λ (l : List (PrefixValue × X)). done ++ map f l) (sym is) ∙ so_far

    pub walk_finds : (last : Option PrefixValue) (p : PrefixValue) → T (table.is_sorted prefix_cmp es)
        → first_above last (map (λ e. e.0) es) ≡ Some p → table.find prefix_cmp p es ≡ None → ⊥
    walk_finds last p rise first none = let next = next_entry last p es rise first in let both : None ≡ Some next.value = sym none ∙ next.found in absurd cc

    pub walk_ends : (done : List A) (last : Option PrefixValue) → first_above last (map (λ e. e.0) es) ≡ None
        → done ++ map f (kept last es) ≡ map f es → done ≡ map f es
    walk_ends done last none so_far = sym (append-nil done) ∙ ap (λ (l : List (PrefixValue × X)). done ++ map f l) (sym (none_left last es none)) ∙ so_far
