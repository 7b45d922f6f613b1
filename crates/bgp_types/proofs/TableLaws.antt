-- The order of prefixes, and what a table answers after a change.
use Rattle.std.proofs.Common.{◌≡◌, ℕ, Bool, true, false, cond, not, ◌&&◌, List, [], ◌∷◌, ◌++◌, map, length, Some, None, refl, sym, ap, ◌∙◌}
use Rattle.std.specs.Prelude.{T}
use Rattle.std.specs.declared.cmp.Ordering.{Ordering}
use Rattle.std.specs.declared.cmp.Ordering.TheVariants.{Less, Equal, Greater}
use Rattle.std.specs.Ordering.{nat_cmp, eq_by_cmp, is_eq, is_lt, ordering_reverse}
use Rattle.std.specs.List.{AllByRecursion}
use Rattle.std.specs.Cmp.{IsTotalOrder, nat_cmp_total, eq_by_cmp_equiv, alike_right}
use Rattle.std.specs.FinMap.{IsAntisymmetric, get, insert, remove, keys, len, from_sorted, is_sorted, find, put}
use Rattle.std.specs.FinMap.{same_map, same_entries_map, entries-from_sorted, entries-insert, get-from_sorted}
use Rattle.std.specs.FinMap.{len-entries, get-empty, get-insert, get-remove, len-empty, len-insert, len-remove}
use Rattle.std.specs.FinMap.Entries.{by_order, below_all, where_key, find-where_key, is_sorted-put, is_sorted-where_key}
use Rattle.std.proofs.lemmas.Cmp.{on_total, then_total}
use Rattle.std.proofs.lemmas.Map.Lookups.{exact_pairs, exact_unsigned}
use Rattle.bgp_types.specs.Prefixes.{PrefixValue}
use Rattle.bgp_types.specs.Tables.{prefix_cmp, is_above, first_above}

pub prefix_total : IsTotalOrder prefix_cmp
prefix_total = then_total (on_total (λ p. p.address) nat_cmp_total) (on_total (λ p. p.len) nat_cmp_total)

-- prefixes that compare alike are one
pub exact_prefixes : IsAntisymmetric prefix_cmp
exact_prefixes p q e = ap (λ (x : ℕ × ℕ). record { address = x.0; len = x.1 })
    (exact_pairs nat_cmp nat_cmp exact_unsigned exact_unsigned (p.address, p.len) (q.address, q.len) e)

equal : (o : Ordering) → is_eq o ≡ true → o ≡ Equal
equal Less e = absurd cc
equal Equal e = refl
equal Greater e = absurd cc

-- prefixes that tie are one
pub tied : (p q : PrefixValue) → eq_by_cmp prefix_cmp p q ≡ true → p ≡ q
tied p q e = exact_prefixes p q (equal _ e)

-- what `get` and `len` answer after a change of a table, with the order of prefixes
pub ruleset table_gets = (get-empty, get-insert, get-remove, len-empty, len-insert, len-remove, prefix_total)

-- ---- lists of entries in order, in two parts

module _ {K X : Type 0} (R : K → K → Ordering) where
  -- each key is below k, or above it
  abbrev pub AllBelow : K → List (K × X) → Type 0
  AllBelow k es = AllByRecursion (λ e. R k e.0 ≡ Greater) es

  abbrev pub AllAbove : K → List (K × X) → Type 0
  AllAbove k es = AllByRecursion (λ e. R k e.0 ≡ Less) es

  -- the entries of other keys
  abbrev pub without : K → List (K × X) → List (K × X)
  without k es = where_key R (λ x. not (eq_by_cmp R k x)) es

  pub put_right : (k : K) (v : X) (xs ys : List (K × X)) → AllBelow k xs → put R k v (xs ++ ys) ≡ xs ++ put R k v ys
  put_right k v [] ys b = refl
  put_right k v (x ∷ xs) ys b = rw b.0 (ap (λ (es : List (K × X)). x ∷ es) (put_right k v xs ys b.1))

  put_first : (k : K) (v : X) (ys : List (K × X)) → AllAbove k ys → put R k v ys ≡ (k, v) ∷ ys
  put_first k v [] a = refl
  put_first k v (y ∷ ys) a = rw a.0 refl

  pub put_left : (k : K) (v : X) (xs ys : List (K × X)) → AllAbove k ys → put R k v (xs ++ ys) ≡ put R k v xs ++ ys
  put_left k v [] ys a = put_first k v ys a
  put_left k v (x ∷ xs) ys a =
      elim (R k x.0) as (λ o. by_order o ((k, v) ∷ x ∷ (xs ++ ys)) ((x.0, v) ∷ (xs ++ ys)) (x ∷ put R k v (xs ++ ys))
      ≡ by_order o ((k, v) ∷ x ∷ xs) ((x.0, v) ∷ xs) (x ∷ put R k v xs) ++ ys) [
        | Less ↦ refl
        | Equal ↦ refl
        | Greater ↦ ap (λ (es : List (K × X)). x ∷ es) (put_left k v xs ys a)
      ]

  pub find_right : (k : K) (xs ys : List (K × X)) → AllBelow k xs → find R k (xs ++ ys) ≡ find R k ys
  find_right k [] ys b = refl
  find_right k (x ∷ xs) ys b = rw b.0 (find_right k xs ys b.1)

  pub find_above : (k : K) (ys : List (K × X)) → AllAbove k ys → find R k ys ≡ None
  find_above k [] a = refl
  find_above k (y ∷ ys) a = rw a.0 (find_above k ys a.1)

  pub find_left : (k : K) (xs ys : List (K × X)) → AllAbove k ys → find R k (xs ++ ys) ≡ find R k xs
  find_left k [] ys a = find_above k ys a
  find_left k (x ∷ xs) ys a = ap (cond (eq_by_cmp R k x.0) (Some x.1)) (find_left k xs ys a)

  pub without_right : (k : K) (xs ys : List (K × X)) → AllBelow k xs → without k (xs ++ ys) ≡ xs ++ without k ys
  without_right k [] ys b = refl
  without_right k (x ∷ xs) ys b = rw b.0 (ap (λ (es : List (K × X)). x ∷ es) (without_right k xs ys b.1))

  pub without_above : (k : K) (ys : List (K × X)) → AllAbove k ys → without k ys ≡ ys
  without_above k [] a = refl
  without_above k (y ∷ ys) a = rw a.0 (ap (λ (es : List (K × X)). y ∷ es) (without_above k ys a.1))

  pub without_left : (k : K) (xs ys : List (K × X)) → AllAbove k ys → without k (xs ++ ys) ≡ without k xs ++ ys
  without_left k [] ys a = without_above k ys a
  without_left k (x ∷ xs) ys a =
      elim (not (eq_by_cmp R k x.0)) as (λ b. cond b (x ∷ without k (xs ++ ys)) (without k (xs ++ ys)) ≡ cond b (x ∷ without k xs) (without k xs) ++ ys) [
        | true ↦ ap (λ (es : List (K × X)). x ∷ es) (without_left k xs ys a)
        | false ↦ without_left k xs ys a
      ]

-- ---- entries whose keys rise

and_first : (a b : Bool) → T (a && b) → T a
and_first true b h = tt
and_first false b h = absurd h

and_second : (a b : Bool) → T (a && b) → T b
and_second true b h = h
and_second false b h = absurd h

and_both : (a b : Bool) → T a → T b → T (a && b)
and_both true b g h = h
and_both false b g h = absurd g

is_less : (o : Ordering) → T (is_lt o) → o ≡ Less
is_less Less h = refl
is_less Equal h = absurd h
is_less Greater h = absurd h

module _ {K X : Type 0} {R : K → K → Ordering} (o : IsTotalOrder R) where
  all_above : (k : K) (es : List (K × X)) → T (below_all R k es) → AllAbove R k es
  all_above k [] h = tt
  all_above k (e ∷ es) h = (is_less _ (and_first _ _ h), all_above k es (and_second (is_lt (R k e.0)) _ h))

  below_each : (k : K) (es : List (K × X)) → AllAbove R k es → T (below_all R k es)
  below_each k [] a = tt
  below_each k (e ∷ es) a = rw a.0 (below_each k es a.1)

  above_last : (k : K) (xs : List (K × X)) (e : K × X) (ys : List (K × X)) → T (below_all R k (xs ++ e ∷ ys)) → R k e.0 ≡ Less
  above_last k [] e ys h = is_less _ (and_first _ _ h)
  above_last k (x ∷ xs) e ys h = above_last k xs e ys (and_second (is_lt (R k x.0)) _ h)

  -- what stands before an entry is below it, and what stands after it is above it
  pub rising_parts : (xs : List (K × X)) (e : K × X) (ys : List (K × X)) → T (is_sorted R (xs ++ e ∷ ys)) → AllBelow R e.0 xs × AllAbove R e.0 ys
  rising_parts [] e ys h = (tt, all_above e.0 ys (and_first _ _ h))
  rising_parts (x ∷ xs) e ys h =
      let rest = rising_parts xs e ys (and_second (below_all R x.0 (xs ++ e ∷ ys)) _ h) in
      let less = above_last x.0 xs e ys (and_first _ _ h) in
      ((o.antisymm e.0 x.0 ∙ ap ordering_reverse less, rest.0), rest.1)

  above_both : (k : K) (xs ys : List (K × X)) → AllAbove R k xs → AllAbove R k ys → AllAbove R k (xs ++ ys)
  above_both k [] ys a b = b
  above_both k (x ∷ xs) ys a b = (a.0, above_both k xs ys a.1 b)

  -- two lists that rise, the second above the first
  pub rising_append : (xs ys : List (K × X)) → T (is_sorted R xs) → T (is_sorted R ys) → AllByRecursion (λ x. AllAbove R x.0 ys) xs → T (is_sorted R (xs ++ ys))
  rising_append [] ys g h a = h
  rising_append (x ∷ xs) ys g h a =
      and_both (below_all R x.0 (xs ++ ys)) _ (below_each x.0 (xs ++ ys) (above_both x.0 xs ys (all_above x.0 xs (and_first _ _ g)) a.0))
      (rising_append xs ys (and_second (below_all R x.0 xs) _ g) h a.1)

-- ---- a table as the list of its entries, whose prefixes rise

turned : {A : Type 0} (b : Bool) (x y : A) → cond (not b) x y ≡ cond b y x
turned true x y = refl
turned false x y = refl

module _ {X : Type 0} (es : List (PrefixValue × X)) (rise : T (is_sorted prefix_cmp es)) where
  pub rise_put : (p : PrefixValue) (v : X) → T (is_sorted prefix_cmp (put prefix_cmp p v es))
  rise_put p v = is_sorted-put prefix_cmp prefix_total p v es rise

  pub rise_without : (p : PrefixValue) → T (is_sorted prefix_cmp (without prefix_cmp p es))
  rise_without p = is_sorted-where_key prefix_cmp (λ x. not (eq_by_cmp prefix_cmp p x)) es rise

  pub table_get : (p : PrefixValue) → get (from_sorted {R = prefix_cmp} es) p ≡ find prefix_cmp p es
  table_get p = get-from_sorted prefix_cmp es p rise

  pub table_keys : keys (from_sorted {R = prefix_cmp} es) ≡ map (λ e. e.0) es
  table_keys = ap (map (λ e. e.0)) (entries-from_sorted prefix_cmp es rise)

  pub table_len : len (from_sorted {R = prefix_cmp} es) ≡ length es
  table_len = len-entries _ ∙ ap length (entries-from_sorted prefix_cmp es rise)

  pub table_put : (p : PrefixValue) (v : X) → from_sorted {R = prefix_cmp} (put prefix_cmp p v es) ≡ insert (from_sorted es) p v
  table_put p v = same_entries_map _ _
      (entries-from_sorted prefix_cmp (put prefix_cmp p v es) (rise_put p v)
      ∙ (ap (put prefix_cmp p v) (sym (entries-from_sorted prefix_cmp es rise))
      ∙ sym (entries-insert prefix_total (from_sorted es) p v)))

  pub table_without : (p : PrefixValue) → from_sorted {R = prefix_cmp} (without prefix_cmp p es) ≡ remove (from_sorted es) p
  table_without p = same_map prefix_total exact_prefixes _ _ (λ q.
      get-from_sorted prefix_cmp (without prefix_cmp p es) q (rise_without p)
      ∙ (find-where_key prefix_cmp (λ x. not (eq_by_cmp prefix_cmp p x)) q
      (λ x t. ap (λ (o : Ordering). not (is_eq o)) (sym (alike_right prefix_total q x p t))) es
      ∙ (turned (eq_by_cmp prefix_cmp p q) (find prefix_cmp q es) None
      ∙ (ap (λ (b : Bool). cond b None (find prefix_cmp q es)) ((eq_by_cmp_equiv prefix_total).symm p q)
      ∙ (ap (cond (eq_by_cmp prefix_cmp q p) None) (sym (table_get q))
      ∙ sym (get-remove prefix_total (from_sorted es) p q))))))

-- ---- the next prefix

module _ {X : Type 0} where
  -- what is not above p is passed over
  pub next_right : (p : PrefixValue) (xs ys : List (PrefixValue × X)) → AllByRecursion (λ e. is_above (Some p) e.0 ≡ false) xs
      → first_above (Some p) (map (λ e. e.0) (xs ++ ys)) ≡ first_above (Some p) (map (λ e. e.0) ys)
  next_right p [] ys b = refl
  next_right p (x ∷ xs) ys b = rw b.0 (next_right p xs ys b.1)

  pub below_not_above : (p : PrefixValue) (xs : List (PrefixValue × X)) → AllBelow prefix_cmp p xs → AllByRecursion (λ e. is_above (Some p) e.0 ≡ false) xs
  below_not_above p [] b = tt
  below_not_above p (x ∷ xs) b = (ap is_lt b.0, below_not_above p xs b.1)
