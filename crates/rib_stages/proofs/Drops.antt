-- A source's routes go one after another.
use Rattle.std.proofs.Common.{◌≡◌, ℕ, zero, suc, ◌-◌, ◌<◌, ◌==◌, Bool, true, false, cond, List, [], ◌∷◌}
use Rattle.std.proofs.Common.{Option, Some, None, refl, sym, ap, subst, ◌∙◌, arith, inl, inr}
use Rattle.std.specs.Prelude.{◌≢◌, ◌⊎◌, ◌||◌, is_some}
use Rattle.std.specs.FinMap as map
use Rattle.std.specs.List.{list_any}
use Rattle.std.specs.Ordering.{eq_by_cmp}
use Rattle.bgp_types.specs.Prefixes.{PrefixValue}
use Rattle.bgp_types.specs.Tables.{prefix_cmp, first_above}
use Rattle.bgp_types.proofs.TableLaws.{prefix_total}
use Rattle.bgp_types.specs.declared.rank.From.{From}
use Rattle.bgp_types.specs.declared.rank.From.TheVariants.{Own, Peering, Router}
use Rattle.loc_rib.specs.Values.{with_value}
use Rattle.session_value.specs.Points.{at}
use Rattle.session_value.specs.Sets.{Entries, Tellings, Prefixes, Marks}
use Rattle.rib_stages.specs.Values.{RibValue, Given, table_from}
use Rattle.rib_stages.specs.Choosing.{prefixes_from}
use Rattle.rib_stages.specs.Steps.{Enters, Drops, DropsAll, with_table}
use Rattle.rib_stages.proofs.Marks.{with_gives, marks_next, itself}
use Rattle.rib_stages.proofs.Tables.{at-itself, there_at}

-- ---- one table

-- the least prefix of a table is in it
least_of : (ks : List PrefixValue) (p : PrefixValue) → first_above None ks ≡ Some p → list_any (eq_by_cmp prefix_cmp p) ks ≡ true
least_of [] p e = absurd cc
least_of (k ∷ ks) p e =
    let same : k ≡ p = ap (λ (o : Option PrefixValue). Rattle.std.specs.Option.unwrap_or o k) e in
    ap (λ (x : PrefixValue). eq_by_cmp prefix_cmp p x || list_any (eq_by_cmp prefix_cmp p) ks) same
    ∙ ap (λ (b : Bool). b || list_any (eq_by_cmp prefix_cmp p) ks) (itself p)

no_least : (ks : List PrefixValue) → first_above None ks ≡ None → (q : PrefixValue) → list_any (eq_by_cmp prefix_cmp q) ks ≡ false
no_least [] e q = refl
no_least (k ∷ ks) e q = absurd cc

module _ {A : Type 0} where
  pub least_is : (table : map.FinMap prefix_cmp A) (p : PrefixValue) → first_above None (map.keys table) ≡ Some p → is_some (map.get table p) ≡ true
  least_is table p e = map.contains_key-keys table p ∙ least_of (map.keys table) p e

  none_of : (o : Option A) → is_some o ≡ false → o ≡ None
  none_of None e = refl
  none_of (Some x) e = absurd cc

  -- a table without a least prefix has none
  pub no_least_is : (table : map.FinMap prefix_cmp A) → first_above None (map.keys table) ≡ None → table ≡ map.empty
  no_least_is table e = map.same_map prefix_total Rattle.bgp_types.proofs.TableLaws.exact_prefixes table map.empty
      (λ q. none_of (map.get table q) (map.contains_key-keys table q ∙ no_least (map.keys table) e q) ∙ sym (map.get-empty prefix_cmp q))

  -- what is left of a table
  abbrev pub IsLeft : map.FinMap prefix_cmp A → map.FinMap prefix_cmp A → Type 0
  IsLeft before after = (prefix : PrefixValue) → (map.get after prefix ≡ None) ⊎ (map.get after prefix ≡ map.get before prefix)

  has_length : (table : map.FinMap prefix_cmp A) (p : PrefixValue) → is_some (map.get table p) ≡ true → (k : ℕ) → map.len table ≡ k → 0 < k
  has_length table p there zero e = absurd (let none : map.get table p ≡ None = ap (λ (t : map.FinMap prefix_cmp A). map.get t p) (map.empty_of_len table e)
      ∙ map.get-empty prefix_cmp p in let f : ◌≡◌ {A = Bool} false true = ap is_some (sym none) ∙ there in cc)
  has_length table p there (suc k) e = omega arith

  -- the length falls where a prefix that is there goes
  pub fewer_left : (table : map.FinMap prefix_cmp A) (p : PrefixValue) → is_some (map.get table p) ≡ true → map.len (with_value table p None) < map.len table
  fewer_left table p there =
      let n : map.len (with_value table p None) ≡ map.len table - 1 =
      map.len-remove prefix_total table p ∙ ap (λ (b : Bool). cond b (map.len table - 1) (map.len table)) there in
      omega (arith, n, has_length table p there (map.len table) refl)

  module _ (before now : map.FinMap prefix_cmp A) (p : PrefixValue) (there : is_some (map.get now p) ≡ true) (left : IsLeft before now) where
    still : map.get now p ≡ map.get before p
    still = elim (left p) [
      | inl none ↦ absurd (let f : ◌≡◌ {A = Bool} false true = ap is_some (sym none) ∙ there in cc)
      | inr same ↦ same
    ]

    -- one more goes
    pub left_more : IsLeft before (with_value now p None)
    left_more q = by_test (eq_by_cmp prefix_cmp q p) refl where
      by_test : (b : Bool) → eq_by_cmp prefix_cmp q p ≡ b → (map.get (with_value now p None) q ≡ None) ⊎ (map.get (with_value now p None) q ≡ map.get before q)
      by_test true e = inl (with_gives now p q None ∙ ap (λ (b : Bool). cond b None (map.get now q)) e)
      by_test false e = let same = with_gives now p q None ∙ ap (λ (b : Bool). cond b None (map.get now q)) e in
          elim (left q) [ inl none ↦ inl (same ∙ none) | inr is ↦ inr (same ∙ is) ]

    pub marks_more : (first marked : Prefixes) → Marks first before now marked → Marks first before (with_value now p None) (map.insert marked p tt)
    marks_more first marked marks = marks_next first marked (map.insert marked p tt) before now p None marks still
        (inr ((λ none. let f : ◌≡◌ {A = Bool} false true = ap is_some none ∙ there in cc), refl))

  pub marks_none : (set : Prefixes) (table : map.FinMap prefix_cmp A) → Marks set table table set
  marks_none set table = record { marked = λ q is. inl is; others = λ q is. (is, refl) }

  twice : (f : ℕ → map.FinMap prefix_cmp A) (p : ℕ) (t u : map.FinMap prefix_cmp A) → at (at f p t) p u ≡ at f p u
  twice f p t u = λ i n. by_test (n == p) (f n) i where
    by_test : (b : Bool) (r : map.FinMap prefix_cmp A) → cond b u (cond b t r) ≡ cond b u r
    by_test true r = refl
    by_test false r = refl

-- ---- what a source gives

module _ (rib : RibValue) where
  pub same_table : (from : From) → with_table rib from (table_from rib from) rib.dirty ≡ rib
  same_table Own = refl
  same_table (Peering p) = ap (λ (f : ℕ → Entries). record rib { entries = f }) (at-itself rib.entries p.0)
  same_table (Router q) = ap (λ (f : ℕ → Tellings). record rib { tellings = f }) (at-itself rib.tellings q.0)

  table_is : (from : From) → from ≢ Own → (table : map.FinMap prefix_cmp (Given from)) (dirty : Prefixes)
      → table_from (with_table rib from table dirty) from ≡ table
  table_is Own not table dirty = absurd (not refl)
  table_is (Peering p) not table dirty = there_at rib.entries p.0 table
  table_is (Router q) not table dirty = there_at rib.tellings q.0 table

  last_table : (from : From) (t u : map.FinMap prefix_cmp (Given from)) (d e : Prefixes)
      → with_table (with_table rib from t d) from u e ≡ with_table rib from u e
  last_table Own t u d e = refl
  last_table (Peering p) t u d e = ap (λ (f : ℕ → Entries). record rib { entries = f; dirty = e }) (twice rib.entries p.0 t u)
  last_table (Router q) t u d e = ap (λ (f : ℕ → Tellings). record rib { tellings = f; dirty = e }) (twice rib.tellings q.0 t u)

  -- the least prefix of a source
  pub least_given : (from : From) (prefix : PrefixValue) → first_above None (prefixes_from rib from) ≡ Some prefix
      → is_some (map.get (table_from rib from) prefix) ≡ true
  least_given Own prefix e = least_is (table_from rib Own) prefix e
  least_given (Peering p) prefix e = least_is (rib.entries p.0) prefix e
  least_given (Router q) prefix e = least_is (rib.tellings q.0) prefix e

  pub none_given : (from : From) → first_above None (prefixes_from rib from) ≡ None → table_from rib from ≡ map.empty
  none_given Own e = no_least_is (table_from rib Own) e
  none_given (Peering p) e = no_least_is (rib.entries p.0) e
  none_given (Router q) e = no_least_is (rib.tellings q.0) e

module _ (before now after : RibValue) (from : From) (given : from ≢ Own) (prefix : PrefixValue) (drops : Drops before from now)
    (there : is_some (map.get (table_from now from) prefix) ≡ true) (goes : Enters now from prefix None after) where
  abbrev then : map.FinMap prefix_cmp (Given from)
  then = with_value (table_from now from) prefix None

  pub then_is : table_from after from ≡ then
  then_is = ap (λ (r : RibValue). table_from r from) goes.effect ∙ table_is now from given then (map.insert now.dirty prefix tt)

  dirty_is : after.dirty ≡ map.insert now.dirty prefix tt
  dirty_is = ap (λ (r : RibValue). r.dirty) goes.effect

  pub drops_more : Drops before from after
  drops_more = record {
    left = subst (IsLeft (table_from before from)) (sym then_is) (left_more (table_from before from) (table_from now from) prefix there drops.left);
    dirty = subst (λ (p : map.FinMap prefix_cmp (Given from) × Prefixes). Marks before.dirty (table_from before from) p.0 p.1)
        (λ i. (sym then_is i, sym dirty_is i))
        (marks_more (table_from before from) (table_from now from) prefix there drops.left before.dirty now.dirty drops.dirty);
    effect =
        goes.effect
        ∙ (ap (λ (r : RibValue). with_table r from then (map.insert now.dirty prefix tt)) drops.effect
        ∙ (last_table before from (table_from now from) then now.dirty (map.insert now.dirty prefix tt)
        ∙ λ i. with_table before from (sym then_is i) (sym dirty_is i)));
  }

pub drops_all : (before after : RibValue) (from : From) → from ≢ Own → Drops before from after → table_from after from ≡ map.empty → DropsAll before from after
drops_all before after Own not drops none = absurd (not refl)
drops_all before after (Peering p) not drops none = (drops, none)
drops_all before after (Router q) not drops none = (drops, none)
