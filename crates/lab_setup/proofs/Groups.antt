-- The groups of the steps of a document, and where a step of one evacuates a router.
use Rattle.std.proofs.Common.{◌≡◌, ℕ, zero, suc, ◌+◌, ◌≤◌, Bool, true, false, cond, ◌||◌, List, [], ◌∷◌}
use Rattle.std.proofs.Common.{length, get_or, take, map, refl, sym, ap, ◌∙◌, subst, arith}
use Rattle.std.specs.Prelude.{Option, Some, None, unwrap_or, slice_get, filter, codes}
use Rattle.std.specs.List.{filter_map}
use Rattle.std.proofs.lemmas.List.Filters.{length-filter_more}
use Rattle.std.proofs.lemmas.Option.{unwrap_or-slice_get}
use Rattle.toml.specs.Data.{Data, string, integer, float, boolean, datetime, array, table, as_table, Members, get_member}
use Rattle.lab_keys.specs.declared.flaw.Flaw.{Flaw}
use Rattle.lab_keys.specs.declared.table_at.TableAt.TheVariants as tables
use Rattle.lab_keys.specs.Spots.{KeySpot, spot_of, member_of}
use Rattle.lab_keys.specs.Kinds.{each_from, list_of, array_flaw, table_flaw}
use Rattle.lab_keys.specs.Keys.{present, tables_flaw}
use Rattle.lab_keys.specs.Values.{items_in, items_at}
use Rattle.lab_keys.proofs.NoFlaws.{none_left, none_right}
use Rattle.lab_tables.specs.Scripts.{is_word, is_settle_word, is_evacuate, evacuates, group_from, group_before, step_flaw}
use Rattle.lab_tables.proofs.Groups.{IsGrouped, group_next}
use Rattle.lab_setup.proofs.Lists.{below_get, get_below, some_is, none_is}

-- ---- groups

or_true : (b : Bool) → (b || true) ≡ true
or_true true = refl
or_true false = refl

module _ (xs : List Data) where
  -- how many groups end before a step, whether a step before it in its group evacuates, and whether any step of its group does
  abbrev pub ends : ℕ → ℕ
  ends i = length (filter (is_word is_settle_word) (take i xs))

  abbrev pub before : ℕ → Bool
  before i = evacuates (group_before xs i)

  abbrev pub whole : ℕ → Bool
  whole i = before i || evacuates (group_from xs i)

  read : (i : ℕ) (x : Data) → slice_get xs i ≡ Some x → x ≡ get_or xs i x
  read i x at = sym (ap (λ o. unwrap_or o x) at) ∙ unwrap_or-slice_get xs i x

  grouped : (i : ℕ) (x : Data) → slice_get xs i ≡ Some x
      → IsGrouped xs (i + 1) (cond (is_word is_settle_word x) false (is_word is_evacuate x || before i))
      (cond (is_word is_settle_word x) (evacuates (group_from xs (i + 1))) (whole i))
  grouped i x at = group_next xs i x (before i) (whole i) _ _ (get_below xs i x at) (read i x at) (record { before_is = refl; whole_is = refl }) refl refl

  next_before : (i : ℕ) (x : Data) → slice_get xs i ≡ Some x → is_word is_settle_word x ≡ false → before (i + 1) ≡ (is_word is_evacuate x || before i)
  next_before i x at goes_on = sym (grouped i x at).before_is ∙ ap (λ t. cond t false (is_word is_evacuate x || before i)) goes_on

  next_whole : (i : ℕ) (x : Data) → slice_get xs i ≡ Some x → is_word is_settle_word x ≡ false → whole (i + 1) ≡ whole i
  next_whole i x at goes_on = sym (grouped i x at).whole_is ∙ ap (λ t. cond t (evacuates (group_from xs (i + 1))) (whole i)) goes_on

  -- ---- in one group

  one_more : (i : ℕ) (x : Data) → slice_get xs i ≡ Some x → ends (i + 1) ≡ ends i + cond (is_word is_settle_word x) 1 0
  one_more i x at =
      length-filter_more (is_word is_settle_word) xs i x (get_below xs i x at)
      ∙ ap (λ y. ends i + cond (is_word is_settle_word y) 1 0) (sym (read i x at))

  rises : (n j m : ℕ) → m ≡ n + j → m ≤ length xs → ends n ≤ ends m
  rises n zero m is within = let same : ends m ≡ ends n = ap ends (let e : m ≡ n = omega arith in e) in omega arith
  rises n (suc j) m is within =
      let here = below_get xs (n + j) (omega arith) in
      let more = one_more (n + j) here.x here.is in
      let same : ends m ≡ ends (n + j + 1) = ap ends (let e : m ≡ n + j + 1 = omega arith in e) in
      let past = rises n j (n + j) refl (omega arith) in
      omega (arith, more, same, past)

  record IsOneMore (n j : ℕ) : Type 0 where
    x : Data
    is : slice_get xs (n + j) ≡ Some x
    goes_on : is_word is_settle_word x ≡ false
    same : ends (n + j) ≡ ends n

  no_end : (t : Bool) (a b c : ℕ) → a ≤ b → c ≡ b + cond t 1 0 → c ≡ a → (t ≡ false) × (b ≡ a)
  no_end true a b c le more same = absurd (omega arith)
  no_end false a b c le more same = (refl, omega arith)

  last_one : (n j : ℕ) → n + j + 1 ≤ length xs → ends (n + j + 1) ≡ ends n → IsOneMore n j
  last_one n j within same =
      let here = below_get xs (n + j) (omega arith) in
      let not_ended = no_end (is_word is_settle_word here.x) (ends n) (ends (n + j)) (ends (n + j + 1))
      (rises n j (n + j) refl (omega arith)) (one_more (n + j) here.x here.is) same in
      record { x = here.x; is = here.is; goes_on = not_ended.0; same = not_ended.1 }

  pub one_group : (n j m : ℕ) → m ≡ n + j → m ≤ length xs → ends m ≡ ends n → whole m ≡ whole n
  one_group n zero m is within same = ap whole (let e : m ≡ n = omega arith in e)
  one_group n (suc j) m is within same =
      let e : m ≡ n + j + 1 = omega arith in
      let last = last_one n j (omega arith) (sym (ap ends e) ∙ same) in
      ap whole e ∙ next_whole (n + j) last.x last.is last.goes_on ∙ one_group n j (n + j) refl (omega arith) last.same

  module _ (n : ℕ) (x : Data) (at : slice_get xs n ≡ Some x) (empties : is_word is_evacuate x ≡ true) where
    behind_it : (last : IsOneMore n 0) → before (n + 0 + 1) ≡ true
    behind_it last =
        let index : n + 0 ≡ n = omega arith in
        let is_x : last.x ≡ x = some_is last.x x (sym last.is ∙ ap (slice_get xs) index ∙ at) in
        next_before (n + 0) last.x last.is last.goes_on ∙ ap (λ y. is_word is_evacuate y || before (n + 0)) is_x ∙ ap (λ t. t || before (n + 0)) empties

    further : (j : ℕ) (last : IsOneMore n j) → before (n + j) ≡ true → before (n + j + 1) ≡ true
    further j last past = next_before (n + j) last.x last.is last.goes_on ∙ ap (λ t. is_word is_evacuate last.x || t) past
        ∙ or_true (is_word is_evacuate last.x)

    pub evacuates_before : (j m : ℕ) → m ≡ n + j + 1 → m ≤ length xs → ends m ≡ ends n → before m ≡ true
    evacuates_before zero m is within same = ap before is ∙ behind_it (last_one n 0 (omega arith) (sym (ap ends is) ∙ same))
    evacuates_before (suc j) m is within same =
        let last = last_one n (suc j) (omega arith) (sym (ap ends is) ∙ same) in
        ap before is ∙ further (suc j) last (evacuates_before j (n + suc j) (omega arith) (omega arith) last.same)

    pub evacuates_whole : is_word is_settle_word x ≡ false → whole n ≡ true
    evacuates_whole goes_on =
        let here : before (n + 1) ≡ true = next_before n x at goes_on ∙ ap (λ t. t || before n) empties in
        sym (next_whole n x at goes_on) ∙ ap (λ t. t || evacuates (group_from xs (n + 1))) here

-- ---- the tables of an array without a flaw

pub record AreTables (flaw : ℕ → Members → Option Flaw) (ds : List Data) : Type 0 where
  pub whole : ds ≡ map table (filter_map as_table ds)
  pub each : (k : ℕ) (t : Members) → slice_get (filter_map as_table ds) k ≡ Some t → flaw k t ≡ None

none_some : {A : Type 0} (x : A) → Some x ≡ None → ⊥
none_some x e = cc

module _ (at : KeySpot) (flaw : ℕ → Members → Option Flaw) where
  abbrev flaws : ℕ → Data → Option Flaw
  flaws i = table_flaw (member_of at i) (flaw i)

  record AreFrom (i : ℕ) (ds : List Data) : Type 0 where
    whole : ds ≡ map table (filter_map as_table ds)
    each : (k n : ℕ) (t : Members) → n ≡ i + k → slice_get (filter_map as_table ds) k ≡ Some t → flaw n t ≡ None

  one_table : (i : ℕ) (t : Members) (ds : List Data) → flaw i t ≡ None → AreFrom (i + 1) ds → AreFrom i (table t ∷ ds)
  one_table i t ds none rest = record { whole = ap (λ ys. table t ∷ ys) rest.whole; each = each }
    where
      each : (k n : ℕ) (u : Members) → n ≡ i + k → slice_get (t ∷ filter_map as_table ds) k ≡ Some u → flaw n u ≡ None
      each zero n u is there = subst (λ z. flaw n z ≡ None) (some_is t u there) (subst (λ z. flaw z t ≡ None) (let e : i ≡ n = omega arith in e) none)
      each (suc k) n u is there = rest.each k n u (omega arith) there

  tables_from : (i : ℕ) (ds : List Data) → each_from flaws i ds ≡ None → AreFrom i ds
  tables_from i [] none = record { whole = refl; each = λ k n t is there. absurd (none_is t there) }
  tables_from i (d ∷ ds) none = by_kind d (none_left (flaws i d) (each_from flaws (i + 1) ds) none)
      (tables_from (i + 1) ds (none_right (flaws i d) (each_from flaws (i + 1) ds) none))
    where
      by_kind : (d : Data) → flaws i d ≡ None → AreFrom (i + 1) ds → AreFrom i (d ∷ ds)
      by_kind (table t) none rest = one_table i t ds none rest
      by_kind (string _) none rest = absurd (none_some _ none)
      by_kind (integer _) none rest = absurd (none_some _ none)
      by_kind (float _) none rest = absurd (none_some _ none)
      by_kind (boolean _) none rest = absurd (none_some _ none)
      by_kind (datetime _) none rest = absurd (none_some _ none)
      by_kind (array _) none rest = absurd (none_some _ none)

  tables_in : (low high : ℕ) (d : Data) → array_flaw at low high flaws d ≡ None → AreTables flaw (items_in (Some d))
  tables_in low high (array items) none =
      let from = tables_from 0 (list_of items) (none_right _ (each_from flaws 0 (list_of items)) none) in
      record { whole = from.whole; each = λ k t there. from.each k k t (omega arith) there }
  tables_in low high (string _) none = absurd (none_some _ none)
  tables_in low high (integer _) none = absurd (none_some _ none)
  tables_in low high (float _) none = absurd (none_some _ none)
  tables_in low high (boolean _) none = absurd (none_some _ none)
  tables_in low high (datetime _) none = absurd (none_some _ none)
  tables_in low high (table _) none = absurd (none_some _ none)

-- the steps of a document without a flaw
abbrev pub StepsAreTables : Members → Type 0
StepsAreTables doc = AreTables (step_flaw (items_at (codes "step") doc)) (items_at (codes "step") doc)

pub steps_tables : (doc : Members) → tables_flaw tables.Top (codes "step") false 0 4096 (step_flaw (items_at (codes "step") doc)) doc ≡ None
    → StepsAreTables doc
steps_tables doc none = by_value (get_member (codes "step") doc) none where
  flaw : ℕ → Members → Option Flaw
  flaw = step_flaw (items_at (codes "step") doc)

  at : KeySpot
  at = spot_of tables.Top (codes "step")

  by_value : (o : Option Data) → present at false (array_flaw at 0 4096 (flaws at flaw)) o ≡ None → AreTables flaw (items_in o)
  by_value None none = record { whole = refl; each = λ k t there. absurd (none_is t there) }
  by_value (Some d) none = tables_in at flaw 0 4096 d none
