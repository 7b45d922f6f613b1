-- What a set that is kept in slots answers, and what a change of it leaves.
use Rattle.std.proofs.Common.{◌≡◌, Bool, true, false, cond, List, [], ◌∷◌, Option, Some, None, refl, sym, ap, ◌∙◌, subst}
use Rattle.std.specs.Prelude.{T, is_some, Result, Ok, Err, is_ok, OnOk, OnErr, ◌||◌, ◌&&◌}
use Rattle.std.specs.Ordering.{eq_by_cmp}
use Rattle.std.specs.List.{list_any}
use Rattle.std.specs.FinMap as map
use Rattle.std.specs.FinMap.Entries.{find-put}
use Rattle.bgp_types.specs.Prefixes.{PrefixValue}
use Rattle.bgp_types.specs.Tables.{prefix_cmp}
use Rattle.bgp_types.proofs.TableLaws.{prefix_total, exact_prefixes, tied, AllAbove, find_above, rising_parts, rise_put}
use Rattle.prefix_set.specs.Slots.{PrefixSet, Slot, is_held, united, those_in, with_all}

and_second : (a b : Bool) → T (a && b) → T b
and_second true b h = h
and_second false b h = absurd h

-- what stands behind a slot is above it, and rises
pub behind : (slot : Slot) (slots : List Slot) → T (map.is_sorted prefix_cmp (slot ∷ slots))
    → record { above : AllAbove prefix_cmp slot.0 slots; rise : T (map.is_sorted prefix_cmp slots) }
behind slot slots rise = record { above = (rising_parts prefix_total [] slot slots rise).1; rise = and_second _ _ rise }

abbrev here : Option (Unit {0})
here = Some tt

-- ---- what the set answers

united_get : (slots : List Slot) → T (map.is_sorted prefix_cmp slots) → (beside : PrefixSet) (q : PrefixValue)
    → map.get (united slots beside) q ≡ cond (is_held (map.find prefix_cmp q slots)) here (map.get beside q)
united_get [] rise beside q = refl
united_get ((p, true) ∷ slots) rise beside q =
    map.get-insert prefix_total (united slots beside) p tt q
    ∙ elim (eq_by_cmp prefix_cmp q p)
    as (λ b. cond b here (map.get (united slots beside) q) ≡ cond (is_held (cond b (Some true) (map.find prefix_cmp q slots))) here (map.get beside q)) [
      | true ↦ refl
      | false ↦ united_get slots (behind (p, true) slots rise).rise beside q
    ]
united_get ((p, false) ∷ slots) rise beside q =
    let parts = behind (p, false) slots rise in
    let rest = united_get slots parts.rise beside q in
    elim (eq_by_cmp prefix_cmp q p) as (λ b. eq_by_cmp prefix_cmp q p ≡ b
    → map.get (united slots beside) q ≡ cond (is_held (cond b (Some false) (map.find prefix_cmp q slots))) here (map.get beside q)) [
      | true ↦ λ e. rest ∙ ap (λ (o : Option Bool). cond (is_held o) here (map.get beside q))
          (find_above prefix_cmp q slots (subst (λ (k : PrefixValue). AllAbove prefix_cmp k slots) (sym (tied q p e)) parts.above))
      | false ↦ λ e. rest
    ] refl

listed_get : (slots : List Slot) (beside : PrefixSet) (q : PrefixValue)
    → map.get (united slots beside) q ≡ cond (list_any (eq_by_cmp prefix_cmp q) (those_in slots)) here (map.get beside q)
listed_get [] beside q = refl
listed_get ((p, true) ∷ slots) beside q =
    map.get-insert prefix_total (united slots beside) p tt q
    ∙ elim (eq_by_cmp prefix_cmp q p)
    as (λ b. cond b here (map.get (united slots beside) q) ≡ cond (b || list_any (eq_by_cmp prefix_cmp q) (those_in slots)) here (map.get beside q)) [
      | true ↦ refl
      | false ↦ listed_get slots beside q
    ]
listed_get ((p, false) ∷ slots) beside q = listed_get slots beside q

some_either : (b : Bool) (o : Option (Unit {0})) → is_some (cond b here o) ≡ (b || is_some o)
some_either true o = refl
some_either false o = refl

-- a prefix is in the set if the slots hold it, or the set beside has it
pub is_in_either : (slots : List Slot) → T (map.is_sorted prefix_cmp slots) → (beside : PrefixSet) (p : PrefixValue)
    → is_some (map.get (united slots beside) p) ≡ (is_held (map.find prefix_cmp p slots) || is_some (map.get beside p))
is_in_either slots rise beside p = ap is_some (united_get slots rise beside p) ∙ some_either (is_held (map.find prefix_cmp p slots)) (map.get beside p)

either_none : (b : Bool) → ◌≡◌ {A = Option (Unit {0})} (cond b None None) None
either_none true = refl
either_none false = refl

pub one_value : (o : Option (Unit {0})) → is_some o ≡ true → o ≡ here
one_value None is = absurd (let e : ◌≡◌ {A = Bool} false true = is in cc)
one_value (Some u) is = refl

-- nothing is taken out of an empty set
pub removed_empty : (set : PrefixSet) (p : PrefixValue) → map.len set ≡ 0 → set ≡ map.remove set p
removed_empty set p none = map.same_map prefix_total exact_prefixes _ _ (λ q.
    let absent : map.get set q ≡ None = ap (λ (s : PrefixSet). map.get s q) (map.empty_of_len set none) ∙ map.get-empty prefix_cmp q in
    absent ∙ sym (map.get-remove prefix_total set p q ∙ (ap (cond (eq_by_cmp prefix_cmp q p) None) absent ∙ either_none (eq_by_cmp prefix_cmp q p))))

-- a value that is there is put in again
pub inserted_again : {A : Type 0} (table : map.FinMap prefix_cmp A) (p : PrefixValue) (x : A) → map.get table p ≡ Some x → map.insert table p x ≡ table
inserted_again table p x is = map.same_map prefix_total exact_prefixes (map.insert table p x) table
    (λ q. map.get-insert prefix_total table p x q ∙ by_test q (eq_by_cmp prefix_cmp q p) refl)
  where
    by_test : (q : PrefixValue) (b : Bool) → eq_by_cmp prefix_cmp q p ≡ b → cond b (Some x) (map.get table q) ≡ map.get table q
    by_test q true e = sym is ∙ ap (map.get table) (sym (tied q p e))
    by_test q false e = refl

-- ---- a prefix comes

earlier : {A : Type 0} (a b : Bool) (x y : A) → cond a x (cond b x y) ≡ cond b x (cond a x y)
earlier true true x y = refl
earlier true false x y = refl
earlier false b x y = refl

pub insert_late : (slots : List Slot) → T (map.is_sorted prefix_cmp slots) → (beside : PrefixSet) (p : PrefixValue)
    → united slots (map.insert beside p tt) ≡ map.insert (united slots beside) p tt
insert_late slots rise beside p = map.same_map prefix_total exact_prefixes _ _ (λ q.
    let found = is_held (map.find prefix_cmp q slots) in
    let same = eq_by_cmp prefix_cmp q p in
    united_get slots rise (map.insert beside p tt) q
    ∙ (ap (cond found here) (map.get-insert prefix_total beside p tt q)
    ∙ (earlier found same here (map.get beside q)
    ∙ (ap (cond same here) (sym (united_get slots rise beside q))
    ∙ sym (map.get-insert prefix_total (united slots beside) p tt q)))))

put_in : (b : Bool) (o : Option Bool) (x y : Option (Unit {0})) → cond (is_held (cond b (Some true) o)) x y ≡ cond b x (cond (is_held o) x y)
put_in true o x y = refl
put_in false o x y = refl

pub insert_slot : (slots : List Slot) → T (map.is_sorted prefix_cmp slots) → (beside : PrefixSet) (p : PrefixValue)
    → united (map.put prefix_cmp p true slots) beside ≡ map.insert (united slots beside) p tt
insert_slot slots rise beside p = map.same_map prefix_total exact_prefixes _ _ (λ q.
    let same = eq_by_cmp prefix_cmp q p in
    united_get (map.put prefix_cmp p true slots) (rise_put slots rise p true) beside q
    ∙ (ap (λ (o : Option Bool). cond (is_held o) here (map.get beside q)) (find-put prefix_cmp prefix_total q p true slots)
    ∙ (put_in same (map.find prefix_cmp q slots) here (map.get beside q)
    ∙ (ap (cond same here) (sym (united_get slots rise beside q))
    ∙ sym (map.get-insert prefix_total (united slots beside) p tt q)))))

-- ---- a prefix goes

put_out : (b : Bool) (o : Option Bool) (x y : Option (Unit {0})) → cond (is_held (cond b (Some false) o)) x (cond b None y) ≡ cond b None (cond (is_held o) x y)
put_out true o x y = refl
put_out false o x y = refl

pub remove_slot : (slots : List Slot) → T (map.is_sorted prefix_cmp slots) → (beside : PrefixSet) (p : PrefixValue)
    → united (map.put prefix_cmp p false slots) (map.remove beside p) ≡ map.remove (united slots beside) p
remove_slot slots rise beside p = map.same_map prefix_total exact_prefixes _ _ (λ q.
    let same = eq_by_cmp prefix_cmp q p in
    let found = map.find prefix_cmp q slots in
    united_get (map.put prefix_cmp p false slots) (rise_put slots rise p false) (map.remove beside p) q
    ∙ (ap (λ (o : Option Bool). cond (is_held o) here (map.get (map.remove beside p) q)) (find-put prefix_cmp prefix_total q p false slots)
    ∙ (ap (cond (is_held (cond same (Some false) found)) here) (map.get-remove prefix_total beside p q)
    ∙ (put_out same found here (map.get beside q)
    ∙ (ap (cond same None) (sym (united_get slots rise beside q))
    ∙ sym (map.get-remove prefix_total (united slots beside) p q))))))

pub remove_out : (slots : List Slot) → T (map.is_sorted prefix_cmp slots) → (beside : PrefixSet) (p : PrefixValue)
    → is_held (map.find prefix_cmp p slots) ≡ false → united slots (map.remove beside p) ≡ map.remove (united slots beside) p
remove_out slots rise beside p out = map.same_map prefix_total exact_prefixes _ _ (λ q.
    let found = is_held (map.find prefix_cmp q slots) in
    united_get slots rise (map.remove beside p) q
    ∙ (ap (cond found here) (map.get-remove prefix_total beside p q)
    ∙ (elim (eq_by_cmp prefix_cmp q p)
    as (λ b. eq_by_cmp prefix_cmp q p ≡ b → cond found here (cond b None (map.get beside q)) ≡ cond b None (cond found here (map.get beside q))) [
      | true ↦ λ e. ap (λ (b : Bool). cond b here None) (ap (λ (k : PrefixValue). is_held (map.find prefix_cmp k slots)) (tied q p e) ∙ out)
      | false ↦ λ e. refl
    ] refl
    ∙ (ap (cond (eq_by_cmp prefix_cmp q p) None) (sym (united_get slots rise beside q))
    ∙ sym (map.get-remove prefix_total (united slots beside) p q)))))

-- ---- all prefixes of two lists

either : {A : Type 0} (a b : Bool) (x y : A) → cond a x (cond b x y) ≡ cond (b || a) x y
either true true x y = refl
either true false x y = refl
either false true x y = refl
either false false x y = refl

with_all_get : (ps : List PrefixValue) (set : PrefixSet) (q : PrefixValue)
    → map.get (with_all set ps) q ≡ cond (list_any (eq_by_cmp prefix_cmp q) ps) here (map.get set q)
with_all_get [] set q = refl
with_all_get (p ∷ ps) set q =
    let among = list_any (eq_by_cmp prefix_cmp q) ps in
    with_all_get ps (map.insert set p tt) q
    ∙ (ap (cond among here) (map.get-insert prefix_total set p tt q)
    ∙ either among (eq_by_cmp prefix_cmp q p) here (map.get set q))

whether : (o : Option (Unit {0})) → cond (is_some o) here None ≡ o
whether None = refl
whether (Some u) = refl

keys_get : (set : PrefixSet) (q : PrefixValue) → map.get (with_all map.empty (map.keys set)) q ≡ map.get set q
keys_get set q =
    with_all_get (map.keys set) map.empty q
    ∙ (ap (cond (list_any (eq_by_cmp prefix_cmp q) (map.keys set)) here) (map.get-empty prefix_cmp q)
    ∙ (ap (λ (b : Bool). cond b here None) (sym (map.contains_key-keys set q))
    ∙ whether (map.get set q)))

pub with_those : (slots : List Slot) (set : PrefixSet) → with_all set (those_in slots) ≡ united slots set
with_those slots set = map.same_map prefix_total exact_prefixes _ _ (λ q. with_all_get (those_in slots) set q ∙ sym (listed_get slots set q))

pub with_keys : (set : PrefixSet) → with_all map.empty (map.keys set) ≡ set
with_keys set = map.same_map prefix_total exact_prefixes _ _ (λ q. keys_get set q)

-- ---- what a call that may fail left

pub if_it_is_ok : {A E P : Type 0} (r : Result A E) → is_ok r ≡ true → OnOk r P → P
if_it_is_ok (Ok a) is holds = holds
if_it_is_ok (Err e) is holds = absurd (let z : ◌≡◌ {A = Bool} false true = is in cc)

pub if_it_failed : {A E P : Type 0} (r : Result A E) → is_ok r ≡ false → OnErr r P → P
if_it_failed (Ok a) is holds = absurd (let z : ◌≡◌ {A = Bool} true false = is in cc)
if_it_failed (Err e) is holds = holds
