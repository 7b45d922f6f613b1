-- Tables that have 10.0.0.0/8 alone.
use Rattle.std.proofs.Common.{◌≡◌, ◌≢◌, ◌&&◌, ◌||◌, not, Bool, true, false, refl, cond, arith, ap, ◌∙◌, sym, Some, None, is_some, inr}
use Rattle.std.proofs.lemmas.Bool.Decides.{nat_tests}
use Rattle.std.specs.Ordering.{eq_by_cmp}
use Rattle.std.specs.FinMap as map
use Rattle.bgp_types.specs.Prefixes.{PrefixValue, same_prefix}
use Rattle.bgp_types.specs.Tables.{prefix_cmp}
use Rattle.bgp_types.proofs.TableLaws.{prefix_total, exact_prefixes, tied}
use Rattle.bgp_story.specs.WorkedSessions.{ten}
use Rattle.session_value.specs.Sets.{has, Marks}
use Rattle.graft_model.specs.Sets.{Drops}
use Rattle.graft_worked.specs.Graft.{at_ten, ten_alone}

-- whether a prefix is 10.0.0.0/8
abbrev pub is_ten : PrefixValue → Bool
is_ten x = eq_by_cmp prefix_cmp x ten

abbrev pub empty : {A : Type 0} → map.FinMap prefix_cmp A
empty = map.empty

pub got_none : {A : Type 0} (x : PrefixValue) → map.get (empty {A = A}) x ≡ None
got_none x = map.get-empty prefix_cmp x

pub got_ten : {A : Type 0} (v : A) (x : PrefixValue) → map.get (at_ten v) x ≡ cond (is_ten x) (Some v) None
got_ten v x = map.get-insert prefix_total empty ten v x ∙ ap (cond (is_ten x) (Some v)) (got_none x)

pub got_it : {A : Type 0} (v : A) → map.get (at_ten v) ten ≡ Some v
got_it v = got_ten v ten

shadow : {A : Type 0} (t : Bool) (a b c : A) → cond t a (cond t b c) ≡ cond t a c
shadow true a b c = refl
shadow false a b c = refl

same_cond : {A : Type 0} (t : Bool) (a : A) → cond t a a ≡ a
same_cond true a = refl
same_cond false a = refl

-- 10.0.0.0/8 is put again, or taken out
pub again : {A : Type 0} (v w : A) → map.insert (at_ten v) ten w ≡ at_ten w
again v w = map.same_map prefix_total exact_prefixes _ _ (λ x. map.get-insert prefix_total (at_ten v) ten w x
    ∙ (ap (cond (is_ten x) (Some w)) (got_ten v x) ∙ (shadow (is_ten x) (Some w) (Some v) None ∙ sym (got_ten w x))))

pub gone : {A : Type 0} (v : A) → map.remove (at_ten v) ten ≡ empty
gone v = map.same_map prefix_total exact_prefixes _ _ (λ x. map.get-remove prefix_total (at_ten v) ten x
    ∙ (ap (cond (is_ten x) None) (got_ten v x) ∙ (shadow (is_ten x) None (Some v) None ∙ (same_cond (is_ten x) None ∙ sym (got_none x)))))

pub still_none : {A : Type 0} → map.remove (empty {A = A}) ten ≡ empty
still_none = map.same_map prefix_total exact_prefixes _ _
    (λ x. map.get-remove prefix_total empty ten x ∙ (ap (cond (is_ten x) None) (got_none x) ∙ (same_cond (is_ten x) None ∙ sym (got_none x))))

-- ---- sets

some_cond : {A : Type 0} (t : Bool) (v : A) → is_some (cond t (Some v) None) ≡ t
some_cond true v = refl
some_cond false v = refl

pub some_at_ten : {A : Type 0} (v : A) (x : PrefixValue) → is_some (map.get (at_ten v) x) ≡ is_ten x
some_at_ten v x = ap is_some (got_ten v x) ∙ some_cond (is_ten x) v

pub some_in_none : (A : Type 0) (x : PrefixValue) → is_some (map.get (empty {A = A}) x) ≡ false
some_in_none A x = ap is_some (got_none x)

bools : (s t : Bool) → (s ≡ true → t ≡ true) → (t ≡ true → s ≡ true) → s ≡ t
bools true true f g = refl
bools true false f g = sym (f refl)
bools false true f g = g refl
bools false false f g = refl

same_of : (x : PrefixValue) → x ≡ ten → same_prefix ten x ≡ true
same_of x e = rw e refl

ten_of : (x : PrefixValue) → x ≡ ten → is_ten x ≡ true
ten_of x e = rw e refl

address_is : (x : PrefixValue) → same_prefix ten x ≡ true → x.address ≡ 0x0A000000
address_is x e = grind (arith, nat_tests)

len_is : (x : PrefixValue) → same_prefix ten x ≡ true → x.len ≡ 8
len_is x e = grind (arith, nat_tests)

is_same : (x : PrefixValue) → same_prefix ten x ≡ true → x ≡ ten
is_same x e = λ i. record { address = address_is x e i; len = len_is x e i }

pub same_ten : (x : PrefixValue) → is_ten x ≡ same_prefix ten x
same_ten x = bools _ _ (λ e. same_of x (tied x ten e)) (λ e. ten_of x (is_same x e))

pub has_ten : (x : PrefixValue) → has ten_alone x ≡ same_prefix ten x
has_ten x = some_at_ten tt x ∙ same_ten x

and_true : (s : Bool) → s ≡ (s && true)
and_true true = refl
and_true false = refl

and_false : (s : Bool) → false ≡ (s && false)
and_false true = refl
and_false false = refl

or_same : (s : Bool) → s ≡ (s || (s && true))
or_same true = refl
or_same false = refl

pub adds_ten : (t : Bool) (x : PrefixValue) → has (cond t ten_alone empty) x ≡ (has empty x || (same_prefix ten x && t))
adds_ten true x = has_ten x ∙ (and_true (same_prefix ten x) ∙ ap (λ h. h || (same_prefix ten x && true)) (sym (some_in_none _ x)))
adds_ten false x = some_in_none _ x ∙ (and_false (same_prefix ten x) ∙ ap (λ h. h || (same_prefix ten x && false)) (sym (some_in_none _ x)))

pub keeps_ten : (x : PrefixValue) → has ten_alone x ≡ (has ten_alone x || (same_prefix ten x && true))
keeps_ten x = has_ten x ∙ (or_same (same_prefix ten x) ∙ ap (λ h. h || (same_prefix ten x && true)) (sym (has_ten x)))

pub keeps_none : (x : PrefixValue) → has empty x ≡ (has empty x || (same_prefix ten x && false))
keeps_none x = adds_ten false x

not_false : (s : Bool) → false ≡ (s && not true)
not_false true = refl
not_false false = refl

pub drops_ten : Drops ten_alone (λ x. not (has empty x)) empty
drops_ten = record { members = λ x. some_in_none _ x ∙ (not_false (has ten_alone x) ∙ ap (λ h. has ten_alone x && not (not h)) (sym (some_in_none _ x))) }

differs : {A : Type 0} (t : Bool) (v : A) → t ≡ true → cond t (Some v) None ≢ None
differs true v e = λ s. let apart : ◌≡◌ {A = Bool} true false = ap is_some s in cc
differs false v e = absurd cc

none_at : {A : Type 0} (t : Bool) (v : A) → t ≡ false → cond t (Some v) None ≡ None
none_at true v e = absurd cc
none_at false v e = refl

pub marks_new : {A : Type 0} (v : A) → Marks empty empty (at_ten v) ten_alone
marks_new v = record {
  marked = λ x e. inr (λ s. differs (is_ten x) v (sym (some_at_ten tt x) ∙ e) (sym (got_ten v x) ∙ (s ∙ got_none x)));
  others = λ x e. (some_in_none _ x, got_ten v x ∙ (none_at (is_ten x) v (sym (some_at_ten tt x) ∙ e) ∙ sym (got_none x)));
}

pub marks_old : {A : Type 0} (v : A) → Marks empty (at_ten v) empty ten_alone
marks_old v = record {
  marked = λ x e. inr (λ s. differs (is_ten x) v (sym (some_at_ten tt x) ∙ e) (sym (got_ten v x) ∙ (sym s ∙ got_none x)));
  others = λ x e. (some_in_none _ x, got_none x ∙ sym (got_ten v x ∙ none_at (is_ten x) v (sym (some_at_ten tt x) ∙ e)));
}
