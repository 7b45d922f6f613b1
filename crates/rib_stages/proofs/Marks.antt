-- What is dirty where one prefix gets another value.
use Rattle.std.proofs.Common.{◌≡◌, Bool, true, false, cond, Option, Some, None, refl, sym, ap, ◌∙◌, inl, inr}
use Rattle.std.specs.Prelude.{◌≢◌, ◌⊎◌, is_some, MatchBool}
use Rattle.std.specs.Cmp.{eq_by_cmp_equiv}
use Rattle.std.specs.FinMap as map
use Rattle.std.specs.Ordering.{eq_by_cmp}
use Rattle.bgp_types.specs.Prefixes.{PrefixValue}
use Rattle.bgp_types.specs.Tables.{prefix_cmp}
use Rattle.bgp_types.proofs.TableLaws.{prefix_total, exact_prefixes, tied}
use Rattle.loc_rib.specs.Values.{with_value}
use Rattle.session_value.specs.Sets.{Prefixes, has, Marks, MarksOne}

-- ---- what a table answers after one change

module _ {A : Type 0} where
  pub with_gives : (table : map.FinMap prefix_cmp A) (p q : PrefixValue) (value : Option A)
      → map.get (with_value table p value) q ≡ cond (eq_by_cmp prefix_cmp q p) value (map.get table q)
  with_gives table p q None = map.get-remove prefix_total table p q
  with_gives table p q (Some x) = map.get-insert prefix_total table p x q

pub itself : (p : PrefixValue) → eq_by_cmp prefix_cmp p p ≡ true
itself p = (eq_by_cmp_equiv prefix_total).refl p

pub apart : (p q : PrefixValue) → q ≢ p → eq_by_cmp prefix_cmp q p ≡ false
apart p q differs = by_test (eq_by_cmp prefix_cmp q p) refl where
  by_test : (b : Bool) → eq_by_cmp prefix_cmp q p ≡ b → b ≡ false
  by_test true e = absurd (differs (tied q p e))
  by_test false e = refl

module _ {A : Type 0} (table : map.FinMap prefix_cmp A) (p : PrefixValue) (value : Option A) where
  pub with_here : map.get (with_value table p value) p ≡ value
  with_here = with_gives table p p value ∙ ap (λ (b : Bool). cond b value (map.get table p)) (itself p)

  pub with_there : (q : PrefixValue) → q ≢ p → map.get (with_value table p value) q ≡ map.get table q
  with_there q differs = with_gives table p q value ∙ ap (λ (b : Bool). cond b value (map.get table q)) (apart p q differs)

  -- the same value again
  pub with_same : value ≡ map.get table p → with_value table p value ≡ table
  with_same is = map.same_map prefix_total exact_prefixes (with_value table p value) table
      (λ q. with_gives table p q value ∙ by_test q (eq_by_cmp prefix_cmp q p) refl)
    where
      by_test : (q : PrefixValue) (b : Bool) → eq_by_cmp prefix_cmp q p ≡ b → cond b value (map.get table q) ≡ map.get table q
      by_test q true e = is ∙ ap (map.get table) (sym (tied q p e))
      by_test q false e = refl

-- ---- sets

pub has_inserted : (set : Prefixes) (p q : PrefixValue) → has (map.insert set p tt) q ≡ cond (eq_by_cmp prefix_cmp q p) true (has set q)
has_inserted set p q = ap is_some (map.get-insert prefix_total set p tt q) ∙ by_test (eq_by_cmp prefix_cmp q p) where
  by_test : (b : Bool) → is_some (cond b (Some tt) (map.get set q)) ≡ cond b true (has set q)
  by_test true = refl
  by_test false = refl

module _ {A : Type 0} (before marked after : Prefixes) (old now : map.FinMap prefix_cmp A) (p : PrefixValue)
    (value : Option A) (marks : Marks before old now marked) (first : map.get now p ≡ map.get old p) where
  abbrev next : map.FinMap prefix_cmp A
  next = with_value now p value

  unchanged : value ≡ map.get now p → after ≡ marked → Marks before old next after
  unchanged same stays = Rattle.std.proofs.Common.subst (λ (t : map.FinMap prefix_cmp A). Marks before old t after)
      (sym (with_same now p value same)) (Rattle.std.proofs.Common.subst (λ (set : Prefixes). Marks before old now set) (sym stays) marks)

  module _ (differs : value ≢ map.get now p) (set : after ≡ map.insert marked p tt) where
    has_after : (q : PrefixValue) → has after q ≡ cond (eq_by_cmp prefix_cmp q p) true (has marked q)
    has_after q = ap (λ (s : Prefixes). has s q) set ∙ has_inserted marked p q

    marked_at : (q : PrefixValue) (b : Bool) → eq_by_cmp prefix_cmp q p ≡ b → cond b true (has marked q) ≡ true
        → (has before q ≡ true) ⊎ (map.get next q ≢ map.get old q)
    marked_at q true e is =
        inr (λ same. differs (sym (with_here now p value) ∙ (ap (map.get next) (sym (tied q p e)) ∙ (same ∙ (ap (map.get old) (tied q p e) ∙ sym first)))))
    marked_at q false e is = elim (marks.marked q is) [
      | inl was ↦ inl was
      | inr other ↦ inr (λ same. other (sym (with_gives now p q value ∙ ap (λ (t : Bool). cond t value (map.get now q)) e) ∙ same))
    ]

    others_at : (q : PrefixValue) (b : Bool) → eq_by_cmp prefix_cmp q p ≡ b → cond b true (has marked q) ≡ false
        → (has before q ≡ false) × (map.get next q ≡ map.get old q)
    others_at q true e is = absurd cc
    others_at q false e is = let m = marks.others q is in (m.0, with_gives now p q value ∙ (ap (λ (t : Bool). cond t value (map.get now q)) e ∙ m.1))

    changed : Marks before old next after
    changed = record {
      marked = λ q is. marked_at q (eq_by_cmp prefix_cmp q p) refl (sym (has_after q) ∙ is);
      others = λ q is. others_at q (eq_by_cmp prefix_cmp q p) refl (sym (has_after q) ∙ is);
    }

  -- one more prefix is marked where its value changes
  pub marks_next : MarksOne marked p (map.get now p) value after → Marks before old next after
  marks_next (inl stays) = unchanged stays.0 stays.1
  marks_next (inr set) = changed set.0 set.1

-- what a test told
pub when_true : (P Q : Type 0) (b : Bool) → b ≡ true → MatchBool b P Q → P
when_true P Q true e h = h
when_true P Q false e h = absurd cc

pub when_false : (P Q : Type 0) (b : Bool) → b ≡ false → MatchBool b P Q → Q
when_false P Q true e h = absurd cc
when_false P Q false e h = h
