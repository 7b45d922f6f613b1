-- A route is noted.
use Rattle.std.proofs.Common.{◌≡◌, ℕ, Bool, true, false, cond, List, [], ◌∷◌, ◌++◌, Option, Some, None, refl, sym, ap, ◌∙◌, arith}
use Rattle.std.specs.Prelude.{◌==◌, ◌&&◌, unwrap_or}
use Rattle.std.specs.Option.{option_or}
use Rattle.std.proofs.lemmas.Bool.Decides.{nat_tests}
use Rattle.bgp_types.specs.Prefixes.{PrefixValue}
use Rattle.even_inputs.specs.Evenness.{Med, is_between, first_med, are_even}
use Rattle.lab_answers.specs.declared.meds.Between.{Between}
use Rattle.lab_answers.specs.declared.meds.Meds.{Meds}
use Rattle.lab_answers.specs.contracts.meds.BetweenPartialEq.TheImpl as between_eq
use Rattle.lab_answers.specs.Noted.{kept_med, KeepsFirstMeds}
use Rattle.lab_answers.proofs.Evens.{first_of, given, is_itself, same_parts, first_more, even_more}

abbrev pub between : PrefixValue → ℕ → Between
between prefix neighbour = record { prefix = prefix; neighbour = neighbour }

module _ (before : List Med) (x : Med) (kept : Meds) (is : KeepsFirstMeds before kept) where
  own : Option ℕ
  own = first_of before x.prefix x.neighbour

  own_is : (prefix : PrefixValue) (neighbour : ℕ) → is_between prefix neighbour x ≡ true
      → first_of before prefix neighbour ≡ first_of before x.prefix x.neighbour
  own_is prefix neighbour e =
      let parts = same_parts prefix neighbour x e in
      ap (λ (p : PrefixValue). first_of before p neighbour) (sym parts.0) ∙ ap (first_of before x.prefix) (sym parts.1)

  own_more : first_of (before ++ x ∷ []) x.prefix x.neighbour ≡ option_or (first_of before x.prefix x.neighbour) (Some x.med)
  own_more = first_more before x x.prefix x.neighbour ∙ ap (λ (b : Bool). option_or (first_of before x.prefix x.neighbour) (given b x.med)) (is_itself x)

  even_with : (v : ℕ) → option_or (first_of before x.prefix x.neighbour) (Some x.med) ≡ Some v → are_even (before ++ x ∷ []) ≡ (kept.even && (x.med == v))
  even_with v e =
      even_more before x
      ∙ ap (λ (b : Bool). b && (x.med == first_med (before ++ x ∷ []) x.prefix x.neighbour)) (sym is.even)
      ∙ ap (λ (o : Option ℕ). kept.even && (x.med == unwrap_or o 0)) (own_more ∙ e)

  -- where there was one between which it is compared, that one stays the first
  pub there : (v : ℕ) → kept_med kept x.prefix x.neighbour ≡ Some v → (even : Bool) → even ≡ (kept.even && (x.med == v))
      → KeepsFirstMeds (before ++ x ∷ []) (record { first = kept.first; even = even })
  there v e even made = record {
    first = λ prefix neighbour. is.first prefix neighbour
        ∙ sym (first_more before x prefix neighbour ∙ stays prefix neighbour (is_between prefix neighbour x) refl (first_of before prefix neighbour) refl);
    even = made ∙ sym (even_with v (ap (λ (o : Option ℕ). option_or o (Some x.med)) own_some));
  }
    where
      own_some : first_of before x.prefix x.neighbour ≡ Some v
      own_some = sym (is.first x.prefix x.neighbour) ∙ e

      stays : (prefix : PrefixValue) (neighbour : ℕ) (b : Bool) → is_between prefix neighbour x ≡ b → (o : Option ℕ) → first_of before prefix neighbour ≡ o
          → option_or o (given b x.med) ≡ o
      stays prefix neighbour b t (Some n) f = refl
      stays prefix neighbour false t None f = refl
      stays prefix neighbour true t None f = (let none : ◌≡◌ {A = Option ℕ} None (Some v) = sym f ∙ own_is prefix neighbour t ∙ own_some in absurd cc)

  -- where there was none, it is the first
  pub absent : kept_med kept x.prefix x.neighbour ≡ None → (new : Meds) → new.even ≡ kept.even
      → ((prefix : PrefixValue) (neighbour : ℕ)
      → kept_med new prefix neighbour ≡ cond (is_between prefix neighbour x) (Some x.med) (kept_med kept prefix neighbour))
      → KeepsFirstMeds (before ++ x ∷ []) new
  absent e new same updates = record {
    first = λ prefix neighbour. updates prefix neighbour
        ∙ ap (λ (o : Option ℕ). cond (is_between prefix neighbour x) (Some x.med) o) (is.first prefix neighbour)
        ∙ sym (first_more before x prefix neighbour ∙ put prefix neighbour (is_between prefix neighbour x) refl (first_of before prefix neighbour) refl);
    even = same ∙ sym (even_with x.med (ap (λ (o : Option ℕ). option_or o (Some x.med)) own_none) ∙ and_itself kept.even (x.med == x.med) (same_number x.med));
  }
    where
      own_none : first_of before x.prefix x.neighbour ≡ None
      own_none = sym (is.first x.prefix x.neighbour) ∙ e

      same_number : (n : ℕ) → (n == n) ≡ true
      same_number n = grind (arith, nat_tests)

      and_itself : (a b : Bool) → b ≡ true → (a && b) ≡ a
      and_itself true b e = e
      and_itself false b e = refl

      put : (prefix : PrefixValue) (neighbour : ℕ) (b : Bool) → is_between prefix neighbour x ≡ b → (o : Option ℕ) → first_of before prefix neighbour ≡ o
          → option_or o (given b x.med) ≡ cond b (Some x.med) o
      put prefix neighbour false t (Some n) f = refl
      put prefix neighbour false t None f = refl
      put prefix neighbour true t None f = refl
      put prefix neighbour true t (Some n) f = (let none : ◌≡◌ {A = Option ℕ} None (Some n) = sym own_none ∙ sym (own_is prefix neighbour t) ∙ f in absurd cc)
