-- Prefixes, each once, one more at a time.
use Rattle.std.proofs.Common.{◌≡◌, ℕ, ◌+◌, ◌<◌, Bool, true, false, cond, not, ◌||◌, List, [], ◌∷◌, ◌++◌, length, get_or, take, refl, sym, ap, ◌∙◌}
use Rattle.std.specs.List.{list_any}
use Rattle.std.proofs.lemmas.List.{take_more}
use Rattle.bgp_types.specs.Prefixes.{PrefixValue, same_prefix, put_once, once_after}
use Rattle.bgp_types.proofs.OnceLaws.{is_same, same_itself}
use Rattle.std.proofs.lemmas.Bool.{false≢true}
use Rattle.std.proofs.lemmas.List.Folds.{list_any-append}

once_push : (seen ps : List PrefixValue) (p : PrefixValue) → once_after seen (ps ++ p ∷ []) ≡ put_once (once_after seen ps) p
once_push seen [] p = refl
once_push seen (q ∷ ps) p = once_push (put_once seen q) ps p

-- one more prefix
pub once_more : (ps : List PrefixValue) (i : ℕ) (p : PrefixValue) (once : List PrefixValue) → i < length ps → p ≡ get_or ps i p
    → once ≡ once_after [] (take i ps)
    → put_once once p ≡ once_after [] (take (i + 1) ps)
once_more ps i p once within is so_far =
    let longer : take (i + 1) ps ≡ take i ps ++ p ∷ [] = take_more ps i p within ∙ ap (λ q. take i ps ++ q ∷ []) (sym is) in
    ap (λ qs. put_once qs p) so_far ∙ sym (once_push [] (take i ps) p) ∙ ap (once_after []) (sym longer)

-- ---- a set of those that are there

-- a prefix is put where it isn't there yet
pub put_new : (once : List PrefixValue) (p : PrefixValue) (is_new : Bool) → is_new ≡ not (list_any (same_prefix p) once)
    → cond is_new (once ++ p ∷ []) once ≡ put_once once p
put_new once p is_new e = ap (λ (t : Bool). cond t (once ++ p ∷ []) once) e ∙ by_test (list_any (same_prefix p) once) where
  by_test : (t : Bool) → cond (not t) (once ++ p ∷ []) once ≡ cond t once (once ++ p ∷ [])
  by_test true = refl
  by_test false = refl

pub same_either : (p q : PrefixValue) → same_prefix p q ≡ same_prefix q p
same_either p q = by_test (same_prefix p q) refl (same_prefix q p) refl where
  by_test : (s : Bool) → same_prefix p q ≡ s → (t : Bool) → same_prefix q p ≡ t → s ≡ t
  by_test true e true f = refl
  by_test false e false f = refl
  by_test true e false f = absurd (false≢true (sym f ∙ ap (λ r. same_prefix r p) (sym (is_same p q e)) ∙ same_itself p))
  by_test false e true f = absurd (false≢true (sym e ∙ ap (λ r. same_prefix r q) (sym (is_same q p f)) ∙ same_itself q))

or_true : (b : Bool) → (b || (true || false)) ≡ true
or_true true = refl
or_true false = refl

or_false : (b : Bool) → (b || (false || false)) ≡ b
or_false true = refl
or_false false = refl

-- one more is there
pub any_put : (q p : PrefixValue) (once : List PrefixValue)
    → cond (same_prefix p q) true (list_any (same_prefix q) once) ≡ list_any (same_prefix q) (put_once once p)
any_put q p once = by_test (list_any (same_prefix p) once) refl (same_prefix p q) refl where
  by_test : (t : Bool) → list_any (same_prefix p) once ≡ t → (s : Bool) → same_prefix p q ≡ s
      → cond s true (list_any (same_prefix q) once) ≡ list_any (same_prefix q) (cond t once (once ++ p ∷ []))
  by_test true there true e = sym there ∙ ap (λ r. list_any (same_prefix r) once) (is_same p q e)
  by_test true there false e = refl
  by_test false there true e = sym (list_any-append (same_prefix q) once (p ∷ [])
      ∙ ap (λ t. list_any (same_prefix q) once || (t || false)) (sym (same_either p q) ∙ e) ∙ or_true (list_any (same_prefix q) once))
  by_test false there false e = sym (list_any-append (same_prefix q) once (p ∷ [])
      ∙ ap (λ t. list_any (same_prefix q) once || (t || false)) (sym (same_either p q) ∙ e) ∙ or_false (list_any (same_prefix q) once))
