-- An UPDATE that announces prefixes without a route changes each of them.
use Rattle.std.proofs.Common.{◌≡◌, Bool, true, false, cond, List, [], ◌∷◌, ◌++◌, Option, Some, None, refl, sym, ap, ◌∙◌, subst, inl, inr}
use Rattle.std.specs.Prelude.{◌≢◌, ◌⊎◌, All, is_some, fold}
use Rattle.std.specs.FinMap as map
use Rattle.std.specs.Ordering.{eq_by_cmp}
use Rattle.std.specs.Cmp.{eq_by_cmp_equiv}
use Rattle.std.proofs.lemmas.List.Elements.{All-nil, All-cons, All-head, All-tail}
use Rattle.bgp_types.specs.declared.attrs.Attrs.{Attrs}
use Rattle.bgp_types.specs.declared.message.Update.{Update}
use Rattle.bgp_types.specs.Prefixes.{PrefixValue}
use Rattle.bgp_types.specs.Tables.{prefix_cmp}
use Rattle.bgp_types.specs.Writable.{HasAttrsFor}
use Rattle.bgp_types.proofs.TableLaws.{prefix_total}
use Rattle.bgp_story.specs.Legal.{IsOneWay}
use Rattle.bgp_story.specs.Readings.{Routes, announce}
use Rattle.session_value.specs.Cases.{Changes}

some_of : (t : Bool) (a : Attrs) (o : Option Attrs) → o ≡ Some a → cond t (Some a) o ≡ Some a
some_of true a o e = refl
some_of false a o e = e

-- what has these attributes keeps them
stays : (a : Attrs) (xs : List PrefixValue) (routes : Routes) (p : PrefixValue) → map.get routes p ≡ Some a
    → map.get (fold (announce (Some a)) routes xs) p ≡ Some a
stays a [] routes p e = e
stays a (x ∷ xs) routes p e =
    stays a xs (map.insert routes x a) p (map.get-insert prefix_total routes x a p ∙ some_of (eq_by_cmp prefix_cmp p x) a (map.get routes p) e)

itself : (a : Attrs) (routes : Routes) (p : PrefixValue) → map.get (map.insert routes p a) p ≡ Some a
itself a routes p = map.get-insert prefix_total routes p a p ∙ ap (λ (t : Bool). cond t (Some a) (map.get routes p)) ((eq_by_cmp_equiv prefix_total).refl p)

-- each prefix has them then, which had none
each : (a : Attrs) (before : Routes) (xs : List PrefixValue) (routes : Routes) → All (λ p. map.get before p ≡ None) xs
    → All (λ p. map.get (fold (announce (Some a)) routes xs) p ≢ map.get before p) xs
each a before xs routes none = from xs routes (λ p e. e) none where
  apart : (p : PrefixValue) (now : Option Attrs) → now ≡ Some a → map.get before p ≡ None → now ≢ map.get before p
  apart p now some free same = let b : ◌≡◌ {A = Bool} true false = ap is_some (sym some ∙ (same ∙ free)) in cc

  from : (ys : List PrefixValue) (rs : Routes)
      → ((p : PrefixValue) → map.get (fold (announce (Some a)) rs ys) p ≡ Some a → map.get (fold (announce (Some a)) routes xs) p ≡ Some a)
      → All (λ p. map.get before p ≡ None) ys
      → All (λ p. map.get (fold (announce (Some a)) routes xs) p ≢ map.get before p) ys
  from [] rs then' free = All-nil _
  from (y ∷ ys) rs then' free =
      All-cons (λ p. map.get (fold (announce (Some a)) routes xs) p ≢ map.get before p) y ys
      (apart y _ (then' y (stays a ys (map.insert rs y a) y (itself a rs y))) (All-head (λ p. map.get before p ≡ None) y ys free))
      (from ys (map.insert rs y a) then' (All-tail (λ p. map.get before p ≡ None) y ys free))

changes_by : (adj_rib_out : Routes) (attrs : Option Attrs) (nlri : List PrefixValue) → HasAttrsFor attrs nlri → nlri ≢ []
    → All (λ p. map.get adj_rib_out p ≡ None) nlri → All (λ p. map.get (fold (announce attrs) adj_rib_out nlri) p ≢ map.get adj_rib_out p) nlri
changes_by adj_rib_out None nlri has some none = absurd (some has)
changes_by adj_rib_out (Some a) nlri has some none = each a adj_rib_out nlri adj_rib_out none

pub announced_changes : (adj_rib_out : Routes) (update : Update) (wide : Bool) → IsOneWay update wide → update.withdrawn ≡ []
    → All (λ p. map.get adj_rib_out p ≡ None) update.nlri → Changes adj_rib_out update
announced_changes adj_rib_out update wide way alone none =
    subst (λ (ws : List PrefixValue). All
    (λ p. map.get (fold (announce update.attrs) (fold map.remove adj_rib_out ws) update.nlri) p ≢ map.get adj_rib_out p) (ws ++ update.nlri)) (sym alone)
    (changes_by adj_rib_out update.attrs update.nlri way.writable.body.attrs (announces way.one_way) none) where
      announces : ((update.withdrawn ≢ []) × (update.nlri ≡ [])) ⊎ ((update.withdrawn ≡ []) × (update.nlri ≢ [])) → update.nlri ≢ []
      announces (inl w) = absurd (w.0 alone)
      announces (inr w) = w.1
