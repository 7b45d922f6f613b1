-- A property of all routes of a table is kept where the table changes.
use Rattle.std.proofs.Common.{◌≡◌, Bool, true, false, cond, List, [], ◌∷◌, Option, Some, None, refl, sym, ap, ◌∙◌, subst}
use Rattle.std.specs.Prelude.{fold, is_some}
use Rattle.std.specs.FinMap as map
use Rattle.std.proofs.lemmas.Option.{same_Some}
use Rattle.bgp_types.specs.declared.attrs.Attrs.{Attrs}
use Rattle.bgp_types.specs.declared.message.SessionState.{SessionState}
use Rattle.bgp_types.specs.declared.message.SessionState.TheVariants.{OpenSent, OpenConfirm, Established, Closed}
use Rattle.bgp_types.specs.Prefixes.{PrefixValue}
use Rattle.bgp_types.specs.Tables.{prefix_cmp}
use Rattle.bgp_types.proofs.TableLaws.{prefix_total}
use Rattle.bgp_story.specs.Readings.{Routes, announce, unless_closed}
use Rattle.graft_laws.proofs.PrefixTables.{same}

abbrev pub AllRoutes : (Attrs → Type 0) → Routes → Type 0
AllRoutes P routes = (x : PrefixValue) (a : Attrs) → map.get routes x ≡ Some a → P a

module _ (P : Attrs → Type 0) where
  pub all_of_none : AllRoutes P map.empty
  all_of_none x a e = let f : ◌≡◌ {A = Bool} false true = ap is_some (sym (map.get-empty prefix_cmp x) ∙ e) in absurd cc

  removed : (routes : Routes) (y : PrefixValue) → AllRoutes P routes → AllRoutes P (map.remove routes y)
  removed routes y all x a e = by_test (same x y) (sym (map.get-remove prefix_total routes y x) ∙ e) where
    by_test : (t : Bool) → cond t None (map.get routes x) ≡ Some a → P a
    by_test true f = absurd cc
    by_test false f = all x a f

  put : (routes : Routes) (y : PrefixValue) (attrs : Attrs) → P attrs → AllRoutes P routes → AllRoutes P (map.insert routes y attrs)
  put routes y attrs own all x a e = by_test (same x y) (sym (map.get-insert prefix_total routes y attrs x) ∙ e) where
    by_test : (t : Bool) → cond t (Some attrs) (map.get routes x) ≡ Some a → P a
    by_test true f = subst P (same_Some attrs a f) own
    by_test false f = all x a f

  pub removes : (ys : List PrefixValue) (routes : Routes) → AllRoutes P routes → AllRoutes P (fold map.remove routes ys)
  removes [] routes all = all
  removes (y ∷ ys) routes all = removes ys (map.remove routes y) (removed routes y all)

  pub announces : (attrs : Option Attrs) → ((a : Attrs) → attrs ≡ Some a → P a) → (ys : List PrefixValue) (routes : Routes)
      → AllRoutes P routes → AllRoutes P (fold (announce attrs) routes ys)
  announces attrs own [] routes all = all
  announces None own (y ∷ ys) routes all = announces None own ys routes all
  announces (Some a) own (y ∷ ys) routes all =
      announces (Some a) own ys (map.insert routes y a) (put routes y a (own a refl) all)

  pub unclosed : (now : SessionState) (routes : Routes) → AllRoutes P routes → AllRoutes P (unless_closed now routes)
  unclosed OpenSent routes all = all
  unclosed OpenConfirm routes all = all
  unclosed Established routes all = all
  unclosed Closed routes all = all_of_none
