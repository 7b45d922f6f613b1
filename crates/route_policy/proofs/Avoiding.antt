-- An AS that isn't in a path, and isn't the one that is put in front, isn't in the longer path.
use Rattle.std.proofs.Common.{◌≡◌, ◌≢◌, ℕ, zero, suc, ◌==◌, nat_lt, Bool, true, false, ◌||◌, cond, List, []}
use Rattle.std.proofs.Common.{◌∷◌, length, Option, Some, None, refl, subst, ap, ◌∙◌, arith}
use Rattle.std.specs.Prelude.{unwrap_or}
use Rattle.std.specs.List.{list_any}
use Rattle.std.proofs.lemmas.Bool.{or_parts}
use Rattle.std.proofs.lemmas.Bool.Decides.{nat_tests}
use Rattle.std.proofs.lemmas.Option.{same_Some}
use Rattle.bgp_types.specs.Prefixes.{PrefixValue}
use Rattle.bgp_types.specs.declared.attrs.Attrs.{Attrs}
use Rattle.bgp_types.specs.declared.attrs.Route.{Route}
use Rattle.bgp_types.specs.declared.path.PathPart.{PathPart}
use Rattle.bgp_types.specs.declared.path.PathPart.TheVariants.{Set, Sequence}
use Rattle.route_policy.specs.Paths.{prepend, prepend_times}
use Rattle.route_policy.specs.Policies.{policy, decision, changed}
use Rattle.route_policy.specs.Rules.{matches, holds_as}
use Rattle.route_policy.specs.Telling.{OutSide, comes_from, exported, is_kept_back, is_too_long, told_attrs, told_where_it_fits, tell_out, without_med}
use Rattle.route_policy.specs.declared.best.Best.{Best}
use Rattle.route_policy.specs.declared.rule.Rule.{Rule}

differs : (m n : ℕ) → m ≢ n → (m == n) ≡ false
differs m n other = grind (arith, nat_tests)

module _ (home_as other : ℕ) (differ : home_as ≢ other) where
  prepend_avoids : (path : List PathPart) → holds_as path other ≡ false → holds_as (prepend home_as path) other ≡ false
  prepend_avoids [] e = ap (λ (b : Bool). (b || false) || false) (differs home_as other differ)
  prepend_avoids (Set ases ∷ parts) e = ap (λ (b : Bool). (b || false) || holds_as (Set ases ∷ parts) other) (differs home_as other differ) ∙ e
  prepend_avoids (Sequence ases ∷ parts) e = by_room (nat_lt (length ases) 255) where
    by_room : (t : Bool) → holds_as (cond t (Sequence (home_as ∷ ases) ∷ parts) (Sequence (home_as ∷ []) ∷ (Sequence ases ∷ parts))) other ≡ false
    by_room true = ap (λ (b : Bool). (b || list_any (λ n. n == other) ases) || holds_as parts other) (differs home_as other differ) ∙ e
    by_room false = ap (λ (b : Bool). (b || false) || holds_as (Sequence ases ∷ parts) other) (differs home_as other differ) ∙ e

  times_avoid : (n : ℕ) (path : List PathPart) → holds_as path other ≡ false → holds_as (prepend_times n home_as path) other ≡ false
  times_avoid zero path e = e
  times_avoid (suc n) path e = prepend_avoids (prepend_times n home_as path) (times_avoid n path e)

  policy_avoids : (rules : List Rule) (prefix : PrefixValue) (route out : Route) → holds_as route.attrs.path other ≡ false
      → policy rules prefix home_as route ≡ Some out → holds_as out.attrs.path other ≡ false
  policy_avoids [] prefix route out e is = subst (λ (r : Route). holds_as r.attrs.path other ≡ false) (same_Some route out is) e
  policy_avoids (rule ∷ rules) prefix route out e is = by_match (matches rule prefix route) (policy_avoids rules prefix route out e) is where
    by_deny : (t : Bool) → cond t None (Some (changed rule home_as route)) ≡ Some out → holds_as out.attrs.path other ≡ false
    by_deny true f = absurd cc
    by_deny false f = subst (λ (r : Route). holds_as r.attrs.path other ≡ false)
        (same_Some (changed rule home_as route) out f) (times_avoid rule.prepend route.attrs.path e)

    by_match : (t : Bool) → (policy rules prefix home_as route ≡ Some out → holds_as out.attrs.path other ≡ false)
        → cond t (decision rule home_as route) (policy rules prefix home_as route) ≡ Some out → holds_as out.attrs.path other ≡ false
    by_match true later f = by_deny rule.deny f
    by_match false later f = later f

pub told_avoids : (home_as : ℕ) (out : OutSide) (prefix : PrefixValue) (best : Option Best) (attrs : Attrs) → home_as ≢ out.remote_as
    → tell_out home_as out prefix best ≡ Some attrs → holds_as attrs.path out.remote_as ≡ false
told_avoids home_as out prefix None attrs differ is = absurd cc
told_avoids home_as out prefix (Some best) attrs differ is = by_kept (is_kept_back out best) refl is where
  by_size : (route : Route) → holds_as route.attrs.path out.remote_as ≡ false → (t : Bool)
      → cond t None (Some (told_attrs home_as out route)) ≡ Some attrs → holds_as attrs.path out.remote_as ≡ false
  by_size route e true f = absurd cc
  by_size route e false f = subst (λ (a : Attrs). holds_as a.path out.remote_as ≡ false)
      (same_Some (told_attrs home_as out route) attrs f) (prepend_avoids home_as out.remote_as differ route.attrs.path e)

  by_export : holds_as best.route.attrs.path out.remote_as ≡ false → (o : Option Route) → exported home_as out prefix best.route ≡ o
      → told_where_it_fits home_as out prefix o ≡ Some attrs → holds_as attrs.path out.remote_as ≡ false
  by_export e None told f = absurd cc
  by_export e (Some route) told f =
      by_size route (policy_avoids home_as out.remote_as differ (unwrap_or out.export_rules []) prefix (without_med best.route) route e told)
      (is_too_long prefix (told_attrs home_as out route)) f

  by_kept : (t : Bool) → is_kept_back out best ≡ t
      → cond t None (told_where_it_fits home_as out prefix (exported home_as out prefix best.route)) ≡ Some attrs
      → holds_as attrs.path out.remote_as ≡ false
  by_kept true e f = absurd cc
  by_kept false e f = by_export (or_parts (comes_from best.from out.peering) (holds_as best.route.attrs.path out.remote_as) e).1
      (exported home_as out prefix best.route) refl f
