-- What is told of one prefix fits into an UPDATE of its own.
use Rattle.std.proofs.Common.{◌≡◌, ℕ, ◌≤◌, nat_lt, Bool, true, false, ◌||◌, [], ◌∷◌, length, Option, Some, None, refl, arith}
use Rattle.std.specs.Int.{w32, to_be_bytes}
use Rattle.std.specs.Prelude.{if◌then◌else◌}
use Rattle.std.proofs.Common.{length-take}
use Rattle.std.proofs.lemmas.Bool.Decides.{nat_tests}
use Rattle.bgp_types.specs.declared.attrs.Attrs.{Attrs}
use Rattle.bgp_types.specs.declared.attrs.Route.{Route}
use Rattle.bgp_types.specs.Lengths.{prefix_size}
use Rattle.bgp_types.specs.Prefixes.{PrefixValue, octets_for}
use Rattle.bgp_types.specs.Spelling.{spell}
use Rattle.bgp_types.proofs.Lengths.{update_size}
use Rattle.route_policy.specs.declared.best.Best.{Best}
use Rattle.route_policy.specs.Telling.{OutSide, tell_out, is_kept_back, exported, told_attrs, told_where_it_fits, is_too_long, announcement}
use Rattle.session_value.specs.Cases.{update_for}
use Rattle.update_plan.specs.Plans.{octets}

pub small : (p : PrefixValue) → prefix_size p ≤ 5
small p = omega (arith, length-take (octets_for p.len) (to_be_bytes w32 p.address))

withdrawal : (wide : Bool) (prefix : PrefixValue) → octets wide None (prefix ∷ []) ≤ 4096
withdrawal wide prefix =
    let a = update_size wide (update_for None (prefix ∷ [])) in
    let b = small prefix in
    omega arith

not_too_long : (m n : ℕ) → (nat_lt 4096 m || nat_lt 4096 n) ≡ false → (m ≤ 4096) × (n ≤ 4096)
not_too_long m n e = grind (arith, nat_tests)

announced : (wide : Bool) (prefix : PrefixValue) (attrs : Attrs) → is_too_long prefix attrs ≡ false → octets wide (Some attrs) (prefix ∷ []) ≤ 4096
announced true prefix attrs e = (not_too_long (length (spell (announcement prefix attrs) false)) (length (spell (announcement prefix attrs) true)) e).1
announced false prefix attrs e = (not_too_long (length (spell (announcement prefix attrs) false)) (length (spell (announcement prefix attrs) true)) e).0

where_it_fits : (wide : Bool) (home_as : ℕ) (out : OutSide) (prefix : PrefixValue) (route : Option Route)
    → octets wide (told_where_it_fits home_as out prefix route) (prefix ∷ []) ≤ 4096
where_it_fits wide home_as out prefix None = withdrawal wide prefix
where_it_fits wide home_as out prefix (Some route) =
    elim (is_too_long prefix (told_attrs home_as out route)) as (λ b. is_too_long prefix (told_attrs home_as out route) ≡ b
    → octets wide (if b then None else Some (told_attrs home_as out route)) (prefix ∷ []) ≤ 4096) [
      | true ↦ λ e. withdrawal wide prefix
      | false ↦ λ e. announced wide prefix (told_attrs home_as out route) e
    ] refl

pub fits_one : (wide : Bool) (home_as : ℕ) (out : OutSide) (prefix : PrefixValue) (best : Option Best)
    → octets wide (tell_out home_as out prefix best) (prefix ∷ []) ≤ 4096
fits_one wide home_as out prefix None = withdrawal wide prefix
fits_one wide home_as out prefix (Some best) =
    elim (is_kept_back out best)
    as (λ b. octets wide (if b then None else told_where_it_fits home_as out prefix (exported home_as out prefix best.route)) (prefix ∷ []) ≤ 4096) [
      | true ↦ withdrawal wide prefix
      | false ↦ where_it_fits wide home_as out prefix (exported home_as out prefix best.route)
    ]
