-- What policies and telling make of attributes that can be written can be written.
use Rattle.std.proofs.Common.{◌≡◌, ℕ, zero, suc, ◌<◌, ◌^◌, nat_lt, Bool, true, false, cond, List, [], ◌∷◌, length, Option, Some, None, refl, subst, lit<, arith}
use Rattle.std.specs.Prelude.{All, IfSome, option_map, unwrap_or, map}
use Rattle.std.specs.Option.{option_or}
use Rattle.std.specs.List.{AllByRecursion}
use Rattle.std.specs.FinMap as finmap
use Rattle.std.proofs.lemmas.Bool.Decides.{nat_tests}
use Rattle.std.proofs.lemmas.List.Elements.{All-cons, All-nil, All-from_recursion, recursion_from_All}
use Rattle.std.proofs.lemmas.Option.{same_Some}
use Rattle.bgp_types.specs.declared.attrs.Attrs.{Attrs}
use Rattle.bgp_types.specs.declared.attrs.RawAttr.{RawAttr}
use Rattle.bgp_types.specs.declared.attrs.Route.{Route}
use Rattle.bgp_types.specs.declared.path.PathPart.{PathPart}
use Rattle.bgp_types.specs.declared.path.PathPart.TheVariants.{Set, Sequence}
use Rattle.bgp_types.specs.Prefixes.{PrefixValue}
use Rattle.bgp_types.specs.Rising.{IsRising}
use Rattle.bgp_types.specs.Values.{is_no_host, other_kind}
use Rattle.bgp_types.specs.Writable.{IsPart, IsOther, IsWritableAttrs}
use Rattle.route_policy.specs.declared.best.Best.{Best}
use Rattle.route_policy.specs.declared.entry.Entry.{Entry}
use Rattle.route_policy.specs.declared.rule.Rule.{Rule}
use Rattle.route_policy.specs.Candidates.{imported, own_route}
use Rattle.route_policy.specs.Paths.{prepend, prepend_times}
use Rattle.route_policy.specs.Policies.{policy, decision, changed}
use Rattle.route_policy.specs.Rules.{matches, holds_as}
use Rattle.route_policy.specs.Telling.{OutSide, exported, is_kept_back, is_too_long, made_partial, told_attrs, told_where_it_fits, tell_out, without_med}
use Rattle.session_value.specs.Sessions.{SessionValue}
use Rattle.graft_model.specs.Decisions.{entry_of, session_route, remote_identifier}
use Rattle.graft_model.specs.Setups.{Setup, rules_for, rules_named}
use Rattle.graft_laws.specs.Ranges.{HasMedInRange, IsInRange}

-- with any host's address for next hop they can be written
abbrev pub IsSendable : Attrs → Type 0
IsSendable a = (hop : ℕ) → is_no_host hop ≡ false → IsWritableAttrs (record a { next_hop = hop })

pub sendable_of : (a : Attrs) → IsWritableAttrs a → IsSendable a
sendable_of a w hop host = record { path = w.path; next_hop = host; med = w.med; aggregator = w.aggregator; unknown = w.unknown; rising = w.rising }

pub own_sendable : IsSendable own_route.attrs
own_sendable hop host = record { path = All-nil IsPart; next_hop = host; med = tt; aggregator = tt; unknown = All-nil IsOther; rising = tt }

-- ---- paths

one_part : (as_number : ℕ) → as_number < 2 ^ 32 → IsPart (Sequence (as_number ∷ []))
one_part as_number below = record { some = lit< tt; count = lit< tt; each = All-cons (λ n. n < 2 ^ 32) as_number [] below (All-nil (λ n. n < 2 ^ 32)) }

more_part : (as_number : ℕ) (ases : List ℕ) → as_number < 2 ^ 32 → length ases < 255 → IsPart (Sequence ases) → IsPart (Sequence (as_number ∷ ases))
more_part as_number ases below room part =
    record { some = omega arith; count = omega (arith, room); each = All-cons (λ n. n < 2 ^ 32) as_number ases below part.each }

prepend_all : (as_number : ℕ) → as_number < 2 ^ 32 → (path : List PathPart) → All IsPart path → All IsPart (prepend as_number path)
prepend_all as_number below [] all = All-cons IsPart (Sequence (as_number ∷ [])) [] (one_part as_number below) (All-nil IsPart)
prepend_all as_number below (Set ases ∷ parts) all = All-cons IsPart (Sequence (as_number ∷ [])) (Set ases ∷ parts) (one_part as_number below) all
prepend_all as_number below (Sequence ases ∷ parts) all = by_room (nat_lt (length ases) 255) refl where
  each : AllByRecursion IsPart (Sequence ases ∷ parts)
  each = recursion_from_All IsPart (Sequence ases ∷ parts) all

  by_room : (t : Bool) → nat_lt (length ases) 255 ≡ t
      → All IsPart (cond t (Sequence (as_number ∷ ases) ∷ parts) (Sequence (as_number ∷ []) ∷ (Sequence ases ∷ parts)))
  by_room true e = All-cons IsPart (Sequence (as_number ∷ ases)) parts
      (more_part as_number ases below (let room : length ases < 255 = grind (arith, nat_tests) in room) each.0) (All-from_recursion IsPart parts each.1)
  by_room false e = All-cons IsPart (Sequence (as_number ∷ [])) (Sequence ases ∷ parts) (one_part as_number below) all

times_all : (n as_number : ℕ) → as_number < 2 ^ 32 → (path : List PathPart) → All IsPart path → All IsPart (prepend_times n as_number path)
times_all zero as_number below path all = all
times_all (suc n) as_number below path all = prepend_all as_number below (prepend_times n as_number path) (times_all n as_number below path all)

-- ---- policies

some_or : (P : ℕ → Type 0) (a b : Option ℕ) → IfSome a P → IfSome b P → IfSome (option_or a b) P
some_or P None b one other = other
some_or P (Some x) b one other = one

changed_sendable : (rule : Rule) (as_number : ℕ) (route : Route) → as_number < 2 ^ 32 → HasMedInRange rule → IsSendable route.attrs
    → IsSendable (changed rule as_number route).attrs
changed_sendable rule as_number route below med can hop host =
    let w : IsWritableAttrs (record route.attrs { next_hop = hop }) = can hop host in
    record {
      path = times_all rule.prepend as_number below route.attrs.path w.path;
      next_hop = host;
      med = some_or (λ n. n < 2 ^ 32) rule.med route.attrs.med med w.med;
      aggregator = w.aggregator;
      unknown = w.unknown;
      rising = w.rising;
    }

policy_sendable : (rules : List Rule) (prefix : PrefixValue) (as_number : ℕ) (route out : Route) → as_number < 2 ^ 32
    → AllByRecursion HasMedInRange rules → IsSendable route.attrs
    → policy rules prefix as_number route ≡ Some out → IsSendable out.attrs
policy_sendable [] prefix as_number route out below meds can e = subst (λ (v : Route). IsSendable v.attrs) (same_Some route out e) can
policy_sendable (rule ∷ rules) prefix as_number route out below meds can e =
    by_match (matches rule prefix route) (λ f. policy_sendable rules prefix as_number route out below meds.1 can f) e
  where
    by_deny : (t : Bool) → cond t None (Some (changed rule as_number route)) ≡ Some out → IsSendable out.attrs
    by_deny true f = absurd cc
    by_deny false f = subst (λ (v : Route). IsSendable v.attrs) (same_Some (changed rule as_number route) out f)
        (changed_sendable rule as_number route below meds.0 can)

    by_match : (t : Bool) → (policy rules prefix as_number route ≡ Some out → IsSendable out.attrs)
        → cond t (decision rule as_number route) (policy rules prefix as_number route) ≡ Some out → IsSendable out.attrs
    by_match true later f = by_deny rule.deny f
    by_match false later f = later f

unwrapped : (rules : Option (List Rule)) → ((some : List Rule) → rules ≡ Some some → AllByRecursion HasMedInRange some)
    → AllByRecursion HasMedInRange (unwrap_or rules [])
unwrapped None each = tt
unwrapped (Some some) each = each some refl

pub rules_in_range : (setup : Setup) → IsInRange setup → (r : ℕ) (name : Option (List ℕ)) → AllByRecursion HasMedInRange (unwrap_or (rules_for setup r name) [])
rules_in_range setup ranges r None = tt
rules_in_range setup ranges r (Some name) = unwrapped (rules_named setup r name) (λ some is. ranges.meds r name some is)

-- ---- entries

pub entry_sendable : (setup : Setup) → IsInRange setup → (r : ℕ) (s : SessionValue) (x : PrefixValue) (entry : Entry) → s.config.remote_as < 2 ^ 32
    → ((a : Attrs) → finmap.get s.adj_rib_in x ≡ Some a → IsSendable a)
    → entry_of setup r s x ≡ Some entry → IsSendable entry.route.attrs
entry_sendable setup ranges r s x entry below heard e = by_heard (finmap.get s.adj_rib_in x) refl e where
  by_route : (o : Option Route) → ((route : Route) → o ≡ Some route → IsSendable route.attrs)
      → option_map (λ route. record { route = route; identifier = remote_identifier s; address = s.config.remote_address }) o ≡ Some entry
      → IsSendable entry.route.attrs
  by_route None each f = absurd cc
  by_route (Some route) each f = subst (λ (v : Entry). IsSendable v.route.attrs)
      (same_Some (record { route = route; identifier = remote_identifier s; address = s.config.remote_address }) entry f) (each route refl)

  by_loop : (a : Attrs) → finmap.get s.adj_rib_in x ≡ Some a → (t : Bool) (route : Route)
      → cond t None (policy (unwrap_or (rules_for setup r s.config.import) []) x s.config.remote_as (record { attrs = a; pref = 100 })) ≡ Some route
      → IsSendable route.attrs
  by_loop a is true route f = absurd cc
  by_loop a is false route f = policy_sendable (unwrap_or (rules_for setup r s.config.import) []) x s.config.remote_as
      (record { attrs = a; pref = 100 }) route below (rules_in_range setup ranges r s.config.import) (heard a is) f

  by_heard : (h : Option Attrs) → finmap.get s.adj_rib_in x ≡ h
      → option_map (λ route. record { route = route; identifier = remote_identifier s; address = s.config.remote_address })
      (imported setup.home_as x (session_route setup r s x) h) ≡ Some entry
      → IsSendable entry.route.attrs
  by_heard None is f = absurd cc
  by_heard (Some a) is f =
      by_route (imported setup.home_as x (session_route setup r s x) (Some a)) (λ route g. by_loop a is (holds_as a.path setup.home_as) route g) f

-- ---- telling

others : (xs : List RawAttr) → AllByRecursion IsOther xs → AllByRecursion IsOther (map made_partial xs)
others [] all = tt
others (x ∷ xs) all = (record { other = all.0.other; kind = all.0.kind }, others xs all.1)

lower : (n : ℕ) (xs : List RawAttr) → AllByRecursion (λ y. n < other_kind y) xs → AllByRecursion (λ y. n < other_kind y) (map made_partial xs)
lower n [] all = tt
lower n (x ∷ xs) all = (all.0, lower n xs all.1)

rising : (xs : List RawAttr) → IsRising other_kind xs → IsRising other_kind (map made_partial xs)
rising [] r = tt
rising (x ∷ xs) r = (lower (other_kind x) xs r.0, rising xs r.1)

told_is : (home_as : ℕ) (out : OutSide) (route : Route) → home_as < 2 ^ 32 → is_no_host out.local_address ≡ false → IsSendable route.attrs
    → IsWritableAttrs (told_attrs home_as out route)
told_is home_as out route below host can =
    let w : IsWritableAttrs (record route.attrs { next_hop = out.local_address }) = can out.local_address host in
    record {
      path = prepend_all home_as below route.attrs.path w.path;
      next_hop = host;
      med = w.med;
      aggregator = w.aggregator;
      unknown = All-from_recursion IsOther (map made_partial route.attrs.unknown)
          (others route.attrs.unknown (recursion_from_All IsOther route.attrs.unknown w.unknown));
      rising = rising route.attrs.unknown w.rising;
    }

unset : (route : Route) → IsSendable route.attrs → IsSendable (without_med route).attrs
unset route can hop host = let w : IsWritableAttrs (record route.attrs { next_hop = hop }) = can hop host in
    record { path = w.path; next_hop = host; med = tt; aggregator = w.aggregator; unknown = w.unknown; rising = w.rising }

pub tells_writable : (home_as : ℕ) (out : OutSide) (x : PrefixValue) (best : Option Best) (attrs : Attrs) → home_as < 2 ^ 32
    → is_no_host out.local_address ≡ false → AllByRecursion HasMedInRange (unwrap_or out.export_rules [])
    → ((b : Best) → best ≡ Some b → IsSendable b.route.attrs) → tell_out home_as out x best ≡ Some attrs → IsWritableAttrs attrs
tells_writable home_as out x None attrs below host meds can e = absurd cc
tells_writable home_as out x (Some b) attrs below host meds can e = by_kept (is_kept_back out b) e where
  by_size : (route : Route) → IsSendable route.attrs → (t : Bool) → cond t None (Some (told_attrs home_as out route)) ≡ Some attrs → IsWritableAttrs attrs
  by_size route sendable true f = absurd cc
  by_size route sendable false f = subst IsWritableAttrs (same_Some (told_attrs home_as out route) attrs f) (told_is home_as out route below host sendable)

  by_export : (o : Option Route) → exported home_as out x b.route ≡ o → told_where_it_fits home_as out x o ≡ Some attrs → IsWritableAttrs attrs
  by_export None is f = absurd cc
  by_export (Some route) is f =
      by_size route (policy_sendable (unwrap_or out.export_rules []) x home_as (without_med b.route) route below meds (unset b.route (can b refl)) is)
      (is_too_long x (told_attrs home_as out route)) f

  by_kept : (t : Bool) → cond t None (told_where_it_fits home_as out x (exported home_as out x b.route)) ≡ Some attrs → IsWritableAttrs attrs
  by_kept true f = absurd cc
  by_kept false f = by_export (exported home_as out x b.route) refl f
