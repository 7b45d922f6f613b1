-- How the entries of a peering follow a list of prefixes, and what a session brings in by the policies of the laboratory.
use Rattle.std.proofs.Common.{◌≡◌, ◌≢◌, ℕ, List, [], ◌∷◌, ◌++◌, Bool, true, false, ◌||◌, Option, Some, None, refl, sym, ap, subst, ◌∙◌, inl, inr, ◌⊎◌}
use Rattle.std.proofs.Common.{is_some, option_map}
use Rattle.std.specs.Prelude.{is_none, unwrap_or, if◌then◌else◌}
use Rattle.std.specs.FinMap as map
use Rattle.std.specs.List.{list_any}
use Rattle.std.proofs.lemmas.List.Folds.{list_any-append}
use Rattle.bgp_types.specs.Prefixes.{PrefixValue, same_prefix}
use Rattle.bgp_types.specs.declared.attrs.Attrs.{Attrs}
use Rattle.bgp_types.proofs.OnceLaws.{same_itself, is_same}
use Rattle.loc_rib.specs.Values.{with_value}
use Rattle.route_policy.specs.Candidates.{SessionRoute, imported}
use Rattle.route_policy.specs.Policies.{policy}
use Rattle.route_policy.specs.Rules.{holds_as}
use Rattle.route_policy.specs.declared.entry.Entry.{Entry}
use Rattle.route_policy.specs.declared.rule.Rule.{Rule}
use Rattle.session_value.specs.declared.config.SessionConfig.{SessionConfig}
use Rattle.session_value.specs.Sessions.{SessionValue}
use Rattle.session_value.specs.Sets.{Entries, Prefixes, Marks, MarksOne}
use Rattle.rib_stages.specs.Steps.{SetsEntry}
use Rattle.rib_stages.specs.Values.{RibValue}
use Rattle.rib_stages.proofs.Marks.{with_here, with_there, with_same, marks_next}
use Rattle.update_plan.proofs.Keys.{keys_any}
use Rattle.graft_model.specs.Decisions.{entry_of, remote_identifier, session_route}
use Rattle.graft_model.specs.Points.{at}
use Rattle.graft_model.specs.RouterRows.{BringsIn}
use Rattle.graft_model.specs.Setups.{Setup, first_name, missing_policy, rules_for, unknown_policy}
use Rattle.actor_configs.specs.Configs.{ArePoliciesOf}
use Rattle.actor_configs.specs.declared.router.NamedPolicy.{NamedPolicy}
use Rattle.router_tables.specs.Entering.{EntersAll, entry_here, missing_by, rules_by, unknown_by}
use Rattle.router_tables.specs.Owned.{HasNoEntry}
use Rattle.router_tables.proofs.Points.{at_own, at_else, at_is}

-- ---- which prefixes stand in a list

-- a prefix is the other one, or the test of it fails
pub same_or_not : (x y : PrefixValue) → (y ≡ x) ⊎ (same_prefix y x ≡ false)
same_or_not x y = by_test (same_prefix y x) refl where
  by_test : (b : Bool) → same_prefix y x ≡ b → (y ≡ x) ⊎ (same_prefix y x ≡ false)
  by_test true e = inl (is_same y x e)
  by_test false e = inr e

any_more : (xs : List PrefixValue) (x y : PrefixValue) → list_any (same_prefix y) (xs ++ x ∷ []) ≡ (list_any (same_prefix y) xs || (same_prefix y x || false))
any_more xs x y = list_any-append (same_prefix y) xs (x ∷ [])

pub any_last : (xs : List PrefixValue) (x : PrefixValue) → list_any (same_prefix x) (xs ++ x ∷ []) ≡ true
any_last xs x = any_more xs x x ∙ ap (λ (b : Bool). list_any (same_prefix x) xs || (b || false)) (same_itself x) ∙ or_true (list_any (same_prefix x) xs) where
  or_true : (b : Bool) → (b || (true || false)) ≡ true
  or_true true = refl
  or_true false = refl

pub any_other : (xs : List PrefixValue) (x y : PrefixValue) → same_prefix y x ≡ false → list_any (same_prefix y) (xs ++ x ∷ []) ≡ list_any (same_prefix y) xs
any_other xs x y e = any_more xs x y ∙ ap (λ (b : Bool). list_any (same_prefix y) xs || (b || false)) e ∙ or_false (list_any (same_prefix y) xs) where
  or_false : (b : Bool) → (b || (false || false)) ≡ b
  or_false true = refl
  or_false false = refl

not_same : (x y : PrefixValue) → same_prefix y x ≡ false → y ≢ x
not_same x y e is = let a : same_prefix y y ≡ false = subst (λ (z : PrefixValue). same_prefix y z ≡ false) (sym is) e in
    let b : true ≡ false = sym (same_itself y) ∙ a in absurd cc

-- ---- one prefix after another

pub enters_none : (v : RibValue) (p : ℕ) (values : PrefixValue → Option Entry) → EntersAll v p values [] v
enters_none v p values = record {
  each = λ x e. absurd (let f : false ≡ true = e in let b : ⊥ = cc in b);
  others = λ x e. refl;
  dirty = record { marked = λ x e. inl e; others = λ x e. (e, refl) };
  effect = λ i. record v { entries = at_is v.entries v.entries p (v.entries p) refl (λ q not. refl) i };
}

module _ (a b c : RibValue) (p : ℕ) (values : PrefixValue → Option Entry) (xs : List PrefixValue)
    (x : PrefixValue) (so_far : EntersAll a p values xs b) (one : SetsEntry b p x (values x) c) where
  entries_now : c.entries p ≡ with_value (b.entries p) x (values x)
  entries_now = ap (λ (v : RibValue). v.entries p) one.effect ∙ at_own b.entries p (with_value (b.entries p) x (values x))

  get_here : map.get (c.entries p) x ≡ values x
  get_here = ap (λ (es : Entries). map.get es x) entries_now ∙ with_here (b.entries p) x (values x)

  get_there : (y : PrefixValue) → y ≢ x → map.get (c.entries p) y ≡ map.get (b.entries p) y
  get_there y not = ap (λ (es : Entries). map.get es y) entries_now ∙ with_there (b.entries p) x (values x) y not

  marks_on : Marks a.dirty (a.entries p) (c.entries p) c.dirty
  marks_on = subst (λ (es : Entries). Marks a.dirty (a.entries p) es c.dirty) (sym entries_now) (by_test (list_any (same_prefix x) xs) refl one.dirty) where
    same_again : values x ≡ map.get (b.entries p) x → c.dirty ≡ b.dirty → Marks a.dirty (a.entries p) (with_value (b.entries p) x (values x)) c.dirty
    same_again is stays = subst (λ (es : Entries). Marks a.dirty (a.entries p) es c.dirty) (sym (with_same (b.entries p) x (values x) is))
        (subst (λ (s : Prefixes). Marks a.dirty (a.entries p) (b.entries p) s) (sym stays) so_far.dirty)

    by_test : (t : Bool) → list_any (same_prefix x) xs ≡ t → MarksOne b.dirty x (map.get (b.entries p) x) (values x) c.dirty
        → Marks a.dirty (a.entries p) (with_value (b.entries p) x (values x)) c.dirty
    by_test true e (inl (is, stays)) = same_again is stays
    by_test true e (inr (differs, set)) = absurd (differs (sym (so_far.each x e)))
    by_test false e m = marks_next a.dirty b.dirty c.dirty (a.entries p) (b.entries p) x (values x) so_far.dirty (so_far.others x e) m

  pub enters_more : EntersAll a p values (xs ++ x ∷ []) c
  enters_more = record {
    each = λ y e. elim (same_or_not x y) [
      | inl is ↦ ap (λ (z : PrefixValue). map.get (c.entries p) z) is ∙ get_here ∙ ap values (sym is)
      | inr not ↦ get_there y (not_same x y not) ∙ so_far.each y (sym (any_other xs x y not) ∙ e)
    ];
    others = λ y e. elim (same_or_not x y) [
      | inl is ↦ absurd (let t : true ≡ false =
          sym (any_last xs x) ∙ ap (λ (z : PrefixValue). list_any (same_prefix z) (xs ++ x ∷ [])) (sym is) ∙ e in let bot : ⊥ = cc in bot)
      | inr not ↦ get_there y (not_same x y not) ∙ so_far.others y (sym (any_other xs x y not) ∙ e)
    ];
    dirty = marks_on;
    effect = one.effect ∙ (λ i. record (so_far.effect i) { entries = at_then i; dirty = c.dirty });
  }
    where
      at_then : at b.entries p (with_value (b.entries p) x (values x)) ≡ at a.entries p (c.entries p)
      at_then = at_is a.entries (at b.entries p (with_value (b.entries p) x (values x))) p (c.entries p)
          (at_own b.entries p (with_value (b.entries p) x (values x)) ∙ sym entries_now)
          (λ q not. at_else b.entries p (with_value (b.entries p) x (values x)) q not
          ∙ ap (λ (v : RibValue). v.entries q) so_far.effect ∙ at_else a.entries p (b.entries p) q not)

-- ---- what an import policy makes of attributes

pub imported_is : (home_as : ℕ) (prefix : PrefixValue) (session : SessionRoute)
    (rules : Option (List Rule)) (remote_as : ℕ) (heard : Option Attrs) (attrs copy : Attrs)
    → session.import_rules ≡ rules → session.remote_as ≡ remote_as → heard ≡ Some attrs
    → holds_as attrs.path home_as ≡ false → copy ≡ attrs
    → policy (unwrap_or rules []) prefix remote_as (record { attrs = copy; pref = 100 }) ≡ imported home_as prefix session heard
imported_is home_as prefix session rules remote_as heard attrs copy same_rules same_as is not same =
    ap (λ (a : Attrs). policy (unwrap_or rules []) prefix remote_as (record { attrs = a; pref = 100 })) same
    ∙ ap (λ (rs : Option (List Rule)). policy (unwrap_or rs []) prefix remote_as (record { attrs = attrs; pref = 100 })) (sym same_rules)
    ∙ ap (λ (n : ℕ). policy (unwrap_or session.import_rules []) prefix n (record { attrs = attrs; pref = 100 })) (sym same_as)
    ∙ sym (ap (imported home_as prefix session) is
    ∙ ap (λ (b : Bool). if b then None else policy (unwrap_or session.import_rules []) prefix session.remote_as (record { attrs = attrs; pref = 100 })) not)

-- ---- by the policies of the laboratory's router

pub rules_is : (setup : Setup) (r : ℕ) (policies : List NamedPolicy) (name : Option (List ℕ)) → ArePoliciesOf setup r policies
    → rules_by policies name ≡ rules_for setup r name
rules_is setup r policies None named = refl
rules_is setup r policies (Some name) named = named.each name

unknown_is : (setup : Setup) (r : ℕ) (policies : List NamedPolicy) (name : Option (List ℕ)) → ArePoliciesOf setup r policies
    → unknown_by policies name ≡ unknown_policy setup r name
unknown_is setup r policies None named = refl
unknown_is setup r policies (Some name) named = ap (λ (o : Option (List Rule)). if is_none o then Some name else None) (named.each name)

pub missing_is : (setup : Setup) (r : ℕ) (policies : List NamedPolicy) (config : SessionConfig) → ArePoliciesOf setup r policies
    → missing_by policies config ≡ missing_policy setup r config
missing_is setup r policies config named =
    λ i. first_name (unknown_is setup r policies config.import named i) (unknown_is setup r policies config.export named i)

entry_by : ℕ → Option (List Rule) → SessionValue → PrefixValue → Option Entry
entry_by home_as rules s x = option_map
    (λ route. record { route = route; identifier = remote_identifier s; address = s.config.remote_address })
    (imported home_as x (record {
      peering = s.config.peering;
      remote_as = s.config.remote_as;
      identifier = remote_identifier s;
      address = s.config.remote_address;
      import_rules = rules;
      heard = map.get s.adj_rib_in x;
    }) (map.get s.adj_rib_in x))

pub entry_at : (setup : Setup) (r home_as : ℕ) (policies : List NamedPolicy) (s : SessionValue) (x : PrefixValue) → home_as ≡ setup.home_as
    → ArePoliciesOf setup r policies → entry_here home_as policies s x ≡ entry_of setup r s x
unfolding entry_by
entry_at setup r home_as policies s x home named = ap (λ (n : ℕ). entry_by n (rules_by policies s.config.import) s x) home
    ∙ ap (λ (rules : Option (List Rule)). entry_by setup.home_as rules s x) (rules_is setup r policies s.config.import named)

none_brought : (setup : Setup) (r : ℕ) (s : SessionValue) (x : PrefixValue) → map.get s.adj_rib_in x ≡ None → entry_of setup r s x ≡ None
none_brought setup r s x e = ap (λ (h : Option Attrs).
    option_map (λ route. let v : Entry = record { route = route; identifier = remote_identifier s; address = s.config.remote_address } in v)
    (imported setup.home_as x (session_route setup r s x) h)) e

pub no_value : {A : Type 0} (o : Option A) → is_some o ≡ false → o ≡ None
no_value None e = refl
no_value (Some a) e = absurd (let z : ⊥ = cc in z)

-- all that a session heard is brought in, where it had no entries
pub brings_all : (setup : Setup) (r home_as : ℕ) (policies : List NamedPolicy) (s : SessionValue) (before after : RibValue) → home_as ≡ setup.home_as
    → ArePoliciesOf setup r policies → HasNoEntry (before.entries s.config.peering.0)
    → EntersAll before s.config.peering.0 (entry_here home_as policies s) (map.keys s.adj_rib_in) after
    → BringsIn setup r s (after.entries s.config.peering.0)
brings_all setup r home_as policies s before after home named none entered x = by_test (is_some (map.get s.adj_rib_in x)) refl
  where
    by_test : (b : Bool) → is_some (map.get s.adj_rib_in x) ≡ b → map.get (after.entries s.config.peering.0) x ≡ entry_of setup r s x
    by_test true e = entered.each x (keys_any s.adj_rib_in x ∙ e) ∙ entry_at setup r home_as policies s x home named
    by_test false e = entered.others x (keys_any s.adj_rib_in x ∙ e) ∙ no_value (map.get (before.entries s.config.peering.0) x) (none x)
        ∙ sym (none_brought setup r s x (no_value (map.get s.adj_rib_in x) e))
