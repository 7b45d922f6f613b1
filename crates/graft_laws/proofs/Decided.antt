-- What isn't to be decided again has been decided on what the router has.
use Rattle.std.proofs.Common.{◌≡◌, ◌≢◌, ℕ, Bool, true, false, cond, List, [], ◌∷◌, ◌++◌, Option, None, refl, sym, ap, ◌∙◌, subst, ◌⊎◌, inl, inr}
use Rattle.std.specs.Prelude.{◌||◌, fold}
use Rattle.std.specs.List.{cons_option, filter_map, list_any}
use Rattle.std.specs.FinMap as map
use Rattle.std.proofs.lemmas.Bool.{cases_eq}
use Rattle.bgp_types.specs.Prefixes.{PrefixValue, same_prefix}
use Rattle.bgp_types.specs.Tables.{prefix_cmp}
use Rattle.bgp_types.proofs.OnceLaws.{same_itself}
use Rattle.decision_core.specs.Choice.{choice, left_of, keep}
use Rattle.route_policy.specs.declared.best.Best.{Best}
use Rattle.route_policy.specs.Candidates.{Candidate, own_candidates}
use Rattle.session_value.specs.Sets.{Prefixes, has}
use Rattle.graft_model.specs.Decisions.{entry_candidate, telling_candidate, chosen}
use Rattle.graft_model.specs.First.{first_router}
use Rattle.graft_model.specs.Parts.{RouterPart, Entries, Tellings}
use Rattle.graft_model.specs.Points.{at}
use Rattle.graft_model.specs.RouterRows.{RouterTaken, RouterSent}
use Rattle.graft_model.specs.Setups.{Setup, has_network, peering_numbers, router_numbers, of_router}
use Rattle.graft_model.specs.declared.event.RouterEvent.{RouterEvent}
use Rattle.graft_model.proofs.Footprints.{OnePeering, Deciding, Telling, Hearing, Staying, Changing, Footprint, footprint}
use Rattle.graft_model.specs.Steps.{router_row}
use Rattle.graft_model.specs.TableRows.{Decides, Hears, with_telling}
use Rattle.graft_laws.specs.Tables.{Decided}
use Rattle.graft_laws.proofs.PrefixTables.{same, same_is, same_self, one_or_not, has_put, has_removed, get_with, get_telling, none_of}
use Rattle.graft_laws.proofs.Routers.{at_same, at_apart}

-- ---- a choice goes by what the router has for the prefix

pub filter_map_same : {X Y : Type 0} (f g : X → Option Y) (xs : List X) → ((x : X) → f x ≡ g x) → filter_map f xs ≡ filter_map g xs
filter_map_same f g [] same_at = refl
filter_map_same f g (x ∷ xs) same_at =
    ap (λ (o : Option _). cons_option o (filter_map f xs)) (same_at x) ∙ ap (cons_option (g x)) (filter_map_same f g xs same_at)

pub chosen_same : (setup : Setup) (r : ℕ) (a b : RouterPart) (x : PrefixValue) → ((p : ℕ) → map.get (a.entries p) x ≡ map.get (b.entries p) x)
    → ((q : ℕ) → map.get (a.tellings q) x ≡ map.get (b.tellings q) x)
    → chosen setup r a x ≡ chosen setup r b x
chosen_same setup r a b x entries tellings =
    let own : List Candidate = own_candidates setup.home_as (has_network setup r x) in
    let told : RouterPart → List Candidate = λ part. filter_map (λ q. telling_candidate setup r q (map.get (part.tellings q) x)) (router_numbers setup) in
    let es : RouterPart → List Candidate = λ part. filter_map (λ p. entry_candidate setup.home_as p (map.get (part.entries p) x)) (peering_numbers setup) in
    ap (λ (cs : List Candidate). choice (own ++ cs ++ told a))
    (filter_map_same (λ p. entry_candidate setup.home_as p (map.get (a.entries p) x)) (λ p. entry_candidate setup.home_as p (map.get (b.entries p) x))
    (peering_numbers setup) (λ p. ap (entry_candidate setup.home_as p) (entries p)))
    ∙ ap (λ (cs : List Candidate). choice (own ++ es b ++ cs))
    (filter_map_same (λ q. telling_candidate setup r q (map.get (a.tellings q) x)) (λ q. telling_candidate setup r q (map.get (b.tellings q) x))
    (router_numbers setup) (λ q. ap (telling_candidate setup r q) (tellings q)))

-- a table changes at one place, and not for this prefix
at_get : {A : Type 0} (f : ℕ → map.FinMap prefix_cmp A) (j n : ℕ) (t : map.FinMap prefix_cmp A) (x : PrefixValue) → map.get t x ≡ map.get (f j) x
    → map.get (at f j t n) x ≡ map.get (f n) x
at_get f j n t x e = elim (cases_eq n j) [
  | inl is ↦ ap (λ (m : ℕ). map.get (at f j t m) x) is ∙ ap (λ (u : map.FinMap prefix_cmp _). map.get u x) (at_same f j t) ∙ e
      ∙ ap (λ (m : ℕ). map.get (f m) x) (sym is)
  | inr other ↦ ap (λ (u : map.FinMap prefix_cmp _). map.get u x) (at_apart f j n t other)
]

-- where a prefix is decided, the best route to each other one stays, and to all where the choice is what it was
pub best_stays : (setup : Setup) (r : ℕ) (prefix : PrefixValue) (before after : RouterPart) (taken : Option RouterTaken) (sent : List RouterSent)
    → Decides setup r prefix before taken sent after
    → (x : PrefixValue) → (same_prefix prefix x ≡ false) ⊎ (chosen setup r before prefix ≡ map.get before.best prefix)
    → map.get after.best x ≡ map.get before.best x
best_stays setup r prefix before after taken sent row x which =
    ap (λ (v : RouterPart). map.get v.best x) row.effect ∙ get_with before.best prefix (chosen setup r before prefix) x ∙ by_prefix which (one_or_not x prefix)
  where
    by_prefix : (same_prefix prefix x ≡ false) ⊎ (chosen setup r before prefix ≡ map.get before.best prefix)
        → (x ≡ prefix) ⊎ ((same x prefix ≡ false) × (same_prefix x prefix ≡ false))
        → cond (same x prefix) (chosen setup r before prefix) (map.get before.best x) ≡ map.get before.best x
    by_prefix which (inr apart) = ap (λ (t : Bool). cond t (chosen setup r before prefix) (map.get before.best x)) apart.0
    by_prefix (inl other) (inl is) =
        let t : same_prefix prefix x ≡ true = ap (same_prefix prefix) is ∙ same_itself prefix in
        let f : true ≡ false = sym t ∙ other in absurd cc
    by_prefix (inr stays) (inl is) =
        ap (λ (t : Bool). cond t (chosen setup r before prefix) (map.get before.best x)) (ap (λ (y : PrefixValue). same y prefix) is ∙ same_self prefix)
        ∙ stays ∙ ap (map.get before.best) (sym is)

-- ---- the rows

module _ (setup : Setup) (r : ℕ) (before after : RouterPart) (d : Decided setup r before) where
  -- one peering changes, with its entries
  entered : (p : ℕ) → OnePeering p before after → Decided setup r after
  entered p one = record {
    best = λ x clean. ap (λ (t : map.FinMap prefix_cmp Best). map.get t x) one.best ∙ d.best x (one.dirty.others x clean).0
        ∙ sym (chosen_same setup r after before x (λ n. by_number x clean n (cases_eq n p)) (λ q. ap (λ (f : ℕ → Tellings). map.get (f q) x) one.tellings));
  } where
    by_number : (x : PrefixValue) → has after.dirty x ≡ false → (n : ℕ) → (n ≡ p) ⊎ (n ≢ p) → map.get (after.entries n) x ≡ map.get (before.entries n) x
    by_number x clean n (inl is) = subst (λ (m : ℕ). map.get (after.entries m) x ≡ map.get (before.entries m) x) (sym is) (one.dirty.others x clean).1
    by_number x clean n (inr other) = ap (λ (es : Entries). map.get es x) (one.entries n other)

  decides : (prefix : PrefixValue) (taken : Option RouterTaken) (sent : List RouterSent) → Decides setup r prefix before taken sent after
      → Decided setup r after
  decides prefix taken sent row = record { best = λ x clean. by_prefix x clean (one_or_not x prefix) } where
    best_is : (x : PrefixValue) → map.get after.best x ≡ cond (same x prefix) (chosen setup r before prefix) (map.get before.best x)
    best_is x = ap (λ (v : RouterPart). map.get v.best x) row.effect ∙ get_with before.best prefix (chosen setup r before prefix) x

    choice_is : (x : PrefixValue) → chosen setup r before x ≡ chosen setup r after x
    choice_is x = chosen_same setup r before after x (λ p. ap (λ (v : RouterPart). map.get (v.entries p) x) (sym row.effect))
        (λ q. ap (λ (v : RouterPart). map.get (v.tellings q) x) (sym row.effect))

    by_prefix : (x : PrefixValue) → has after.dirty x ≡ false → (x ≡ prefix) ⊎ ((same x prefix ≡ false) × (same_prefix x prefix ≡ false))
        → map.get after.best x ≡ chosen setup r after x
    by_prefix x clean (inl is) =
        best_is x
        ∙ ap (λ (t : Bool). cond t (chosen setup r before prefix) (map.get before.best x)) (ap (λ (y : PrefixValue). same y prefix) is ∙ same_self prefix)
        ∙ ap (chosen setup r before) (sym is) ∙ choice_is x
    by_prefix x clean (inr apart) =
        let was : has before.dirty x ≡ false = sym (ap (λ (v : RouterPart). has v.dirty x) row.effect
        ∙ has_removed before.dirty prefix x ∙ ap (λ (t : Bool). cond t false (has before.dirty x)) apart.0) ∙ clean in
        best_is x ∙ ap (λ (t : Bool). cond t (chosen setup r before prefix) (map.get before.best x)) apart.0 ∙ d.best x was ∙ choice_is x

  hears : (q : ℕ) (taken : Option RouterTaken) (sent : List RouterSent) → Hears q before taken sent after → Decided setup r after
  hears q taken sent row = record {
    best = λ x clean. let u = unheard x clean row.dirty in
        ap (λ (v : RouterPart). map.get v.best x) row.effect ∙ d.best x u.0
        ∙ sym (chosen_same setup r after before x (λ p. ap (λ (v : RouterPart). map.get (v.entries p) x) row.effect)
        (λ n. ap (λ (v : RouterPart). map.get (v.tellings n) x) row.effect
        ∙ at_get before.tellings q n (with_telling (before.tellings q) row.prefix row.route) x u.1));
  } where
    told_same : (x : PrefixValue) (t : Bool) → same x row.prefix ≡ t → row.route ≡ map.get (before.tellings q) row.prefix
        → cond t row.route (map.get (before.tellings q) x) ≡ map.get (before.tellings q) x
    told_same x true e is = is ∙ ap (λ (y : PrefixValue). map.get (before.tellings q) y) (sym (same_is x row.prefix e))
    told_same x false e is = refl

    -- a prefix that isn't dirty afterwards wasn't before, and has the telling that it had
    unheard : (x : PrefixValue) → has after.dirty x ≡ false
        → ((row.route ≡ map.get (before.tellings q) row.prefix) × (after.dirty ≡ before.dirty))
        ⊎ ((row.route ≢ map.get (before.tellings q) row.prefix) × (after.dirty ≡ map.insert before.dirty row.prefix tt))
        → (has before.dirty x ≡ false) × (map.get (with_telling (before.tellings q) row.prefix row.route) x ≡ map.get (before.tellings q) x)
    unheard x clean (inl is) = (
      ap (λ (s : Prefixes). has s x) (sym is.1) ∙ clean,
      get_telling (before.tellings q) row.prefix row.route x ∙ told_same x (same x row.prefix) refl is.0,
    )
    unheard x clean (inr other) =
        let both =
        none_of (same x row.prefix) (has before.dirty x) (sym (ap (λ (s : Prefixes). has s x) other.1 ∙ has_put before.dirty row.prefix x) ∙ clean) in
        (both.1, get_telling (before.tellings q) row.prefix row.route x ∙ ap (λ (t : Bool). cond t row.route (map.get (before.tellings q) x)) both.0)

  pub decided_row : (event : RouterEvent) (taken : Option RouterTaken) (sent : List RouterSent) → router_row setup r event before taken sent after
      → Decided setup r after
  decided_row event taken sent row = by_print (footprint setup r before after taken sent event row) where
    by_print : Footprint setup r event before taken sent after → Decided setup r after
    by_print (Deciding prefix row) = decides prefix taken sent row
    by_print (Telling q prefix row) = record {
      best = λ x clean. ap (λ (u : RouterPart). map.get u.best x) row.effect ∙ d.best x (ap (λ (u : RouterPart). has u.dirty x) (sym row.effect) ∙ clean)
          ∙ sym (chosen_same setup r after before x (λ p. ap (λ (u : RouterPart). map.get (u.entries p) x) row.effect)
          (λ n. ap (λ (u : RouterPart). map.get (u.tellings n) x) row.effect));
    }
    by_print (Hearing q row) = hears q taken sent row
    by_print (Staying silent is) = subst (Decided setup r) (sym is) d
    by_print (Changing p silent one change) = entered p one

-- ---- the first world

all_dirty : (networks : List PrefixValue) (s : Prefixes) (x : PrefixValue)
    → has (fold (λ prefixes network. map.insert prefixes network tt) s networks) x ≡ false
    → (has s x ≡ false) × (list_any (same_prefix x) networks ≡ false)
all_dirty [] s x clean = (clean, refl)
all_dirty (y ∷ ys) s x clean =
    let rest = all_dirty ys (map.insert s y tt) x clean in
    let both = none_of (same x y) (has s x) (sym (has_put s y x) ∙ rest.0) in
    (both.1, by_prefix rest.1 both.0 (one_or_not x y))
  where
    by_prefix : list_any (same_prefix x) ys ≡ false → same x y ≡ false → (x ≡ y) ⊎ ((same x y ≡ false) × (same_prefix x y ≡ false))
        → list_any (same_prefix x) (y ∷ ys) ≡ false
    by_prefix later not (inl is) = let t : same x y ≡ true = ap (same x) (sym is) ∙ same_self x in absurd cc
    by_prefix later not (inr apart) = ap (λ (t : Bool). t || list_any (same_prefix x) ys) apart.1 ∙ later

none_from : {X Y : Type 0} (f : X → Option Y) (xs : List X) → ((x : X) → f x ≡ None) → filter_map f xs ≡ []
none_from f [] none = refl
none_from f (x ∷ xs) none = ap (λ (o : Option _). cons_option o (filter_map f xs)) (none x) ∙ none_from f xs none

choice_none : {K : Type 0} → choice {K = K} [] ≡ None
unfolding choice left_of keep
choice_none = refl

pub first_decided : (setup : Setup) (r : ℕ) → Decided setup r (first_router setup r)
first_decided setup r = record {
  best = λ x clean.
      let own : has_network setup r x ≡ false = (all_dirty (of_router (λ router. router.networks) [] setup r) map.empty x clean).1 in
      let entries : Entries = map.empty in
      let tellings : Tellings = map.empty in
      let no_entry : map.get entries x ≡ None = map.get-empty prefix_cmp x in
      let no_telling : map.get tellings x ≡ None = map.get-empty prefix_cmp x in
      let told : List Candidate = filter_map (λ q. telling_candidate setup r q (map.get tellings x)) (router_numbers setup) in
      map.get-empty prefix_cmp x ∙ sym (
      ap (λ (t : Bool). choice (own_candidates setup.home_as t
      ++ filter_map (λ p. entry_candidate setup.home_as p (map.get entries x)) (peering_numbers setup) ++ told)) own
      ∙ ap (λ (cs : List Candidate). choice (cs ++ told))
      (none_from (λ p. entry_candidate setup.home_as p (map.get entries x)) (peering_numbers setup) (λ p. ap (entry_candidate setup.home_as p) no_entry))
      ∙ ap (λ (cs : List Candidate). choice cs)
      (none_from (λ q. telling_candidate setup r q (map.get tellings x)) (router_numbers setup) (λ q. ap (telling_candidate setup r q) no_telling))
      ∙ choice_none
      );
}
