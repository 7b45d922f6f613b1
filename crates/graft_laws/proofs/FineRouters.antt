-- What routers hold, tell and hand on can be written.
use Rattle.std.proofs.Common.{◌≡◌, ℕ, Bool, true, false, cond, List, [], ◌∷◌, ◌++◌, Option, Some, None, refl, sym, ap, ◌∙◌, subst, inl, inr}
use Rattle.std.specs.Prelude.{fold, option_map, is_some}
use Rattle.std.specs.FinMap as map
use Rattle.std.specs.List.{AllByRecursion, cons_option, filter_map}
use Rattle.std.proofs.lemmas.Bool.{cases_eq}
use Rattle.std.proofs.lemmas.Option.{same_Some}
use Rattle.bgp_types.specs.declared.attrs.Route.{Route}
use Rattle.bgp_types.specs.declared.rank.From.{From}
use Rattle.bgp_types.specs.declared.rank.From.TheVariants as from
use Rattle.bgp_types.specs.declared.rank.Rank.{Rank}
use Rattle.bgp_types.specs.OctetLists.{AreOctets}
use Rattle.bgp_types.specs.Prefixes.{PrefixValue}
use Rattle.bgp_types.specs.Tables.{prefix_cmp}
use Rattle.decision_core.specs.Choice.{Rule, choice, first, keep, left_of, nine_rules}
use Rattle.route_policy.specs.Candidates.{Candidate, own_candidates}
use Rattle.route_policy.specs.Telling.{inside, tell_in}
use Rattle.route_policy.specs.declared.best.Best.{Best}
use Rattle.route_policy.specs.declared.entry.Entry.{Entry}
use Rattle.session_value.specs.Sessions.{SessionValue, unread}
use Rattle.graft_model.specs.Decisions.{chosen, entry_candidate, telling_candidate}
use Rattle.graft_model.specs.Parts.{Errand, Place, Vacant, Live, Frozen, Shadow, RouterPart, Entries, Tellings, Mesh, Told, Moved, Back, Asked, Answered, Done}
use Rattle.graft_model.specs.RouterRows.{RouterTaken, MeshIn, RouterSent, MeshTo, OutwardTo, ReportOut, BringsIn, FollowsHeard, Follows}
use Rattle.graft_model.specs.Setups.{Setup, has_network, peering_numbers, router_numbers}
use Rattle.graft_model.specs.declared.event.RouterEvent.{RouterEvent}
use Rattle.graft_model.proofs.Footprints.{Carries, Holds, HoldsNone, SendsNoTelling, OnePeering, ByItself, ByFrame, ByRound}
use Rattle.graft_model.proofs.Footprints.{PeeringChange, Keeping, PuttingNothing, PuttingSome, Following, Emptying, Reviving}
use Rattle.graft_model.proofs.Footprints.{Deciding, Telling, Hearing, Staying, Changing, Footprint, footprint}
use Rattle.graft_model.specs.Steps.{router_row}
use Rattle.graft_model.specs.TableRows.{Decides, Hears, with_telling}
use Rattle.graft_laws.specs.Ranges.{IsInRange}
use Rattle.graft_laws.proofs.HeardSendable.{IsFine, gets_fine, passes_fine}
use Rattle.graft_laws.proofs.Lists.{all_join, filter_all}
use Rattle.graft_laws.proofs.PrefixTables.{same, get_with, get_telling}
use Rattle.graft_laws.proofs.Routers.{at_keeps}
use Rattle.graft_laws.proofs.Sendable.{IsSendable, own_sendable, entry_sendable}

-- ---- the choice is one of the candidates

module _ {K : Type 0} (P : K → Type 0) where
  kept : (better : K × Rank → K × Rank → Bool) (cs : List (K × Rank)) → AllByRecursion (λ c. P c.0) cs → AllByRecursion (λ c. P c.0) (keep better cs)
  unfolding keep
  kept better cs all = filter_all (λ c. P c.0) _ cs all

  left : (rules : List Rule) (cs : List (K × Rank)) → AllByRecursion (λ c. P c.0) cs
      → AllByRecursion (λ c. P c.0) (fold (λ rest better. keep (λ c d. better c.1 d.1) rest) cs rules)
  left [] cs all = all
  left (rule ∷ rules) cs all = left rules (keep (λ c d. rule c.1 d.1) cs) (kept (λ c d. rule c.1 d.1) cs all)

  of_first : (cs : List (K × Rank)) (k : K) → AllByRecursion (λ c. P c.0) cs → option_map (λ c. c.0) (first cs) ≡ Some k → P k
  of_first [] k all e = absurd cc
  of_first (c ∷ cs) k all e = subst P (same_Some c.0 k e) all.0

  pub choice_has : (cs : List (K × Rank)) (k : K) → AllByRecursion (λ c. P c.0) cs → choice cs ≡ Some k → P k
  unfolding choice left_of
  choice_has cs k all e = of_first (fold (λ rest better. keep (λ c d. better c.1 d.1) rest) cs nine_rules) k (left nine_rules cs all) e

-- ---- a router's part

abbrev pub IsFineEntry : Entry → Type 0
IsFineEntry entry = IsSendable entry.route.attrs

abbrev pub AreFineEntries : Entries → Type 0
AreFineEntries entries = (x : PrefixValue) (entry : Entry) → map.get entries x ≡ Some entry → IsFineEntry entry

abbrev pub AreFineTellings : Tellings → Type 0
AreFineTellings tellings = (x : PrefixValue) (route : Route) → map.get tellings x ≡ Some route → IsSendable route.attrs

abbrev pub IsFinePlace : Place → Type 0
IsFinePlace Vacant = Unit {0}
IsFinePlace (Live s order) = IsFine s
IsFinePlace (Frozen s order) = IsFine s
IsFinePlace (Shadow graft) = Unit {0}

abbrev pub IsFineItem : Mesh → Type 0
IsFineItem (Told x None) = Unit {0}
IsFineItem (Told x (Some route)) = IsSendable route.attrs
IsFineItem (Moved graft p s) = IsFine s
IsFineItem (Back graft p s refusal) = IsFine s
IsFineItem (Asked graft p) = Unit {0}
IsFineItem (Answered graft p) = Unit {0}
IsFineItem (Done graft p) = Unit {0}

abbrev pub IsFineTaken : Option RouterTaken → Type 0
IsFineTaken (Some (MeshIn q item)) = IsFineItem item
IsFineTaken taken = Unit {0}

abbrev pub IsFineSent : RouterSent → Type 0
IsFineSent (MeshTo q item) = IsFineItem item
IsFineSent (OutwardTo p item) = Unit {0}
IsFineSent (ReportOut report) = Unit {0}

pub record IsFinePart (part : RouterPart) : Type 0 where
  pub places : (p : ℕ) → IsFinePlace (part.places p)
  pub entries : (p : ℕ) → AreFineEntries (part.entries p)
  pub tellings : (q : ℕ) → AreFineTellings (part.tellings q)
  pub best : (x : PrefixValue) (b : Best) → map.get part.best x ≡ Some b → IsSendable b.route.attrs

pub record Finely (after : RouterPart) (sent : List RouterSent) : Type 0 where
  pub part : IsFinePart after
  pub items : AllByRecursion IsFineSent sent

pub no_entries : AreFineEntries map.empty
no_entries x entry e = let f : ◌≡◌ {A = Bool} false true = ap is_some (sym (map.get-empty prefix_cmp x) ∙ e) in absurd cc

held_fine : (place : Place) (s : SessionValue) → Holds place s → IsFine s → IsFinePlace place
held_fine Vacant s holds own = tt
held_fine (Live t errand) s holds own = subst IsFine (sym holds) own
held_fine (Frozen t order) s holds own = subst IsFine (sym holds) own
held_fine (Shadow graft) s holds own = tt

none_fine : (place : Place) → HoldsNone place → IsFinePlace place
none_fine Vacant none = tt
none_fine (Live t errand) none = absurd (none t refl)
none_fine (Frozen t order) none = absurd (none t refl)
none_fine (Shadow graft) none = tt

carried_fine : (item : Mesh) (s : SessionValue) → Carries item s → IsFineItem item → IsFine s
carried_fine (Told x route) s carries own = absurd carries
carried_fine (Moved k p t) s carries own = subst IsFine carries own
carried_fine (Back k p t refusal) s carries own = subst IsFine carries own
carried_fine (Asked k p) s carries own = absurd carries
carried_fine (Answered k p) s carries own = absurd carries
carried_fine (Done k p) s carries own = absurd carries

told_item : (x : PrefixValue) (best : Option Best) → ((b : Best) → best ≡ Some b → IsSendable b.route.attrs) → IsFineItem (Told x (tell_in best))
told_item x None each = tt
told_item x (Some b) each = by_from b.from where
  by_from : (source : From) → IsFineItem (Told x (inside source b.route))
  by_from from.Own = each b refl
  by_from (from.Peering p) = each b refl
  by_from (from.Router q) = tt

-- ---- the candidates

own_fine : (home_as : ℕ) (t : Bool) → AllByRecursion (λ (c : Candidate). IsSendable c.0.route.attrs) (own_candidates home_as t)
own_fine home_as true = (own_sendable, tt)
own_fine home_as false = tt

all_of_some : {X Y : Type 0} (P : Y → Type 0) (f : X → Option Y) (xs : List X) → ((x : X) (y : Y) → f x ≡ Some y → P y) → AllByRecursion P (filter_map f xs)
all_of_some P f [] each = tt
all_of_some P f (x ∷ xs) each = by_option (f x) refl (all_of_some P f xs each) where
  by_option : (o : Option _) → f x ≡ o → AllByRecursion P (filter_map f xs) → AllByRecursion P (cons_option o (filter_map f xs))
  by_option None is rest = rest
  by_option (Some y) is rest = (each x y is, rest)

module _ (setup : Setup) (ranges : IsInRange setup) (r : ℕ) (before after : RouterPart) (fine : IsFinePart before) where
  entry_fine : (p : ℕ) (o : Option Entry) (c : Candidate) → ((e : Entry) → o ≡ Some e → IsSendable e.route.attrs)
      → entry_candidate setup.home_as p o ≡ Some c → IsSendable c.0.route.attrs
  entry_fine p None c each f = absurd cc
  entry_fine p (Some e) c each f = subst (λ (d : Candidate). IsSendable d.0.route.attrs) (same_Some _ c f) (each e refl)

  telling_fine : (q : ℕ) (o : Option Route) (c : Candidate) → ((t : Route) → o ≡ Some t → IsSendable t.attrs)
      → telling_candidate setup r q o ≡ Some c → IsSendable c.0.route.attrs
  telling_fine q None c each f = absurd cc
  telling_fine q (Some t) c each f = subst (λ (d : Candidate). IsSendable d.0.route.attrs) (same_Some _ c f) (each t refl)

  chosen_fine : (x : PrefixValue) (b : Best) → chosen setup r before x ≡ Some b → IsSendable b.route.attrs
  chosen_fine x b e =
      let entries : List Candidate = filter_map (λ p. entry_candidate setup.home_as p (map.get (before.entries p) x)) (peering_numbers setup) in
      let tellings : List Candidate = filter_map (λ q. telling_candidate setup r q (map.get (before.tellings q) x)) (router_numbers setup) in
      let own : List Candidate = own_candidates setup.home_as (has_network setup r x) in
      choice_has (λ (k : Best). IsSendable k.route.attrs) (own ++ entries ++ tellings) b
      (all_join (λ (c : Candidate). IsSendable c.0.route.attrs) (own ++ entries) tellings
      (all_join (λ (c : Candidate). IsSendable c.0.route.attrs) own entries (own_fine setup.home_as (has_network setup r x))
      (all_of_some (λ (c : Candidate). IsSendable c.0.route.attrs) (λ p. entry_candidate setup.home_as p (map.get (before.entries p) x))
      (peering_numbers setup) (λ p c f. entry_fine p (map.get (before.entries p) x) c (fine.entries p x) f)))
      (all_of_some (λ (c : Candidate). IsSendable c.0.route.attrs) (λ q. telling_candidate setup r q (map.get (before.tellings q) x))
      (router_numbers setup) (λ q c f. telling_fine q (map.get (before.tellings q) x) c (fine.tellings q x) f))) e

  -- ---- the rows

  live_fine : (p : ℕ) (s : SessionValue) (o : Option Errand) → before.places p ≡ Live s o → IsFine s
  live_fine p s o live = subst IsFinePlace live (fine.places p)

  -- one peering changes
  placed : (p : ℕ) → OnePeering p before after → IsFinePlace (after.places p) → AreFineEntries (after.entries p) → IsFinePart after
  placed p one place entries = record {
    places = λ n. elim (cases_eq n p) [
      | inl is ↦ subst (λ (m : ℕ). IsFinePlace (after.places m)) (sym is) place
      | inr other ↦ subst IsFinePlace (sym (one.places n other)) (fine.places n)
    ];
    entries = λ n. elim (cases_eq n p) [
      | inl is ↦ subst (λ (m : ℕ). AreFineEntries (after.entries m)) (sym is) entries
      | inr other ↦ subst AreFineEntries (sym (one.entries n other)) (fine.entries n)
    ];
    tellings = λ q. subst (λ (f : ℕ → Tellings). AreFineTellings (f q)) (sym one.tellings) (fine.tellings q);
    best = λ x b e. fine.best x b (ap (λ t. map.get t x) (sym one.best) ∙ e);
  }

  -- its entries stay
  entries_stay : (p : ℕ) → after.entries p ≡ before.entries p → AreFineEntries (after.entries p)
  entries_stay p same = subst AreFineEntries (sym same) (fine.entries p)

  brings : (s : SessionValue) (entries : Entries) → IsFine s → BringsIn setup r s entries → AreFineEntries entries
  brings s entries own is x entry e = entry_sendable setup ranges r s x entry own.remote_as (own.adj_rib_in x) (sym (is x) ∙ e)

  follows : (p : ℕ) (s next : SessionValue) (o : Option Errand) → IsFine next → Follows setup r p before s next o after → AreFineEntries (after.entries p)
  follows p s next o own row x entry e = by_heard (row.entries x) where
    by_heard : FollowsHeard setup r s next (before.entries p) (after.entries p) x → IsFineEntry entry
    by_heard (inl stays) = fine.entries p x entry (sym stays.1 ∙ e)
    by_heard (inr other) = entry_sendable setup ranges r next x entry own.remote_as (own.adj_rib_in x) (sym other.1 ∙ e)

  decides : (prefix : PrefixValue) (taken : Option RouterTaken) (sent : List RouterSent) → Decides setup r prefix before taken sent after → Finely after sent
  decides prefix taken sent row = record {
    part = record {
      places = λ n. subst (λ (u : RouterPart). IsFinePlace (u.places n)) (sym row.effect) (fine.places n);
      entries = λ n. subst (λ (u : RouterPart). AreFineEntries (u.entries n)) (sym row.effect) (fine.entries n);
      tellings = λ q. subst (λ (u : RouterPart). AreFineTellings (u.tellings q)) (sym row.effect) (fine.tellings q);
      best = λ x b e. by_prefix x b (same x prefix)
          (sym (get_with before.best prefix (chosen setup r before prefix) x) ∙ (ap (λ (u : RouterPart). map.get u.best x) (sym row.effect) ∙ e));
    };
    items = subst (AllByRecursion IsFineSent) (sym row.alone.1) tt;
  } where
    by_prefix : (x : PrefixValue) (b : Best) (t : Bool) → cond t (chosen setup r before prefix) (map.get before.best x) ≡ Some b → IsSendable b.route.attrs
    by_prefix x b true e = chosen_fine prefix b e
    by_prefix x b false e = fine.best x b e

  hears : (q : ℕ) (taken : Option RouterTaken) (sent : List RouterSent) → IsFineTaken taken → Hears q before taken sent after → Finely after sent
  hears q taken sent come row = record {
    part = record {
      places = λ n. subst (λ (u : RouterPart). IsFinePlace (u.places n)) (sym row.effect) (fine.places n);
      entries = λ n. subst (λ (u : RouterPart). AreFineEntries (u.entries n)) (sym row.effect) (fine.entries n);
      tellings = λ n. subst (λ (u : RouterPart). AreFineTellings (u.tellings n)) (sym row.effect)
          (at_keeps (λ m ts. AreFineTellings ts) before.tellings q _ heard fine.tellings n);
      best = λ x b e. fine.best x b (ap (λ (u : RouterPart). map.get u.best x) (sym row.effect) ∙ e);
    };
    items = subst (AllByRecursion IsFineSent) (sym row.sends) tt;
  } where
    item : IsFineItem (Told row.prefix row.route)
    item = subst IsFineTaken row.takes come

    told : (o : Option Route) → IsFineItem (Told row.prefix o) → (route : Route) → o ≡ Some route → IsSendable route.attrs
    told None i route e = absurd cc
    told (Some t) i route e = subst (λ (v : Route). IsSendable v.attrs) (same_Some t route e) i

    by_prefix : (x : PrefixValue) (route : Route) (t : Bool) → cond t row.route (map.get (before.tellings q) x) ≡ Some route → IsSendable route.attrs
    by_prefix x route true e = told row.route item route e
    by_prefix x route false e = fine.tellings q x route e

    heard : AreFineTellings (with_telling (before.tellings q) row.prefix row.route)
    heard x route e = by_prefix x route (same x row.prefix) (sym (get_telling (before.tellings q) row.prefix row.route x) ∙ e)

  itself_fine : (s next : SessionValue) → ByItself s next → AreOctets (unread s) → IsFine s → IsFine next
  itself_fine s next (ByFrame bytes gets) octets own = gets_fine s next bytes octets gets own
  itself_fine s next (ByRound round passes) octets own = passes_fine s next round passes own

  pub fine_row : (event : RouterEvent) (taken : Option RouterTaken) (sent : List RouterSent)
      → ((p : ℕ) (s : SessionValue) (o : Option Errand) → before.places p ≡ Live s o → AreOctets (unread s))
      → IsFineTaken taken → router_row setup r event before taken sent after → Finely after sent
  fine_row event taken sent octets come row = by_print (footprint setup r before after taken sent event row) where
    by_change : (p : ℕ) → OnePeering p before after → PeeringChange setup r p before taken sent after → IsFinePart after
    by_change p one (Keeping session errand end live holds entries due) =
        let own : IsFine session = live_fine p session errand live in
        placed p one (held_fine (after.places p) _ holds (record { adj_rib_in = own.adj_rib_in; remote_as = own.remote_as })) (entries_stay p entries)
    by_change p one (PuttingNothing row) =
        placed p one (subst (λ (u : RouterPart). IsFinePlace (u.places p)) (sym row.effect) (fine.places p))
        (entries_stay p (ap (λ (u : RouterPart). u.entries p) row.effect))
    by_change p one (PuttingSome n row now) =
        let own : IsFine row.session = live_fine p row.session row.errand row.live.is in
        let next : IsFine row.next = subst IsFine (sym row.puts.effect) (record { adj_rib_in = own.adj_rib_in; remote_as = own.remote_as }) in
        placed p one (subst IsFinePlace (sym now) next) (entries_stay p (ap (λ (u : RouterPart). u.entries p) row.effect))
    by_change p one (Following s next o live now by row) =
        let own : IsFine next = itself_fine s next by (octets p s o live) (live_fine p s o live) in
        placed p one (subst IsFinePlace (sym now) own) (follows p s next o own row)
    by_change p one (Emptying none (inl entries) due) = placed p one (none_fine (after.places p) none) (entries_stay p entries)
    by_change p one (Emptying none (inr entries) due) = placed p one (none_fine (after.places p) none) (subst AreFineEntries (sym entries) no_entries)
    by_change p one (Reviving q item session errand takes carries now entries due) =
        let own : IsFine session = carried_fine item session carries (subst IsFineTaken takes come) in
        placed p one (subst IsFinePlace (sym now) own)
        (elim entries [ inl same ↦ entries_stay p same | inr brought ↦ brings session (after.entries p) own brought ])

    items : (sent : List RouterSent) → SendsNoTelling setup r event before taken after sent → AllByRecursion IsFineSent sent
    items [] told = tt
    items (MeshTo q (Told x route) ∷ []) told = absurd told
    items (MeshTo q (Moved k p s) ∷ []) (order, frozen) = (subst IsFinePlace frozen (fine.places p), tt)
    items (MeshTo q (Back k p s refusal) ∷ []) (from, takes) = (subst IsFineTaken takes come, tt)
    items (MeshTo q (Asked k p) ∷ []) told = (tt, tt)
    items (MeshTo q (Answered k p) ∷ []) told = (tt, tt)
    items (MeshTo q (Done k p) ∷ []) told = (tt, tt)
    items (OutwardTo p item ∷ []) told = (tt, tt)
    items (ReportOut report ∷ []) told = (tt, tt)
    items (item ∷ more ∷ later) told = absurd told

    by_print : Footprint setup r event before taken sent after → Finely after sent
    by_print (Deciding prefix row) = decides prefix taken sent row
    by_print (Telling q prefix row) = record {
      part = subst IsFinePart (sym row.effect) (record { places = fine.places; entries = fine.entries; tellings = fine.tellings; best = fine.best });
      items = subst (AllByRecursion IsFineSent) (sym row.sends) (told_item prefix (map.get before.best prefix) (fine.best prefix), tt);
    }
    by_print (Hearing q row) = hears q taken sent come row
    by_print (Staying silent is) = record { part = subst IsFinePart (sym is) fine; items = items sent silent.sends }
    by_print (Changing p silent one change) = record { part = by_change p one change; items = items sent silent.sends }
