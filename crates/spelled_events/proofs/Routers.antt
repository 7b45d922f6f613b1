-- What a router marks, hears and hands on are prefixes.
use Rattle.std.proofs.Common.{◌≡◌, inl, inr, ℕ, Bool, true, false, List, [], ◌∷◌, Option, Some, refl, sym, ap, ◌∙◌, subst}
use Rattle.std.specs.Prelude.{◌&&◌, ◌||◌, is_some, not, nat_lt, ◌==◌}
use Rattle.std.specs.List.{AllByRecursion}
use Rattle.std.proofs.lemmas.Bool.{cases_eq}
use Rattle.bgp_types.specs.OctetLists.{AreOctets}
use Rattle.bgp_types.specs.Prefixes.{PrefixValue, IsPrefix, same_prefix}
use Rattle.bgp_types.proofs.OnceLaws.{is_same}
use Rattle.session_value.specs.Sessions.{SessionValue, unread}
use Rattle.session_value.specs.Sets.{Prefixes, has}
use Rattle.graft_model.specs.Sets.{Adds}
use Rattle.graft_model.specs.Setups.{Setup, routers_in}
use Rattle.graft_model.specs.Parts.{Errand, Place, Vacant, Live, Frozen, Shadow, RouterPart, Entries, Mesh, Told, Moved, Back, Asked, Answered, Done}
use Rattle.graft_model.specs.RouterRows.{RouterTaken, MeshIn, RouterSent, MeshTo, OutwardTo, ReportOut, BringsIn, FollowsHeard, Follows}
use Rattle.graft_model.specs.TableRows.{Decides, Tells, Hears, only_prefix}
use Rattle.graft_model.specs.declared.event.RouterEvent.{RouterEvent}
use Rattle.graft_model.specs.Steps.{router_row}
use Rattle.graft_model.proofs.Footprints.{Carries, Holds, HoldsNone, SendsNoTelling, OnePeering, ByItself, ByFrame, ByRound}
use Rattle.graft_model.proofs.Footprints.{PeeringChange, Keeping, PuttingNothing, PuttingSome, Following, Emptying, Reviving}
use Rattle.graft_model.proofs.Footprints.{Deciding, Telling, Hearing, Staying, Changing, Footprint, footprint}
use Rattle.graft_laws.proofs.Routers.{at_keeps}
use Rattle.spelled_events.proofs.Tables.{HasPrefixes, none_has, put_has, removed_has, marked_has}
use Rattle.spelled_events.proofs.Heard.{HearsPrefixes, gets_prefixes, passes_prefixes, brought}

abbrev pub IsSpelledPlace : Place → Type 0
IsSpelledPlace Vacant = Unit {0}
IsSpelledPlace (Live s errand) = HearsPrefixes s
IsSpelledPlace (Frozen s order) = HearsPrefixes s
IsSpelledPlace (Shadow graft) = Unit {0}

abbrev pub IsSpelledItem : Mesh → Type 0
IsSpelledItem (Told x route) = IsPrefix x
IsSpelledItem (Moved graft p s) = HearsPrefixes s
IsSpelledItem (Back graft p s refusal) = HearsPrefixes s
IsSpelledItem (Asked graft p) = Unit {0}
IsSpelledItem (Answered graft p) = Unit {0}
IsSpelledItem (Done graft p) = Unit {0}

abbrev pub IsSpelledTaken : Option RouterTaken → Type 0
IsSpelledTaken (Some (MeshIn q item)) = IsSpelledItem item
IsSpelledTaken taken = Unit {0}

abbrev pub IsSpelledSent : RouterSent → Type 0
IsSpelledSent (MeshTo q item) = IsSpelledItem item
IsSpelledSent (OutwardTo p item) = Unit {0}
IsSpelledSent (ReportOut report) = Unit {0}

-- The dirty prefixes of a router, and those that are due to other routers, are prefixes; so is what its sessions heard and brought in.
pub record IsSpelledPart (part : RouterPart) : Type 0 where
  pub places : (p : ℕ) → IsSpelledPlace (part.places p)
  pub entries : (p : ℕ) → HasPrefixes (part.entries p)
  pub dirty : HasPrefixes part.dirty
  pub due_in : (q : ℕ) → HasPrefixes (part.due_in q)

pub record Spells (after : RouterPart) (sent : List RouterSent) : Type 0 where
  pub part : IsSpelledPart after
  pub items : AllByRecursion IsSpelledSent sent

held : (place : Place) (s : SessionValue) → Holds place s → HearsPrefixes s → IsSpelledPlace place
held Vacant s holds own = tt
held (Live t errand) s holds own = subst HearsPrefixes (sym holds) own
held (Frozen t order) s holds own = subst HearsPrefixes (sym holds) own
held (Shadow graft) s holds own = tt

emptied : (place : Place) → HoldsNone place → IsSpelledPlace place
emptied Vacant none = tt
emptied (Live t errand) none = absurd (none t refl)
emptied (Frozen t order) none = absurd (none t refl)
emptied (Shadow graft) none = tt

carried : (item : Mesh) (s : SessionValue) → Carries item s → IsSpelledItem item → HearsPrefixes s
carried (Told x route) s carries own = absurd carries
carried (Moved k p t) s carries own = subst HearsPrefixes carries own
carried (Back k p t refusal) s carries own = subst HearsPrefixes carries own
carried (Asked k p) s carries own = absurd carries
carried (Answered k p) s carries own = absurd carries
carried (Done k p) s carries own = absurd carries

module _ (setup : Setup) (r : ℕ) (before after : RouterPart) (spelled : IsSpelledPart before) where
  live : (p : ℕ) (s : SessionValue) (o : Option Errand) → before.places p ≡ Live s o → HearsPrefixes s
  live p s o is = subst IsSpelledPlace is (spelled.places p)

  -- ---- one peering

  placed : (p : ℕ) → OnePeering p before after → IsSpelledPlace (after.places p) → HasPrefixes (after.entries p) → IsSpelledPart after
  placed p one place entries = record {
    places = λ n. elim (cases_eq n p) [
      | inl is ↦ subst (λ (m : ℕ). IsSpelledPlace (after.places m)) (sym is) place
      | inr other ↦ subst IsSpelledPlace (sym (one.places n other)) (spelled.places n)
    ];
    entries = λ n. elim (cases_eq n p) [
      | inl is ↦ subst (λ (m : ℕ). HasPrefixes (after.entries m)) (sym is) entries
      | inr other ↦ subst (λ (t : Entries). HasPrefixes t) (sym (one.entries n other)) (spelled.entries n)
    ];
    dirty = marked_has before.dirty (before.entries p) (after.entries p) after.dirty spelled.dirty (spelled.entries p) entries one.dirty;
    due_in = λ q. subst (λ (due : ℕ → Prefixes). HasPrefixes (due q)) (sym one.due_in) (spelled.due_in q);
  }

  entries_stay : (p : ℕ) → after.entries p ≡ before.entries p → HasPrefixes (after.entries p)
  entries_stay p same = subst (λ (t : Entries). HasPrefixes t) (sym same) (spelled.entries p)

  brings : (s : SessionValue) (entries : Entries) → HearsPrefixes s → BringsIn setup r s entries → HasPrefixes entries
  brings s entries own is x there = own x (brought setup r s x (ap is_some (sym (is x)) ∙ there))

  follows : (p : ℕ) (s next : SessionValue) (o : Option Errand) → HearsPrefixes next → Follows setup r p before s next o after → HasPrefixes (after.entries p)
  follows p s next o own row x there = by_heard (row.entries x) where
    by_heard : FollowsHeard setup r s next (before.entries p) (after.entries p) x → IsPrefix x
    by_heard (inl stays) = spelled.entries p x (ap is_some (sym stays.1) ∙ there)
    by_heard (inr other) = own x (brought setup r next x (ap is_some (sym other.1) ∙ there))

  by_itself : (s next : SessionValue) → ByItself s next → AreOctets (unread s) → HearsPrefixes s → HearsPrefixes next
  by_itself s next (ByFrame bytes gets) octets own = gets_prefixes s next bytes octets gets own
  by_itself s next (ByRound round passes) octets own = passes_prefixes s next round passes own

  -- ---- tables

  -- what is due more is dirty
  adds : (prefix : PrefixValue) (set due : Prefixes) (to : Bool) → IsPrefix prefix → HasPrefixes set → Adds set (only_prefix prefix to) due → HasPrefixes due
  adds prefix set due to own all more x there = by_test (has set x) refl (same_prefix prefix x) refl (sym (more.members x) ∙ there) where
    by_test : (t : Bool) → has set x ≡ t → (u : Bool) → same_prefix prefix x ≡ u → (t || (u && to)) ≡ true → IsPrefix x
    by_test true was u is e = all x was
    by_test false was true is e = subst IsPrefix (is_same prefix x is) own
    by_test false was false is e = absurd cc

  decides : (prefix : PrefixValue) (taken : Option RouterTaken) (sent : List RouterSent) → Decides setup r prefix before taken sent after → Spells after sent
  decides prefix taken sent row = record {
    part = record {
      places = λ n. subst (λ (u : RouterPart). IsSpelledPlace (u.places n)) (sym row.effect) (spelled.places n);
      entries = λ n. subst (λ (u : RouterPart). HasPrefixes (u.entries n)) (sym row.effect) (spelled.entries n);
      dirty = subst (λ (u : RouterPart). HasPrefixes u.dirty) (sym row.effect) (removed_has before.dirty prefix spelled.dirty);
      due_in = λ q. elim row.due [
        | inl same ↦ subst (λ (due : ℕ → Prefixes). HasPrefixes (due q)) (sym same.1) (spelled.due_in q)
        | inr other ↦ adds prefix (before.due_in q) (after.due_in q) (nat_lt q (routers_in setup) && not (q == r))
            (spelled.dirty prefix row.dirty) (spelled.due_in q) (other.1.routers q)
      ];
    };
    items = subst (AllByRecursion IsSpelledSent) (sym row.alone.1) tt;
  }

  tells : (q : ℕ) (prefix : PrefixValue) (taken : Option RouterTaken) (sent : List RouterSent) → Tells q prefix before taken sent after → Spells after sent
  tells q prefix taken sent row = record {
    part = subst IsSpelledPart (sym row.effect) (record {
      places = spelled.places;
      entries = spelled.entries;
      dirty = spelled.dirty;
      due_in = λ n. at_keeps (λ m due. HasPrefixes due) before.due_in q _ (removed_has (before.due_in q) prefix (spelled.due_in q)) spelled.due_in n;
    });
    items = subst (AllByRecursion IsSpelledSent) (sym row.sends) (spelled.due_in q prefix row.due, tt);
  }

  hears : (q : ℕ) (taken : Option RouterTaken) (sent : List RouterSent) → IsSpelledTaken taken → Hears q before taken sent after → Spells after sent
  hears q taken sent come row = record {
    part = record {
      places = λ n. subst (λ (u : RouterPart). IsSpelledPlace (u.places n)) (sym row.effect) (spelled.places n);
      entries = λ n. subst (λ (u : RouterPart). HasPrefixes (u.entries n)) (sym row.effect) (spelled.entries n);
      dirty = elim row.dirty [
        | inl same ↦ subst (λ (set : Prefixes). HasPrefixes set) (sym same.1) spelled.dirty
        | inr other ↦ subst (λ (set : Prefixes). HasPrefixes set) (sym other.1)
            (put_has before.dirty row.prefix tt (subst IsSpelledTaken row.takes come) spelled.dirty)
      ];
      due_in = λ n. subst (λ (u : RouterPart). HasPrefixes (u.due_in n)) (sym row.effect) (spelled.due_in n);
    };
    items = subst (AllByRecursion IsSpelledSent) (sym row.sends) tt;
  }

  -- ---- any row

  pub spelled_row : (event : RouterEvent) (taken : Option RouterTaken) (sent : List RouterSent)
      → ((p : ℕ) (s : SessionValue) (o : Option Errand) → before.places p ≡ Live s o → AreOctets (unread s))
      → IsSpelledTaken taken → router_row setup r event before taken sent after → Spells after sent
  spelled_row event taken sent octets come row = by_print (footprint setup r before after taken sent event row) where
    by_change : (p : ℕ) → OnePeering p before after → PeeringChange setup r p before taken sent after → IsSpelledPart after
    by_change p one (Keeping session errand end is holds entries due) =
        placed p one (held (after.places p) _ holds (live p session errand is)) (entries_stay p entries)
    by_change p one (PuttingNothing row) =
        placed p one (subst (λ (u : RouterPart). IsSpelledPlace (u.places p)) (sym row.effect) (spelled.places p))
        (entries_stay p (ap (λ (u : RouterPart). u.entries p) row.effect))
    by_change p one (PuttingSome n row now) =
        let next : HearsPrefixes row.next = subst HearsPrefixes (sym row.puts.effect) (live p row.session row.errand row.live.is) in
        placed p one (subst IsSpelledPlace (sym now) next) (entries_stay p (ap (λ (u : RouterPart). u.entries p) row.effect))
    by_change p one (Following s next o is now by row) =
        let own : HearsPrefixes next = by_itself s next by (octets p s o is) (live p s o is) in
        placed p one (subst IsSpelledPlace (sym now) own) (follows p s next o own row)
    by_change p one (Emptying none (inl entries) due) = placed p one (emptied (after.places p) none) (entries_stay p entries)
    by_change p one (Emptying none (inr entries) due) =
        placed p one (emptied (after.places p) none) (subst (λ (t : Entries). HasPrefixes t) (sym entries) (none_has _))
    by_change p one (Reviving q item session errand takes carries now entries due) =
        let own : HearsPrefixes session = carried item session carries (subst IsSpelledTaken takes come) in
        placed p one (subst IsSpelledPlace (sym now) own)
        (elim entries [ inl same ↦ entries_stay p same | inr is ↦ brings session (after.entries p) own is ])

    items : (sent : List RouterSent) → SendsNoTelling setup r event before taken after sent → AllByRecursion IsSpelledSent sent
    items [] told = tt
    items (MeshTo q (Told x route) ∷ []) told = absurd told
    items (MeshTo q (Moved k p s) ∷ []) (order, frozen) = (subst IsSpelledPlace frozen (spelled.places p), tt)
    items (MeshTo q (Back k p s refusal) ∷ []) (from, takes) = (subst IsSpelledTaken takes come, tt)
    items (MeshTo q (Asked k p) ∷ []) told = (tt, tt)
    items (MeshTo q (Answered k p) ∷ []) told = (tt, tt)
    items (MeshTo q (Done k p) ∷ []) told = (tt, tt)
    items (OutwardTo p item ∷ []) told = (tt, tt)
    items (ReportOut report ∷ []) told = (tt, tt)
    items (item ∷ more ∷ later) told = absurd told

    by_print : Footprint setup r event before taken sent after → Spells after sent
    by_print (Deciding prefix row) = decides prefix taken sent row
    by_print (Telling q prefix row) = tells q prefix taken sent row
    by_print (Hearing q row) = hears q taken sent come row
    by_print (Staying silent is) = record { part = subst IsSpelledPart (sym is) spelled; items = items sent silent.sends }
    by_print (Changing p silent one change) = record { part = by_change p one change; items = items sent silent.sends }
