-- The rows of what is put on a session.
use Rattle.std.proofs.Common.{◌≡◌, ◌≢◌, ℕ, zero, suc, ◌<◌, List, [], ◌∷◌, ◌++◌, length, Option, option_map, Some, None, Bool, not}
use Rattle.std.proofs.Common.{inl, inr, refl, sym, ap, ◌∙◌, subst, arith}
use Rattle.std.specs.Prelude.{All, IfSome, slice_set}
use Rattle.std.specs.List.{list_any}
use Rattle.bgp_types.specs.declared.attrs.Attrs.{Attrs}
use Rattle.bgp_types.specs.declared.message.SessionState.TheVariants.{Established}
use Rattle.bgp_types.specs.Prefixes.{IsPrefix, PrefixValue, same_prefix}
use Rattle.bgp_types.specs.Writable.{IsWritableAttrs, IsWritableUpdate}
use Rattle.bgp_story.specs.Legal.{IsOneWay, is_wide}
use Rattle.bgp_session.specs.Running.{RunningSession}
use Rattle.bgp_session.specs.Steps.{offered_length}
use Rattle.session_value.specs.Cases.{PutsUpdate, update_for}
use Rattle.session_value.specs.Sessions.{SessionValue, peering_of, state}
use Rattle.session_value.specs.Sets.{Lists, has}
use Rattle.update_plan.specs.declared.batch.Batch.{Batch}
use Rattle.update_plan.proofs.PlanLaws.{changes_told, one_way_told}
use Rattle.graft_model.proofs.Rising.{one_least, one_list}
use Rattle.graft_model.specs.Decisions.{to_tell}
use Rattle.graft_model.specs.Parts as model
use Rattle.graft_model.specs.Points.{at}
use Rattle.graft_model.specs.RouterRows.{IsLive, IsToTell, PutsSome, RouterSent, WaitsOnPeering}
use Rattle.graft_model.specs.Sets.{Drops}
use Rattle.graft_model.specs.Setups.{Setup}
use Rattle.graft_model.specs.Steps.{put_row}
use Rattle.graft_model.specs.declared.event.RouterEvent.{RouterEvent}
use Rattle.graft_model.specs.declared.event.RouterEvent.TheVariants.{Put}
use Rattle.router_tables.specs.Owned.{HasNoEntry, IsOfPeering}
use Rattle.router_tables.proofs.Points.{one_or_other}
use Rattle.audit_ruling.specs.Rulings.{RouterRules}
use Rattle.audit_ruling.specs.declared.ruling.Ruling.{Ruling}
use Rattle.audit_ruling.specs.declared.ruling.Ruling.TheVariants.{Refused, Silent}
use Rattle.audit_tables.specs.Changes.{ChangesDue, KeepsTables, PutsFirstAlike}
use Rattle.audit_tables.specs.Groups.{AreFirstAlike}
use Rattle.audit_tables.specs.Parts.{IsForgotten, KnowsWhatToTell, due_at, entries_at, part_with, pending_at}
use Rattle.audit_tables.specs.declared.tables.Tables.{Tables}
use Rattle.audit_router.specs.Decides.{Decides, KeepsRouter}
use Rattle.audit_router.specs.Followed.{CanOffer, IsMessage}
use Rattle.audit_router.specs.Parts.{RouterInvariant, places_of, router_part, setup_of_router}
use Rattle.audit_router.specs.Places.{errand_of, place_at}
use Rattle.audit_router.specs.declared.place.Errand.{Errand}
use Rattle.audit_router.specs.declared.place.Place.TheVariants.{Live}
use Rattle.audit_router.specs.declared.router.AuditedRouter.{AuditedRouter}
use Rattle.audit_router.proofs.Kept as kept
use Rattle.audit_router.proofs.LiveSessions.{NoneLive, live_here, live_session}

-- ---- what is to be told becomes known

module _ (r : AuditedRouter) (k : RouterInvariant r) (p : ℕ) (s : RunningSession) (errand : Option Errand) (is : place_at r.places.items p ≡ Live s errand)
    (t : Tables) (same : t ≡ record r.tables { pending = t.pending }) (keeps : KeepsTables r.tables t) (knows : KnowsWhatToTell t kept.nowhere p s.session)
    (others : (q : ℕ) → q ≢ p → pending_at t q ≡ pending_at r.tables q) where
  abbrev knowing : AuditedRouter
  knowing = record r { tables = t }

  entries_same : (q : ℕ) → entries_at t q ≡ entries_at r.tables q
  entries_same q = ap (λ (x : Tables). entries_at x q) same

  pub keeps_knowing : KeepsRouter r knowing
  keeps_knowing = kept.keeps_then r knowing k (record { routers = refl; room = refl }) refl keeps each
    where
      own : kept.KeepsPlaceIn t p (Live s errand)
      own = let old = kept.keeps_here r k p (Live s errand) is in
          (kept.peering_on r.tables t keeps p s.session old.0, kept.errand_on r.tables t keeps p errand old.1, knows)

      each : (q : ℕ) → kept.KeepsPlaceIn t q (place_at r.places.items q)
      each q = elim (one_or_other p q) [
        | inl e ↦ subst (λ (j : ℕ). kept.KeepsPlaceIn t j (place_at r.places.items j)) (sym e) (subst (kept.KeepsPlaceIn t p) (sym is) own)
        | inr apart ↦ kept.stays_in r.tables t keeps q (subst HasNoEntry (sym (entries_same q)))
            (kept.knows_on r.tables t keeps q (others q apart) (ap (λ (x : Tables). due_at x q) same) (ap (λ (x : Tables). x.rib.dirty) same)
            (ap (λ (x : Tables). x.rib.best) same)) (place_at r.places.items q) (kept.keeps_at r k q)
      ]

-- what is decided then is decided
pub once_known : (r : AuditedRouter) (t : Tables) → t ≡ record r.tables { pending = t.pending } → (event : RouterEvent) (ruling : Ruling) (u : AuditedRouter)
    → Decides event (record r { tables = t }) ruling u → Decides event r ruling u
once_known r t same event ruling u decides = record {
  rules = subst (λ (x : Tables). RouterRules x.known.setup x.number.0 event (part_with (places_of r) x) ruling (router_part u)) same decides.rules;
  keeps = record {
    setup = decides.keeps.setup ∙ ap (λ (x : Tables). x.known.setup) same;
    number = decides.keeps.number ∙ ap (λ (x : Tables). x.number) same;
    sound = decides.keeps.sound;
  };
}

-- ---- nothing is put

module _ (r : AuditedRouter) (k : RouterInvariant r) (p : ℕ) where
  abbrev row_of : ℕ → List RouterSent → model.RouterPart → Type 0
  row_of n gave after = put_row (setup_of_router r) r.tables.number.0 p n (router_part r) None gave after

  no_row : ((session : SessionValue) (errand : Option model.Errand) → IsLive (router_part r) p session errand → state session ≡ Established → ⊥)
      → (n : ℕ) (gave : List RouterSent) (after : model.RouterPart) → row_of n gave after → ⊥
  no_row none zero gave after row = none row.session row.errand row.live row.established
  no_row none (suc n) gave after row = none row.session row.errand row.live row.puts.established

  pub put_none : NoneLive r p → (n : ℕ) → Decides (Put p n) r Refused r
  put_none none n = kept.refused r k (Put p n) (λ gave after row. no_row (λ session errand live up. none session errand live) n gave after row)

  module _ (s : RunningSession) (errand : Option Errand) (is : place_at r.places.items p ≡ Live s errand) where
    pub put_down : state s.session ≢ Established → (n : ℕ) → Decides (Put p n) r Refused r
    put_down down n = kept.refused r k (Put p n) (λ gave after row.
        no_row (λ session e live up. down (ap state (live_session r p s errand is session e live) ∙ up)) n gave after row)

    pub put_idle : ¬ ((x : PrefixValue) × WaitsOnPeering (router_part r) p x) → Decides (Put p 0) r Refused r
    put_idle idle = kept.refused r k (Put p 0) (λ gave after row. idle (row.prefix, row.waits))

    abbrev Telling : PrefixValue → Type 0
    Telling x = IsToTell (setup_of_router r) r.tables.number.0 (router_part r) p s.session x

    abbrev tells : PrefixValue → Option Attrs
    tells x = to_tell (setup_of_router r) r.tables.number.0 (router_part r) s.session x

    pub put_untold : ¬ ((x : PrefixValue) → ¬ Telling x) → Decides (Put p 0) r Refused r
    put_untold more = kept.refused r k (Put p 0) (λ gave after row. more (subst
        (λ (v : SessionValue). (x : PrefixValue) → ¬ IsToTell (setup_of_router r) r.tables.number.0 (router_part r) p v x)
        (sym (live_session r p s errand is row.session row.errand row.live)) row.nothing))

    pub put_told : state s.session ≡ Established → (x : PrefixValue) → WaitsOnPeering (router_part r) p x → ((y : PrefixValue) → ¬ Telling y)
        → (t : Tables) → Drops (due_at r.tables p) (λ y. not (has r.tables.rib.dirty y)) (due_at t p) → ChangesDue p r.tables t → IsForgotten p t
        → (u : AuditedRouter) → u ≡ record r { tables = t } → Decides (Put p 0) r Silent u
    put_told up x waits nothing t due changes forgets u same =
        subst (λ (y : AuditedRouter). Decides (Put p 0) r Silent y) (sym same)
        (kept.silent r k (Put p 0) (record r { tables = t })
        (kept.keeps_then r (record r { tables = t }) k (record { routers = refl; room = refl }) refl changes.keeps each)
        (record {
          alone = (refl, refl);
          session = s.session;
          errand = option_map errand_of errand;
          live = live_here r p s errand is;
          established = up;
          prefix = x;
          waits = waits;
          nothing = nothing;
          due = due;
          effect = changes.effect (places_of r);
        }))
      where
        own : kept.KeepsPlaceIn t p (Live s errand)
        own = kept.live_then r.tables t p s s errand changes.keeps refl forgets (kept.keeps_here r k p (Live s errand) is)

        each : (q : ℕ) → kept.KeepsPlaceIn t q (place_at r.places.items q)
        each q = elim (one_or_other p q) [
          | inl e ↦ subst (λ (j : ℕ). kept.KeepsPlaceIn t j (place_at r.places.items j)) (sym e) (subst (kept.KeepsPlaceIn t p) (sym is) own)
          | inr apart ↦ kept.stays_by_due p r.tables t changes q apart (place_at r.places.items q) (kept.keeps_at r k q)
        ]

    -- ---- one UPDATE is put

    abbrev FirstAlike : ℕ → Option Attrs → List PrefixValue → Type 0
    FirstAlike n attrs prefixes = AreFirstAlike Telling tells n attrs prefixes

    -- what the row puts
    alike_in : (n : ℕ) (gave : List RouterSent) (after : model.RouterPart)
        → (row : PutsSome (setup_of_router r) r.tables.number.0 p n (router_part r) None gave after)
        → FirstAlike n row.attrs row.prefixes
    alike_in n gave after row = subst
        (λ (v : SessionValue). AreFirstAlike (IsToTell (setup_of_router r) r.tables.number.0 (router_part r) p v)
        (to_tell (setup_of_router r) r.tables.number.0 (router_part r) v) n row.attrs row.prefixes)
        (sym (live_session r p s errand is row.session row.errand row.live))
        (record {
          first = row.first;
          least = record { is = row.is_to_tell; least = row.least };
          told_first = row.told_first;
          later = row.later;
          alike = row.alike;
          size = row.size;
        })

    puts_in : (n : ℕ) (gave : List RouterSent) (after : model.RouterPart)
        → (row : PutsSome (setup_of_router r) r.tables.number.0 p n (router_part r) None gave after)
        → PutsUpdate s.session (update_for row.attrs row.prefixes) row.next
    puts_in n gave after row = subst (λ (v : SessionValue). PutsUpdate v (update_for row.attrs row.prefixes) row.next)
        (sym (live_session r p s errand is row.session row.errand row.live)) row.puts

    pub put_short : (n : ℕ) → 0 < n → ((attrs : Option Attrs) (prefixes : List PrefixValue) → ¬ FirstAlike n attrs prefixes) → Decides (Put p n) r Refused r
    put_short zero some none = absurd (omega (arith, some))
    put_short (suc n) some none = kept.refused r k (Put p (suc n)) (λ gave after row. none row.attrs row.prefixes (alike_in (suc n) gave after row))

    module _ (n : ℕ) (batch : Batch) (alike : FirstAlike n batch.attrs batch.prefixes) where
      -- no other is the first
      one_first : (attrs : Option Attrs) (prefixes : List PrefixValue) → FirstAlike n attrs prefixes → (attrs ≡ batch.attrs) × (prefixes ≡ batch.prefixes)
      one_first attrs prefixes other = (attrs_same, by_length prefixes batch.prefixes other.later alike.later lists (other.size ∙ sym alike.size))
        where
          first_same : other.first ≡ alike.first
          first_same = one_least other.first alike.first (alike.least.least other.first other.least.is) (other.least.least alike.first alike.least.is)

          attrs_same : attrs ≡ batch.attrs
          attrs_same = other.told_first ∙ (ap tells first_same ∙ sym alike.told_first)

          lists : prefixes ++ other.later ≡ batch.prefixes ++ alike.later
          lists = one_list (λ x. Telling x × (tells x ≡ batch.attrs)) (prefixes ++ other.later) (batch.prefixes ++ alike.later)
              (subst (λ (v : Option Attrs). Lists (λ x. Telling x × (tells x ≡ v)) (prefixes ++ other.later)) attrs_same other.alike) alike.alike

          by_length : (xs ys us vs : List PrefixValue) → xs ++ us ≡ ys ++ vs → length xs ≡ length ys → xs ≡ ys
          by_length [] [] us vs e l = refl
          by_length [] (y ∷ ys) us vs e l = absurd (omega (arith, l))
          by_length (x ∷ xs) [] us vs e l = absurd (omega (arith, l))
          by_length (x ∷ xs) (y ∷ ys) us vs e l =
              let head : x ≡ y = cc in
              let tail : xs ++ us ≡ ys ++ vs = cc in
              let same : xs ≡ ys = by_length xs ys us vs tail (omega (arith, l)) in
              cc

      abbrev wide : Bool
      wide = is_wide (peering_of s.session.config) s.session.story

      writable_of : (attrs : Option Attrs) (prefixes : List PrefixValue) → IsWritableUpdate (update_for attrs prefixes) → IfSome attrs IsWritableAttrs
      writable_of None prefixes w = tt
      writable_of (Some a) prefixes w = w.attrs.1

      message_of : IsOneWay (update_for batch.attrs batch.prefixes) wide → IsMessage wide batch
      message_of way = record { size = way.writable.size; writable = writable_of batch.attrs batch.prefixes way.writable.body }

      -- the row puts this UPDATE
      row_puts : 0 < n → (gave : List RouterSent) (after : model.RouterPart) → row_of n gave after
          → (next : SessionValue) × PutsUpdate s.session (update_for batch.attrs batch.prefixes) next
      row_puts some gave after row = by_count n refl row
        where
          by_count : (m : ℕ) → n ≡ m → row_of m gave after → (next : SessionValue) × PutsUpdate s.session (update_for batch.attrs batch.prefixes) next
          by_count zero e row = absurd (omega (arith, some, e))
          by_count (suc m) e row =
              let same = one_first row.attrs row.prefixes
              (subst (λ j. FirstAlike j row.attrs row.prefixes) (sym e) (alike_in (suc m) gave after row)) in (
                row.next,
                subst (λ (v : Option Attrs). PutsUpdate s.session (update_for v batch.prefixes) row.next) same.0
                    (subst (λ (l : List PrefixValue). PutsUpdate s.session (update_for row.attrs l) row.next) same.1 (puts_in (suc m) gave after row)),
              )

      pub put_unwritable : 0 < n → ¬ IsMessage wide batch → Decides (Put p n) r Refused r
      put_unwritable some not_one = kept.refused r k (Put p n)
          (λ gave after row. not_one (message_of (row_puts some gave after row).1.one_way))

      some_prefixes : 0 < n → batch.prefixes ≢ []
      some_prefixes some e = let none : length batch.prefixes ≡ 0 = ap (λ (l : List PrefixValue). length l) e in omega (arith, some, alike.size, none)

      pub can_offer : 0 < n → state s.session ≡ Established → IsMessage wide batch → All IsPrefix batch.prefixes
          → CanOffer s.session (update_for batch.attrs batch.prefixes)
      can_offer some up message sound = record {
        established = up;
        one_way = one_way_told wide batch alike.later (some_prefixes some) alike.alike.rising message.size sound message.writable;
        changes = changes_told (due_at r.tables p) r.tables.rib.dirty s.session.adj_rib_out tells wide batch alike.later alike.alike.each;
      }

      pub put_full : 0 < n → 1044480 < offered_length s.session (update_for batch.attrs batch.prefixes) → Decides (Put p n) r Refused r
      put_full some full = kept.refused r k (Put p n)
          (λ gave after row. let fits = (row_puts some gave after row).1.room in let b : ⊥ = omega (arith, full, fits) in b)

      -- what was told first
      pub first_put : (v : RunningSession) → PutsUpdate s.session (update_for batch.attrs batch.prefixes) v.session
          → PutsFirstAlike r.tables kept.nowhere p s.session batch.prefixes v.session
      first_put v puts = record {
        attrs = batch.attrs;
        first = subst (λ j. FirstAlike j batch.attrs batch.prefixes) (sym alike.size) alike;
        puts = puts;
      }

      module _ (some : 0 < n) (known : p < length r.places.items) (u : AuditedRouter) (v : RunningSession)
          (places : u.places.items ≡ slice_set r.places.items p (Live v errand)) (same_room : kept.IsAlike r u) where
        pub put_made : PutsUpdate s.session (update_for batch.attrs batch.prefixes) v.session
            → Drops (due_at r.tables p) (λ x. list_any (same_prefix x) batch.prefixes) (due_at u.tables p) → ChangesDue p r.tables u.tables
            → KnowsWhatToTell u.tables kept.nowhere p v.session → Decides (Put p n) r Silent u
        put_made puts due changes knows = kept.silent r k (Put p n) u
            (kept.keeps_then r u k same_room (kept.as_many r u p known (Live v errand) places) changes.keeps
            (kept.each_place r u p known (Live v errand) places (
              subst (λ (setup : Setup). IsOfPeering setup p v.session) (sym changes.keeps.setup)
                  (kept.of_config (setup_of_router r) p s.session v.session (ap (λ (w : SessionValue). w.config) puts.effect) old.0),
              kept.errand_on r.tables u.tables changes.keeps p errand old.1,
              knows,
            )
            (λ q apart. kept.stays_by_due p r.tables u.tables changes q apart (place_at r.places.items q) (kept.keeps_at r k q))))
            (by_count n refl)
          where
            old : kept.KeepsPlaceIn r.tables p (Live s errand)
            old = kept.keeps_here r k p (Live s errand) is

            by_count : (m : ℕ) → n ≡ m → row_of m [] (router_part u)
            by_count zero e = absurd (omega (arith, some, e))
            by_count (suc m) e = record {
              alone = (refl, refl);
              session = s.session;
              errand = option_map errand_of errand;
              live = live_here r p s errand is;
              first = alike.first;
              is_to_tell = alike.least.is;
              least = alike.least.least;
              attrs = batch.attrs;
              told_first = alike.told_first;
              prefixes = batch.prefixes;
              later = alike.later;
              alike = alike.alike;
              size = alike.size ∙ e;
              next = v.session;
              puts = puts;
              due = due;
              effect = changes.effect (places_of u) ∙ (λ i. record (part_with (kept.places_are r u p known (Live v errand) places i) r.tables) {
                due_out = at (router_part r).due_out p (due_at u.tables p);
              });
            }
