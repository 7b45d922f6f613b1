-- What the events of live sessions and of tables do.
use Rattle.std.proofs.Common.{◌≡◌, ◌==◌, cond, ℕ, zero, suc, ◌≤◌, List, [], ◌∷◌, ◌++◌, Option, Some, None, refl, sym, ap, ◌∙◌, subst, inl, inr}
use Rattle.std.proofs.lemmas.List.{append-nil}
use Rattle.std.specs.Prelude.{filter, length, IsSome}
use Rattle.std.specs.List.{AllByRecursion}
use Rattle.std.specs.FinMap as map
use Rattle.route_policy.specs.Telling.{tell_in}
use Rattle.bgp_types.specs.declared.attrs.Attrs.{Attrs}
use Rattle.bgp_types.specs.Prefixes.{PrefixValue}
use Rattle.tcp_seq.specs.Endpoint.{PlacedSegment, TakesSegment}
use Rattle.session_value.specs.Sessions.{SessionValue}
use Rattle.session_value.specs.Cases.{GetsFrame, PutsUpdate, PassesRound}
use Rattle.graft_model.specs.Slices.{EmitsAt}
use Rattle.graft_model.specs.Points.{at}
use Rattle.graft_model.specs.Setups.{Setup, peering_numbers, room_of, graft_at}
use Rattle.graft_model.specs.Parts.{Errand, Place, Live, RouterPart, Entries, Told, Outward, Seg, Report, World}
use Rattle.graft_model.specs.RouterRows.{RouterTaken, SegmentIn, MeshIn, RouterSent, MeshTo, OutwardTo, PutsNothing}
use Rattle.graft_model.specs.RouterRows.{PutsSome, Emits, Arrives, Strays, GetsNext, Ticks, Follows, update_for}
use Rattle.graft_model.specs.TableRows.{Decides, Tells, Hears}
use Rattle.graft_model.specs.GraftRows.{is_taken, taken_in}
use Rattle.graft_laws.specs.Phases.{Phase, only_at, only2, place_by}
use Rattle.graft_laws.specs.Owned.{Stands, Owned}
use Rattle.graft_laws.specs.Moves.{inward_taken, outward_sent, reports_sent, RouterMoves}
use Rattle.graft_model.specs.declared.event.RouterEvent.{RouterEvent}
use Rattle.graft_model.specs.declared.event.RouterEvent.TheVariants.{Put, Emit, Arrive, Stray, Got, Decide, Tell, Hear, Admit, Refuse, Freeze, Leave}
use Rattle.graft_model.specs.declared.event.RouterEvent.TheVariants.{Land, TurnBack, Return, Clear, Ask, Answer, Collect, Confirm, Tick}
use Rattle.graft_model.specs.Steps.{router_row}
use Rattle.graft_laws.specs.Life.{Acts, SameLine, SameEntries, EntersHeard, Change, Rests, Puts, Emits as ToEmit}
use Rattle.graft_laws.specs.Life.{Arrives as ToArrive, Gets, Ticks as ToTick, Strays as ToStray, IsUpdateToTell}
use Rattle.graft_laws.proofs.Phases.{live_session}
use Rattle.graft_laws.proofs.Others.{Untouched, AreOthers, absent_still, untouched_by_items}
use Rattle.graft_laws.proofs.Following.{at_other, line_by_router, line_gets, line_gives, same_entries, enters_heard}
use Rattle.graft_laws.proofs.Rests.{changed, stands_still}
use Rattle.graft_laws.proofs.Room.{no_more_taken}
use Rattle.graft_laws.proofs.Deeds.{known_place, equal_or_not, Deed, all_apart, own_or_apart, no_items, other_sent, other_taken, no_outward, no_inward}
use Rattle.graft_laws.proofs.Grafts.{equal}
use Rattle.graft_laws.proofs.GraftDeeds.{deed_as, place_stays, place_here, le_trans, admit_deed, refuse_deed, freeze_deed, leave_deed, land_deed}
use Rattle.graft_laws.proofs.GraftDeeds.{ask_deed, answer_deed, collect_deed, confirm_deed, turn_back_deed, return_deed, clear_deed}

sends_outward : (setup : Setup) (p r q : ℕ) (item : Outward) → AreOthers setup p r None (OutwardTo q item ∷ [])
sends_outward setup p r q item = record { mesh_taken = λ i j. refl; mesh_sent = λ i j. refl; orders_taken = λ i. refl; reports_sent = λ i. refl }

takes_segment : (setup : Setup) (p r q : ℕ) (segment : PlacedSegment) → AreOthers setup p r (Some (SegmentIn q segment)) []
takes_segment setup p r q segment = record { mesh_taken = λ i j. refl; mesh_sent = λ i j. refl; orders_taken = λ i. refl; reports_sent = λ i. refl }

-- an item to the peering's own far side, and one from it
own_outward : {A : Type 0} (r p a : ℕ) (item : A) → only2 r p item a p ++ [] ≡ only_at r item a
own_outward r p a item = append-nil (only2 r p item a p) ∙ ap (λ c. cond (a == r) (cond c (item ∷ []) []) []) (equal p)

own_inward : {A : Type 0} (r p b : ℕ) (item : A) → only2 p r item p b ≡ only_at r item b
own_inward r p b item = ap (λ c. cond c (cond (b == r) (item ∷ []) []) []) (equal p)

module _ (setup : Setup) (w v : World) (r : ℕ) (owned : Owned setup w) where
  abbrev before : RouterPart
  before = w.router r

  -- where a session is live in its phase, it is the peering's session
  there : (p : ℕ) (phase : Phase) (s t : SessionValue) (o : Option Errand) → before.places p ≡ Live t o → Stands setup w p phase s
      → (t ≡ s) × (place_by phase s r ≡ Live s o)
  there p phase s t o is b =
      let same : t ≡ s = live_session phase s t o r (sym is ∙ b.places r) in
      (same, sym (b.places r) ∙ (is ∙ ap (λ (x : SessionValue). Live x o) same))

  -- ---- put

  for_attrs : (attrs : Option Attrs) (prefixes : List PrefixValue) → (update_for attrs prefixes).attrs ≡ attrs
  for_attrs None prefixes = refl
  for_attrs (Some a) prefixes = refl

  pub put_deed : (p n : ℕ) (taken : Option RouterTaken) (sent : List RouterSent) (part : RouterPart) → PutsSome setup r p n before taken sent part
      → RouterMoves r taken sent part w v → Deed setup w v r taken sent part
  put_deed p n taken sent part row = deed_as setup w v r taken None sent [] part row.alone.0 row.alone.1 (λ m.
      let places : part.places ≡ at before.places p (Live row.next row.errand) = ap (λ (x : RouterPart). x.places) row.effect in
      record {
        each = own_or_apart setup w v r p None [] part m (known_place setup w owned r p _ row.live.is (λ e. absurd cc))
            (λ q ne. record {
              places = place_stays before part q p _ places ne;
              entries = ap (λ (x : RouterPart). x.entries q) row.effect;
              items = no_items setup q r;
              outward_sent = λ a. refl;
              inward_taken = λ b. refl;
            })
            (λ phase s b.
            let e = there p phase s row.session row.errand row.live.is b in
            record {
              next = phase;
              session = row.next;
              stands = changed setup w v p r None [] part phase s row.next row.errand m (no_items setup p r) e.1 (place_here before part p _ places) b;
              change = Acts r row.errand e.1 (Puts (update_for row.attrs row.prefixes)
                  (subst (λ (x : SessionValue). PutsUpdate x (update_for row.attrs row.prefixes) row.next) e.0 row.puts)
                  (subst (λ (x : SessionValue). IsUpdateToTell setup r x (update_for row.attrs row.prefixes) w) e.0
                  (record { prefix = row.first; attrs = for_attrs row.attrs row.prefixes ∙ row.told_first }))
                  (line_by_router w v p r None [] part m (λ a. refl) (λ a. refl))
                  (same_entries w v p r part m.router (ap (λ (x : RouterPart). x.entries p) row.effect)));
            });
        reports = λ a. tt;
        room = λ l. le_trans _ _ _ (no_more_taken setup before part p _ places (ap is_taken row.live.is)) l;
      })

  -- ---- emitted and arrived

  pub emit_deed : (p from len : ℕ) (taken : Option RouterTaken) (sent : List RouterSent) (part : RouterPart)
      → Emits p from len before taken sent part → RouterMoves r taken sent part w v → Deed setup w v r taken sent part
  emit_deed p from len taken sent part row = deed_as setup w v r taken None sent (OutwardTo p (Seg row.segment) ∷ []) part row.takes row.sends (λ m.
      let next : SessionValue = record row.session { end = row.end } in
      let places : part.places ≡ at before.places p (Live next row.errand) = ap (λ (x : RouterPart). x.places) row.effect in
      record {
        each = own_or_apart setup w v r p None (OutwardTo p (Seg row.segment) ∷ []) part m (known_place setup w owned r p _ row.live.is (λ e. absurd cc))
            (λ q ne. record {
              places = place_stays before part q p _ places ne;
              entries = ap (λ (x : RouterPart). x.entries q) row.effect;
              items = sends_outward setup q r p (Seg row.segment);
              outward_sent = λ a. no_outward r p q a (Seg row.segment) ne;
              inward_taken = λ b. refl;
            })
            (λ phase s b.
            let e = there p phase s row.session row.errand row.live.is b in
            let then : SessionValue = record s { end = row.end } in
            record {
              next = phase;
              session = then;
              stands = changed setup w v p r None (OutwardTo p (Seg row.segment) ∷ []) part phase s then row.errand m
                  (sends_outward setup p r p (Seg row.segment)) e.1
                  (place_here before part p _ places
                  ∙ ap (λ (x : SessionValue). (let y : SessionValue = record x { end = row.end } in Live y row.errand)) e.0) b;
              change = Acts r row.errand e.1
                  (ToEmit from len row.segment row.end (subst (λ (x : SessionValue). EmitsAt from len x.end row.segment row.end) e.0 row.emits)
                  (line_gets w v p r None _ part (Seg row.segment) m (λ a. own_outward r p a (Seg row.segment)) (λ a. refl))
                  (same_entries w v p r part m.router (ap (λ (x : RouterPart). x.entries p) row.effect)));
            });
        reports = λ a. tt;
        room = λ l. le_trans _ _ _ (no_more_taken setup before part p _ places (ap is_taken row.live.is)) l;
      })

  pub arrive_deed : (p : ℕ) (taken : Option RouterTaken) (sent : List RouterSent) (part : RouterPart) → Arrives p before taken sent part
      → RouterMoves r taken sent part w v → Deed setup w v r taken sent part
  arrive_deed p taken sent part row = deed_as setup w v r taken (Some (SegmentIn p row.segment)) sent [] part row.takes row.sends (λ m.
      let next : SessionValue = record row.session { end = row.end } in
      let places : part.places ≡ at before.places p (Live next row.errand) = ap (λ (x : RouterPart). x.places) row.effect in
      record {
        each = own_or_apart setup w v r p (Some (SegmentIn p row.segment)) [] part m (known_place setup w owned r p _ row.live.is (λ e. absurd cc))
            (λ q ne. record {
              places = place_stays before part q p _ places ne;
              entries = ap (λ (x : RouterPart). x.entries q) row.effect;
              items = takes_segment setup q r p row.segment;
              outward_sent = λ a. refl;
              inward_taken = λ b. no_inward r p q b row.segment ne;
            })
            (λ phase s b.
            let e = there p phase s row.session row.errand row.live.is b in
            let then : SessionValue = record s { end = row.end } in
            record {
              next = phase;
              session = then;
              stands = changed setup w v p r (Some (SegmentIn p row.segment)) [] part phase s then row.errand m (takes_segment setup p r p row.segment) e.1
                  (place_here before part p _ places
                  ∙ ap (λ (x : SessionValue). (let y : SessionValue = record x { end = row.end } in Live y row.errand)) e.0) b;
              change = Acts r row.errand e.1
                  (ToArrive row.segment row.end (subst (λ (x : SessionValue). TakesSegment x.end row.segment row.end) e.0 row.arrives)
                  (line_gives w v p r _ part row.segment m (λ a. own_inward r p a row.segment))
                  (same_entries w v p r part m.router (ap (λ (x : RouterPart). x.entries p) row.effect)));
            });
        reports = λ a. tt;
        room = λ l. le_trans _ _ _ (no_more_taken setup before part p _ places (ap is_taken row.live.is)) l;
      })

  -- a segment that finds no live session
  pub stray_deed : (p : ℕ) (taken : Option RouterTaken) (sent : List RouterSent) (part : RouterPart) → Strays p before taken sent part
      → RouterMoves r taken sent part w v → Deed setup w v r taken sent part
  stray_deed p taken sent part row = deed_as setup w v r taken (Some (SegmentIn p row.segment)) sent [] part row.takes row.sends (λ m.
      let same : (q : ℕ) → Untouched setup q w v = λ q. untouched_by_items setup q r (Some (SegmentIn p row.segment)) [] part w v m
      (ap (λ (x : RouterPart). x.places q) row.stays) (takes_segment setup q r p row.segment) in
      let entries : (q : ℕ) → SameEntries q w v = λ q. same_entries w v q r part m.router (ap (λ (x : RouterPart). x.entries q) row.stays) in
      record {
        each = record {
          absent = λ q past. absent_still setup q w v (same q);
          known = λ q l phase s b. record {
            next = phase;
            session = s;
            stands = stands_still setup w v q phase s (same q) b;
            change = elim (equal_or_not q p) [
              | inl e ↦ ToStray r row.segment (line_gives w v q r _ part row.segment m
                  (λ a. subst (λ (x : ℕ). only2 p r row.segment x a ≡ only_at r row.segment a) (sym e) (own_inward r p a row.segment))) (entries q)
              | inr ne ↦ Rests (line_by_router w v q r _ [] part m (λ a. refl) (λ b. no_inward r p q b row.segment ne)) (entries q)
            ];
          };
        };
        reports = λ a. tt;
        room = λ l. subst (λ (x : RouterPart). taken_in setup x ≤ room_of setup r) (sym row.stays) l;
      })

  -- ---- got, and rounds

  -- a session that changed by itself, as its entries follow
  follow_deed : (p : ℕ) (session next : SessionValue) (errand : Option Errand) (part : RouterPart) → before.places p ≡ Live session errand
      → Follows setup r p before session next errand part
      → ((phase : Phase) (s : SessionValue) → s ≡ session → place_by phase s r ≡ Live s errand
      → SameLine p w v → EntersHeard setup p r s next w v → Change setup w v p phase s phase next)
      → RouterMoves r None [] part w v → Deed setup w v r None [] part
  follow_deed p session next errand part is row change m =
      let places : part.places ≡ at before.places p (Live next errand) = ap (λ (x : RouterPart). x.places) row.effect in
      record {
        each = own_or_apart setup w v r p None [] part m (known_place setup w owned r p _ is (λ e. absurd cc))
            (λ q ne. record {
              places = place_stays before part q p _ places ne;
              entries = ap (λ (x : RouterPart). x.entries q) row.effect ∙ at_other before.entries p q (part.entries p) ne;
              items = no_items setup q r;
              outward_sent = λ a. refl;
              inward_taken = λ b. refl;
            })
            (λ phase s b.
            let e = there p phase s session errand is b in
            record {
              next = phase;
              session = next;
              stands = changed setup w v p r None [] part phase s next errand m (no_items setup p r) e.1 (place_here before part p _ places) b;
              change = change phase s (sym e.0) e.1 (line_by_router w v p r None [] part m (λ a. refl) (λ a. refl))
                  (subst (λ (x : SessionValue). EntersHeard setup p r x next w v) e.0 (enters_heard setup w v p r session next part m.router row.entries));
            });
        reports = λ a. tt;
        room = λ l. le_trans _ _ _ (no_more_taken setup before part p _ places (ap is_taken is)) l;
      }

  pub get_deed : (p : ℕ) (taken : Option RouterTaken) (sent : List RouterSent) (part : RouterPart) → GetsNext setup r p before taken sent part
      → RouterMoves r taken sent part w v → Deed setup w v r taken sent part
  get_deed p taken sent part row = deed_as setup w v r taken None sent [] part row.alone.0 row.alone.1
      (follow_deed p row.session row.next row.errand part row.live.is row.follows
      (λ phase s e place line entries.
      Acts r row.errand place (Gets row.bytes (subst (λ (x : SessionValue). GetsFrame x row.bytes row.next) (sym e) row.gets) line entries)))

  pub tick_deed : (p round : ℕ) (taken : Option RouterTaken) (sent : List RouterSent) (part : RouterPart)
      → Ticks setup r p round before taken sent part → RouterMoves r taken sent part w v → Deed setup w v r taken sent part
  tick_deed p round taken sent part row = deed_as setup w v r taken None sent [] part row.alone.0 row.alone.1
      (follow_deed p row.session row.next row.errand part row.live.is row.follows
      (λ phase s e place line entries.
      Acts r row.errand place (ToTick round (subst (λ (x : SessionValue). PassesRound x round row.next) (sym e) row.passes) line entries)))

  -- ---- tables alone

  tables_deed : (taken : Option RouterTaken) (sent : List RouterSent) (part : RouterPart) → part.places ≡ before.places → part.entries ≡ before.entries
      → ((p : ℕ) → AreOthers setup p r taken sent) → ((p a : ℕ) → outward_sent r sent a p ≡ []) → ((p b : ℕ) → inward_taken r taken p b ≡ [])
      → ((a : ℕ) → reports_sent r sent a ≡ [])
      → RouterMoves r taken sent part w v → Deed setup w v r taken sent part
  tables_deed taken sent part places entries items none_out none_in no_report m = record {
    each = all_apart setup w v r taken sent part m (λ p. record {
      places = ap (λ (f : ℕ → Place). f p) places;
      entries = ap (λ (f : ℕ → Entries). f p) entries;
      items = items p;
      outward_sent = none_out p;
      inward_taken = none_in p;
    });
    reports = λ a. subst (λ (x : List Report). AllByRecursion (λ (o : Report). IsSome (graft_at setup o.graft)) x) (sym (no_report a)) tt;
    room = λ l. subst (λ (x : ℕ → Place). length (filter (λ p. is_taken (x p)) (peering_numbers setup)) ≤ room_of setup r) (sym places) l;
  }

  pub put_none_deed : (p : ℕ) (taken : Option RouterTaken) (sent : List RouterSent) (part : RouterPart)
      → PutsNothing setup r p before taken sent part → RouterMoves r taken sent part w v → Deed setup w v r taken sent part
  put_none_deed p taken sent part row = deed_as setup w v r taken None sent [] part row.alone.0 row.alone.1
      (tables_deed None [] part (ap (λ (x : RouterPart). x.places) row.effect)
      (ap (λ (x : RouterPart). x.entries) row.effect) (λ q. no_items setup q r) (λ q a. refl) (λ q b. refl) (λ a. refl))

  pub decide_deed : (prefix : PrefixValue) (taken : Option RouterTaken) (sent : List RouterSent) (part : RouterPart)
      → Decides setup r prefix before taken sent part → RouterMoves r taken sent part w v → Deed setup w v r taken sent part
  decide_deed prefix taken sent part row = deed_as setup w v r taken None sent [] part row.alone.0 row.alone.1
      (tables_deed None [] part (ap (λ (x : RouterPart). x.places) row.effect)
      (ap (λ (x : RouterPart). x.entries) row.effect) (λ q. no_items setup q r) (λ q a. refl) (λ q b. refl) (λ a. refl))

  pub tell_deed : (q : ℕ) (prefix : PrefixValue) (taken : Option RouterTaken) (sent : List RouterSent) (part : RouterPart)
      → Tells q prefix before taken sent part → RouterMoves r taken sent part w v → Deed setup w v r taken sent part
  tell_deed q prefix taken sent part row =
      deed_as setup w v r taken None sent (MeshTo q (Told prefix (tell_in (map.get before.best prefix))) ∷ []) part row.takes row.sends
      (tables_deed None (MeshTo q (Told prefix (tell_in (map.get before.best prefix))) ∷ []) part
      (ap (λ (x : RouterPart). x.places) row.effect) (ap (λ (x : RouterPart). x.entries) row.effect)
      (λ p. other_sent setup p r q (Told prefix (tell_in (map.get before.best prefix))) refl) (λ p a. refl) (λ p b. refl) (λ a. refl))

  pub hear_deed : (q : ℕ) (taken : Option RouterTaken) (sent : List RouterSent) (part : RouterPart) → Hears q before taken sent part
      → RouterMoves r taken sent part w v → Deed setup w v r taken sent part
  hear_deed q taken sent part row = deed_as setup w v r taken (Some (MeshIn q (Told row.prefix row.route))) sent [] part row.takes row.sends
      (tables_deed (Some (MeshIn q (Told row.prefix row.route))) [] part
      (ap (λ (x : RouterPart). x.places) row.effect) (ap (λ (x : RouterPart). x.entries) row.effect)
      (λ p. record {
        mesh_taken = other_taken setup p r q (Told row.prefix row.route) refl;
        mesh_sent = λ i j. refl;
        orders_taken = λ i. refl;
        reports_sent = λ i. refl;
      }) (λ p a. refl) (λ p b. refl) (λ a. refl))

-- ---- any event of a router

pub deed : (setup : Setup) (w v : World) (r : ℕ) (owned : Owned setup w) (event : RouterEvent)
    (taken : Option RouterTaken) (sent : List RouterSent) (part : RouterPart)
    → router_row setup r event (w.router r) taken sent part → RouterMoves r taken sent part w v → Deed setup w v r taken sent part
deed setup w v r owned (Put p zero) taken sent part row = put_none_deed setup w v r owned p taken sent part row
deed setup w v r owned (Put p (suc n)) taken sent part row = put_deed setup w v r owned p (suc n) taken sent part row
deed setup w v r owned (Emit p from len) taken sent part row = emit_deed setup w v r owned p from len taken sent part row
deed setup w v r owned (Arrive p) taken sent part row = arrive_deed setup w v r owned p taken sent part row
deed setup w v r owned (Stray p) taken sent part row = stray_deed setup w v r owned p taken sent part row
deed setup w v r owned (Got p) taken sent part row = get_deed setup w v r owned p taken sent part row
deed setup w v r owned (Decide prefix) taken sent part row = decide_deed setup w v r owned prefix taken sent part row
deed setup w v r owned (Tell q prefix) taken sent part row = tell_deed setup w v r owned q prefix taken sent part row
deed setup w v r owned (Hear q) taken sent part row = hear_deed setup w v r owned q taken sent part row
deed setup w v r owned (Admit k) taken sent part row = admit_deed setup w v r owned k taken sent part row
deed setup w v r owned (Refuse k) taken sent part row = refuse_deed setup w v r owned k taken sent part row
deed setup w v r owned (Freeze k) taken sent part row = freeze_deed setup w v r owned k taken sent part row
deed setup w v r owned (Leave k) taken sent part row = leave_deed setup w v r owned k taken sent part row
deed setup w v r owned (Land q) taken sent part row = land_deed setup w v r owned q taken sent part row
deed setup w v r owned (TurnBack q) taken sent part row = turn_back_deed setup w v r owned q taken sent part row
deed setup w v r owned (Return q) taken sent part row = return_deed setup w v r owned q taken sent part row
deed setup w v r owned (Clear q) taken sent part row = clear_deed setup w v r owned q taken sent part row
deed setup w v r owned (Ask k q) taken sent part row = ask_deed setup w v r owned k q taken sent part row
deed setup w v r owned (Answer q) taken sent part row = answer_deed setup w v r q taken sent part row
deed setup w v r owned (Collect q) taken sent part row = collect_deed setup w v r owned q taken sent part row
deed setup w v r owned (Confirm k) taken sent part row = confirm_deed setup w v r owned k taken sent part row
deed setup w v r owned (Tick p round) taken sent part row = tick_deed setup w v r owned p round taken sent part row
