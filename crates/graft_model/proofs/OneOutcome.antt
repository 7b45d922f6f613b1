-- What a router's event sends and leaves is determined.
use Rattle.std.proofs.Common.{◌≡◌, ℕ, zero, suc, not, ◌&&◌, List, [], ◌∷◌, ◌++◌, Option, Some, None, refl, sym, ap, ◌∙◌, subst, inl, inr}
use Rattle.std.specs.Prelude.{◌≢◌, ◌⊎◌}
use Rattle.std.specs.FinMap as map
use Rattle.std.specs.List.{list_any}
use Rattle.bgp_types.specs.declared.attrs.Attrs.{Attrs}
use Rattle.bgp_types.specs.declared.attrs.Route.{Route}
use Rattle.bgp_types.specs.Prefixes.{PrefixValue, same_prefix}
use Rattle.graft_steps.specs.declared.refusal.Refusal.{Refusal}
use Rattle.graft_steps.specs.declared.refusal.Outcome.TheVariants.{Accepted, Refused}
use Rattle.loc_rib.specs.Values.{with_best}
use Rattle.tcp_seq.specs.Endpoint.{Endpoint, PlacedSegment, TakesSegment}
use Rattle.tcp_seq.proofs.Arriving.{leaves_one}
use Rattle.session_value.specs.Sessions.{SessionValue, state}
use Rattle.session_value.specs.Cases.{PutsUpdate, update_for}
use Rattle.session_value.specs.Sets.{Prefixes, has, Marks, Lists}
use Rattle.graft_model.specs.Points.{at}
use Rattle.graft_model.specs.Slices.{EmitsAt}
use Rattle.graft_model.specs.Setups.{Setup}
use Rattle.graft_model.specs.Parts.{Errand, Place, Live, Frozen, Shadow, Leaving, Owing, Asking, Word, Vacant}
use Rattle.graft_model.specs.Parts.{RouterPart, Entries, Told, Moved, Back, Asked, Answered, Done, Seg, PointAt}
use Rattle.graft_model.specs.Decisions.{chosen, to_tell}
use Rattle.graft_model.specs.RouterRows.{RouterTaken, OrderIn, SegmentIn, MeshIn, RouterSent, MeshTo, OutwardTo, ReportOut, PutsNothing}
use Rattle.graft_model.specs.RouterRows.{PutsSome, IsToTell, Emits, Arrives, Strays, GetsNext, Ticks, Follows, FollowsHeard, BringsIn}
use Rattle.graft_model.specs.TableRows.{Decides, Tells, Hears, DueEverywhere, with_telling}
use Rattle.graft_model.specs.GraftRows.{Admits, Refuses, Freezes, Leaves, Lands, Asks, Answers, Counts, Ignores}
use Rattle.graft_model.specs.GraftRows.{Confirms, TurnsBack, Returns, Clears, DueAgain, refusal_of}
use Rattle.graft_model.specs.Steps.{RouterEvent, Put, Emit, Arrive, Stray, Got, Decide, Tell, Hear, Admit, Refuse, Freeze, Leave}
use Rattle.graft_model.specs.Steps.{Land, TurnBack, Return, Clear, Ask, Answer, Collect, Confirm, Tick, router_row}
use Rattle.graft_model.specs.Laws.{HasGraft, HasOnce, HasOneOutcome}
use Rattle.graft_model.proofs.Rising.{one_least, one_list}
use Rattle.graft_model.proofs.Items.{told_is, moved_is, back_is, asked_is, answered_is, done_is}
use Rattle.graft_model.proofs.Same.{same_table, same_set, same_marks, same_front, same_session, same_order}
use Rattle.graft_model.proofs.Same.{live_here, same_segment, same_end, same_next, same_round, same_due}

module _ (setup : Setup) (r : ℕ) (before a b : RouterPart) (taken : Option RouterTaken) (sent items : List RouterSent) where
  abbrev Same : Type 0
  Same = (items ≡ sent) × (b ≡ a)

  one_nothing : (p : ℕ) → PutsNothing setup r p before taken sent a → PutsNothing setup r p before taken items b → Same
  one_nothing p x y =
      let due : b.due_out p ≡ a.due_out p = same_set (b.due_out p) (a.due_out p) (λ z. y.due.members z ∙ sym (x.due.members z)) in (
        y.alone.1 ∙ sym x.alone.1,
        y.effect ∙ (ap (λ (d : Prefixes). let v : RouterPart = record before { due_out = at before.due_out p d } in v) due ∙ sym x.effect),
      )

  abbrev after_put : ℕ → SessionValue → Option Errand → Prefixes → RouterPart
  after_put p s o due = record before { places = at before.places p (Live s o); due_out = at before.due_out p due }

  abbrev IsAlike : ℕ → SessionValue → Option Attrs → PrefixValue → Type 0
  IsAlike p s attrs q = IsToTell setup r before p s q × (to_tell setup r before s q ≡ attrs)

  one_puts : (p n : ℕ) → PutsSome setup r p n before taken sent a → PutsSome setup r p n before taken items b → Same
  one_puts p n x y = (y.alone.1 ∙ sym x.alone.1, y.effect ∙ ((λ i. after_put p (next i) (errand i) (due i)) ∙ sym x.effect)) where
    live : Live y.session y.errand ≡ Live x.session x.errand
    live = live_here before p y.session x.session y.errand x.errand y.live x.live

    session : y.session ≡ x.session
    session = same_session y.session x.session y.errand x.errand live

    errand : y.errand ≡ x.errand
    errand = same_order y.session x.session y.errand x.errand live

    first : y.first ≡ x.first
    first =
        one_least y.first x.first (x.least y.first (subst (λ (s : SessionValue). IsToTell setup r before p s y.first) session y.is_to_tell))
        (y.least x.first (subst (λ (s : SessionValue). IsToTell setup r before p s x.first) (sym session) x.is_to_tell))

    attrs : y.attrs ≡ x.attrs
    attrs = y.told_first ∙ ((λ i. to_tell setup r before (session i) (first i)) ∙ sym x.told_first)

    listed : y.prefixes ++ y.later ≡ x.prefixes ++ x.later
    listed =
        one_list (IsAlike p x.session x.attrs) (y.prefixes ++ y.later) (x.prefixes ++ x.later)
        (subst (λ (z : SessionValue × Option Attrs). Lists (IsAlike p z.0 z.1) (y.prefixes ++ y.later)) (λ i. (session i, attrs i)) y.alike) x.alike

    prefixes : y.prefixes ≡ x.prefixes
    prefixes = same_front y.prefixes x.prefixes y.later x.later (y.size ∙ sym x.size) listed

    puts : PutsUpdate x.session (update_for x.attrs x.prefixes) y.next
    puts = subst (λ (z : SessionValue × Option Attrs × List PrefixValue). PutsUpdate z.0 (update_for z.1 z.2) y.next)
        (λ i. (session i, attrs i, prefixes i)) y.puts

    next : y.next ≡ x.next
    next = puts.effect ∙ sym x.puts.effect

    members : (q : PrefixValue) → has (b.due_out p) q ≡ has (a.due_out p) q
    members q = y.due.members q ∙ ((λ i. has (before.due_out p) q && not (list_any (same_prefix q) (prefixes i))) ∙ sym (x.due.members q))

    due : b.due_out p ≡ a.due_out p
    due = same_set (b.due_out p) (a.due_out p) members

  abbrev with_end : ℕ → SessionValue → Option Errand → Endpoint → RouterPart
  with_end p s o e = record before { places = at before.places p (Live (record s { end = e }) o) }

  same_end_part : (p : ℕ) (s t : SessionValue) (o u : Option Errand) (e f : Endpoint) → Live s o ≡ Live t u → e ≡ f → with_end p s o e ≡ with_end p t u f
  same_end_part p s t o u e f l is =
      ap (λ (x : SessionValue). with_end p x o e) (same_session s t o u l)
      ∙ (ap (λ (x : Option Errand). with_end p t x e) (same_order s t o u l) ∙ ap (λ (x : Endpoint). with_end p t u x) is)

  one_emits : (p from len : ℕ) → Emits p from len before taken sent a → Emits p from len before taken items b → Same
  one_emits p from len x y =
      let l = live_here before p y.session x.session y.errand x.errand y.live x.live in
      let s : y.session ≡ x.session = same_session y.session x.session y.errand x.errand l in
      let e : EmitsAt from len x.session.end y.segment y.end = subst (λ (z : SessionValue). EmitsAt from len z.end y.segment y.end) s y.emits in (
        y.sends
            ∙ (ap (λ (g : PlacedSegment). OutwardTo p (Seg g) ∷ []) (same_segment from len x.session.end y.end x.end y.segment x.segment e x.emits)
            ∙ sym x.sends),
        y.effect
            ∙ (same_end_part p y.session x.session y.errand x.errand y.end x.end l
            (same_end from len x.session.end y.end x.end y.segment x.segment e x.emits) ∙ sym x.effect),
      )

  same_seg : (p : ℕ) (g h : PlacedSegment) → Some (SegmentIn p g) ≡ Some (SegmentIn p h) → g ≡ h
  same_seg p g h e = cc

  one_arrives : (p : ℕ) → Arrives p before taken sent a → Arrives p before taken items b → Same
  one_arrives p x y =
      let l = live_here before p y.session x.session y.errand x.errand y.live x.live in
      let s : y.session ≡ x.session = same_session y.session x.session y.errand x.errand l in
      let g : y.segment ≡ x.segment = same_seg p y.segment x.segment (sym y.takes ∙ x.takes) in
      let t : TakesSegment x.session.end x.segment y.end = subst (λ (z : PlacedSegment). TakesSegment x.session.end z y.end) g
      (subst (λ (z : SessionValue). TakesSegment z.end y.segment y.end) s y.arrives) in (
        y.sends ∙ sym x.sends,
        y.effect
            ∙ (same_end_part p y.session x.session y.errand x.errand y.end x.end l (leaves_one x.session.end y.end x.end x.segment t x.arrives) ∙ sym x.effect),
      )

  one_strays : (p : ℕ) → Strays p before taken sent a → Strays p before taken items b → Same
  one_strays p x y = (y.sends ∙ sym x.sends, y.stays ∙ sym x.stays)

  -- ---- got, and rounds

  abbrev followed : ℕ → SessionValue → Option Errand → Entries → Prefixes → Prefixes → RouterPart
  followed p s o entries dirty due =
      record before { places = at before.places p (Live s o); entries = at before.entries p entries; dirty = dirty; due_out = at before.due_out p due }

  one_entry : (p : ℕ) (s n : SessionValue) (x : PrefixValue) → FollowsHeard setup r s n (before.entries p) (a.entries p) x
      → FollowsHeard setup r s n (before.entries p) (b.entries p) x → map.get (b.entries p) x ≡ map.get (a.entries p) x
  one_entry p s n x (inl y) (inl z) = z.1 ∙ sym y.1
  one_entry p s n x (inl y) (inr z) = absurd (z.0 y.0)
  one_entry p s n x (inr y) (inl z) = absurd (y.0 z.0)
  one_entry p s n x (inr y) (inr z) = z.1 ∙ sym y.1

  one_follows : (p : ℕ) (s n : SessionValue) (o : Option Errand) → Follows setup r p before s n o a → Follows setup r p before s n o b → b ≡ a
  one_follows p s n o x y =
      let e : b.entries p ≡ a.entries p = same_table (b.entries p) (a.entries p) (λ q. one_entry p s n q (x.entries q) (y.entries q)) in
      let d : b.dirty ≡ a.dirty = same_marks before.dirty b.dirty a.dirty (before.entries p) (a.entries p)
      (subst (λ (z : Entries). Marks before.dirty (before.entries p) z b.dirty) e y.dirty) x.dirty in
      let u : b.due_out p ≡ a.due_out p = same_due (state s) (state n) before.best (before.due_out p) (b.due_out p) (a.due_out p) y.due x.due in
      y.effect
      ∙ (ap (λ (z : Entries). followed p n o z b.dirty (b.due_out p)) e ∙ (ap (λ (z : Prefixes). followed p n o (a.entries p) z (b.due_out p)) d
      ∙ (ap (λ (z : Prefixes). followed p n o (a.entries p) a.dirty z) u ∙ sym x.effect)))

  moved_follows : (p : ℕ) (s t n m : SessionValue) (o u : Option Errand) → s ≡ t → n ≡ m → o ≡ u → Follows setup r p before s n o b
      → Follows setup r p before t m u b
  moved_follows p s t n m o u e f g x =
      subst (λ (z : SessionValue). Follows setup r p before z m u b) e
      (subst (λ (z : SessionValue). Follows setup r p before s z u b) f
      (subst (λ (z : Option Errand). Follows setup r p before s n z b) g x))

  one_gets : (p : ℕ) → GetsNext setup r p before taken sent a → GetsNext setup r p before taken items b → Same
  one_gets p x y =
      let l = live_here before p y.session x.session y.errand x.errand y.live x.live in
      let s : y.session ≡ x.session = same_session y.session x.session y.errand x.errand l in
      let n : y.next ≡ x.next = same_next x.session y.next x.next y.bytes x.bytes
      (subst (λ (z : SessionValue). Rattle.session_value.specs.Cases.GetsFrame z y.bytes y.next) s y.gets) x.gets in (
        y.alone.1 ∙ sym x.alone.1,
        one_follows p x.session x.next x.errand x.follows
            (moved_follows p y.session x.session y.next x.next y.errand x.errand s n (same_order y.session x.session y.errand x.errand l) y.follows),
      )

  one_ticks : (p round : ℕ) → Ticks setup r p round before taken sent a → Ticks setup r p round before taken items b → Same
  one_ticks p round x y =
      let l = live_here before p y.session x.session y.errand x.errand y.live x.live in
      let s : y.session ≡ x.session = same_session y.session x.session y.errand x.errand l in
      let n : y.next ≡ x.next = same_round x.session y.next x.next round
      (subst (λ (z : SessionValue). Rattle.session_value.specs.Cases.PassesRound z round y.next) s y.passes) x.passes in (
        y.alone.1 ∙ sym x.alone.1,
        one_follows p x.session x.next x.errand x.follows
            (moved_follows p y.session x.session y.next x.next y.errand x.errand s n (same_order y.session x.session y.errand x.errand l) y.follows),
      )

  -- ---- tables

  abbrev decided : PrefixValue → (ℕ → Prefixes) → (ℕ → Prefixes) → RouterPart
  decided prefix to_routers to_peerings = record before {
    best = with_best before.best prefix (chosen setup r before prefix);
    dirty = map.remove before.dirty prefix;
    due_in = to_routers;
    due_out = to_peerings;
  }

  abbrev Due : PrefixValue → RouterPart → Type 0
  Due prefix v = ((chosen setup r before prefix ≡ map.get before.best prefix) × (v.due_in ≡ before.due_in) × (v.due_out ≡ before.due_out))
      ⊎ ((chosen setup r before prefix ≢ map.get before.best prefix) × DueEverywhere setup r prefix before v)

  one_decides : (prefix : PrefixValue) → Decides setup r prefix before taken sent a → Decides setup r prefix before taken items b → Same
  one_decides prefix x y = (
    y.alone.1 ∙ sym x.alone.1,
    y.effect ∙ (ap (λ (d : ℕ → Prefixes). decided prefix d b.due_out) (to_routers y.due x.due)
        ∙ (ap (λ (d : ℕ → Prefixes). decided prefix a.due_in d) (to_peerings y.due x.due) ∙ sym x.effect)),
  )
    where
      to_routers : Due prefix b → Due prefix a → b.due_in ≡ a.due_in
      to_routers (inl s) (inl t) = s.1 ∙ sym t.1
      to_routers (inl s) (inr t) = absurd (t.0 s.0)
      to_routers (inr s) (inl t) = absurd (s.0 t.0)
      to_routers (inr s) (inr t) = λ i q. same_set (b.due_in q) (a.due_in q) (λ z. (s.1.routers q).members z ∙ sym ((t.1.routers q).members z)) i

      to_peerings : Due prefix b → Due prefix a → b.due_out ≡ a.due_out
      to_peerings (inl s) (inl t) = s.2 ∙ sym t.2
      to_peerings (inl s) (inr t) = absurd (t.0 s.0)
      to_peerings (inr s) (inl t) = absurd (s.0 t.0)
      to_peerings (inr s) (inr t) = λ i q. same_set (b.due_out q) (a.due_out q) (λ z. (s.1.peerings q).members z ∙ sym ((t.1.peerings q).members z)) i

  one_tells : (q : ℕ) (prefix : PrefixValue) → Tells q prefix before taken sent a → Tells q prefix before taken items b → Same
  one_tells q prefix x y = (y.sends ∙ sym x.sends, y.effect ∙ sym x.effect)

  abbrev DirtyIf : ℕ → PrefixValue → Option Route → RouterPart → Type 0
  DirtyIf q prefix route v = ((route ≡ map.get (before.tellings q) prefix) × (v.dirty ≡ before.dirty))
      ⊎ ((route ≢ map.get (before.tellings q) prefix) × (v.dirty ≡ map.insert before.dirty prefix tt))

  same_dirty : (q : ℕ) (prefix : PrefixValue) (route : Option Route) → DirtyIf q prefix route b → DirtyIf q prefix route a → b.dirty ≡ a.dirty
  same_dirty q prefix route (inl s) (inl t) = s.1 ∙ sym t.1
  same_dirty q prefix route (inl s) (inr t) = absurd (t.0 s.0)
  same_dirty q prefix route (inr s) (inl t) = absurd (s.0 t.0)
  same_dirty q prefix route (inr s) (inr t) = s.1 ∙ sym t.1

  abbrev heard_with : ℕ → PrefixValue → Option Route → Prefixes → RouterPart
  heard_with q prefix route dirty = record before { tellings = at before.tellings q (with_telling (before.tellings q) prefix route); dirty = dirty }

  one_hears : (q : ℕ) → Hears q before taken sent a → Hears q before taken items b → Same
  one_hears q x y =
      let t : Some (MeshIn q (Told y.prefix y.route)) ≡ Some (MeshIn q (Told x.prefix x.route)) = sym y.takes ∙ x.takes in
      let p : y.prefix ≡ x.prefix = (told_is q y.prefix x.prefix y.route x.route t).0 in
      let o : y.route ≡ x.route = (told_is q y.prefix x.prefix y.route x.route t).1 in
      let d : DirtyIf q x.prefix x.route b =
      subst (λ (z : PrefixValue). DirtyIf q z x.route b) p (subst (λ (z : Option Route). DirtyIf q y.prefix z b) o y.dirty) in (
        y.sends ∙ sym x.sends,
        y.effect
            ∙ (ap (λ (z : PrefixValue). heard_with q z y.route b.dirty) p ∙ (ap (λ (z : Option Route). heard_with q x.prefix z b.dirty) o
            ∙ (ap (λ (z : Prefixes). heard_with q x.prefix x.route z) (same_dirty q x.prefix x.route d x.dirty) ∙ sym x.effect))),
      )

  -- ---- grafts

  abbrev peering_in : Option RouterTaken → ℕ
  peering_in (Some (OrderIn o)) = o.peering
  peering_in x = 0

  abbrev target_in : Option RouterTaken → ℕ
  target_in (Some (OrderIn o)) = o.target
  target_in x = 0

  same_ordered : (k p q s t : ℕ)
      → Some (OrderIn (record { graft = k; peering = p; target = s })) ≡ Some (OrderIn (record { graft = k; peering = q; target = t }))
      → (p ≡ q) × (s ≡ t)
  same_ordered k p q s t e = (ap (λ (x : Option RouterTaken). peering_in x) e, ap (λ (x : Option RouterTaken). target_in x) e)

  abbrev with_order : ℕ → ℕ → ℕ → SessionValue → RouterPart
  with_order k p t s = record before { places = at before.places p (Live s (Some (Leaving (record { graft = k; target = t })))) }

  one_admits : (k : ℕ) → Admits setup k before taken sent a → Admits setup k before taken items b → Same
  one_admits k x y =
      let t = same_ordered k y.peering x.peering y.target x.target (sym y.takes ∙ x.takes) in
      let l = subst (λ (z : ℕ). before.places z ≡ Live y.session None) t.0 y.live.is in
      let s : y.session ≡ x.session = same_session y.session x.session None None (sym l ∙ x.live.is) in (
        y.sends ∙ sym x.sends,
        y.effect
            ∙ (ap (λ (z : ℕ). with_order k z y.target y.session) t.0
            ∙ (ap (λ (z : ℕ). with_order k x.peering z y.session) t.1 ∙ (ap (λ (z : SessionValue). with_order k x.peering x.target z) s ∙ sym x.effect))),
      )

  has_live : (k p t : ℕ) (s : SessionValue) → before.places p ≡ Live s (Some (Leaving (record { graft = k; target = t }))) → HasGraft k (before.places p)
  has_live k p t s e = subst (λ (z : Place). HasGraft k z) (sym e) refl

  has_frozen : (k p t : ℕ) (s : SessionValue) → before.places p ≡ Frozen s (record { graft = k; target = t }) → HasGraft k (before.places p)
  has_frozen k p t s e = subst (λ (z : Place). HasGraft k z) (sym e) refl

  abbrev target_of : Option Errand → ℕ
  target_of None = 0
  target_of (Some (Leaving o)) = o.target
  target_of (Some errand) = 0

  order_target : (k t u : ℕ) (s v : SessionValue)
      → Live s (Some (Leaving (record { graft = k; target = t }))) ≡ Live v (Some (Leaving (record { graft = k; target = u }))) → t ≡ u
  order_target k t u s v e = ap (λ (x : Option Errand). target_of x)
      (same_order s v (Some (Leaving (record { graft = k; target = t }))) (Some (Leaving (record { graft = k; target = u }))) e)

  abbrev session_in : SessionValue → Place → SessionValue
  session_in s (Frozen z o) = z
  session_in s x = s

  abbrev frozen_target : Place → ℕ
  frozen_target (Frozen z o) = o.target
  frozen_target x = 0

  frozen_session : (k t u : ℕ) (s v : SessionValue) → Frozen s (record { graft = k; target = t }) ≡ Frozen v (record { graft = k; target = u })
      → (s ≡ v) × (t ≡ u)
  frozen_session k t u s v e = (ap (λ (x : Place). session_in s x) e, ap (λ (x : Place). frozen_target x) e)

  same_refusal : (x y : Refusal) → Some x ≡ Some y → x ≡ y
  same_refusal x y e = cc

  abbrev cause_of : ℕ → SessionValue → Option Refusal
  cause_of t s = Rattle.graft_steps.specs.Refusals.freeze_refusal (record { 0 = r })
      (record { 0 = t }) (state s) (Rattle.session_value.specs.Sessions.hold_time s)

  abbrev alone_at : ℕ → SessionValue → RouterPart
  alone_at p s = record before { places = at before.places p (Live s None) }

  one_refuses : (k : ℕ) → HasOnce k before → Refuses r k before taken sent a → Refuses r k before taken items b → Same
  one_refuses k once x y =
      let p : y.peering ≡ x.peering =
      once y.peering x.peering (has_live k y.peering y.target y.session y.live.is) (has_live k x.peering x.target x.session x.live.is) in
      let l = sym (subst (λ (z : ℕ). before.places z ≡ Live y.session (Some (Leaving (record { graft = k; target = y.target })))) p y.live.is) ∙ x.live.is in
      let s : y.session ≡ x.session = same_session y.session x.session
      (Some (Leaving (record { graft = k; target = y.target }))) (Some (Leaving (record { graft = k; target = x.target }))) l in
      let t : y.target ≡ x.target = order_target k y.target x.target y.session x.session l in
      let c = ap (λ (z : SessionValue). cause_of y.target z) s ∙ ap (λ (z : ℕ). cause_of z x.session) t in
      let f : y.refusal ≡ x.refusal = same_refusal y.refusal x.refusal (sym y.cause ∙ (c ∙ x.cause)) in (
        y.sends ∙ (ap (λ (z : Refusal). ReportOut (record { graft = k; outcome = Refused z }) ∷ []) f ∙ sym x.sends),
        y.effect ∙ (ap (λ (z : ℕ). alone_at z y.session) p ∙ (ap (λ (z : SessionValue). alone_at x.peering z) s ∙ sym x.effect)),
      )

  abbrev frozen_at : ℕ → ℕ → SessionValue → ℕ → RouterPart
  frozen_at k p s t = record before { places = at before.places p (Frozen s (record { graft = k; target = t })) }

  one_freezes : (k : ℕ) → HasOnce k before → Freezes r k before taken sent a → Freezes r k before taken items b → Same
  one_freezes k once x y =
      let p : y.peering ≡ x.peering =
      once y.peering x.peering (has_live k y.peering y.target y.session y.live.is) (has_live k x.peering x.target x.session x.live.is) in
      let l = sym (subst (λ (z : ℕ). before.places z ≡ Live y.session (Some (Leaving (record { graft = k; target = y.target })))) p y.live.is) ∙ x.live.is in
      let s : y.session ≡ x.session = same_session y.session x.session
      (Some (Leaving (record { graft = k; target = y.target }))) (Some (Leaving (record { graft = k; target = x.target }))) l in
      let t : y.target ≡ x.target = order_target k y.target x.target y.session x.session l in (
        y.alone.1 ∙ sym x.alone.1,
        y.effect
            ∙ (ap (λ (z : ℕ). frozen_at k z y.session y.target) p
            ∙ (ap (λ (z : SessionValue). frozen_at k x.peering z y.target) s ∙ (ap (λ (z : ℕ). frozen_at k x.peering x.session z) t ∙ sym x.effect))),
      )

  one_leaves : (k : ℕ) → HasOnce k before → Leaves k before taken sent a → Leaves k before taken items b → Same
  one_leaves k once x y =
      let p : y.peering ≡ x.peering =
      once y.peering x.peering (has_frozen k y.peering y.target y.session y.frozen) (has_frozen k x.peering x.target x.session x.frozen) in
      let f = frozen_session k y.target x.target y.session x.session
      (sym (subst (λ (z : ℕ). before.places z ≡ Frozen y.session (record { graft = k; target = y.target })) p y.frozen) ∙ x.frozen) in (
        y.sends
            ∙ (ap (λ (z : ℕ). MeshTo y.target (Moved k z y.session) ∷ []) p ∙ (ap (λ (z : SessionValue). MeshTo y.target (Moved k x.peering z) ∷ []) f.0
            ∙ (ap (λ (z : ℕ). MeshTo z (Moved k x.peering x.session) ∷ []) f.1 ∙ sym x.sends))),
        y.effect
            ∙ (ap (λ (z : ℕ). let v : RouterPart = record before { places = at before.places z (Shadow k); due_out = at before.due_out z map.empty } in v) p
            ∙ sym x.effect),
      )

  -- ---- word of a landing

  abbrev word_in : Option Errand → Word
  word_in (Some (Owing word)) = word
  word_in (Some (Asking word)) = word
  word_in x = record { graft = 0; source = 0; next = 0 }

  abbrev word : ℕ → ℕ → ℕ → Word
  word k q n = record { graft = k; source = q; next = n }

  has_word : (k p q n : ℕ) (s : SessionValue) → before.places p ≡ Live s (Some (Owing (word k q n))) → HasGraft k (before.places p)
  has_word k p q n s e = subst (λ (z : Place). HasGraft k z) (sym e) refl

  same_word : (s v : SessionValue) (x y : Errand) → Live s (Some x) ≡ Live v (Some y) → (s ≡ v) × (word_in (Some x) ≡ word_in (Some y))
  same_word s v x y e = (same_session s v (Some x) (Some y) e, ap (λ (z : Option Errand). word_in z) (same_order s v (Some x) (Some y) e))

  -- the same place has the same session and the same source
  abbrev SameWord : ℕ → ℕ → SessionValue → SessionValue → Type 0
  SameWord q u s v = (s ≡ v) × (q ≡ u)

  owed_once : (k p o q u n m : ℕ) (s v : SessionValue) → p ≡ o → before.places p ≡ Live s (Some (Owing (word k q n)))
      → before.places o ≡ Live v (Some (Owing (word k u m))) → SameWord q u s v
  owed_once k p o q u n m s v e f g =
      let both = same_word s v (Owing (word k q n)) (Owing (word k u m)) (sym f ∙ (ap before.places e ∙ g)) in
      (both.0, ap (λ (w : Word). w.source) both.1)

  awaited_once : (k l p o q u n m : ℕ) (s v : SessionValue) → p ≡ o → before.places p ≡ Live s (Some (Asking (word k q n)))
      → before.places o ≡ Live v (Some (Asking (word l u m))) → SameWord q u s v
  awaited_once k l p o q u n m s v e f g =
      let both = same_word s v (Asking (word k q n)) (Asking (word l u m)) (sym f ∙ (ap before.places e ∙ g)) in
      (both.0, ap (λ (w : Word). w.source) both.1)

  abbrev asking_at : ℕ → ℕ → ℕ → ℕ → SessionValue → RouterPart
  asking_at k q p u s = record before { places = at before.places p (Live s (Some (Asking (word k u q)))) }

  one_asks : (k q : ℕ) → HasOnce k before → Asks setup r k q before taken sent a → Asks setup r k q before taken items b → Same
  one_asks k q once x y =
      let p : y.peering ≡ x.peering =
      once y.peering x.peering (has_word k y.peering y.source y.next y.session y.live.is) (has_word k x.peering x.source x.next x.session x.live.is) in
      let l = owed_once k y.peering x.peering y.source x.source y.next x.next y.session x.session p y.live.is x.live.is in (
        y.sends ∙ (ap (λ (z : ℕ). MeshTo q (Asked k z) ∷ []) p ∙ sym x.sends),
        y.effect ∙ (ap (λ (z : ℕ). asking_at k q z y.source y.session) p ∙ (ap (λ (z : ℕ). asking_at k q x.peering z y.session) l.1
            ∙ (ap (λ (z : SessionValue). asking_at k q x.peering x.source z) l.0 ∙ sym x.effect))),
      )

  one_answers : (q : ℕ) → Answers q before taken sent a → Answers q before taken items b → Same
  one_answers q x y =
      let t = asked_is q y.graft x.graft y.peering x.peering (sym y.takes ∙ x.takes) in (
        y.sends ∙ (ap (λ (z : ℕ). MeshTo q (Answered z y.peering) ∷ []) t.0 ∙ (ap (λ (z : ℕ). MeshTo q (Answered x.graft z) ∷ []) t.1 ∙ sym x.sends)),
        y.stays ∙ sym x.stays,
      )

  abbrev counted_at : ℕ → ℕ → ℕ → ℕ → SessionValue → RouterPart
  counted_at q k p u s = record before { places = at before.places p (Live s (Some (Owing (word k u (suc q))))) }

  one_counts : (q : ℕ) → Counts q before taken sent a → Counts q before taken items b → Same
  one_counts q x y =
      let t = answered_is q y.graft x.graft y.peering x.peering (sym y.takes ∙ x.takes) in
      let l = awaited_once y.graft x.graft y.peering x.peering y.source x.source q q y.session x.session t.1 y.live.is x.live.is in (
        y.sends ∙ sym x.sends,
        y.effect ∙ (ap (λ (z : ℕ). counted_at q z y.peering y.source y.session) t.0 ∙ (ap (λ (z : ℕ). counted_at q x.graft z y.source y.session) t.1
            ∙ (ap (λ (z : ℕ). counted_at q x.graft x.peering z y.session) l.1
            ∙ (ap (λ (z : SessionValue). counted_at q x.graft x.peering x.source z) l.0 ∙ sym x.effect)))),
      )

  -- an answer that is waited for and isn't
  in_both_ways : {v w : RouterPart} {u s : List RouterSent} (q : ℕ) → Counts q before taken u v → Ignores q before taken s w → ⊥
  in_both_ways q x y =
      let t = answered_is q x.graft y.graft x.peering y.peering (sym x.takes ∙ y.takes) in
      y.unawaited x.source x.session (record {
        is =
            sym (ap before.places t.1) ∙ (x.live.is ∙ ap (λ (z : ℕ). Live x.session (Some (Asking (word z x.source q)))) t.0);
      })

  one_collects : (q : ℕ) → Counts q before taken sent a ⊎ Ignores q before taken sent a → Counts q before taken items b ⊎ Ignores q before taken items b → Same
  one_collects q (inl x) (inl y) = one_counts q x y
  one_collects q (inl x) (inr y) = absurd (in_both_ways q x y)
  one_collects q (inr x) (inl y) = absurd (in_both_ways q y x)
  one_collects q (inr x) (inr y) = (y.sends ∙ sym x.sends, y.stays ∙ sym x.stays)

  one_confirms : (k : ℕ) → HasOnce k before → Confirms setup r k before taken sent a → Confirms setup r k before taken items b → Same
  one_confirms k once x y =
      let p : y.peering ≡ x.peering =
      once y.peering x.peering (has_word k y.peering y.source y.next y.session y.live.is) (has_word k x.peering x.source x.next x.session x.live.is) in
      let l = owed_once k y.peering x.peering y.source x.source y.next x.next y.session x.session p y.live.is x.live.is in (
        y.sends ∙ (ap (λ (z : ℕ). MeshTo y.source (Done k z) ∷ []) p ∙ (ap (λ (z : ℕ). MeshTo z (Done k x.peering) ∷ []) l.1 ∙ sym x.sends)),
        y.effect ∙ (ap (λ (z : ℕ). alone_at z y.session) p ∙ (ap (λ (z : SessionValue). alone_at x.peering z) l.0 ∙ sym x.effect)),
      )

  -- ---- at the target

  abbrev landed_at : ℕ → ℕ → ℕ → SessionValue → Entries → Prefixes → Prefixes → RouterPart
  landed_at q k p s entries dirty due = record before {
    places = at before.places p (Live s (Some (Owing (record { graft = k; source = q; next = 0 }))));
    entries = at before.entries p entries;
    dirty = dirty;
    due_out = at before.due_out p due;
  }

  -- what landing leaves, of the peering and the session that came
  record Landed (q k p : ℕ) (s : SessionValue) (v : RouterPart) : Type 0 where
    entries : BringsIn setup r s (v.entries p)
    dirty : Marks before.dirty (before.entries p) (v.entries p) v.dirty
    due : DueAgain before s (v.due_out p)
    effect : v ≡ landed_at q k p s (v.entries p) v.dirty (v.due_out p)

  one_landed : (q k p : ℕ) (s : SessionValue) → Landed q k p s a → Landed q k p s b → b ≡ a
  one_landed q k p s x y =
      let e : b.entries p ≡ a.entries p = same_table (b.entries p) (a.entries p) (λ z. y.entries z ∙ sym (x.entries z)) in
      let d : b.dirty ≡ a.dirty = same_marks before.dirty b.dirty a.dirty (before.entries p) (a.entries p)
      (subst (λ (z : Entries). Marks before.dirty (before.entries p) z b.dirty) e y.dirty) x.dirty in
      let u : b.due_out p ≡ a.due_out p = same_set (b.due_out p) (a.due_out p) (λ z. y.due.members z ∙ sym (x.due.members z)) in
      y.effect
      ∙ (ap (λ (z : Entries). landed_at q k p s z b.dirty (b.due_out p)) e ∙ (ap (λ (z : Prefixes). landed_at q k p s (a.entries p) z (b.due_out p)) d
      ∙ (ap (λ (z : Prefixes). landed_at q k p s (a.entries p) a.dirty z) u ∙ sym x.effect)))

  abbrev landing_items : ℕ → ℕ → List RouterSent
  landing_items k p = OutwardTo p (PointAt k) ∷ []

  one_lands : (q : ℕ) → Lands setup r q before taken sent a → Lands setup r q before taken items b → Same
  one_lands q x y =
      let t = moved_is q y.comes.graft x.comes.graft y.comes.peering x.comes.peering y.comes.session x.comes.session (sym y.comes.takes ∙ x.comes.takes) in
      let here : Landed q y.comes.graft y.comes.peering y.comes.session b = record { entries = y.entries; dirty = y.dirty; due = y.due; effect = y.effect } in
      let there : Landed q x.comes.graft x.comes.peering x.comes.session a =
      record { entries = x.entries; dirty = x.dirty; due = x.due; effect = x.effect } in (
        y.sends ∙ (ap (λ (k : ℕ). landing_items k y.comes.peering) t.0 ∙ (ap (λ (p : ℕ). landing_items x.comes.graft p) t.1 ∙ sym x.sends)),
        one_landed q x.comes.graft x.comes.peering x.comes.session there
            (subst (λ (z : SessionValue). Landed q x.comes.graft x.comes.peering z b) t.2
            (subst (λ (z : ℕ). Landed q x.comes.graft z y.comes.session b) t.1 (subst (λ (z : ℕ). Landed q z y.comes.peering y.comes.session b) t.0 here))),
      )

  one_turns_back : (q : ℕ) → TurnsBack setup r q before taken sent a → TurnsBack setup r q before taken items b → Same
  one_turns_back q x y =
      let t = moved_is q y.comes.graft x.comes.graft y.comes.peering x.comes.peering y.comes.session x.comes.session (sym y.comes.takes ∙ x.comes.takes) in
      let f : y.refusal ≡ x.refusal =
      same_refusal y.refusal x.refusal (sym y.cause ∙ (ap (λ (s : SessionValue). refusal_of setup r before s) t.2 ∙ x.cause)) in (
        y.sends
            ∙ (ap (λ (k : ℕ). MeshTo q (Back k y.comes.peering y.comes.session y.refusal) ∷ []) t.0
            ∙ (ap (λ (p : ℕ). MeshTo q (Back x.comes.graft p y.comes.session y.refusal) ∷ []) t.1
            ∙ (ap (λ (s : SessionValue). MeshTo q (Back x.comes.graft x.comes.peering s y.refusal) ∷ []) t.2
            ∙ (ap (λ (z : Refusal). MeshTo q (Back x.comes.graft x.comes.peering x.comes.session z) ∷ []) f ∙ sym x.sends)))),
        y.stays ∙ sym x.stays,
      )

  abbrev back_at : ℕ → SessionValue → Prefixes → RouterPart
  back_at p s due = record before { places = at before.places p (Live s None); due_out = at before.due_out p due }

  one_returns : (q : ℕ) → Returns q before taken sent a → Returns q before taken items b → Same
  one_returns q x y =
      let t = back_is q y.graft x.graft y.peering x.peering y.session x.session y.refusal x.refusal (sym y.takes ∙ x.takes) in
      let here : DueAgain before x.session (b.due_out x.peering) =
      subst (λ (z : SessionValue). DueAgain before z (b.due_out x.peering)) t.2 (subst (λ (z : ℕ). DueAgain before y.session (b.due_out z)) t.1 y.due) in
      let u : b.due_out x.peering ≡ a.due_out x.peering =
      same_set (b.due_out x.peering) (a.due_out x.peering) (λ q. here.members q ∙ sym (x.due.members q)) in (
        y.sends
            ∙ (ap (λ (k : ℕ). ReportOut (record { graft = k; outcome = Refused y.refusal }) ∷ []) t.0
            ∙ (ap (λ (z : Refusal). ReportOut (record { graft = x.graft; outcome = Refused z }) ∷ []) t.3 ∙ sym x.sends)),
        y.effect
            ∙ (ap (λ (p : ℕ). back_at p y.session (b.due_out p)) t.1 ∙ (ap (λ (s : SessionValue). back_at x.peering s (b.due_out x.peering)) t.2
            ∙ (ap (λ (z : Prefixes). back_at x.peering x.session z) u ∙ sym x.effect))),
      )

  abbrev cleared_at : ℕ → Prefixes → RouterPart
  cleared_at p dirty = record before { places = at before.places p Vacant; entries = at before.entries p map.empty; dirty = dirty }

  one_clears : (q : ℕ) → Clears q before taken sent a → Clears q before taken items b → Same
  one_clears q x y =
      let t = done_is q y.graft x.graft y.peering x.peering (sym y.takes ∙ x.takes) in
      let d : b.dirty ≡ a.dirty = same_marks before.dirty b.dirty a.dirty (before.entries x.peering) map.empty
      (subst (λ (z : ℕ). Marks before.dirty (before.entries z) map.empty b.dirty) t.1 y.dirty) x.dirty in (
        y.sends ∙ (ap (λ (k : ℕ). ReportOut (record { graft = k; outcome = Accepted }) ∷ []) t.0 ∙ sym x.sends),
        y.effect ∙ (ap (λ (p : ℕ). cleared_at p b.dirty) t.1 ∙ (ap (λ (z : Prefixes). cleared_at x.peering z) d ∙ sym x.effect)),
      )

pub one_router : (setup : Setup) (r : ℕ) (event : RouterEvent) (before a b : RouterPart) (taken : Option RouterTaken) (sent items : List RouterSent)
    → HasOneOutcome event before → router_row setup r event before taken sent a → router_row setup r event before taken items b → (items ≡ sent) × (b ≡ a)
one_router setup r (Put p zero) before a b taken sent items one x y = one_nothing setup r before a b taken sent items p x y
one_router setup r (Put p (suc n)) before a b taken sent items one x y = one_puts setup r before a b taken sent items p (suc n) x y
one_router setup r (Emit p from len) before a b taken sent items one x y = one_emits setup r before a b taken sent items p from len x y
one_router setup r (Arrive p) before a b taken sent items one x y = one_arrives setup r before a b taken sent items p x y
one_router setup r (Stray p) before a b taken sent items one x y = one_strays setup r before a b taken sent items p x y
one_router setup r (Got p) before a b taken sent items one x y = one_gets setup r before a b taken sent items p x y
one_router setup r (Decide prefix) before a b taken sent items one x y = one_decides setup r before a b taken sent items prefix x y
one_router setup r (Tell q prefix) before a b taken sent items one x y = one_tells setup r before a b taken sent items q prefix x y
one_router setup r (Hear q) before a b taken sent items one x y = one_hears setup r before a b taken sent items q x y
one_router setup r (Admit k) before a b taken sent items one x y = one_admits setup r before a b taken sent items k x y
one_router setup r (Refuse k) before a b taken sent items one x y = one_refuses setup r before a b taken sent items k one x y
one_router setup r (Freeze k) before a b taken sent items one x y = one_freezes setup r before a b taken sent items k one x y
one_router setup r (Leave k) before a b taken sent items one x y = one_leaves setup r before a b taken sent items k one x y
one_router setup r (Land q) before a b taken sent items one x y = one_lands setup r before a b taken sent items q x y
one_router setup r (TurnBack q) before a b taken sent items one x y = one_turns_back setup r before a b taken sent items q x y
one_router setup r (Return q) before a b taken sent items one x y = one_returns setup r before a b taken sent items q x y
one_router setup r (Clear q) before a b taken sent items one x y = one_clears setup r before a b taken sent items q x y
one_router setup r (Ask k q) before a b taken sent items one x y = one_asks setup r before a b taken sent items k q one x y
one_router setup r (Answer q) before a b taken sent items one x y = one_answers setup r before a b taken sent items q x y
one_router setup r (Collect q) before a b taken sent items one x y = one_collects setup r before a b taken sent items q x y
one_router setup r (Confirm k) before a b taken sent items one x y = one_confirms setup r before a b taken sent items k one x y
one_router setup r (Tick p round) before a b taken sent items one x y = one_ticks setup r before a b taken sent items p round x y
