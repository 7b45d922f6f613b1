-- What an event of a router does to the router's part, in few shapes: most events change one peering alone, and in one of a few ways.
use Rattle.std.proofs.Common.{◌≡◌, ◌≢◌, ◌⊎◌, inl, inr, ℕ, zero, suc, true, false, List, [], ◌∷◌, Option, Some, None, refl, sym, ap, ◌∙◌, subst, arith}
use Rattle.std.specs.Prelude.{is_some}
use Rattle.std.specs.FinMap as map
use Rattle.std.proofs.lemmas.Bool.Decides.{nat_tests}
use Rattle.bgp_types.specs.Prefixes.{PrefixValue}
use Rattle.bgp_types.specs.Tables.{prefix_cmp}
use Rattle.tcp_seq.specs.Endpoint.{Endpoint}
use Rattle.session_value.specs.Sessions.{SessionValue}
use Rattle.session_value.specs.Cases.{GetsFrame, PassesRound}
use Rattle.session_value.specs.Sets.{Prefixes, has, Marks}
use Rattle.graft_model.specs.Points.{at}
use Rattle.graft_model.specs.Setups.{Setup}
use Rattle.graft_model.specs.Parts.{Order, Errand, Place, Vacant, Live, Frozen, Shadow, RouterPart, Entries, Mesh, Told, Moved, Back, Asked, Answered, Done}
use Rattle.graft_model.specs.RouterRows.{RouterTaken, MeshIn, RouterSent, MeshTo, OutwardTo, ReportOut, Alone, BringsIn, Follows, PutsNothing, PutsSome}
use Rattle.graft_model.specs.TableRows.{Decides, Tells, Hears}
use Rattle.graft_model.specs.GraftRows.{Asks, Confirms, DueAgain}
use Rattle.graft_model.specs.declared.event.RouterEvent.{RouterEvent}
use Rattle.graft_model.specs.declared.event.RouterEvent.TheVariants.{Put, Emit, Arrive, Stray, Got, Decide, Tell, Hear, Admit, Refuse, Freeze, Leave}
use Rattle.graft_model.specs.declared.event.RouterEvent.TheVariants.{Land, TurnBack, Return, Clear, Ask, Answer, Collect, Confirm, Tick}
use Rattle.graft_model.specs.Steps.{router_row}
use Rattle.graft_model.specs.Taking.{RouterMayTake}

-- ---- values at one number

pub at_same : {A : Type 0} (f : ℕ → A) (j : ℕ) (x : A) → at f j x j ≡ x
at_same f j x = grind (arith, nat_tests)

pub at_apart : {A : Type 0} (f : ℕ → A) (j n : ℕ) (x : A) → n ≢ j → at f j x n ≡ f n
at_apart f j n x other = grind (arith, nat_tests)

-- the same values values at one number
abbrev pub Elsewhere : {A : Type 0} → ℕ → (before after : ℕ → A) → Type 0
Elsewhere p before after = (n : ℕ) → n ≢ p → after n ≡ before n

-- ---- what is taken and sent beside tellings

-- the session that an item brings along
abbrev pub Carries : Mesh → SessionValue → Type 0
Carries (Moved k p s) session = s ≡ session
Carries (Back k p s refusal) session = s ≡ session
Carries item session = ⊥

-- No telling is taken, and only what may be taken.
abbrev pub TakesNoTelling : Setup → RouterPart → Option RouterTaken → Type 0
TakesNoTelling setup before None = Unit {0}
TakesNoTelling setup before (Some (MeshIn q (Told x route))) = ⊥
TakesNoTelling setup before (Some item) = RouterMayTake setup before item

-- No telling is sent: a session that leaves was frozen here, one that goes back was taken, an answer is to a question that was taken, and questions and
-- word of a landing have events of their own.
abbrev pub IsNoTelling : Setup → ℕ → RouterEvent → RouterPart → Option RouterTaken → RouterPart → RouterSent → Type 0
IsNoTelling setup r event before taken after (MeshTo q (Told x route)) = ⊥
IsNoTelling setup r event before taken after (MeshTo q (Moved k p s)) = (order : Order) × (before.places p ≡ Frozen s order)
IsNoTelling setup r event before taken after (MeshTo q (Back k p s refusal)) = (from : ℕ) × (taken ≡ Some (MeshIn from (Moved k p s)))
IsNoTelling setup r event before taken after (MeshTo q (Asked k p)) = (event ≡ Ask k q) × Asks setup r k q before taken (MeshTo q (Asked k p) ∷ []) after
IsNoTelling setup r event before taken after (MeshTo q (Answered k p)) = (taken ≡ Some (MeshIn q (Asked k p))) × (after ≡ before)
IsNoTelling setup r event before taken after (MeshTo q (Done k p)) = (event ≡ Confirm k) × Confirms setup r k before taken (MeshTo q (Done k p) ∷ []) after
IsNoTelling setup r event before taken after (OutwardTo p item) = Unit {0}
IsNoTelling setup r event before taken after (ReportOut report) = Unit {0}

-- one item is sent at most
abbrev pub SendsNoTelling : Setup → ℕ → RouterEvent → RouterPart → Option RouterTaken → RouterPart → List RouterSent → Type 0
SendsNoTelling setup r event before taken after [] = Unit {0}
SendsNoTelling setup r event before taken after (item ∷ []) = IsNoTelling setup r event before taken after item
SendsNoTelling setup r event before taken after (item ∷ more ∷ items) = ⊥

pub record TellsNothing (setup : Setup) (r : ℕ) (event : RouterEvent)
    (before : RouterPart) (taken : Option RouterTaken) (sent : List RouterSent) (after : RouterPart) : Type 0 where
  pub takes : TakesNoTelling setup before taken
  pub sends : SendsNoTelling setup r event before taken after sent

-- ---- one peering

-- All else of the part stays, but for the prefixes that are dirty by other entries of the peering.
pub record OnePeering (p : ℕ) (before after : RouterPart) : Type 0 where
  pub places : Elsewhere p before.places after.places
  pub entries : Elsewhere p before.entries after.entries
  pub due_out : Elsewhere p before.due_out after.due_out
  pub dirty : Marks before.dirty (before.entries p) (after.entries p) after.dirty
  pub tellings : after.tellings ≡ before.tellings
  pub best : after.best ≡ before.best
  pub due_in : after.due_in ≡ before.due_in

-- a session changes by itself, as a message comes or a round passes
pub data ByItself (session next : SessionValue) : Type 0 where
  ByFrame : (bytes : List ℕ) → GetsFrame session bytes next → ByItself session next
  ByRound : (round : ℕ) → PassesRound session round next → ByItself session next

-- the session is held there, frozen or not
abbrev pub Holds : Place → SessionValue → Type 0
Holds Vacant session = ⊥
Holds (Live s errand) session = s ≡ session
Holds (Frozen s order) session = s ≡ session
Holds (Shadow graft) session = ⊥

abbrev pub HoldsNone : Place → Type 0
HoldsNone place = (session : SessionValue) → Holds place session → ⊥

-- What becomes of the peering: its live session stays, with another endpoint at most; what is due on it is put; it changes by itself; its
-- place is left without a session; or a session comes there.
pub data PeeringChange (setup : Setup) (r p : ℕ) (before : RouterPart) (taken : Option RouterTaken) (sent : List RouterSent) (after : RouterPart) : Type 0 where
  Keeping : (session : SessionValue) (errand : Option Errand) (end : Endpoint) → before.places p ≡ Live session errand
      → Holds (after.places p) (record session { end = end }) → after.entries p ≡ before.entries p → after.due_out p ≡ before.due_out p
      → PeeringChange setup r p before taken sent after
  PuttingNothing : PutsNothing setup r p before taken sent after → PeeringChange setup r p before taken sent after
  PuttingSome : (n : ℕ) (row : PutsSome setup r p n before taken sent after) → after.places p ≡ Live row.next row.errand
      → PeeringChange setup r p before taken sent after
  Following : (session next : SessionValue) (errand : Option Errand) → before.places p ≡ Live session errand → after.places p ≡ Live next errand
      → ByItself session next → Follows setup r p before session next errand after → PeeringChange setup r p before taken sent after
  Emptying : HoldsNone (after.places p) → (after.entries p ≡ before.entries p) ⊎ (after.entries p ≡ map.empty)
      → ((x : PrefixValue) → has (after.due_out p) x ≡ true → (has (before.due_out p) x ≡ true) × HoldsNone (before.places p))
      → PeeringChange setup r p before taken sent after
  Reviving : (q : ℕ) (item : Mesh) (session : SessionValue) (errand : Option Errand) → taken ≡ Some (MeshIn q item) → Carries item session
      → after.places p ≡ Live session errand → (after.entries p ≡ before.entries p) ⊎ BringsIn setup r session (after.entries p)
      → DueAgain before session (after.due_out p) → PeeringChange setup r p before taken sent after

-- ---- any event

pub data Footprint (setup : Setup) (r : ℕ) (event : RouterEvent)
    (before : RouterPart) (taken : Option RouterTaken) (sent : List RouterSent) (after : RouterPart) : Type 0 where
  Deciding : (prefix : PrefixValue) → Decides setup r prefix before taken sent after → Footprint setup r event before taken sent after
  Telling : (q : ℕ) (prefix : PrefixValue) → Tells q prefix before taken sent after → Footprint setup r event before taken sent after
  Hearing : (q : ℕ) → Hears q before taken sent after → Footprint setup r event before taken sent after
  Staying : TellsNothing setup r event before taken sent after → after ≡ before → Footprint setup r event before taken sent after
  Changing : (p : ℕ) → TellsNothing setup r event before taken sent after → OnePeering p before after → PeeringChange setup r p before taken sent after
      → Footprint setup r event before taken sent after

-- ---- the footprint of each row

no_marks : {A : Type 0} (dirty : Prefixes) (entries : map.FinMap prefix_cmp A) → Marks dirty entries entries dirty
no_marks dirty entries = record { marked = λ x there. inl there; others = λ x clean. (clean, refl) }

module _ (setup : Setup) (r : ℕ) (before after : RouterPart) (taken : Option RouterTaken) (sent : List RouterSent) where
  abbrev Silent : RouterEvent → Type 0
  Silent event = TellsNothing setup r event before taken sent after

  abbrev Print : RouterEvent → Type 0
  Print event = Footprint setup r event before taken sent after

  silent : {event : RouterEvent} (some : Option RouterTaken) (items : List RouterSent) → taken ≡ some → sent ≡ items
      → TakesNoTelling setup before some → SendsNoTelling setup r event before taken after items → Silent event
  silent {event} some items takes sends no_taken no_sent = record {
    takes = subst (TakesNoTelling setup before) (sym takes) no_taken;
    sends = subst (SendsNoTelling setup r event before taken after) (sym sends) no_sent;
  }

  alone : {event : RouterEvent} → Alone taken sent → Silent event
  alone both = silent None [] both.0 both.1 tt tt

  due_at : (p : ℕ) (due : Prefixes) → Elsewhere p before.due_out (at before.due_out p due)
  due_at p due n other = at_apart before.due_out p n due other

  place_at : (p : ℕ) (place : Place) → Elsewhere p before.places (at before.places p place)
  place_at p place n other = at_apart before.places p n place other

  -- places and what is due change at one peering, and no entries
  one_place : (p : ℕ) (places : ℕ → Place) (due : ℕ → Prefixes) → after ≡ record before { places = places; due_out = due }
      → Elsewhere p before.places places → Elsewhere p before.due_out due → OnePeering p before after
  one_place p places due is others due_others = subst (OnePeering p before) (sym is) (record {
    places = others;
    entries = λ n other. refl;
    due_out = due_others;
    dirty = no_marks before.dirty (before.entries p);
    tellings = refl;
    best = refl;
    due_in = refl;
  })

  -- entries change too
  one_entered : (p : ℕ) (place : Place) (entries : Entries) (dirty : Prefixes) (due : ℕ → Prefixes)
      → after ≡ record before { places = at before.places p place; entries = at before.entries p entries; dirty = dirty; due_out = due }
      → Elsewhere p before.due_out due → Marks before.dirty (before.entries p) entries dirty → OnePeering p before after
  one_entered p place entries dirty due is due_others marks = subst (OnePeering p before) (sym is) (record {
    places = place_at p place;
    entries = λ n other. at_apart before.entries p n entries other;
    due_out = due_others;
    dirty = subst (λ (es : Entries). Marks before.dirty (before.entries p) es dirty) (sym (at_same before.entries p entries)) marks;
    tellings = refl;
    best = refl;
    due_in = refl;
  })

  place_is : (p : ℕ) (place : Place) (entries : ℕ → Entries) (dirty : Prefixes) (due : ℕ → Prefixes)
      → after ≡ record before { places = at before.places p place; entries = entries; dirty = dirty; due_out = due } → after.places p ≡ place
  place_is p place entries dirty due is = ap (λ (u : RouterPart). u.places p) is ∙ at_same before.places p place

  -- a live session stays at its place, with another endpoint at most
  keeps : {event : RouterEvent} (p : ℕ) (session : SessionValue) (errand : Option Errand) (end : Endpoint) (place : Place)
      → before.places p ≡ Live session errand → Holds place (record session { end = end })
      → after ≡ record before { places = at before.places p place } → Silent event → Print event
  keeps p session errand end place live holds is told =
      Changing p told (one_place p _ _ is (place_at p place) (λ n other. refl))
      (Keeping session errand end live (subst (λ (x : Place). Holds x (record session { end = end })) (sym (place_is p place _ _ _ is)) holds)
      (ap (λ (u : RouterPart). u.entries p) is) (ap (λ (u : RouterPart). u.due_out p) is))

  -- a session changes by itself
  follows : {event : RouterEvent} (p : ℕ) (session next : SessionValue) (errand : Option Errand) → before.places p ≡ Live session errand
      → ByItself session next → Follows setup r p before session next errand after → Silent event → Print event
  follows p session next errand live by row told =
      Changing p told (one_entered p (Live next errand) (after.entries p) after.dirty _ row.effect (due_at p (after.due_out p)) row.dirty)
      (Following session next errand live (place_is p _ _ _ _ row.effect) by row)

  -- no session is left at a place
  empties : (p : ℕ) (place : Place) → after.places p ≡ place → HoldsNone place → HoldsNone (after.places p)
  empties p place is none = subst HoldsNone (sym is) none

  none_due : (due : Prefixes) (x : PrefixValue) → due ≡ map.empty → has due x ≡ true → ⊥
  none_due due x is there = let e : has due x ≡ false = ap (λ (s : Prefixes). has s x) is ∙ ap is_some (map.get-empty prefix_cmp x) in absurd cc

  pub footprint : (event : RouterEvent) → router_row setup r event before taken sent after → Print event
  footprint (Put p zero) row = Changing p (alone row.alone) (one_place p _ _ row.effect (λ n other. refl) (due_at p _)) (PuttingNothing row)
  footprint (Put p (suc n)) row =
      Changing p (alone row.alone) (one_place p _ _ row.effect (place_at p _) (due_at p _))
      (PuttingSome (suc n) row (place_is p _ _ _ _ row.effect))
  footprint (Emit p from len) row = keeps p row.session row.errand row.end _ row.live.is refl row.effect (silent _ _ row.takes row.sends tt tt)
  footprint (Arrive p) row = keeps p row.session row.errand row.end _ row.live.is refl row.effect (silent _ _ row.takes row.sends tt tt)
  footprint (Stray p) row = Staying (silent _ _ row.takes row.sends tt tt) row.stays
  footprint (Got p) row = follows p row.session row.next row.errand row.live.is (ByFrame row.bytes row.gets) row.follows (alone row.alone)
  footprint (Decide prefix) row = Deciding prefix row
  footprint (Tell q prefix) row = Telling q prefix row
  footprint (Hear q) row = Hearing q row
  footprint (Admit k) row =
      keeps row.peering row.session None row.session.end _ row.live.is refl row.effect (silent _ _ row.takes row.sends (row.known, row.session, row.live) tt)
  footprint (Refuse k) row = keeps row.peering row.session _ row.session.end _ row.live.is refl row.effect (silent _ _ row.takes row.sends tt tt)
  footprint (Freeze k) row = keeps row.peering row.session _ row.session.end _ row.live.is refl row.effect (alone row.alone)
  footprint (Leave k) row =
      Changing row.peering (silent _ _ row.takes row.sends tt (_, row.frozen))
      (one_place row.peering _ _ row.effect (place_at row.peering _) (due_at row.peering _))
      (Emptying (empties row.peering (Shadow k) (place_is row.peering _ _ _ _ row.effect) (λ s held. held))
      (inl (ap (λ (u : RouterPart). u.entries row.peering) row.effect))
      (λ x there. absurd (none_due (after.due_out row.peering) x
      (ap (λ (u : RouterPart). u.due_out row.peering) row.effect ∙ at_same before.due_out row.peering map.empty) there)))
  footprint (Land q) row =
      Changing row.comes.peering (silent _ _ row.comes.takes row.sends (row.comes.known, row.comes.vacant) tt)
      (one_entered row.comes.peering _ (after.entries row.comes.peering) after.dirty _ row.effect (due_at row.comes.peering _) row.dirty)
      (Reviving q _ row.comes.session _ row.comes.takes refl (place_is row.comes.peering _ _ _ _ row.effect) (inr row.entries) row.due)
  footprint (TurnBack q) row = Staying (silent _ _ row.comes.takes row.sends (row.comes.known, row.comes.vacant) (q, row.comes.takes)) row.stays
  footprint (Return q) row =
      Changing row.peering (silent _ _ row.takes row.sends row.shadow tt) (one_place row.peering _ _ row.effect (place_at row.peering _) (due_at row.peering _))
      (Reviving q _ row.session None row.takes refl (place_is row.peering _ _ _ _ row.effect) (inl (ap (λ (u : RouterPart). u.entries row.peering) row.effect))
      row.due)
  footprint (Clear q) row =
      Changing row.peering (silent _ _ row.takes row.sends row.shadow tt)
      (one_entered row.peering Vacant map.empty after.dirty _ row.effect (λ n other. refl) row.dirty)
      (Emptying (empties row.peering Vacant (place_is row.peering _ _ _ _ row.effect) (λ s held. held))
      (inr (ap (λ (u : RouterPart). u.entries row.peering) row.effect ∙ at_same before.entries row.peering map.empty))
      (λ x there. (ap (λ (u : RouterPart). has (u.due_out row.peering) x) (sym row.effect) ∙ there, subst HoldsNone (sym row.shadow) (λ s held. held))))
  footprint (Ask k q) row =
      keeps row.peering row.session _ row.session.end _ row.live.is refl row.effect
      (silent _ _ row.takes row.sends tt (refl, subst (λ (xs : List RouterSent). Asks setup r k q before taken xs after) row.sends row))
  footprint (Answer q) row = Staying (silent _ _ row.takes row.sends tt (row.takes, row.stays)) row.stays
  footprint (Collect q) (inl row) = keeps row.peering row.session _ row.session.end _ row.live.is refl row.effect (silent _ _ row.takes row.sends tt tt)
  footprint (Collect q) (inr row) = Staying (silent _ _ row.takes row.sends tt tt) row.stays
  footprint (Confirm k) row =
      keeps row.peering row.session _ row.session.end _ row.live.is refl row.effect
      (silent _ _ row.takes row.sends tt (refl, subst (λ (xs : List RouterSent). Confirms setup r k before taken xs after) row.sends row))
  footprint (Tick p round) row = follows p row.session row.next row.errand row.live.is (ByRound round row.passes) row.follows (alone row.alone)
