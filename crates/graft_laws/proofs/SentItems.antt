-- What a router sends to another: one item at most, by the event that the item is for.
use Rattle.std.proofs.Common.{◌≡◌, ◌≢◌, ◌==◌, ◌⊎◌, inl, inr, ℕ, zero, suc, Bool, true, false, List, [], ◌∷◌, ◌++◌, Option, refl, sym, ap, ◌∙◌, subst, arith}
use Rattle.std.specs.Prelude.{if◌then◌else◌}
use Rattle.std.specs.FinMap as map
use Rattle.std.specs.List.{AllByRecursion}
use Rattle.std.proofs.lemmas.Bool.Decides.{nat_tests}
use Rattle.bgp_types.specs.declared.attrs.Route.{Route}
use Rattle.bgp_types.specs.Prefixes.{PrefixValue}
use Rattle.route_policy.specs.Telling.{tell_in}
use Rattle.graft_model.specs.Parts.{RouterPart, Mesh, Told, Moved, Back, Asked, Answered, Done, Seg, PointAt}
use Rattle.graft_model.specs.RouterRows.{RouterTaken, RouterSent, MeshTo, OutwardTo, ReportOut}
use Rattle.graft_model.specs.Setups.{Setup}
use Rattle.graft_model.specs.Steps.{router_row}
use Rattle.graft_model.specs.TableRows.{Tells}
use Rattle.graft_model.specs.declared.event.RouterEvent.{RouterEvent}
use Rattle.graft_model.specs.declared.event.RouterEvent.TheVariants.{Put, Emit, Arrive, Stray, Got, Decide, Tell, Hear, Admit, Refuse, Freeze, Leave, Land}
use Rattle.graft_model.specs.declared.event.RouterEvent.TheVariants.{TurnBack, Return, Clear, Ask, Answer, Collect, Confirm, Tick}
use Rattle.graft_model.proofs.Footprints.{IsNoTelling, SendsNoTelling, Deciding, Telling, Hearing, Staying, Changing, Footprint, footprint}
use Rattle.graft_laws.specs.Moves.{mesh_sent}
use Rattle.graft_laws.proofs.Lists.{alone, none_stands, all_standing}

-- ---- what tells

-- This holds of a telling.
abbrev pub IsTold : (PrefixValue → Option Route → Type 0) → Mesh → Type 0
IsTold P (Told x route) = P x route
IsTold P (Moved graft p session) = Unit {0}
IsTold P (Back graft p session refusal) = Unit {0}
IsTold P (Asked graft p) = Unit {0}
IsTold P (Answered graft p) = Unit {0}
IsTold P (Done graft p) = Unit {0}

pub told_map : (P Q : PrefixValue → Option Route → Type 0) → ((x : PrefixValue) (route : Option Route) → P x route → Q x route)
    → (item : Mesh) → IsTold P item → IsTold Q item
told_map P Q f (Told x route) is = f x route is
told_map P Q f _ is = tt

module _ (setup : Setup) (r : ℕ) (before after : RouterPart) (taken : Option RouterTaken) (sent : List RouterSent) where
  no_item : (z : RouterSent) → sent ≡ [] → sent ≡ z ∷ [] → ⊥
  no_item z e f = let g : [] ≡ z ∷ [] = sym e ∙ f in cc

  one_item : (y z : RouterSent) → sent ≡ y ∷ [] → sent ≡ z ∷ [] → y ≡ z
  one_item y z e f = let g : y ∷ [] ≡ z ∷ [] = sym e ∙ f in cc

  abbrev tells_it : ℕ → PrefixValue → Option Route → RouterSent
  tells_it b x route = MeshTo b (Told x route)

  same_telling : (q b : ℕ) (y x : PrefixValue) (told route : Option Route) → tells_it q y told ≡ tells_it b x route → (q ≡ b) × (y ≡ x)
  same_telling q b y x told route e = (cc, cc)

  -- a route is told by the event that tells it
  told_by : (event : RouterEvent) (b : ℕ) (x : PrefixValue) (route : Option Route)
      → router_row setup r event before taken sent after → sent ≡ tells_it b x route ∷ []
      → (event ≡ Tell b x) × Tells b x before taken sent after
  told_by (Tell q y) b x route row e =
      let same = same_telling q b y x _ route (one_item _ _ row.sends e) in (
        ap (λ (n : ℕ). Tell n y) same.0 ∙ ap (Tell b) same.1,
        subst (λ (z : PrefixValue). Tells b z before taken sent after) same.1 (subst (λ (n : ℕ). Tells n y before taken sent after) same.0 row),
      )
  told_by (Put p zero) b x route row e = absurd (no_item _ row.alone.1 e)
  told_by (Put p (suc n)) b x route row e = absurd (no_item _ row.alone.1 e)
  told_by (Emit p from len) b x route row e = let f : OutwardTo p (Seg row.segment) ≡ tells_it b x route = one_item _ _ row.sends e in absurd cc
  told_by (Arrive p) b x route row e = absurd (no_item _ row.sends e)
  told_by (Stray p) b x route row e = absurd (no_item _ row.sends e)
  told_by (Got p) b x route row e = absurd (no_item _ row.alone.1 e)
  told_by (Decide prefix) b x route row e = absurd (no_item _ row.alone.1 e)
  told_by (Hear q) b x route row e = absurd (no_item _ row.sends e)
  told_by (Admit k) b x route row e = absurd (no_item _ row.sends e)
  told_by (Refuse k) b x route row e = let f : ReportOut _ ≡ tells_it b x route = one_item _ _ row.sends e in absurd cc
  told_by (Freeze k) b x route row e = absurd (no_item _ row.alone.1 e)
  told_by (Leave k) b x route row e = let f : MeshTo row.target (Moved k row.peering row.session) ≡ tells_it b x route = one_item _ _ row.sends e in absurd cc
  told_by (Land q) b x route row e = let f : OutwardTo row.comes.peering (PointAt row.comes.graft) ≡ tells_it b x route = one_item _ _ row.sends e in absurd cc
  told_by (TurnBack q) b x route row e =
      let f : MeshTo q (Back row.comes.graft row.comes.peering row.comes.session row.refusal) ≡ tells_it b x route = one_item _ _ row.sends e in absurd cc
  told_by (Return q) b x route row e = let f : ReportOut _ ≡ tells_it b x route = one_item _ _ row.sends e in absurd cc
  told_by (Clear q) b x route row e = let f : ReportOut _ ≡ tells_it b x route = one_item _ _ row.sends e in absurd cc
  told_by (Ask k q) b x route row e = let f : MeshTo q (Asked k row.peering) ≡ tells_it b x route = one_item _ _ row.sends e in absurd cc
  told_by (Answer q) b x route row e = let f : MeshTo q (Answered row.graft row.peering) ≡ tells_it b x route = one_item _ _ row.sends e in absurd cc
  told_by (Collect q) b x route (inl row) e = absurd (no_item _ row.sends e)
  told_by (Collect q) b x route (inr row) e = absurd (no_item _ row.sends e)
  told_by (Confirm k) b x route row e = let f : MeshTo row.source (Done k row.peering) ≡ tells_it b x route = one_item _ _ row.sends e in absurd cc
  told_by (Tick p round) b x route row e = absurd (no_item _ row.alone.1 e)

  -- ---- any item

  -- the event by which an item is sent to the router b
  abbrev pub SentBy : RouterEvent → ℕ → Mesh → Type 0
  SentBy event b (Told x route) = (event ≡ Tell b x) × Tells b x before taken (MeshTo b (Told x route) ∷ []) after
  SentBy event b (Moved k p session) = Unit {0}
  SentBy event b (Back k p session refusal) = Unit {0}
  SentBy event b (Asked k p) = IsNoTelling setup r event before taken after (MeshTo b (Asked k p))
  SentBy event b (Answered k p) = IsNoTelling setup r event before taken after (MeshTo b (Answered k p))
  SentBy event b (Done k p) = IsNoTelling setup r event before taken after (MeshTo b (Done k p))

  no_telling : (event : RouterEvent) (z : RouterSent) → ((b : ℕ) (x : PrefixValue) (route : Option Route) → z ≢ tells_it b x route)
      → router_row setup r event before taken sent after → sent ≡ z ∷ [] → IsNoTelling setup r event before taken after z
  no_telling event z apart row e = by_print (footprint setup r before after taken sent event row) where
    by_print : Footprint setup r event before taken sent after → IsNoTelling setup r event before taken after z
    by_print (Deciding prefix row) = absurd (no_item z row.alone.1 e)
    by_print (Telling q prefix row) = absurd (apart q prefix _ (one_item z _ e row.sends))
    by_print (Hearing q row) = absurd (no_item z row.sends e)
    by_print (Staying silent is) = subst (SendsNoTelling setup r event before taken after) e silent.sends
    by_print (Changing p silent one change) = subst (SendsNoTelling setup r event before taken after) e silent.sends

  sent_by : (event : RouterEvent) (b : ℕ) (z : Mesh) → router_row setup r event before taken sent after → sent ≡ MeshTo b z ∷ [] → SentBy event b z
  sent_by event b (Told x route) row e =
      let by = told_by event b x route row e in (by.0, subst (λ (items : List RouterSent). Tells b x before taken items after) e by.1)
  sent_by event b (Moved k p session) row e = tt
  sent_by event b (Back k p session refusal) row e = tt
  sent_by event b (Asked k p) row e = no_telling event (MeshTo b (Asked k p)) (λ c x route f. cc) row e
  sent_by event b (Answered k p) row e = no_telling event (MeshTo b (Answered k p)) (λ c x route f. cc) row e
  sent_by event b (Done k p) row e = no_telling event (MeshTo b (Done k p)) (λ c x route f. cc) row e

  -- ---- in a channel

  abbrev OneAtMost : List RouterSent → Type 0
  OneAtMost items = (items ≡ []) ⊎ ((z : RouterSent) × (items ≡ z ∷ []))

  one_at_most : (event : RouterEvent) → router_row setup r event before taken sent after → OneAtMost sent
  one_at_most event row = by_print (footprint setup r before after taken sent event row) where
    by_items : (items : List RouterSent) → SendsNoTelling setup r event before taken after items → OneAtMost items
    by_items [] told = inl refl
    by_items (z ∷ []) told = inr (z, refl)
    by_items (z ∷ more ∷ items) told = absurd told

    by_print : Footprint setup r event before taken sent after → OneAtMost sent
    by_print (Deciding prefix row) = inl row.alone.1
    by_print (Telling q prefix row) = inr (_, row.sends)
    by_print (Hearing q row) = inl row.sends
    by_print (Staying silent is) = by_items sent silent.sends
    by_print (Changing p silent one change) = by_items sent silent.sends

  -- This item is sent from a to b, with these before and behind it: it is the only one.
  pub record IsSent (event : RouterEvent) (a b : ℕ) (z : Mesh) (ws vs : List Mesh) : Type 0 where
    pub here : a ≡ r
    pub first : ws ≡ []
    pub last : vs ≡ []
    pub only : sent ≡ MeshTo b z ∷ []
    pub by : SentBy event b z

  pub is_sent : (event : RouterEvent) (a b : ℕ) (z : Mesh) (ws vs : List Mesh)
      → router_row setup r event before taken sent after → mesh_sent r sent a b ≡ ws ++ z ∷ vs → IsSent event a b z ws vs
  is_sent event a b z ws vs row e = by_items (one_at_most event row) where
    sent_as : (items : List RouterSent) → sent ≡ items → mesh_sent r items a b ≡ ws ++ z ∷ vs
    sent_as items is = ap (λ (s : List RouterSent). mesh_sent r s a b) (sym is) ∙ e

    by_tests : (q : ℕ) (item : Mesh) → sent ≡ MeshTo q item ∷ [] → (t u : Bool) → (a == r) ≡ t → (b == q) ≡ u
        → (if t then (if u then item ∷ [] else []) else []) ++ [] ≡ ws ++ z ∷ vs → IsSent event a b z ws vs
    by_tests q item is true true f g h =
        let one = alone item z ws vs h in
        let to : q ≡ b = grind (arith, nat_tests) in
        let only : sent ≡ MeshTo b z ∷ [] = is ∙ ap (λ (n : ℕ). MeshTo n item ∷ []) to ∙ ap (λ (x : Mesh). MeshTo b x ∷ []) one.1 in
        record { here = grind (arith, nat_tests); first = one.0; last = one.2; only = only; by = sent_by event b z row only }
    by_tests q item is true false f g h = absurd (none_stands z ws vs h)
    by_tests q item is false u f g h = absurd (none_stands z ws vs h)

    by_items : OneAtMost sent → IsSent event a b z ws vs
    by_items (inl none) = absurd (none_stands z ws vs (sent_as [] none))
    by_items (inr (MeshTo q item, is)) = by_tests q item is (a == r) (b == q) refl refl (sent_as _ is)
    by_items (inr (OutwardTo p item, is)) = absurd (none_stands z ws vs (sent_as _ is))
    by_items (inr (ReportOut report, is)) = absurd (none_stands z ws vs (sent_as _ is))

  -- a told route is the router's best one
  abbrev pub IsTelling : RouterEvent → ℕ → ℕ → PrefixValue → Option Route → Type 0
  IsTelling event a b x route = (a ≡ r) × (event ≡ Tell b x) × Tells b x before taken sent after × (route ≡ tell_in (map.get before.best x))

  pub all_tellings : (event : RouterEvent) (a b : ℕ) → router_row setup r event before taken sent after
      → AllByRecursion (IsTold (IsTelling event a b)) (mesh_sent r sent a b)
  all_tellings event a b row = all_standing (IsTold (IsTelling event a b)) (mesh_sent r sent a b) (λ z ws vs e. telling z (is_sent event a b z ws vs row e))
    where
      same_route : (x : PrefixValue) (route told : Option Route) → MeshTo b (Told x route) ∷ [] ≡ MeshTo b (Told x told) ∷ [] → route ≡ told
      same_route x route told e = cc

      telling : (z : Mesh) {ws vs : List Mesh} → IsSent event a b z ws vs → IsTold (IsTelling event a b) z
      telling (Told x route) s = (
        s.here,
        s.by.0,
        subst (λ (items : List RouterSent). Tells b x before taken items after) (sym s.only) s.by.1,
        same_route x route _ s.by.1.sends,
      )
      telling _ s = tt
