-- How a peering goes on from one phase to the next by an event of its own at a router.
use Rattle.std.proofs.Common.{◌≡◌, ◌==◌, cond, ℕ, Bool, true, false, List, [], ◌∷◌, ◌++◌, Option, refl, sym, ap, ◌∙◌, subst, arith}
use Rattle.std.proofs.lemmas.Bool.Decides.{nat_tests}
use Rattle.std.proofs.lemmas.List.{append-nil}
use Rattle.std.specs.Prelude.{◌≢◌, filter}
use Rattle.std.specs.FinMap as map
use Rattle.tcp_seq.specs.Endpoint.{PlacedSegment}
use Rattle.session_value.specs.Sessions.{SessionValue}
use Rattle.graft_model.specs.Points.{at}
use Rattle.graft_model.specs.Setups.{Setup}
use Rattle.graft_model.specs.Parts.{Place, RouterPart, Outward, OperatorPart, World, Entries}
use Rattle.bgp_types.specs.Prefixes.{PrefixValue}
use Rattle.graft_model.specs.RouterRows.{RouterTaken, RouterSent, BringsIn, FollowsHeard}
use Rattle.graft_laws.specs.Phases.{Phase, only_at, only2, place_by, mesh_by, orders_by, reports_by, InBounds}
use Rattle.graft_laws.specs.Log.{is_graft_on, LogSays}
use Rattle.graft_laws.specs.Owned.{is_on, mesh_items_on, orders_of, reports_of, Stands}
use Rattle.graft_laws.specs.Moves.{mesh_taken, inward_taken, orders_taken, mesh_sent, outward_sent, reports_sent, RouterMoves}
use Rattle.graft_laws.specs.Life.{SameLine, LineGets, LineGives, SameEntries, Enters, EntersHeard, DropsEntriesAt, Change}
use Rattle.graft_laws.proofs.Lists.{append_same}
use Rattle.graft_laws.proofs.Others.{found_in}

-- where a peering stands after an event, and what the event did to it
pub record Followed (setup : Setup) (before after : World) (p : ℕ) (phase : Phase) (s : SessionValue) : Type 0 where
  pub next : Phase
  pub session : SessionValue
  pub stands : Stands setup after p next session
  pub change : Change setup before after p phase s next session

-- the phase that is known is the one that it is in
pub at_phase : (setup : Setup) (w v : World) (p : ℕ) (phase known : Phase) (s : SessionValue) → phase ≡ known
    → (Stands setup w p known s → Followed setup w v p known s)
    → Stands setup w p phase s → Followed setup w v p phase s
at_phase setup w v p phase known s e follow = subst (λ (x : Phase). Stands setup w p x s → Followed setup w v p x s) (sym e) follow

-- ---- channels

pub own_only : {A : Type 0} (test : A → Bool) (item : A) (m n : ℕ) → test item ≡ true → filter test (only_at m item n) ≡ only_at m item n
own_only test item m n e = by_tests (n == m) where
  by_tests : (b : Bool) → filter test (cond b (item ∷ []) []) ≡ cond b (item ∷ []) []
  by_tests true = ap (λ b. cond b (item ∷ []) []) e
  by_tests false = refl

pub own_only2 : {A : Type 0} (test : A → Bool) (item : A) (j k a b : ℕ) → test item ≡ true → filter test (only2 j k item a b) ≡ only2 j k item a b
own_only2 test item j k a b e = by_tests (a == j) (b == k) where
  by_tests : (u v : Bool) → filter test (cond u (cond v (item ∷ []) []) []) ≡ cond u (cond v (item ∷ []) []) []
  by_tests true true = ap (λ b. cond b (item ∷ []) []) e
  by_tests true false = refl
  by_tests false v = refl

pub none_only : {A : Type 0} (test : A → Bool) (item : A) (m n : ℕ) → test item ≡ false → filter test (only_at m item n) ≡ []
none_only test item m n e = by_tests (n == m) where
  by_tests : (b : Bool) → filter test (cond b (item ∷ []) []) ≡ []
  by_tests true = ap (λ b. cond b (item ∷ []) []) e
  by_tests false = refl

pub none_only2 : {A : Type 0} (test : A → Bool) (item : A) (j k a b : ℕ) → test item ≡ false → filter test (only2 j k item a b) ≡ []
none_only2 test item j k a b e = by_tests (a == j) (b == k) where
  by_tests : (u v : Bool) → filter test (cond u (cond v (item ∷ []) []) []) ≡ []
  by_tests true true = ap (λ b. cond b (item ∷ []) []) e
  by_tests true false = refl
  by_tests false v = refl

-- where a channel had of a peering just what was taken, it has then what was sent
pub own_channel : {A : Type 0} (test : A → Bool) (taken after before sent had has : List A) → taken ++ after ≡ before ++ sent
    → filter test taken ≡ had → filter test before ≡ had → filter test sent ≡ has → filter test after ≡ has
own_channel test taken after before sent had has e took was gave =
    append_same had (filter test after) has
    (ap (λ (x : List _). x ++ filter test after) (sym took)
    ∙ (found_in test taken after before sent e ∙ (ap (λ (x : List _). x ++ filter test sent) was ∙ ap (λ (x : List _). had ++ x) gave)))

-- the head of a channel, among its items of a peering
pub own_head : {A : Type 0} (test : A → Bool) (items rest : List A) (item : A) → items ≡ item ∷ rest → test item ≡ true
    → item ∷ filter test rest ≡ filter test items
own_head test items rest item e own = sym (ap (filter test) e ∙ ap (λ b. cond b (item ∷ filter test rest) (filter test rest)) own)

-- ---- the router's part

pub at_here : {A : Type 0} (f : ℕ → A) (n : ℕ) (v : A) → at f n v n ≡ v
at_here f n v = ap (λ b. cond b v (f n)) (let e : (n == n) ≡ true = grind (arith, nat_tests) in e)

pub at_other : {A : Type 0} (f : ℕ → A) (n m : ℕ) (v : A) → m ≢ n → at f n v m ≡ f m
at_other f n m v ne = ap (λ b. cond b v (f m)) (let e : (m == n) ≡ false = grind (arith, nat_tests) in e)

pub places_step : (b : Bool) (part old : RouterPart) (p : ℕ) (place was : Place) → part.places p ≡ place → old.places p ≡ was
    → (cond b part old).places p ≡ cond b place was
places_step true part old p place was e f = e
places_step false part old p place was e f = f

-- ---- an event of the peering's own

-- What the event takes of the peering is what stands in its phase, and what it sends and leaves is what stands in the next.
pub record Shifts (setup : Setup) (p r : ℕ) (s : SessionValue) (taken : Option RouterTaken)
    (sent : List RouterSent) (part : RouterPart) (phase next : Phase) : Type 0 where
  pub places : (x : ℕ) → cond (x == r) (part.places p) (place_by phase s x) ≡ place_by next s x
  pub mesh_taken : (a b : ℕ) → mesh_items_on p (mesh_taken r taken a b) ≡ mesh_by phase p s a b
  pub mesh_sent : (a b : ℕ) → mesh_items_on p (mesh_sent r sent a b) ≡ mesh_by next p s a b
  pub orders_taken : (b : ℕ) → orders_of p (orders_taken r taken b) ≡ orders_by phase p b
  pub no_order : (b : ℕ) → orders_by next p b ≡ []
  pub no_report : (a : ℕ) → reports_by phase a ≡ []
  pub reports_sent : (a : ℕ) → reports_of setup p (reports_sent r sent a) ≡ reports_by next a

pub shifted : (setup : Setup) (w v : World) (p r : ℕ) (s : SessionValue)
    (taken : Option RouterTaken) (sent : List RouterSent) (part : RouterPart) (phase next : Phase)
    → RouterMoves r taken sent part w v → Shifts setup p r s taken sent part phase next → Stands setup w p phase s → LogSays setup w.operator p next
    → InBounds setup next → Stands setup v p next s
shifted setup w v p r s taken sent part phase next m x b log bounds = record {
  places = λ y. ap (λ (f : ℕ → RouterPart). (f y).places p) m.router
      ∙ (places_step (y == r) part (w.router y) p (part.places p) (place_by phase s y) refl (b.places y) ∙ x.places y);
  mesh = λ i j. own_channel (is_on p) (mesh_taken r taken i j) (v.mesh i j) (w.mesh i j) (mesh_sent r sent i j)
      (mesh_by phase p s i j) (mesh_by next p s i j) (m.mesh i j) (x.mesh_taken i j) (b.mesh i j) (x.mesh_sent i j);
  orders = λ y. own_channel (λ o. o.peering == p) (orders_taken r taken y) (v.orders y) (w.orders y) [] (orders_by phase p y) (orders_by next p y)
      (m.orders y ∙ sym (append-nil (w.orders y))) (x.orders_taken y) (b.orders y) (sym (x.no_order y));
  reports = λ y. own_channel (λ o. is_graft_on setup p o.graft) [] (v.reports y) (w.reports y) (reports_sent r sent y) [] (reports_by next y)
      (m.reports y) refl (b.reports y ∙ x.no_report y) (x.reports_sent y);
  log = subst (λ (o : OperatorPart). LogSays setup o p next) (sym m.operator) log;
  bounds = bounds;
}

-- ---- the line and the entries

pub line_by_router : (w v : World) (p r : ℕ) (taken : Option RouterTaken) (sent : List RouterSent) (part : RouterPart) → RouterMoves r taken sent part w v
    → ((a : ℕ) → outward_sent r sent a p ≡ []) → ((b : ℕ) → inward_taken r taken p b ≡ []) → SameLine p w v
line_by_router w v p r taken sent part m no_sent none_taken = record {
  far = ap (λ (f : ℕ → _). f p) m.far;
  outward = λ a. m.outward a p ∙ (ap (λ (x : List Outward). w.outward a p ++ x) (no_sent a) ∙ append-nil (w.outward a p));
  inward = λ b. ap (λ (x : List PlacedSegment). x ++ v.inward p b) (sym (none_taken b)) ∙ m.inward p b;
  says = ap (λ (f : ℕ → List ℕ). f p) m.says;
}

pub line_gets : (w v : World) (p r : ℕ) (taken : Option RouterTaken) (sent : List RouterSent) (part : RouterPart) (item : Outward)
    → RouterMoves r taken sent part w v
    → ((a : ℕ) → outward_sent r sent a p ≡ only_at r item a) → ((b : ℕ) → inward_taken r taken p b ≡ []) → LineGets p r item w v
line_gets w v p r taken sent part item m gave none_taken = record {
  far = ap (λ (f : ℕ → _). f p) m.far;
  outward = λ a. m.outward a p ∙ ap (λ (x : List Outward). w.outward a p ++ x) (gave a);
  inward = λ b. ap (λ (x : List PlacedSegment). x ++ v.inward p b) (sym (none_taken b)) ∙ m.inward p b;
  says = ap (λ (f : ℕ → List ℕ). f p) m.says;
}

pub line_gives : (w v : World) (p r : ℕ) (taken : Option RouterTaken) (part : RouterPart) (segment : PlacedSegment) → RouterMoves r taken [] part w v
    → ((b : ℕ) → inward_taken r taken p b ≡ only_at r segment b) → LineGives p r segment w v
line_gives w v p r taken part segment m took = record {
  far = ap (λ (f : ℕ → _). f p) m.far;
  outward = λ a. m.outward a p ∙ append-nil (w.outward a p);
  inward = λ b. ap (λ (x : List PlacedSegment). x ++ v.inward p b) (sym (took b)) ∙ m.inward p b;
  says = ap (λ (f : ℕ → List ℕ). f p) m.says;
}

same_entries_step : (b : Bool) (part old was : RouterPart) (p : ℕ) → part.entries p ≡ was.entries p → (b ≡ true → was ≡ old)
    → (cond b part old).entries p ≡ old.entries p
same_entries_step true part old was p e is = e ∙ ap (λ (x : RouterPart). x.entries p) (is refl)
same_entries_step false part old was p e is = refl

pub same_entries : (w v : World) (p r : ℕ) (part : RouterPart) → v.router ≡ at w.router r part → part.entries p ≡ (w.router r).entries p → SameEntries p w v
same_entries w v p r part m e = record {
  same = λ x. ap (λ (f : ℕ → RouterPart). (f x).entries p) m
      ∙ same_entries_step (x == r) part (w.router x) (w.router r) p e (λ is. ap w.router (let n : r ≡ x = grind (arith, nat_tests) in n));
}

pub entries_here : (w v : World) (p r : ℕ) (part : RouterPart) → v.router ≡ at w.router r part → (v.router r).entries p ≡ part.entries p
entries_here w v p r part m = ap (λ (f : ℕ → RouterPart). (f r).entries p) m ∙ ap (λ (x : RouterPart). x.entries p) (at_here w.router r part)

pub entries_there : (w v : World) (p r : ℕ) (part : RouterPart) → v.router ≡ at w.router r part → (x : ℕ) → x ≢ r
    → (v.router x).entries p ≡ (w.router x).entries p
entries_there w v p r part m x ne = ap (λ (f : ℕ → RouterPart). (f x).entries p) m ∙ ap (λ (y : RouterPart). y.entries p) (at_other w.router r x part ne)

pub enters : (setup : Setup) (w v : World) (p r : ℕ) (s : SessionValue) (part : RouterPart) → v.router ≡ at w.router r part
    → BringsIn setup r s (part.entries p) → Enters setup p r s w v
enters setup w v p r s part m brings = record {
  here = λ x. ap (λ (t : _). map.get t x) (entries_here w v p r part m) ∙ brings x;
  others = entries_there w v p r part m;
}

pub enters_heard : (setup : Setup) (w v : World) (p r : ℕ) (s n : SessionValue) (part : RouterPart) → v.router ≡ at w.router r part
    → ((x : PrefixValue) → FollowsHeard setup r s n ((w.router r).entries p) (part.entries p) x) → EntersHeard setup p r s n w v
enters_heard setup w v p r s n part m follows = record {
  here = λ x. subst (λ (t : Entries). FollowsHeard setup r s n ((w.router r).entries p) t x) (sym (entries_here w v p r part m)) (follows x);
  others = entries_there w v p r part m;
}

pub drops : (w v : World) (p r : ℕ) (part : RouterPart) → v.router ≡ at w.router r part → part.entries p ≡ map.empty → DropsEntriesAt p r w v
drops w v p r part m none = record { here = entries_here w v p r part m ∙ none; others = entries_there w v p r part m }

-- the moves of an event whose item and whose sent items are known
pub moves_as : (w v : World) (r : ℕ) (taken known : Option RouterTaken) (sent items : List RouterSent) (part : RouterPart) → taken ≡ known
    → sent ≡ items → RouterMoves r taken sent part w v → RouterMoves r known items part w v
moves_as w v r taken known sent items part e f m =
    subst (λ (x : List RouterSent). RouterMoves r known x part w v) f (subst (λ (x : Option RouterTaken). RouterMoves r x sent part w v) e m)
