-- What an event leaves of a peering that isn't its own.
use Rattle.std.proofs.Common.{◌≡◌, ◌==◌, ℕ, ◌≤◌, Bool, true, List, [], ◌++◌, Option, refl, sym, ap, ◌∙◌, subst, arith}
use Rattle.std.proofs.lemmas.Bool.Decides.{nat_tests}
use Rattle.std.proofs.lemmas.List.Elements.{filter-append}
use Rattle.std.proofs.lemmas.List.{append-nil}
use Rattle.std.specs.Prelude.{filter}
use Rattle.graft_model.specs.Points.{at}
use Rattle.graft_model.specs.Setups.{Setup, ScriptGraft, group_of}
use Rattle.graft_model.specs.Parts.{RouterPart, FarPart, Gift, OperatorPart, Mesh, GraftOrder, Report, World}
use Rattle.graft_model.specs.RouterRows.{RouterTaken, RouterSent}
use Rattle.graft_model.specs.FarRows.{FarTaken, FarSent}
use Rattle.graft_model.specs.OperatorRows.{OperatorTaken, OperatorSent}
use Rattle.graft_laws.specs.Log.{is_graft_on}
use Rattle.graft_laws.specs.Owned.{is_on, mesh_items_on, orders_of, reports_of, HasNothingOf}
use Rattle.graft_laws.proofs.Numbers.{IsGraftOf}
use Rattle.graft_laws.specs.Moves.{mesh_taken, inward_taken, orders_taken, mesh_sent, outward_sent, reports_sent}
use Rattle.graft_laws.specs.Moves.{RouterMoves, FarMoves, OperatorMoves, orders_sent, reports_taken}

-- The log has the same of a peering's grafts: of their orders and outcomes, and of what those of the groups that have begun are given.
pub record KeepsLog (setup : Setup) (p : ℕ) (before after : OperatorPart) : Type 0 where
  pub group : before.group ≤ after.group
  pub given : (g : ScriptGraft) → IsGraftOf setup p g → group_of setup g.step ≤ before.group → after.given g.graft ≡ before.given g.graft
  pub source : (k : ℕ) → is_graft_on setup p k ≡ true → after.source k ≡ before.source k
  pub outcome : (k : ℕ) → is_graft_on setup p k ≡ true → after.outcome k ≡ before.outcome k

-- and the same group is at work
pub record SameLog (setup : Setup) (p : ℕ) (before after : OperatorPart) : Type 0 where
  pub kept : KeepsLog setup p before after
  pub group : after.group ≡ before.group

-- an event that changes no group and no gift
pub same_if : (setup : Setup) (p : ℕ) (before after : OperatorPart) → after.group ≡ before.group → after.given ≡ before.given
    → ((k : ℕ) → is_graft_on setup p k ≡ true → after.source k ≡ before.source k)
    → ((k : ℕ) → is_graft_on setup p k ≡ true → after.outcome k ≡ before.outcome k) → SameLog setup p before after
same_if setup p before after group given source outcome = record {
  kept = record { group = omega (arith, group); given = λ g own begun. ap (λ (f : ℕ → Gift). f g.graft) given; source = source; outcome = outcome };
  group = group;
}

pub same_log : (setup : Setup) (p : ℕ) (before after : OperatorPart) → after ≡ before → SameLog setup p before after
same_log setup p before after is = rw is (same_if setup p before before refl refl (λ k own. refl) (λ k own. refl))

-- the world has the same of a peering, but for its far side and its tables
pub record Untouched (setup : Setup) (p : ℕ) (before after : World) : Type 0 where
  pub places : (r : ℕ) → (after.router r).places p ≡ (before.router r).places p
  pub mesh : (a b : ℕ) → mesh_items_on p (after.mesh a b) ≡ mesh_items_on p (before.mesh a b)
  pub orders : (r : ℕ) → orders_of p (after.orders r) ≡ orders_of p (before.orders r)
  pub reports : (r : ℕ) → reports_of setup p (after.reports r) ≡ reports_of setup p (before.reports r)
  pub log : SameLog setup p before.operator after.operator

pub absent_still : (setup : Setup) (p : ℕ) (before after : World) → Untouched setup p before after → HasNothingOf before p → HasNothingOf after p
absent_still setup p before after same was =
    record { places = λ r. same.places r ∙ was.places r; mesh = λ a b. same.mesh a b ∙ was.mesh a b; orders = λ r. same.orders r ∙ was.orders r }

-- ---- channels, over any kind of item

-- what a test finds in what was taken and in what is left, it finds in what was there and in what was sent
pub found_in : {A : Type 0} (test : A → Bool) (taken after before sent : List A) → taken ++ after ≡ before ++ sent
    → filter test taken ++ filter test after ≡ filter test before ++ filter test sent
found_in test taken after before sent e = sym (filter-append test taken after) ∙ (ap (filter test) e ∙ filter-append test before sent)

pub still_in : {A : Type 0} (test : A → Bool) (taken after before sent : List A) → taken ++ after ≡ before ++ sent → filter test taken ≡ []
    → filter test sent ≡ [] → filter test after ≡ filter test before
still_in test taken after before sent e none no_more =
    sym (ap (λ (x : List _). x ++ filter test after) none)
    ∙ (found_in test taken after before sent e ∙ (ap (λ (x : List _). filter test before ++ x) no_more ∙ append-nil (filter test before)))

pub still_sent : {A : Type 0} (test : A → Bool) (after before sent : List A) → after ≡ before ++ sent → filter test sent ≡ []
    → filter test after ≡ filter test before
still_sent test after before sent e none = still_in test [] after before sent e refl none

pub still_taken : {A : Type 0} (test : A → Bool) (taken after before : List A) → taken ++ after ≡ before → filter test taken ≡ []
    → filter test after ≡ filter test before
still_taken test taken after before e none = still_in test taken after before [] (e ∙ sym (append-nil before)) none refl

-- ---- a router's event

-- what an event of the router r takes and sends is nothing of a peering
pub record AreOthers (setup : Setup) (p r : ℕ) (taken : Option RouterTaken) (sent : List RouterSent) : Type 0 where
  pub mesh_taken : (a b : ℕ) → mesh_items_on p (mesh_taken r taken a b) ≡ []
  pub mesh_sent : (a b : ℕ) → mesh_items_on p (mesh_sent r sent a b) ≡ []
  pub orders_taken : (b : ℕ) → orders_of p (orders_taken r taken b) ≡ []
  pub reports_sent : (a : ℕ) → reports_of setup p (reports_sent r sent a) ≡ []

-- and what it does is nothing to it
pub record Apart (setup : Setup) (p r : ℕ) (taken : Option RouterTaken) (sent : List RouterSent) (before part : RouterPart) : Type 0 where
  pub places : part.places p ≡ before.places p
  pub entries : part.entries p ≡ before.entries p
  pub items : AreOthers setup p r taken sent
  pub outward_sent : (a : ℕ) → outward_sent r sent a p ≡ []
  pub inward_taken : (b : ℕ) → inward_taken r taken p b ≡ []

same_place : (f : ℕ → RouterPart) (part : RouterPart) (r x p : ℕ) → part.places p ≡ (f r).places p → (at f r part x).places p ≡ (f x).places p
same_place f part r x p e = grind (arith, nat_tests)

pub untouched_by_items : (setup : Setup) (p r : ℕ) (taken : Option RouterTaken) (sent : List RouterSent) (part : RouterPart) (w v : World)
    → RouterMoves r taken sent part w v → part.places p ≡ (w.router r).places p → AreOthers setup p r taken sent → Untouched setup p w v
untouched_by_items setup p r taken sent part w v m places items = record {
  places = λ x. ap (λ (f : ℕ → RouterPart). (f x).places p) m.router ∙ same_place w.router part r x p places;
  mesh = λ a b. still_in (is_on p) (mesh_taken r taken a b) (v.mesh a b) (w.mesh a b)
      (mesh_sent r sent a b) (m.mesh a b) (items.mesh_taken a b) (items.mesh_sent a b);
  orders = λ b. still_taken (λ o. o.peering == p) (orders_taken r taken b) (v.orders b) (w.orders b) (m.orders b) (items.orders_taken b);
  reports = λ a. still_sent (λ o. is_graft_on setup p o.graft) (v.reports a) (w.reports a) (reports_sent r sent a) (m.reports a) (items.reports_sent a);
  log = same_log setup p w.operator v.operator m.operator;
}

pub untouched_by_router : (setup : Setup) (p r : ℕ) (taken : Option RouterTaken) (sent : List RouterSent) (part : RouterPart) (w v : World)
    → RouterMoves r taken sent part w v → Apart setup p r taken sent (w.router r) part → Untouched setup p w v
untouched_by_router setup p r taken sent part w v m apart = untouched_by_items setup p r taken sent part w v m apart.places apart.items

-- ---- a far side's event, and the operator's

pub untouched_by_far : (setup : Setup) (p q : ℕ) (taken : Option FarTaken) (sent : List FarSent) (part : FarPart) (w v : World)
    → FarMoves q taken sent part w v → Untouched setup p w v
untouched_by_far setup p q taken sent part w v m = record {
  places = λ x. ap (λ (f : ℕ → RouterPart). (f x).places p) m.router;
  mesh = λ a b. ap (λ (f : ℕ → ℕ → List Mesh). mesh_items_on p (f a b)) m.mesh;
  orders = λ b. ap (λ (f : ℕ → List GraftOrder). orders_of p (f b)) m.orders;
  reports = λ a. ap (λ (f : ℕ → List Report). reports_of setup p (f a)) m.reports;
  log = same_log setup p w.operator v.operator m.operator;
}

pub untouched_by_operator : (setup : Setup) (p : ℕ) (taken : Option OperatorTaken) (sent : List OperatorSent) (part : OperatorPart) (w v : World)
    → OperatorMoves taken sent part w v
    → ((b : ℕ) → orders_of p (orders_sent sent b) ≡ []) → ((a : ℕ) → reports_of setup p (reports_taken taken a) ≡ [])
    → SameLog setup p w.operator part → Untouched setup p w v
untouched_by_operator setup p taken sent part w v m no_order no_report same = record {
  places = λ x. ap (λ (f : ℕ → RouterPart). (f x).places p) m.router;
  mesh = λ a b. ap (λ (f : ℕ → ℕ → List Mesh). mesh_items_on p (f a b)) m.mesh;
  orders = λ b. still_sent (λ o. o.peering == p) (v.orders b) (w.orders b) (orders_sent sent b) (m.orders b) (no_order b);
  reports = λ a. still_taken (λ o. is_graft_on setup p o.graft) (reports_taken taken a) (v.reports a) (w.reports a) (m.reports a) (no_report a);
  log = subst (λ (x : OperatorPart). SameLog setup p w.operator x) (sym m.operator) same;
}
