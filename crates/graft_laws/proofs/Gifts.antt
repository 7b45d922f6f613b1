-- The routers to which evacuate steps give sessions are there.
use Rattle.std.proofs.Common.{◌≡◌, ◌==◌, cond, ℕ, ◌+◌, ◌<◌, Bool, true, false, List, [], ◌∷◌, length}
use Rattle.std.proofs.Common.{Option, Some, None, refl, sym, ◌∙◌, subst, arith, inl, inr}
use Rattle.std.specs.Prelude.{zip, slice_get}
use Rattle.std.specs.List.{AllByRecursion, find}
use Rattle.std.proofs.lemmas.List.{length-map}
use Rattle.std.proofs.lemmas.List.FromFn.{length-range_with_len}
use Rattle.graft_edge.specs.declared.ids.RouterId.{RouterId}
use Rattle.evacuation.specs.Plans.{TargetList, Plan, Done, Given, NotGiven, one_more_load}
use Rattle.evacuation.proofs.Loads.{length-one_more}
use Rattle.graft_model.specs.Setups.{Setup, ScriptStep, SayStep, MoveStep, EvacuateStep, SettleStep}
use Rattle.graft_model.specs.Setups.{ScriptGraft, routers_in, router_numbers, group_of, graft_at}
use Rattle.graft_model.specs.Parts.{Gift, Unmade, To, Stays, OperatorPart}
use Rattle.graft_model.specs.Placements.{placement}
use Rattle.graft_model.specs.Evacuations.{peerings_at, loads_of, rooms_of, targets_from, gift_in, gift_of, gift_to, gift_by, gift_in_group, gift_or, with_gifts}
use Rattle.graft_model.proofs.Gifts.{targets_plan}
use Rattle.graft_model.specs.OperatorRows.{OperatorTaken, OperatorSent}
use Rattle.graft_model.specs.declared.event.OperatorEvent.{OperatorEvent}
use Rattle.graft_model.specs.declared.event.OperatorEvent.TheVariants.{Order, Note, Go}
use Rattle.graft_model.specs.Steps.{operator_row}
use Rattle.graft_laws.proofs.Lists.{find_all}

-- ---- the targets of a plan

abbrev IsBelow : ℕ → Option RouterId → Type 0
IsBelow n None = Unit {0}
IsBelow n (Some r) = r.0 < n

plan_below : (rooms : List ℕ) (from n : ℕ) (loads : List ℕ) (count : ℕ) (targets : TargetList) → Plan rooms from loads count targets
    → length loads ≡ n → AllByRecursion (IsBelow n) targets
plan_below rooms from n loads count targets Done e = tt
plan_below rooms from n loads count targets (Given r least rest) e =
    let below = least.free.in_range in
    (omega (arith, below, e), plan_below rooms from n (one_more_load loads r.0) _ _ rest (length-one_more loads r.0 ∙ e))
plan_below rooms from n loads count targets (NotGiven full rest) e = (tt, plan_below rooms from n loads _ _ rest e)

targets_below : (setup : Setup) (placed : ℕ → ℕ) (r : ℕ) → AllByRecursion (IsBelow (routers_in setup)) (targets_from setup placed r)
targets_below setup placed r =
    plan_below (rooms_of setup) r (routers_in setup) (loads_of setup placed) (length (peerings_at setup placed r)) (targets_from setup placed r)
    (targets_plan setup placed r)
    (length-map (router_numbers setup) (λ q. length (peerings_at setup placed q)) ∙ length-range_with_len 0 (routers_in setup))

-- ---- gifts

abbrev IsGiftBelow : ℕ → Gift → Type 0
IsGiftBelow n Unmade = Unit {0}
IsGiftBelow n (To target) = target < n
IsGiftBelow n (Stays router) = Unit {0}

zip_all : {A B : Type 0} (P : B → Type 0) (xs : List A) (ys : List B) → AllByRecursion P ys → AllByRecursion (λ (entry : A × B). P entry.1) (zip xs ys)
zip_all P [] ys all = tt
zip_all P (x ∷ xs) [] all = tt
zip_all P (x ∷ xs) (y ∷ ys) all = (all.0, zip_all P xs ys all.1)

gift_below : (n r : ℕ) (o : Option RouterId) → IsBelow n o → IsGiftBelow n (gift_in r o)
gift_below n r None below = tt
gift_below n r (Some target) below = below

abbrev is_entry_of : ℕ → (ℕ × Option RouterId) → Bool
is_entry_of p entry = entry.0 == p

abbrev entries_at : Setup → (ℕ → ℕ) → ℕ → List (ℕ × Option RouterId)
entries_at setup placed r = zip (peerings_at setup placed r) (targets_from setup placed r)

given_below : (setup : Setup) (placed : ℕ → ℕ) (r p : ℕ) → IsGiftBelow (routers_in setup) (gift_to setup placed r p)
given_below setup placed r p = by_value (find (is_entry_of p) (entries_at setup placed r)) refl where
  by_value : (o : Option (ℕ × Option RouterId)) → find (is_entry_of p) (entries_at setup placed r) ≡ o → IsGiftBelow (routers_in setup) (gift_of r o)
  by_value None e = tt
  by_value (Some entry) e = gift_below (routers_in setup) r entry.1
      (find_all (λ (x : ℕ × Option RouterId). IsBelow (routers_in setup) x.1) (is_entry_of p) (entries_at setup placed r) entry
      (zip_all (IsBelow (routers_in setup)) (peerings_at setup placed r) (targets_from setup placed r) (targets_below setup placed r)) e)

by_step : (setup : Setup) (placed : ℕ → ℕ) (step : Option ScriptStep) (p : ℕ) → IsGiftBelow (routers_in setup) (gift_by setup placed step p)
by_step setup placed None p = tt
by_step setup placed (Some (SayStep q bytes)) p = tt
by_step setup placed (Some (MoveStep q target)) p = tt
by_step setup placed (Some (EvacuateStep router)) p = given_below setup placed router p
by_step setup placed (Some SettleStep) p = tt

in_group : (setup : Setup) (group : ℕ) (placed : ℕ → ℕ) (o : Option ScriptGraft) → IsGiftBelow (routers_in setup) (gift_in_group setup group placed o)
in_group setup group placed None = tt
in_group setup group placed (Some g) = by_test (group_of setup g.step == group) where
  by_test : (b : Bool) → IsGiftBelow (routers_in setup) (cond b (gift_by setup placed (slice_get setup.steps g.step) g.peering) Unmade)
  by_test true = by_step setup placed (slice_get setup.steps g.step) g.peering
  by_test false = tt

either_below : (n : ℕ) (gift other : Gift) → IsGiftBelow n gift → IsGiftBelow n other → IsGiftBelow n (gift_or gift other)
either_below n Unmade other a b = b
either_below n (To target) other a b = a
either_below n (Stays router) other a b = a

-- ---- the operator's

-- the routers given are routers of the setup
abbrev pub GivesToRouters : Setup → OperatorPart → Type 0
GivesToRouters setup operator = (k target : ℕ) → operator.given k ≡ To target → target < routers_in setup

all_below : (setup : Setup) (operator : OperatorPart) → GivesToRouters setup operator → (k : ℕ) → IsGiftBelow (routers_in setup) (operator.given k)
all_below setup operator known k = by_value (operator.given k) refl where
  by_value : (gift : Gift) → operator.given k ≡ gift → IsGiftBelow (routers_in setup) gift
  by_value Unmade e = tt
  by_value (To target) e = known k target e
  by_value (Stays router) e = tt

-- and so they are as a group begins
pub gifts_to_routers : (setup : Setup) (operator : OperatorPart) → GivesToRouters setup operator → GivesToRouters setup (with_gifts setup operator)
gifts_to_routers setup operator known k target e =
    subst (IsGiftBelow (routers_in setup)) e
    (either_below (routers_in setup) (gift_in_group setup operator.group (placement setup operator) (graft_at setup k)) (operator.given k)
    (in_group setup operator.group (placement setup operator) (graft_at setup k)) (all_below setup operator known k))

-- ---- events

pub row_gives : (setup : Setup) (event : OperatorEvent) (before after : OperatorPart) (taken : Option OperatorTaken) (sent : List OperatorSent)
    → operator_row setup event before taken sent after → GivesToRouters setup before
    → GivesToRouters setup after
row_gives setup (Order n number) before after taken sent (inl row) known = subst (GivesToRouters setup) (sym row.effect) known
row_gives setup (Order n number) before after taken sent (inr row) known = subst (GivesToRouters setup) (sym row.effect) known
row_gives setup (Note r) before after taken sent row known = subst (GivesToRouters setup) (sym row.effect) known
row_gives setup Go before after taken sent row known =
    subst (GivesToRouters setup) (sym row.effect) (gifts_to_routers setup (record before { group = before.group + 1 }) known)
