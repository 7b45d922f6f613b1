-- Where a session belongs by the log: as the last accepted of its peering's grafts says.
use Rattle.std.proofs.Common.{◌≡◌, ◌==◌, cond, ℕ, Bool, true, false, List, [], ◌∷◌, ◌++◌, Option, Some, None, refl, sym, ap, ◌∙◌}
use Rattle.std.proofs.lemmas.List.Elements.{filter-append}
use Rattle.std.specs.Prelude.{filter, unwrap_or}
use Rattle.std.specs.List.{AllByRecursion, last_or}
use Rattle.std.specs.Option.{option_and_then}
use Rattle.graft_model.specs.Setups.{Setup, ScriptGraft, grafts_in, start_of}
use Rattle.graft_model.specs.Parts.{OperatorPart}
use Rattle.graft_model.specs.Placements.{is_accepted, target_in, placement}
use Rattle.graft_laws.specs.Log.{grafts_of}
use Rattle.graft_laws.proofs.Lists.{all_of, all_map, all_both, filter_none, last_end, filter_all, filter_tests, filter_same, filter_twice}

abbrev pub accepts : OperatorPart → ScriptGraft → Bool
accepts operator g = is_accepted (operator.outcome g.graft)

-- where the last of some grafts says that the session belongs
abbrev pub by_last : Setup → OperatorPart → ℕ → List ScriptGraft → ℕ
by_last setup operator p gs = unwrap_or (option_and_then (target_in setup operator) (last_or None gs)) (start_of setup p)

pub placed_by : (setup : Setup) (operator : OperatorPart) (p : ℕ)
    → placement setup operator p ≡ by_last setup operator p (filter (accepts operator) (grafts_of setup p))
placed_by setup operator p = ap (by_last setup operator p) (filter_twice (λ g. g.peering == p) (accepts operator) (grafts_in setup))

-- A graft counts alike for two logs: both have it accepted or neither, and it has one target in both if so.
pub record CountsAlike (setup : Setup) (before after : OperatorPart) (g : ScriptGraft) : Type 0 where
  pub accepted : accepts after g ≡ accepts before g
  pub target : accepts before g ≡ true → target_in setup after g ≡ target_in setup before g

last_alike : {A B : Type 0} (f h : A → Option B) (d : Option A) (xs : List A) → option_and_then f d ≡ option_and_then h d → AllByRecursion (λ x. f x ≡ h x) xs
    → option_and_then f (last_or d xs) ≡ option_and_then h (last_or d xs)
last_alike f h d [] e all = e
last_alike f h d (x ∷ xs) e all = last_alike f h (Some x) xs all.0 all.1

-- Where all grafts of a peering count alike, its session belongs at one place.
pub placed_alike : (setup : Setup) (before after : OperatorPart) (p : ℕ) → AllByRecursion (CountsAlike setup before after) (grafts_of setup p)
    → placement setup after p ≡ placement setup before p
placed_alike setup before after p all =
    let gs : List ScriptGraft = grafts_of setup p in
    let left : List ScriptGraft = filter (accepts before) gs in
    let same : filter (accepts after) gs ≡ left =
    filter_same (accepts after) (accepts before) gs
    (all_map (CountsAlike setup before after) (λ (g : ScriptGraft). accepts after g ≡ accepts before g) gs (λ g x. x.accepted) all) in
    let targets : AllByRecursion (λ (g : ScriptGraft). target_in setup after g ≡ target_in setup before g) left =
    all_both (CountsAlike setup before after) (λ (g : ScriptGraft). accepts before g ≡ true)
    (λ (g : ScriptGraft). target_in setup after g ≡ target_in setup before g) left (λ g x is. x.target is)
    (filter_all (CountsAlike setup before after) (accepts before) gs all) (filter_tests (accepts before) gs) in
    placed_by setup after p
    ∙ (ap (by_last setup after p) same
    ∙ (ap (λ (o : Option ℕ). unwrap_or o (start_of setup p)) (last_alike (target_in setup after) (target_in setup before) None left refl targets)
    ∙ sym (placed_by setup before p)))

-- Where no graft has its outcome, a session belongs where it starts.
pub placed_first : (setup : Setup) (operator : OperatorPart) (p : ℕ) → ((k : ℕ) → operator.outcome k ≡ None) → placement setup operator p ≡ start_of setup p
placed_first setup operator p none =
    placed_by setup operator p
    ∙ ap (by_last setup operator p) (filter_none (accepts operator) (grafts_of setup p)
    (all_of (λ (g : ScriptGraft). accepts operator g ≡ false) (grafts_of setup p) (λ g. ap is_accepted (none g.graft))))

-- A session belongs at the target of an accepted graft, where none of its peering behind that one was accepted.
pub placed_last : (setup : Setup) (operator : OperatorPart) (p t : ℕ) (gs hs : List ScriptGraft) (g : ScriptGraft) → grafts_of setup p ≡ gs ++ g ∷ hs
    → accepts operator g ≡ true
    → AllByRecursion (λ (x : ScriptGraft). accepts operator x ≡ false) hs → target_in setup operator g ≡ Some t → placement setup operator p ≡ t
placed_last setup operator p t gs hs g is accepted none aims =
    let test : ScriptGraft → Bool = accepts operator in
    let own : filter test (g ∷ hs) ≡ g ∷ [] =
    ap (λ b. cond b (g ∷ filter test hs) (filter test hs)) accepted ∙ ap (λ (l : List ScriptGraft). g ∷ l) (filter_none test hs none) in
    placed_by setup operator p
    ∙ (ap (by_last setup operator p) (ap (filter test) is ∙ (filter-append test gs (g ∷ hs) ∙ ap (λ (l : List ScriptGraft). filter test gs ++ l) own))
    ∙ (ap (λ (o : Option ScriptGraft). unwrap_or (option_and_then (target_in setup operator) o) (start_of setup p)) (last_end None (filter test gs) g)
    ∙ ap (λ (o : Option ℕ). unwrap_or o (start_of setup p)) aims))
