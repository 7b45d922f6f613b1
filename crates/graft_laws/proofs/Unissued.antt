-- The bytes of steps that weren't issued, and of those that are ordered.
use Rattle.std.proofs.Common.{◌≡◌, ◌≢◌, ◌==◌, ℕ, zero, suc, ◌+◌, ◌<◌, Bool, true, false, List, [], ◌∷◌, length, Some, refl, sym, ap, ◌∙◌, arith}
use Rattle.std.specs.Prelude.{if◌then◌else◌, slice_get}
use Rattle.std.specs.List.{flat_map}
use Rattle.std.proofs.lemmas.Bool.Decides.{nat_tests}
use Rattle.std.proofs.lemmas.List.{length-append}
use Rattle.graft_model.specs.Points.{at}
use Rattle.graft_model.specs.Setups.{ScriptStep, SayStep, said_by}
use Rattle.graft_laws.specs.Said.{unissued_octets}

-- a step before all of these is issued
unissued_past : (issued : ℕ → Bool) (p n m : ℕ) (steps : List ScriptStep) → m < n
    → unissued_octets (at issued m true) p n steps ≡ unissued_octets issued p n steps
unissued_past issued p n m [] past = refl
unissued_past issued p n m (step ∷ steps) past =
    let rest = unissued_past issued p (n + 1) m steps (omega (arith, past)) in
    let here : at issued m true n ≡ issued n = grind (arith, nat_tests) in
    ap (λ (t : Bool). (if t then 0 else length (said_by p step)) + unissued_octets (at issued m true) p (n + 1) steps) here
    ∙ ap (λ (k : ℕ). (if issued n then 0 else length (said_by p step)) + k) rest

-- one of them is issued
pub unissued_at : (issued : ℕ → Bool) (p n k m : ℕ) (steps : List ScriptStep) (step : ScriptStep) → m ≡ n + k → slice_get steps k ≡ Some step → issued m ≡ false
    → unissued_octets (at issued m true) p n steps + length (said_by p step) ≡ unissued_octets issued p n steps
unissued_at issued p n k m [] step is there not = absurd cc
unissued_at issued p n zero m (first ∷ steps) step is there not =
    let same : m ≡ n = omega (arith, is) in
    let it : first ≡ step = cc in
    let rest : unissued_octets (at issued m true) p (n + 1) steps ≡ unissued_octets issued p (n + 1) steps =
    unissued_past issued p (n + 1) m steps (omega (arith, same)) in
    let now : at issued m true n ≡ true = grind (arith, nat_tests) in
    let was : issued n ≡ false = ap issued (sym same) ∙ not in
    let a : (if at issued m true n then 0 else length (said_by p first)) ≡ 0 = ap (λ (t : Bool). if t then 0 else length (said_by p first)) now in
    let b : (if issued n then 0 else length (said_by p first)) ≡ length (said_by p first) = ap (λ (t : Bool). if t then 0 else length (said_by p first)) was in
    let c : length (said_by p first) ≡ length (said_by p step) = ap (λ (s : ScriptStep). length (said_by p s)) it in
    omega (arith, rest, a, b, c)
unissued_at issued p n (suc k) m (first ∷ steps) step is there not =
    let rest = unissued_at issued p (n + 1) k m steps step (omega (arith, is)) there not in
    let here : at issued m true n ≡ issued n = grind (arith, nat_tests) in
    let a : (if at issued m true n then 0 else length (said_by p first)) ≡ (if issued n then 0 else length (said_by p first)) =
    ap (λ (t : Bool). if t then 0 else length (said_by p first)) here in
    omega (arith, rest, a)

-- of all of them
pub none_issued : (p n : ℕ) (steps : List ScriptStep) → unissued_octets (λ k. false) p n steps ≡ length (flat_map (said_by p) steps)
none_issued p n [] = refl
none_issued p n (step ∷ steps) = ap (λ (k : ℕ). length (said_by p step) + k) (none_issued p (n + 1) steps)
    ∙ sym (length-append (said_by p step) (flat_map (said_by p) steps))

-- what another remote says
pub said_by_other : (p q : ℕ) (bytes : List ℕ) → p ≢ q → length (said_by p (SayStep q bytes)) ≡ 0
said_by_other p q bytes other = let t : (q == p) ≡ false = grind (arith, nat_tests) in ap (λ (b : Bool). length (if b then bytes else [])) t

pub said_by_itself : (p : ℕ) (bytes : List ℕ) → said_by p (SayStep p bytes) ≡ bytes
said_by_itself p bytes = let t : (p == p) ≡ true = grind (arith, nat_tests) in ap (λ (b : Bool). if b then bytes else []) t
