-- The bytes that a remote is to say in steps that weren't issued, in the script's order.
use Rattle.std.proofs.Common.{◌≡◌, ◌≢◌, ◌==◌, ℕ, zero, suc, ◌+◌, ◌<◌, ◌≤◌, Bool, true, false, cond, List, [], ◌∷◌, ◌++◌, length, take, Option, Some, refl}
use Rattle.std.proofs.Common.{sym, ap, ◌∙◌, subst, arith, ◌⊎◌, inl, inr}
use Rattle.std.specs.Prelude.{if◌then◌else◌, slice_get, filter}
use Rattle.std.specs.List.{flat_map, last_or}
use Rattle.std.proofs.lemmas.Bool.{cases_eq}
use Rattle.std.proofs.lemmas.Bool.Decides.{nat_tests}
use Rattle.graft_model.specs.Points.{at}
use Rattle.graft_model.specs.Setups.{ScriptStep, SayStep, MoveStep, EvacuateStep, SettleStep, said_by, is_settle}
use Rattle.graft_laws.proofs.Unissued.{said_by_itself}

-- steps by their numbers from n on, and from the one behind it on
at_first : (issued : ℕ → Bool) (n : ℕ) → issued (n + 0) ≡ true → issued n ≡ true
at_first issued n e = subst (λ (k : ℕ). issued k ≡ true) (let z : n + 0 ≡ n = omega arith in z) e

at_rest : (issued : ℕ → Bool) (n k : ℕ) → issued (n + suc k) ≡ true → issued ((n + 1) + k) ≡ true
at_rest issued n k e = subst (λ (j : ℕ). issued j ≡ true) (let z : n + suc k ≡ (n + 1) + k = omega arith in z) e

module _ (p : ℕ) where
  -- what a step still has the remote say
  abbrev piece : (ℕ → Bool) → ℕ → ScriptStep → List ℕ
  piece issued n step = if issued n then [] else said_by p step

  -- what such steps have the remote say, where the first of them has the number n
  abbrev pub unsaid : (ℕ → Bool) → ℕ → List ScriptStep → List ℕ
  unsaid issued n [] = []
  unsaid issued n (step ∷ steps) = piece issued n step ++ unsaid issued (n + 1) steps

  pub unsaid_first : (n : ℕ) (steps : List ScriptStep) → unsaid (λ k. false) n steps ≡ flat_map (said_by p) steps
  unsaid_first n [] = refl
  unsaid_first n (step ∷ steps) = ap (λ (xs : List ℕ). said_by p step ++ xs) (unsaid_first (n + 1) steps)

  -- a step that is issued, or isn't the remote's, has nothing more to say
  none_if : (b : Bool) (xs : List ℕ) → xs ≡ [] → (if b then [] else xs) ≡ []
  none_if true xs e = refl
  none_if false xs e = e

  said_by_other : (q : ℕ) (bytes : List ℕ) → q ≢ p → said_by p (SayStep q bytes) ≡ []
  said_by_other q bytes other = let t : (q == p) ≡ false = grind (arith, nat_tests) in ap (λ (b : Bool). if b then bytes else []) t

  no_piece : (issued : ℕ → Bool) (n : ℕ) (step : ScriptStep) → ((bytes : List ℕ) → step ≡ SayStep p bytes → issued n ≡ true) → piece issued n step ≡ []
  no_piece issued n (MoveStep q target) h = none_if (issued n) [] refl
  no_piece issued n (EvacuateStep r) h = none_if (issued n) [] refl
  no_piece issued n SettleStep h = none_if (issued n) [] refl
  no_piece issued n (SayStep q bytes) h = by_peering (cases_eq q p) where
    by_peering : (q ≡ p) ⊎ (q ≢ p) → piece issued n (SayStep q bytes) ≡ []
    by_peering (inl e) = ap (λ (b : Bool). if b then [] else said_by p (SayStep q bytes)) (h bytes (ap (λ (k : ℕ). SayStep k bytes) e))
    by_peering (inr ne) = none_if (issued n) (said_by p (SayStep q bytes)) (said_by_other q bytes ne)

  -- all of them are issued
  pub unsaid_none : (issued : ℕ → Bool) (n : ℕ) (steps : List ScriptStep)
      → ((k : ℕ) (bytes : List ℕ) → slice_get steps k ≡ Some (SayStep p bytes) → issued (n + k) ≡ true) → unsaid issued n steps ≡ []
  unsaid_none issued n [] h = refl
  unsaid_none issued n (step ∷ steps) h =
      let here = no_piece issued n step (λ bytes e. at_first issued n (h 0 bytes (ap (λ (s : ScriptStep). Some s) e))) in
      let rest = unsaid_none issued (n + 1) steps (λ k bytes e. at_rest issued n k (h (suc k) bytes e)) in
      ap (λ (xs : List ℕ). xs ++ unsaid issued (n + 1) steps) here ∙ rest

  -- a step before all of these is issued
  unsaid_past : (issued : ℕ → Bool) (n m : ℕ) (steps : List ScriptStep) → m < n → unsaid (at issued m true) n steps ≡ unsaid issued n steps
  unsaid_past issued n m [] past = refl
  unsaid_past issued n m (step ∷ steps) past =
      let here : at issued m true n ≡ issued n = grind (arith, nat_tests) in
      ap (λ (b : Bool). (if b then [] else said_by p step) ++ unsaid (at issued m true) (n + 1) steps) here
      ∙ ap (λ (xs : List ℕ). piece issued n step ++ xs) (unsaid_past issued (n + 1) m steps (omega (arith, past)))

  -- a step of another remote is issued
  pub unsaid_other : (issued : ℕ → Bool) (n k m : ℕ) (steps : List ScriptStep) (q : ℕ) (bytes : List ℕ) → m ≡ n + k
      → slice_get steps k ≡ Some (SayStep q bytes) → q ≢ p
      → unsaid (at issued m true) n steps ≡ unsaid issued n steps
  unsaid_other issued n k m [] q bytes is there other = absurd cc
  unsaid_other issued n zero m (first ∷ steps) q bytes is there other =
      let it : first ≡ SayStep q bytes = cc in
      let none : said_by p first ≡ [] = ap (said_by p) it ∙ said_by_other q bytes other in
      let rest = unsaid_past issued (n + 1) m steps (omega (arith, is)) in
      ap (λ (xs : List ℕ). xs ++ unsaid (at issued m true) (n + 1) steps) (none_if (at issued m true n) (said_by p first) none)
      ∙ rest
      ∙ ap (λ (xs : List ℕ). xs ++ unsaid issued (n + 1) steps) (sym (none_if (issued n) (said_by p first) none))
  unsaid_other issued n (suc k) m (first ∷ steps) q bytes is there other =
      let here : at issued m true n ≡ issued n = grind (arith, nat_tests) in
      ap (λ (b : Bool). (if b then [] else said_by p first) ++ unsaid (at issued m true) (n + 1) steps) here
      ∙ ap (λ (xs : List ℕ). piece issued n first ++ xs) (unsaid_other issued (n + 1) k m steps q bytes (omega (arith, is)) there other)

  -- the first of the remote's steps that isn't issued is issued
  pub unsaid_at : (issued : ℕ → Bool) (n k m : ℕ) (steps : List ScriptStep) (bytes : List ℕ) → m ≡ n + k → slice_get steps k ≡ Some (SayStep p bytes)
      → issued m ≡ false
      → ((j : ℕ) (other : List ℕ) → j < k → slice_get steps j ≡ Some (SayStep p other) → issued (n + j) ≡ true)
      → unsaid issued n steps ≡ bytes ++ unsaid (at issued m true) n steps
  unsaid_at issued n k m [] bytes is there not earlier = absurd cc
  unsaid_at issued n zero m (first ∷ steps) bytes is there not earlier =
      let same : m ≡ n = omega (arith, is) in
      let it : first ≡ SayStep p bytes = cc in
      let was : issued n ≡ false = ap issued (sym same) ∙ not in
      let now : at issued m true n ≡ true = grind (arith, nat_tests) in
      let says : said_by p first ≡ bytes = ap (said_by p) it ∙ said_by_itself p bytes in
      let rest = unsaid_past issued (n + 1) m steps (omega (arith, same)) in
      ap (λ (b : Bool). (if b then [] else said_by p first) ++ unsaid issued (n + 1) steps) was
      ∙ ap (λ (xs : List ℕ). xs ++ unsaid issued (n + 1) steps) says
      ∙ ap (λ (xs : List ℕ). bytes ++ xs) (sym rest)
      ∙ ap (λ (b : Bool). bytes ++ ((if b then [] else said_by p first) ++ unsaid (at issued m true) (n + 1) steps)) (sym now)
  unsaid_at issued n (suc k) m (first ∷ steps) bytes is there not earlier =
      let here : at issued m true n ≡ issued n = grind (arith, nat_tests) in
      let none = no_piece issued n first (λ other e. at_first issued n (earlier 0 other (omega arith) (ap (λ (s : ScriptStep). Some s) e))) in
      let rest = unsaid_at issued (n + 1) k m steps bytes (omega (arith, is)) there not
      (λ j other l e. at_rest issued n j (earlier (suc j) other (omega (arith, l)) e)) in
      ap (λ (xs : List ℕ). xs ++ unsaid issued (n + 1) steps) none
      ∙ rest
      ∙ ap (λ (xs : List ℕ). bytes ++ (xs ++ unsaid (at issued m true) (n + 1) steps)) (sym none)
      ∙ ap (λ (b : Bool). bytes ++ ((if b then [] else said_by p first) ++ unsaid (at issued m true) (n + 1) steps)) (sym here)

-- ---- groups

-- how many groups end with these steps
abbrev ends : List ScriptStep → ℕ
ends steps = length (filter is_settle steps)

-- how many where a step more stands before them, which ends a group or doesn't
abbrev ends_with : Bool → ScriptStep → List ScriptStep → ℕ
ends_with b step steps = length (cond b (step ∷ filter is_settle steps) (filter is_settle steps))

-- a step is in no later group than the ones behind it
pub ends_grow : (steps : List ScriptStep) (m n : ℕ) → m ≤ n → ends (take m steps) ≤ ends (take n steps)
ends_grow steps zero n l = omega arith
ends_grow [] (suc m) zero l = absurd (omega (arith, l))
ends_grow [] (suc m) (suc n) l = omega arith
ends_grow (step ∷ steps) (suc m) zero l = absurd (omega (arith, l))
ends_grow (step ∷ steps) (suc m) (suc n) l = by_kind (is_settle step) (ends_grow steps m n (omega (arith, l))) where
  by_kind : (b : Bool) → ends (take m steps) ≤ ends (take n steps)
      → ends_with b step (take m steps) ≤ ends_with b step (take n steps)
  by_kind true h = omega (arith, h)
  by_kind false h = h

some_end : (b : Bool) (step : ScriptStep) (rest : List ScriptStep) → (b ≡ true) ⊎ (0 < length rest) → 0 < length (cond b (step ∷ rest) rest)
some_end true step rest h = omega arith
some_end false step rest (inl e) = absurd cc
some_end false step rest (inr l) = l

settles : (d : Option ScriptStep) (steps : List ScriptStep) → last_or d steps ≡ Some SettleStep → (d ≡ Some SettleStep) ⊎ (0 < ends steps)
settles d [] e = inl e
settles d (step ∷ steps) e = inr (some_end (is_settle step) step (filter is_settle steps) (by_last (settles (Some step) steps e))) where
  by_last : (Some step ≡ Some SettleStep) ⊎ (0 < ends steps) → (is_settle step ≡ true) ⊎ (0 < ends steps)
  by_last (inl same) = inl (let it : step ≡ SettleStep = cc in ap is_settle it)
  by_last (inr l) = inr l

-- a step of another kind is in one of the groups that are ended
pub in_ended : (d : Option ScriptStep) (steps : List ScriptStep) (n : ℕ) (step : ScriptStep) → slice_get steps n ≡ Some step → is_settle step ≡ false
    → last_or d steps ≡ Some SettleStep
    → ends (take n steps) < ends steps
in_ended d [] n step there kind last = absurd cc
in_ended d (first ∷ steps) zero step there kind last = some_end (is_settle first) first (filter is_settle steps) (by_last (settles (Some first) steps last))
  where
    by_last : (Some first ≡ Some SettleStep) ⊎ (0 < ends steps) → (is_settle first ≡ true) ⊎ (0 < ends steps)
    by_last (inl same) = inl (let it : first ≡ SettleStep = cc in ap is_settle it)
    by_last (inr l) = inr l
in_ended d (first ∷ steps) (suc n) step there kind last = by_kind (is_settle first) (in_ended (Some first) steps n step there kind last) where
  by_kind : (b : Bool) → ends (take n steps) < ends steps
      → ends_with b first (take n steps) < ends_with b first steps
  by_kind true h = omega (arith, h)
  by_kind false h = h
