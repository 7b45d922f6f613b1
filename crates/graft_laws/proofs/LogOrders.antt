-- The log when a graft is ordered.
use Rattle.std.proofs.Common.{◌≡◌, ℕ, ◌<◌, ◌≤◌, true, List, [], ◌∷◌, ◌++◌, Option, Some, None, refl, sym, ap, ◌∙◌, subst, arith, ◌⊎◌, inl, inr}
use Rattle.std.proofs.lemmas.Bool.Decides.{nat_tests}
use Rattle.std.specs.Prelude.{◌≢◌}
use Rattle.std.specs.List.{AllByRecursion}
use Rattle.graft_model.specs.Points.{at}
use Rattle.graft_model.specs.Setups.{Setup, ScriptGraft, group_of, graft_at}
use Rattle.graft_model.specs.Parts.{OperatorPart}
use Rattle.graft_model.specs.Placements.{target_in, placement}
use Rattle.graft_laws.specs.Phases.{Ordered, Phase, Idle, Busy, source_of}
use Rattle.graft_laws.specs.Log.{is_graft_on, HasEnded, AwaitsOrder, IsBehind, GoesOnIn, LogSays}
use Rattle.graft_laws.proofs.Lists.{all_both, all_front, all_back, all_join, StandsIn, stands_in}
use Rattle.graft_model.proofs.Numbers.{steps_rise, groups_rise}
use Rattle.graft_laws.proofs.Numbers.{found_in, before_below, behind_above, IsGraftOf, all_of_peering, is_own, one_peering, StandsAmong, among}
use Rattle.graft_laws.proofs.Others.{SameLog, same_if}

-- ---- the log with the order

module _ (setup : Setup) (before : OperatorPart) (g : ScriptGraft) (q : ℕ) where
  abbrev pub with_order : OperatorPart
  with_order = record before { source = at before.source g.graft (Some q) }

  waits_with : (x : ScriptGraft) → x.graft ≢ g.graft → AwaitsOrder before x → AwaitsOrder with_order x
  waits_with x ne was = record { unordered = grind (arith, nat_tests, was.unordered); unended = was.unended }

  behind_with : (x : ScriptGraft) → x.graft < g.graft → IsBehind setup before x → IsBehind setup with_order x
  behind_with x less was = record { begun = was.begun; over = over was.over } where
    over : HasEnded before x ⊎ (AwaitsOrder before x × (target_in setup before x ≡ None))
        → HasEnded with_order x ⊎ (AwaitsOrder with_order x × (target_in setup with_order x ≡ None))
    over (inl ended) = inl (record { ordered = λ none. ended.ordered (grind (arith, nat_tests)); ended = ended.ended })
    over (inr (waits, none)) = inr (waits_with x (λ (same : x.graft ≡ g.graft). omega arith) waits, none)

  -- what the order does to the log of another peering
  pub order_others : (other : ℕ) → graft_at setup g.graft ≡ Some g → other ≢ g.peering → SameLog setup other before with_order
  order_others other known ne = same_if setup other before with_order refl refl (λ k own.
      let differs : k ≢ g.graft = (λ (is : k ≡ g.graft). ne (one_peering setup other g.peering g.graft
      (subst (λ (x : ℕ). is_graft_on setup other x ≡ true) is own) (is_own setup g.peering g (known, refl)))) in
      grind (arith, nat_tests))
      (λ k own. refl)

-- ---- which graft comes next

-- the graft that is under way, as the log has it
record IsOpen (setup : Setup) (operator : OperatorPart) (p : ℕ) (g : ScriptGraft) : Type 0 where
  own : IsGraftOf setup p g
  made : target_in setup operator g ≢ None
  ordered : operator.source g.graft ≢ None
  unended : operator.outcome g.graft ≡ None

some_not : {A : Type 0} (o : Option A) (x : A) → o ≡ Some x → o ≢ None
some_not o x is none = absurd cc

record HasOpen (setup : Setup) (operator : OperatorPart) (p : ℕ) (now : List ScriptGraft) : Type 0 where
  graft : ScriptGraft
  is : now ≡ graft ∷ []
  open_is : IsOpen setup operator p graft

has_open : (setup : Setup) (operator : OperatorPart) (p : ℕ) (phase : Phase) (now : List ScriptGraft) → GoesOnIn setup operator p phase now
    → ((now ≡ []) × (phase ≡ Idle (source_of phase))) ⊎ HasOpen setup operator p now
has_open setup operator p (Idle q) now none = inl (none, refl)
has_open setup operator p (Busy q k t stage) now on = inr (record {
  graft = record { graft = k; peering = p; step = on.step };
  is = on.is;
  open_is = record {
    own = (on.known, refl);
    made = some_not (target_in setup operator (record { graft = k; peering = p; step = on.step })) t on.aims;
    ordered = some_not (operator.source k) q on.ordered;
    unended = on.unended;
  };
})

-- what the log says of its own peering before an order, and after it
pub record OrderSays (setup : Setup) (before after : OperatorPart) (p k t : ℕ) (phase : Phase) : Type 0 where
  pub was : phase ≡ Idle (placement setup before p)
  pub log : LogSays setup after p (Busy (placement setup before p) k t Ordered)

-- What an order asks for: the graft was neither ordered nor has it an outcome, its group
-- is at work, and those before it of its peering that are made have their outcomes.
pub record MayOrder (setup : Setup) (before : OperatorPart) (g : ScriptGraft) (t : ℕ) : Type 0 where
  pub known : graft_at setup g.graft ≡ Some g
  pub group : group_of setup g.step ≡ before.group
  pub is : target_in setup before g ≡ Some t
  pub unordered : before.source g.graft ≡ None
  pub unended : before.outcome g.graft ≡ None
  pub earlier : (other : ScriptGraft) → graft_at setup other.graft ≡ Some other → other.peering ≡ g.peering → other.graft < g.graft
      → target_in setup before other ≢ None → before.outcome other.graft ≢ None

module _ (setup : Setup) (before : OperatorPart) (g : ScriptGraft) (t : ℕ) (may : MayOrder setup before g t) where
  abbrev p : ℕ
  p = g.peering

  abbrev source : ℕ
  source = placement setup before p

  abbrev ordered : OperatorPart
  ordered = with_order setup before g source

  cut : StandsAmong setup p g
  cut = among setup p g (may.known, refl)

  below : AllByRecursion (λ (x : ScriptGraft). x.graft < g.graft) cut.front
  below = before_below setup p cut.front cut.back g cut.is

  front_own : AllByRecursion (IsGraftOf setup p) cut.front
  front_own = all_front (IsGraftOf setup p) cut.front (g ∷ cut.back)
      (subst (λ (x : List ScriptGraft). AllByRecursion (IsGraftOf setup p) x) cut.is (all_of_peering setup p))

  -- the graft isn't behind, nor is it under way
  not_behind : IsBehind setup before g → ⊥
  not_behind b = over b.over where
    over : HasEnded before g ⊎ (AwaitsOrder before g × (target_in setup before g ≡ None)) → ⊥
    over (inl ended) = ended.ordered may.unordered
    over (inr (waits, none)) = some_not (target_in setup before g) t may.is none

  not_open : (x : ScriptGraft) → IsOpen setup before p x → x ≡ g → ⊥
  not_open x is same = is.ordered (ap (λ (y : ScriptGraft). before.source y.graft) same ∙ may.unordered)

  not_before : (x : ScriptGraft) → IsOpen setup before p x → x.graft < g.graft → ⊥
  not_before x is less = may.earlier x is.own.0 is.own.1 less is.made is.unended

  -- where the graft stands in the log: no other is under way, and those that wait before it aren't made
  record IsNext (phase : Phase) (log : LogSays setup before p phase) : Type 0 where
    idle : phase ≡ Idle (source_of phase)
    mid : List ScriptGraft
    front : cut.front ≡ log.past ++ mid
    later : log.later ≡ mid ++ g ∷ cut.back

  heads : (x y : ScriptGraft) (xs ys : List ScriptGraft) → x ∷ xs ≡ y ∷ ys → x ≡ y
  heads x y xs ys e = cc

  open_before : (x : ScriptGraft) (later ws : List ScriptGraft) → IsOpen setup before p x → x ∷ later ≡ ws ++ g ∷ cut.back
      → AllByRecursion (λ (y : ScriptGraft). y.graft < g.graft) ws → ⊥
  open_before x later [] is e less = not_open x is (heads x g later cut.back e)
  open_before x later (y ∷ ws) is e less =
      not_before x is (subst (λ (z : ScriptGraft). z.graft < g.graft) (sym (heads x y later (ws ++ g ∷ cut.back) e)) less.0)

  is_next : (phase : Phase) (log : LogSays setup before p phase) → IsNext phase log
  is_next phase log = of (stands_in log.past (log.now ++ log.later) cut.front cut.back g (sym log.grafts ∙ cut.is)) where
    by_now : (ws : List ScriptGraft) → cut.front ≡ log.past ++ ws → log.now ++ log.later ≡ ws ++ g ∷ cut.back
        → ((log.now ≡ []) × (phase ≡ Idle (source_of phase))) ⊎ HasOpen setup before p log.now → IsNext phase log
    by_now ws e f (inl (none, idle)) = record { idle = idle; mid = ws; front = e; later = ap (λ (x : List ScriptGraft). x ++ log.later) (sym none) ∙ f }
    by_now ws e f (inr x) = absurd (open_before x.graft log.later ws x.open_is (ap (λ (y : List ScriptGraft). y ++ log.later) (sym x.is) ∙ f)
        (all_back (λ (y : ScriptGraft). y.graft < g.graft) log.past ws
        (subst (λ (y : List ScriptGraft). AllByRecursion (λ (z : ScriptGraft). z.graft < g.graft) y) e below)))

    of : StandsIn log.past (log.now ++ log.later) cut.front cut.back g → IsNext phase log
    of (inl (ws, e)) = absurd (not_behind (found_in cut.front ws g (IsBehind setup before)
        (subst (λ (x : List ScriptGraft). AllByRecursion (IsBehind setup before) x) e log.are_behind)))
    of (inr (ws, e, f)) = by_now ws e f (has_open setup before p phase log.now log.goes_on)

  -- a graft that waits before it is behind: its group has begun, and it isn't made
  passed : (x : ScriptGraft) → (IsGraftOf setup p x) × (x.graft < g.graft) → AwaitsOrder before x → IsBehind setup before x
  passed x here waits = record { begun = begun; over = inr (waits, by_target (target_in setup before x) refl) } where
    begun : group_of setup x.step ≤ before.group
    begun =
        let rise = groups_rise setup x.step g.step (steps_rise setup x g here.0.0 may.known (let l = here.1 in omega (arith, l))) in
        let at_work = may.group in
        omega (arith, rise, at_work)

    by_target : (o : Option ℕ) → target_in setup before x ≡ o → target_in setup before x ≡ None
    by_target None is = is
    by_target (Some u) is = absurd (may.earlier x here.0.0 here.0.1 here.1 (some_not (target_in setup before x) u is) waits.unended)

  front_behind : (phase : Phase) (log : LogSays setup before p phase) → IsNext phase log → AllByRecursion (IsBehind setup before) cut.front
  front_behind phase log next =
      let Here : ScriptGraft → Type 0 = λ x. (IsGraftOf setup p x) × (x.graft < g.graft) in
      let here : AllByRecursion Here cut.front =
      all_both (IsGraftOf setup p) (λ (x : ScriptGraft). x.graft < g.graft) Here cut.front (λ x own less. (own, less)) front_own below in
      let here_mid : AllByRecursion Here next.mid = all_back Here log.past next.mid (subst (λ (x : List ScriptGraft). AllByRecursion Here x) next.front here) in
      let wait_mid : AllByRecursion (AwaitsOrder before) next.mid = all_front (AwaitsOrder before) next.mid
      (g ∷ cut.back) (subst (λ (x : List ScriptGraft). AllByRecursion (AwaitsOrder before) x) next.later log.wait) in
      subst (λ (x : List ScriptGraft). AllByRecursion (IsBehind setup before) x) (sym next.front)
      (all_join (IsBehind setup before) log.past next.mid log.are_behind
      (all_both Here (AwaitsOrder before) (IsBehind setup before) next.mid passed here_mid wait_mid))

  log_with : (phase : Phase) (log : LogSays setup before p phase) → IsNext phase log → LogSays setup ordered p (Busy source g.graft t Ordered)
  log_with phase log next =
      let wait_back : AllByRecursion (AwaitsOrder before) (g ∷ cut.back) = all_back (AwaitsOrder before) next.mid
      (g ∷ cut.back) (subst (λ (x : List ScriptGraft). AllByRecursion (AwaitsOrder before) x) next.later log.wait) in
      record {
        past = cut.front;
        now = g ∷ [];
        later = cut.back;
        grafts = cut.is;
        are_behind = all_both (λ (x : ScriptGraft). x.graft < g.graft) (IsBehind setup before)
            (IsBehind setup ordered) cut.front (behind_with setup before g source) below (front_behind phase log next);
        goes_on = record {
          step = g.step;
          is = refl;
          known = may.known;
          begun = may.group;
          aims = may.is;
          ordered = grind (arith, nat_tests);
          unended = may.unended;
        };
        wait = all_both (λ (x : ScriptGraft). g.graft < x.graft) (AwaitsOrder before) (AwaitsOrder ordered) cut.back
            (λ x above. waits_with setup before g source x (λ (same : x.graft ≡ g.graft). omega arith))
            (behind_above setup p cut.front cut.back g cut.is) wait_back.1;
        placed = refl;
      }

  pub order_own : (phase : Phase) → LogSays setup before p phase → OrderSays setup before ordered p g.graft t phase
  order_own phase log =
      let next : IsNext phase log = is_next phase log in
      record { was = next.idle ∙ ap Idle (sym log.placed); log = log_with phase log next }
