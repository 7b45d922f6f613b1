-- What a rest names is the lowest of what is left in the part.
use Rattle.std.proofs.Common.{◌≡◌, ℕ, ◌<◌, ◌≤◌, List, [], ◌∷◌, ◌++◌, length, Option, Some, refl, sym, ap, ◌∙◌, subst, arith, length-append}
use Rattle.std.specs.Prelude.{◌≢◌}
use Rattle.std.specs.declared.cmp.Ordering.TheVariants.{Greater}
use Rattle.graft_steps.specs.declared.rest.Pending.{Pending}
use Rattle.graft_steps.specs.declared.rest.Pending.TheVariants.{Script, Graft, Channel, Bag, Stream, Dirty, DueIn, DueOut}
use Rattle.graft_edge.specs.declared.ids.RouterId.{RouterId}
use Rattle.graft_edge.specs.declared.ids.PeeringId.{PeeringId}
use Rattle.graft_steps.specs.declared.rest.RouterRest.{RouterRest}
use Rattle.graft_steps.specs.declared.rest.FarRest.{FarRest}
use Rattle.graft_steps.specs.declared.rest.OperatorRest.{OperatorRest}
use Rattle.graft_steps.specs.Pendings.{pending_cmp}
use Rattle.graft_model.specs.Setups.{Setup}
use Rattle.graft_model.specs.Parts.{RouterPart, FarPart, OperatorPart}
use Rattle.settled_check.specs.Firsts.{IsFirstOf}
use Rattle.settled_check.specs.Named.{RouterNames, FarNames, OperatorNames}
use Rattle.settled_check.specs.Left.{HasSome, HasStream, HoldsGraft, IsOpen, LeftAtRouter, LeftAtFar, LeftToOperator}
use Rattle.settled_check.specs.Rests.{IsRouterRest, IsFarRest, IsOperatorRest}
use Rattle.settled_check.proofs.Firsts.{first_of_more, lowest, lowest_number, is_lowest, is_lowest_number, one_number, two_numbers}

-- ---- a router

module _ (r : ℕ) (part : RouterPart) (rest : RouterRest) (is : IsRouterRest r part rest) where
  pub router_has : (x : Pending) → RouterNames rest x → LeftAtRouter r part x
  router_has Script names = names
  router_has (Graft k) names = is_lowest_number (HoldsGraft part) rest.graft k is.graft names
  router_has (Channel a b) names = names
  router_has (Bag p) names = names
  router_has (Stream p) names = is_lowest (λ q. q.0) (λ q. HasStream (part.places q)) rest.stream p is.stream names
  router_has (Dirty s) names = (ap (λ q. q.0) names.1 ∙ is.number, is.dirty.0 names.0)
  router_has (DueIn s q) names = (ap (λ x. x.0) names.1 ∙ is.number, is_lowest (λ x. x.0) (λ n. HasSome (part.due_in n)) rest.due_in q is.due_in names.0)
  router_has (DueOut p) names = is_lowest (λ q. q.0) (λ q. HasSome (part.due_out q)) rest.due_out p is.due_out names

  own_number : (s : RouterId) → s.0 ≡ r → s ≡ rest.number
  own_number s e = ap (λ (n : ℕ). let id : RouterId = record { 0 = n } in id) (e ∙ sym is.number)

  pub router_names : (y : Pending) → LeftAtRouter r part y → (x : Pending) × RouterNames rest x × (pending_cmp x y ≢ Greater)
  router_names Script left = absurd left
  router_names (Graft k) left =
      let f : (m : ℕ) × (rest.graft ≡ Some m) × (m ≤ k) = lowest_number (HoldsGraft part) rest.graft k is.graft left in
      (Graft f.0, f.1, one_number f.0 k f.2)
  router_names (Channel a b) left = absurd left
  router_names (Bag p) left = absurd left
  router_names (Stream p) left =
      let f : (m : PeeringId) × (rest.stream ≡ Some m) × (m.0 ≤ p.0) = lowest (λ q. q.0) (λ q. HasStream (part.places q)) rest.stream p.0 is.stream left in
      (Stream f.0, f.1, one_number f.0.0 p.0 f.2)
  router_names (Dirty s) left = (Dirty s, (is.dirty.1 left.1, own_number s left.0), one_number s.0 s.0 (omega arith))
  router_names (DueIn s q) left =
      let f : (m : RouterId) × (rest.due_in ≡ Some m) × (m.0 ≤ q.0) = lowest (λ x. x.0) (λ n. HasSome (part.due_in n)) rest.due_in q.0 is.due_in left.1 in
      (DueIn s f.0, (f.1, own_number s left.0), two_numbers s.0 f.0.0 q.0 f.2)
  router_names (DueOut p) left =
      let f : (m : PeeringId) × (rest.due_out ≡ Some m) × (m.0 ≤ p.0) = lowest (λ q. q.0) (λ q. HasSome (part.due_out q)) rest.due_out p.0 is.due_out left in
      (DueOut f.0, f.1, one_number f.0.0 p.0 f.2)

-- ---- a far side

some_length : {A : Type 0} (xs : List A) → xs ≢ [] → 0 < length xs
some_length [] ne = absurd (ne refl)
some_length (x ∷ xs) ne = omega arith

length_some : {A : Type 0} (xs : List A) → 0 < length xs → xs ≢ []
length_some xs l e = let none : length xs ≡ 0 = ap length e in absurd (omega arith)

module _ (p : ℕ) (part : FarPart) (rest : FarRest) (is : IsFarRest p part rest) where
  own_peering : (q : PeeringId) → q.0 ≡ p → q ≡ rest.peering
  own_peering q e = ap (λ (n : ℕ). let id : PeeringId = record { 0 = n } in id) (e ∙ sym is.peering)

  both_links : rest.bag ≡ length (part.homeward ++ part.remoteward)
  both_links = is.bag ∙ sym (length-append part.homeward part.remoteward)

  pub far_has : (x : Pending) → FarNames rest x → LeftAtFar p part x
  far_has Script names = names
  far_has (Graft k) names = names
  far_has (Channel a b) names = names
  far_has (Bag q) names = (ap (λ x. x.0) names.1 ∙ is.peering, length_some (part.homeward ++ part.remoteward) (subst (λ n. 0 < n) both_links names.0))
  far_has (Stream q) names = (ap (λ x. x.0) names.1 ∙ is.peering, is.unacked.0 names.0)
  far_has (Dirty s) names = names
  far_has (DueIn s q) names = names
  far_has (DueOut q) names = names

  pub far_names : (y : Pending) → LeftAtFar p part y → (x : Pending) × FarNames rest x × (pending_cmp x y ≢ Greater)
  far_names Script left = absurd left
  far_names (Graft k) left = absurd left
  far_names (Channel a b) left = absurd left
  far_names (Bag q) left = (
    Bag q,
    (subst (λ n. 0 < n) (sym both_links) (some_length (part.homeward ++ part.remoteward) left.1), own_peering q left.0),
    one_number q.0 q.0 (omega arith),
  )
  far_names (Stream q) left = (Stream q, (is.unacked.1 left.1, own_peering q left.0), one_number q.0 q.0 (omega arith))
  far_names (Dirty s) left = absurd left
  far_names (DueIn s q) left = absurd left
  far_names (DueOut q) left = absurd left

-- ---- the operator

module _ (setup : Setup) (part : OperatorPart) (rest : OperatorRest) (is : IsOperatorRest setup part rest) where
  pub operator_has : (x : Pending) → OperatorNames rest x → LeftToOperator setup part x
  operator_has Script names = is.unissued.0 names
  operator_has (Graft k) names = is_lowest_number (IsOpen setup part) rest.graft k is.graft names
  operator_has (Channel a b) names = names
  operator_has (Bag q) names = names
  operator_has (Stream q) names = names
  operator_has (Dirty s) names = names
  operator_has (DueIn s q) names = names
  operator_has (DueOut q) names = names

  pub operator_names : (y : Pending) → LeftToOperator setup part y → (x : Pending) × OperatorNames rest x × (pending_cmp x y ≢ Greater)
  operator_names Script left = (Script, is.unissued.1 left, λ e. cc)
  operator_names (Graft k) left =
      let f : (m : ℕ) × (rest.graft ≡ Some m) × (m ≤ k) = lowest_number (IsOpen setup part) rest.graft k is.graft left in
      (Graft f.0, f.1, one_number f.0 k f.2)
  operator_names (Channel a b) left = absurd left
  operator_names (Bag q) left = absurd left
  operator_names (Stream q) left = absurd left
  operator_names (Dirty s) left = absurd left
  operator_names (DueIn s q) left = absurd left
  operator_names (DueOut q) left = absurd left

-- ---- the first of each

pub router_first : (r : ℕ) (part : RouterPart) (rest : RouterRest) (answer : Option Pending) → IsRouterRest r part rest
    → IsFirstOf (RouterNames rest) answer → IsFirstOf (LeftAtRouter r part) answer
router_first r part rest answer is first =
    first_of_more (RouterNames rest) (LeftAtRouter r part) answer (router_has r part rest is) (router_names r part rest is) first

pub far_first : (p : ℕ) (part : FarPart) (rest : FarRest) (answer : Option Pending) → IsFarRest p part rest → IsFirstOf (FarNames rest) answer
    → IsFirstOf (LeftAtFar p part) answer
far_first p part rest answer is first = first_of_more (FarNames rest) (LeftAtFar p part) answer (far_has p part rest is) (far_names p part rest is) first

pub operator_first : (setup : Setup) (part : OperatorPart) (rest : OperatorRest) (answer : Option Pending) → IsOperatorRest setup part rest
    → IsFirstOf (OperatorNames rest) answer → IsFirstOf (LeftToOperator setup part) answer
operator_first setup part rest answer is first =
    first_of_more (OperatorNames rest) (LeftToOperator setup part) answer (operator_has setup part rest is) (operator_names setup part rest is) first
