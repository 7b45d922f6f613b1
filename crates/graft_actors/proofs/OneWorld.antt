-- A net is one world, and an entry is that of one event.
use Rattle.std.proofs.Common.{◌≡◌, ℕ, ◌<◌, Bool, true, false, nat_lt, List, [], ◌∷◌, Option, Some, map, refl, sym, ap, ap₂, ◌∙◌, inl, inr, arith}
use Rattle.std.specs.Prelude.{◌⊎◌}
use Rattle.std.proofs.lemmas.Bool.Decides.{nat_tests}
use Rattle.ring_net.specs.declared.entry.JournalEntry.{JournalEntry}
use Rattle.graft_model.specs.declared.code.Code.{Code}
use Rattle.graft_model.specs.Setups.{Setup, routers_in, peerings_in}
use Rattle.graft_model.specs.Parts.{RouterPart, FarPart, OperatorPart, World}
use Rattle.graft_model.specs.Codes.{router_code, far_code, operator_code}
use Rattle.graft_model.specs.declared.event.RouterEvent.{RouterEvent}
use Rattle.graft_model.specs.declared.event.FarEvent.{FarEvent}
use Rattle.graft_model.specs.declared.event.OperatorEvent.{OperatorEvent}
use Rattle.graft_model.specs.Steps.{Event, ByRouter, ByFar, ByOperator}
use Rattle.graft_actors.specs.Actors.{RouterIs, FarIs, OperatorIs, Thing, MeshItem, OutwardItem, SegmentItem, OrderItem, ReportItem}
use Rattle.graft_actors.specs.Actors.{StepItem, ActorName, Router, FarSide, Operator, number_in, IsActor, actor_at}
use Rattle.graft_actors.specs.Makes.{HasCode}
use Rattle.graft_actors.specs.Seen.{Net, part_of, channel_of, Sees}
use Rattle.graft_actors.specs.Laws.{maker_of, code_of, IsEntryOf, AreEntriesOf}
use Rattle.graft_actors.proofs.Numbers.{there}
use Rattle.graft_actors.proofs.Takes.{as_mesh, as_outward, as_segment, as_order, as_report, as_step, same_places}

below_or_not : (m n : ℕ) → (m < n) ⊎ (m < n → ⊥)
below_or_not m n = by_test (nat_lt m n) refl
  where
    by_test : (t : Bool) → nat_lt m n ≡ t → (m < n) ⊎ (m < n → ⊥)
    by_test true e = inl (grind (arith, nat_tests))
    by_test false e = inr (λ l. grind (arith, nat_tests))

there_or_not : (setup : Setup) (x : ActorName) → IsActor setup x ⊎ (IsActor setup x → ⊥)
there_or_not setup (Router r) = below_or_not r (routers_in setup)
there_or_not setup (FarSide p) = below_or_not p (peerings_in setup)
there_or_not setup Operator = inl tt

module _ (setup : Setup) (net : Net) (w v : World) (one : Sees setup net w) (other : Sees setup net v) where
  same_part : (x : ActorName) → part_of v x ≡ part_of w x
  same_part x = elim (there_or_not setup x) [
    | inl known ↦ sym (other.parts (number_in setup x) x (there setup x known)) ∙ one.parts (number_in setup x) x (there setup x known)
    | inr unknown ↦ other.within.parts x unknown ∙ sym (one.within.parts x unknown)
  ]

  same_channel : (x y : ActorName) → channel_of v (Some x) (Some y) ≡ channel_of w (Some x) (Some y)
  same_channel x y = elim (there_or_not setup x) [
    | inr unknown ↦ other.within.channels x y (λ h k. unknown h) ∙ sym (one.within.channels x y (λ h k. unknown h))
    | inl known ↦ elim (there_or_not setup y) [
      | inr unknown ↦ other.within.channels x y (λ h k. unknown k) ∙ sym (one.within.channels x y (λ h k. unknown k))
      | inl here ↦ seen known here
    ]
  ]
    where
      seen : IsActor setup x → IsActor setup y → channel_of v (Some x) (Some y) ≡ channel_of w (Some x) (Some y)
      seen known here = sym (same_places v (there setup x known) (there setup y here)) ∙ sym (other.channels (number_in setup x) (number_in setup y))
          ∙ one.channels (number_in setup x) (number_in setup y) ∙ same_places w (there setup x known) (there setup y here)

  same_items : {A : Type 0} (made : A → Thing) (back : Thing → Option A) → ((a : A) → back (made a) ≡ Some a) → (xs ys : List A)
      → map made xs ≡ map made ys → xs ≡ ys
  same_items made back law [] [] e = refl
  same_items made back law [] (y ∷ ys) e = absurd cc
  same_items made back law (x ∷ xs) [] e = absurd cc
  same_items made back law (x ∷ xs) (y ∷ ys) e =
      ap₂ (λ z zs. z ∷ zs) (some_same (sym (law x) ∙ ap back (head e) ∙ law y)) (same_items made back law xs ys (tail e))
    where
      some_same : Some x ≡ Some y → x ≡ y
      some_same h = cc

      head : made x ∷ map made xs ≡ made y ∷ map made ys → made x ≡ made y
      head h = cc

      tail : made x ∷ map made xs ≡ made y ∷ map made ys → map made xs ≡ map made ys
      tail h = cc

  routers : (a b : RouterPart) → RouterIs a ≡ RouterIs b → a ≡ b
  routers a b e = cc

  fars : (a b : FarPart) → FarIs a ≡ FarIs b → a ≡ b
  fars a b e = cc

  operators : (a b : OperatorPart) → OperatorIs a ≡ OperatorIs b → a ≡ b
  operators a b e = cc

  pub one_world : v ≡ w
  one_world = λ i. record {
    router = λ r. routers (v.router r) (w.router r) (same_part (Router r)) i;
    far = λ p. fars (v.far p) (w.far p) (same_part (FarSide p)) i;
    operator = operators v.operator w.operator (same_part Operator) i;
    mesh = λ a b. same_items MeshItem as_mesh (λ x. refl) (v.mesh a b) (w.mesh a b) (same_channel (Router a) (Router b)) i;
    outward = λ r p. same_items OutwardItem as_outward (λ x. refl) (v.outward r p) (w.outward r p) (same_channel (Router r) (FarSide p)) i;
    inward = λ p r. same_items SegmentItem as_segment (λ x. refl) (v.inward p r) (w.inward p r) (same_channel (FarSide p) (Router r)) i;
    orders = λ r. same_items OrderItem as_order (λ x. refl) (v.orders r) (w.orders r) (same_channel Operator (Router r)) i;
    reports = λ r. same_items ReportItem as_report (λ x. refl) (v.reports r) (w.reports r) (same_channel (Router r) Operator) i;
    says = λ p. same_items StepItem as_step (λ x. refl) (v.says p) (w.says p) (same_channel Operator (FarSide p)) i;
  }

-- ---- entries

module _ (routers_code : (one other : RouterEvent) → router_code one ≡ router_code other → one ≡ other)
    (fars_code : (one other : FarEvent) → far_code one ≡ far_code other → one ≡ other)
    (operators_code : (one other : OperatorEvent) → operator_code one ≡ operator_code other → one ≡ other) where
  same_code : (c d : Code) (entry : JournalEntry) → HasCode c entry → HasCode d entry → c ≡ d
  same_code c d entry h k = λ i. record { kind = (sym h.kind ∙ k.kind) i; a = (sym h.a ∙ k.a) i; b = (sym h.b ∙ k.b) i; c = (sym h.c ∙ k.c) i }

  same_actor : (setup : Setup) (x y : ActorName) → IsActor setup x → IsActor setup y → number_in setup x ≡ number_in setup y → x ≡ y
  same_actor setup x y h k e = same (sym (there setup x h) ∙ ap (actor_at setup) e ∙ there setup y k)
    where
      same : Some x ≡ Some y → x ≡ y
      same f = cc

  by_case : (one other : Event) → maker_of one ≡ maker_of other → code_of one ≡ code_of other → one ≡ other
  by_case (ByRouter r event) (ByRouter q wanted) e f = ap₂ ByRouter (same r q e) (routers_code event wanted f)
    where
      same : (r q : ℕ) → Router r ≡ Router q → r ≡ q
      same r q e = cc
  by_case (ByFar p event) (ByFar q wanted) e f = ap₂ ByFar (same p q e) (fars_code event wanted f)
    where
      same : (r q : ℕ) → FarSide r ≡ FarSide q → r ≡ q
      same r q e = cc
  by_case (ByOperator event) (ByOperator wanted) e f = ap ByOperator (operators_code event wanted f)
  by_case (ByRouter r event) (ByFar q wanted) e f = absurd cc
  by_case (ByRouter r event) (ByOperator wanted) e f = absurd cc
  by_case (ByFar p event) (ByRouter q wanted) e f = absurd cc
  by_case (ByFar p event) (ByOperator wanted) e f = absurd cc
  by_case (ByOperator event) (ByRouter q wanted) e f = absurd cc
  by_case (ByOperator event) (ByFar q wanted) e f = absurd cc

  pub one_event : (setup : Setup) (one other : Event) (entry : JournalEntry) → IsEntryOf setup one entry → IsEntryOf setup other entry → one ≡ other
  one_event setup one other entry h k = by_case one other (same_actor setup (maker_of one) (maker_of other) h.there k.there (sym h.maker ∙ k.maker))
      (same_code (code_of one) (code_of other) entry h.coded k.coded)

  pub one_list : (setup : Setup) (events others : List Event) (entries : List JournalEntry) → AreEntriesOf setup events entries
      → AreEntriesOf setup others entries → events ≡ others
  one_list setup [] [] [] h k = refl
  one_list setup (event ∷ events) (other ∷ others) (entry ∷ entries) h k =
      ap₂ (λ z zs. z ∷ zs) (one_event setup event other entry h.0 k.0) (one_list setup events others entries h.1 k.1)
  one_list setup [] (other ∷ others) [] h k = absurd k
  one_list setup (event ∷ events) others [] h k = absurd h
  one_list setup [] others (entry ∷ entries) h k = absurd h
  one_list setup (event ∷ events) [] (entry ∷ entries) h k = absurd k
