-- What an actor did in a phase, by its kind.
use Rattle.std.proofs.Common.{◌≡◌, ◌∙◌, ℕ, List, [], ◌∷◌, ◌++◌, refl, ap, sym, subst, inl, inr}
use Rattle.std.specs.Prelude.{Option, Some}
use Rattle.std.specs.List.{AllByRecursion}
use Rattle.std.proofs.lemmas.List.{map-append}
use Rattle.ring_net.specs.declared.entry.JournalEntry.{JournalEntry}
use Rattle.ring_net.specs.Deeds.{Deed, Noted, Replay, TakesNone, deeds}
use Rattle.ring_net.specs.Turns.{ActorDid, Tooks, stays, takes}
use Rattle.graft_model.specs.Codes.{operator_code}
use Rattle.graft_model.specs.Parts.{OperatorPart}
use Rattle.graft_model.specs.Setups.{Setup}
use Rattle.graft_model.specs.declared.event.OperatorEvent.{OperatorEvent}
use Rattle.graft_model.specs.Steps.{operator_row}
use Rattle.graft_model.specs.OperatorRows.{OperatorTaken, OperatorSent}
use Rattle.graft_actors.specs.Actors as names
use Rattle.graft_actors.specs.Actors.{ActorPart, RouterIs, FarIs, OperatorIs, Thing}
use Rattle.graft_actors.specs.Makes.{HasCode, makes_as, AreDeeds}
use Rattle.graft_actors.specs.Acts.{OwnPart, ActsAs, acts}
use Rattle.bgp_session.specs.Running.{carried}
use Rattle.router_core.specs.Routers as routers
use Rattle.router_core.specs.Turned as router_turns
use Rattle.router_core.specs.declared.fields as router_fields
use Rattle.router_core.specs.declared.router as router_type
use Rattle.far_side.specs.Turned as far_turns
use Rattle.far_side.specs.declared.fields as far_fields
use Rattle.far_side.specs.declared.far as far_type
use Rattle.operator_core.specs.Operators as operators
use Rattle.operator_state.specs.Holds.{NothingToOrder}
use Rattle.operator_core.specs.declared.operator as operator_type
use Rattle.world_nodes.specs.Nodes.{Mail, own, took, turned}
use Rattle.world_nodes.specs.declared.node.Node.{Node}
use Rattle.world_nodes.specs.declared.node.Node.TheVariants.{Router, Far, Operator}
use Rattle.real_rounds.proofs.Calls.{CallsSay}
use Rattle.real_rounds.specs.Routers.{OperatorRound}
use Rattle.real_rounds.proofs.FarTakes.{TookFar, far_none, far_one, far_then}
use Rattle.real_rounds.proofs.RouterDeeds.{IsKept, nobody_lands}
use Rattle.real_rounds.proofs.RouterRounds.{TookRouter, took_none, took_one, took_then}
use Rattle.real_rounds.proofs.RouterRows.{LandsNobody}
use Rattle.real_rounds.proofs.Lists.{all_front, all_back}

-- ---- a router

-- takes that lead to the middle of a phase, and a turn from there
pub record RouterPhase (a c : router_fields.Fields.Fields) (ds : List (Deed Mail)) : Type 0 where
  pub mid : router_fields.Fields.Fields
  pub first : List (Deed Mail)
  pub second : List (Deed Mail)
  pub split : ds ≡ first ++ second
  pub takes : TookRouter a first mid
  pub turns : router_turns.RouterTurned mid second c
  pub calm : AllByRecursion LandsNobody (turns.again ++ turns.work)

router_took : (a : router_type.Router.Router) (n : Node) (from : ℕ) (item : Mail) (ds : List (Deed Mail)) → took (Router a) from item ds n
    → AllByRecursion IsKept ds
    → (b : router_type.Router.Router) × (n ≡ Router b) × TookRouter a.fields ds b.fields
router_took a (Router b) from item ds t kept = (b, refl, took_one a.fields b.fields 0 from item ds t.0.0 t.1 t.2 kept)
router_took a (Far b) from item ds t kept = absurd t.0
router_took a (Operator b) from item ds t kept = absurd t.0

router_tooks : (old new : Node) (ds : List (Deed Mail)) → Tooks took old ds new → AllByRecursion IsKept ds → (a : router_type.Router.Router) → old ≡ Router a
    → (b : router_type.Router.Router) × (new ≡ Router b) × TookRouter a.fields ds b.fields
router_tooks old new ds (stays x) kept a is = (a, is, took_none a.fields)
router_tooks old new ds (takes x y z before more from item tooks t) kept a is =
    let (m, m_is, first) = router_tooks x y before tooks (all_front IsKept before more kept) a is in
    let (b, b_is, last) = router_took m z from item more (subst (λ (n : Node). took n from item more z) m_is t) (all_back IsKept before more kept) in
    (b, b_is, took_then a.fields m.fields b.fields before more first last)

router_turn : (m : router_type.Router.Router) (n : Node) (es : List (Deed Mail)) → turned (Router m) es n → AllByRecursion TakesNone es
    → (c : router_type.Router.Router) × (n ≡ Router c) × (t : router_turns.RouterTurned m.fields es c.fields) × AllByRecursion LandsNobody (t.again ++ t.work)
router_turn m (Router c) es t none = (
  c,
  refl,
  t.0.0,
  nobody_lands m.fields.number.0 0 (routers.router_own_part m) (routers.router_own_part c) (t.0.0.again ++ t.0.0.work) es refl t.0.0.coded t.1 none,
)
router_turn m (Far c) es t none = absurd t.0
router_turn m (Operator c) es t none = absurd t.0

deeds_split : (notes first second : List (Noted Mail)) → notes ≡ first ++ second → deeds notes ≡ deeds first ++ deeds second
deeds_split notes first second split = ap (λ (ns : List (Noted Mail)). deeds ns) split ∙ map-append (λ (n : Noted Mail). n.deed) first second

pub router_phase : (k : ℕ) (old new : Node) (before after : ℕ) (notes : List (Noted Mail))
    → ActorDid own (acts carried) took turned k old before notes new after → AllByRecursion IsKept (deeds notes)
    → (a : router_type.Router.Router) → old ≡ Router a → (c : router_type.Router.Router) × (new ≡ Router c) × RouterPhase a.fields c.fields (deeds notes)
router_phase k old new before after notes did kept a is =
    let split = deeds_split notes did.first did.second did.split in
    let kept_both : AllByRecursion IsKept (deeds did.first ++ deeds did.second) = subst (λ (ds : List (Deed Mail)). AllByRecursion IsKept ds) split kept in
    let (m, m_is, first) = router_tooks old did.mid (deeds did.first) did.tooks (all_front IsKept (deeds did.first) (deeds did.second) kept_both) a is in
    let (c, c_is, turn, calm) = router_turn m new (deeds did.second) (subst (λ (n : Node). turned n (deeds did.second) new) m_is did.turn) did.none in
    (c, c_is, record { mid = m.fields; first = deeds did.first; second = deeds did.second; split = split; takes = first; turns = turn; calm = calm })

-- ---- a far side

pub record FarPhase (a c : far_fields.Fields.Fields) (ds : List (Deed Mail)) : Type 0 where
  pub mid : far_fields.Fields.Fields
  pub first : List (Deed Mail)
  pub second : List (Deed Mail)
  pub split : ds ≡ first ++ second
  pub takes : TookFar a first mid
  pub turns : far_turns.FarTurned mid second c

far_took : (law : CallsSay) (a : far_type.Far.Far) (n : Node) (from : ℕ) (item : Mail) (ds : List (Deed Mail)) → took (Far a) from item ds n
    → AllByRecursion IsKept ds
    → (b : far_type.Far.Far) × (n ≡ Far b) × TookFar a.fields ds b.fields
far_took law a (Far b) from item ds t kept = (b, refl, far_one law.far_takes law.links_taking a.fields b.fields 0 from item ds t.0 t.1 t.2 kept)
far_took law a (Router b) from item ds t kept = absurd t.0
far_took law a (Operator b) from item ds t kept = absurd t.0

far_tooks : (law : CallsSay) (old new : Node) (ds : List (Deed Mail)) → Tooks took old ds new → AllByRecursion IsKept ds → (a : far_type.Far.Far)
    → old ≡ Far a → (b : far_type.Far.Far) × (new ≡ Far b) × TookFar a.fields ds b.fields
far_tooks law old new ds (stays x) kept a is = (a, is, far_none a.fields)
far_tooks law old new ds (takes x y z before more from item tooks t) kept a is =
    let (m, m_is, first) = far_tooks law x y before tooks (all_front IsKept before more kept) a is in
    let (b, b_is, last) = far_took law m z from item more (subst (λ (n : Node). took n from item more z) m_is t) (all_back IsKept before more kept) in
    (b, b_is, far_then a.fields m.fields b.fields before more first last)

far_turn : (m : far_type.Far.Far) (n : Node) (es : List (Deed Mail)) → turned (Far m) es n
    → (c : far_type.Far.Far) × (n ≡ Far c) × far_turns.FarTurned m.fields es c.fields
far_turn m (Far c) es t = (c, refl, t.0)
far_turn m (Router c) es t = absurd t.0
far_turn m (Operator c) es t = absurd t.0

pub far_phase : CallsSay → (k : ℕ) (old new : Node) (before after : ℕ) (notes : List (Noted Mail))
    → ActorDid own (acts carried) took turned k old before notes new after → AllByRecursion IsKept (deeds notes)
    → (a : far_type.Far.Far) → old ≡ Far a → (c : far_type.Far.Far) × (new ≡ Far c) × FarPhase a.fields c.fields (deeds notes)
far_phase law k old new before after notes did kept a is =
    let split = deeds_split notes did.first did.second did.split in
    let kept_both : AllByRecursion IsKept (deeds did.first ++ deeds did.second) = subst (λ (ds : List (Deed Mail)). AllByRecursion IsKept ds) split kept in
    let (m, m_is, first) = far_tooks law old did.mid (deeds did.first) did.tooks (all_front IsKept (deeds did.first) (deeds did.second) kept_both) a is in
    let (c, c_is, turn) = far_turn m new (deeds did.second) (subst (λ (n : Node). turned n (deeds did.second) new) m_is did.turn) in
    (c, c_is, record { mid = m.fields; first = deeds did.first; second = deeds did.second; split = split; takes = first; turns = turn })

-- ---- the operator

abbrev operator_own : Setup → OperatorPart → OwnPart
operator_own setup part = record { setup = setup; name = names.Operator; part = OperatorIs part }

-- the row of an entry of the operator's
record OneRow (setup : Setup) (a : OperatorPart) (entry : JournalEntry) (after : ActorPart) : Type 0 where
  part : OperatorPart
  is : after ≡ OperatorIs part
  event : OperatorEvent
  code : HasCode (operator_code event) entry
  taken : Option OperatorTaken
  sent : List OperatorSent
  row : operator_row setup event a taken sent part

operator_one : (setup : Setup) (a : OperatorPart) (entry : JournalEntry) (taken : Option (ℕ × Thing)) (sent : List (ℕ × Thing)) (after : ActorPart)
    → makes_as setup (Some names.Operator) (OperatorIs a) entry taken sent after → OneRow setup a entry after
operator_one setup a entry taken sent (OperatorIs b) row =
    record { part = b; is = refl; event = row.event; code = row.coded; taken = row.took; sent = row.gave; row = row.holds }
operator_one setup a entry taken sent (RouterIs b) row = absurd row
operator_one setup a entry taken sent (FarIs b) row = absurd row

own_same : (o : OwnPart) (setup : Setup) (name : names.ActorName) (part : ActorPart) → o.setup ≡ setup → o.name ≡ name → o.part ≡ part
    → o ≡ record { setup = setup; name = name; part = part }
own_same o setup name part e f g = λ i. record { setup = e i; name = f i; part = g i }

same_part : {a b : OperatorPart} → OperatorIs a ≡ OperatorIs b → a ≡ b
same_part e = cc

pub operator_events : (setup : Setup) (n : ℕ) (a b : OperatorPart) (p q : OwnPart) (ds : List (Deed Mail)) → p ≡ operator_own setup a
    → q ≡ operator_own setup b → Replay (acts carried) n p ds q → AllByRecursion IsKept ds
    → (events : List OperatorEvent) × AreDeeds operator_code events ds × OperatorRound setup a events b
operator_events setup n a b p q [] p_is q_is replay kept = ([], tt, same_part (ap (λ (o : OwnPart). o.part) (sym q_is ∙ replay ∙ p_is)))
operator_events setup n a b p q (d ∷ ds) p_is q_is replay kept =
    elim ((subst (λ (o : OwnPart). ActsAs carried o d.entry d.taken d.sent replay.0) p_is replay.1).does) [
      | inl makes ↦ (let one = operator_one setup a d.entry _ _ replay.0.part makes.row in
          let more = operator_events setup n one.part b replay.0 q ds
          (own_same replay.0 setup names.Operator (OperatorIs one.part) (replay.1.setup ∙ ap (λ (o : OwnPart). o.setup) p_is)
          (replay.1.name ∙ ap (λ (o : OwnPart). o.name) p_is) one.is) q_is replay.2 kept.1 in
          (one.event ∷ more.0, (one.code, more.1), (one.taken, one.sent, one.part, one.row, more.2)))
      | inr drops ↦ absurd (kept.0 drops.kind)
    ]

-- what an actor is of stays
pub replay_setup : (n : ℕ) (p q : OwnPart) (ds : List (Deed Mail)) → Replay (acts carried) n p ds q → q.setup ≡ p.setup
replay_setup n p q [] replay = ap (λ (o : OwnPart). o.setup) replay
replay_setup n p q (d ∷ ds) replay = replay_setup n replay.0 q ds replay.2 ∙ replay.1.setup

operator_took : (a : operator_type.Operator.Operator) (n : Node) (from : ℕ) (item : Mail) (ds : List (Deed Mail)) → took (Operator a) from item ds n
    → (b : operator_type.Operator.Operator) × (n ≡ Operator b) × (operators.operator_setup b ≡ operators.operator_setup a)
operator_took a (Operator b) from item ds t = (b, refl, replay_setup 0 (operators.own_part a) (operators.own_part b) ds t.2)
operator_took a (Router b) from item ds t = absurd t.0
operator_took a (Far b) from item ds t = absurd t.0

operator_tooks : (old new : Node) (ds : List (Deed Mail)) → Tooks took old ds new → (a : operator_type.Operator.Operator) → old ≡ Operator a
    → (b : operator_type.Operator.Operator) × (new ≡ Operator b) × (operators.operator_setup b ≡ operators.operator_setup a)
operator_tooks old new ds (stays x) a is = (a, is, refl)
operator_tooks old new ds (takes x y z before more from item tooks t) a is =
    let (m, m_is, first) = operator_tooks x y before tooks a is in
    let (b, b_is, last) = operator_took m z from item more (subst (λ (n : Node). took n from item more z) m_is t) in
    (b, b_is, last ∙ first)

operator_turn : (m : operator_type.Operator.Operator) (n : Node) (es : List (Deed Mail)) → turned (Operator m) es n
    → (c : operator_type.Operator.Operator) × (n ≡ Operator c) × NothingToOrder (operators.operator_setup m) (operators.operator_part c)
operator_turn m (Operator c) es t = (c, refl, t.0.done)
operator_turn m (Router c) es t = absurd t.0
operator_turn m (Far c) es t = absurd t.0

pub operator_phase : (k : ℕ) (old new : Node) (before after : ℕ) (notes : List (Noted Mail))
    → ActorDid own (acts carried) took turned k old before notes new after → (a : operator_type.Operator.Operator) → old ≡ Operator a
    → (c : operator_type.Operator.Operator) × (new ≡ Operator c) × NothingToOrder (operators.operator_setup a) (operators.operator_part c)
operator_phase k old new before after notes did a is =
    let (m, m_is, same) = operator_tooks old did.mid (deeds did.first) did.tooks a is in
    let (c, c_is, done) = operator_turn m new (deeds did.second) (subst (λ (n : Node). turned n (deeds did.second) new) m_is did.turn) in
    (c, c_is, subst (λ (s : Setup). NothingToOrder s (operators.operator_part c)) same done)
