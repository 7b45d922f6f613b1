-- Where the row of an event never holds of what is next, no world follows.
use Rattle.std.proofs.Common.{◌≡◌, ℕ, List, [], ◌∷◌, Option, Some, None, map, refl, sym, ap, ◌∙◌, subst}
use Rattle.journal_merge.specs.Worlds as worlds
use Rattle.graft_model.specs.Setups.{Setup}
use Rattle.graft_model.specs.Parts.{World}
use Rattle.graft_model.specs.RouterRows.{RouterTaken, OrderIn, SegmentIn, MeshIn}
use Rattle.graft_model.specs.FarRows.{FarTaken, OutwardIn, SayIn}
use Rattle.graft_model.specs.OperatorRows.{OperatorTaken, ReportIn}
use Rattle.graft_model.specs.declared.event.RouterEvent.{RouterEvent}
use Rattle.graft_model.specs.declared.event.FarEvent.{FarEvent}
use Rattle.graft_model.specs.declared.event.OperatorEvent.{OperatorEvent}
use Rattle.graft_model.specs.Steps.{router_row, far_row, operator_row, Heads, RouterTook, FarTook, OperatorTook, RouterStep, FarStep, OperatorStep}
use Rattle.graft_actors.specs.Actors.{Thing, MeshItem, OutwardItem, SegmentItem, OrderItem, ReportItem, StepItem}
use Rattle.graft_actors.specs.Actors.{ActorName, Router, FarSide, Operator, IsActor, number_in, actor_at}
use Rattle.graft_actors.specs.Acts.{OwnPart}
use Rattle.graft_actors.specs.Items.{thing_of}
use Rattle.graft_actors.specs.Makes.{taken_by_router, taken_by_far, taken_by_operator, sent_by_router, sent_by_far, sent_by_operator}
use Rattle.graft_actors.specs.Seen.{channel_of}
use Rattle.graft_actors.specs.Laws.{ActorsHaveNumbers}
use Rattle.graft_actors.proofs.Numbers.{some_same}
use Rattle.world_runs.specs.Labs.{IsLab}
use Rattle.world_runs.proofs.Comes.{map_first}
use Rattle.audit_ruling.specs.Rulings.{Parcel, HoldsNever, router_takes, far_takes, operator_takes}
use Rattle.bgp_session.specs.Running.{carried}
use Rattle.audit_ruling.specs.Senders.{router_sender, far_sender, operator_sender, from_router_taken, from_far_taken, from_operator_taken}
use Rattle.audit_ruling.specs.Senders.{RoutersTakeFromTheNamed, FarSidesTakeFromTheNamed, TheOperatorTakesFromTheNamed}

-- ---- what a step takes is first in its channel

router_head : (w u : World) (r : ℕ) (t : RouterTaken) → RouterTook w r (Some t) u
    → (rest : List Thing) × (channel_of w (Some (taken_by_router t).0) (Some (Router r)) ≡ (taken_by_router t).1 ∷ rest)
router_head w u r (OrderIn order) took = (map OrderItem took.0.rest, ap (map OrderItem) took.0.is)
router_head w u r (SegmentIn p segment) took = (map SegmentItem took.0.rest, ap (map SegmentItem) took.0.is)
router_head w u r (MeshIn q item) took = (map MeshItem took.0.rest, ap (map MeshItem) took.0.is)

far_head : (w u : World) (p : ℕ) (t : FarTaken) → FarTook w p (Some t) u
    → (rest : List Thing) × (channel_of w (Some (taken_by_far t).0) (Some (FarSide p)) ≡ (taken_by_far t).1 ∷ rest)
far_head w u p (OutwardIn r item) took = (map OutwardItem took.0.rest, ap (map OutwardItem) took.0.is)
far_head w u p (SayIn step) took = (map StepItem took.0.rest, ap (map StepItem) took.0.is)

operator_head : (w u : World) (t : OperatorTaken) → OperatorTook w (Some t) u
    → (rest : List Thing) × (channel_of w (Some (taken_by_operator t).0) (Some Operator) ≡ (taken_by_operator t).1 ∷ rest)
operator_head w u (ReportIn r report) took = (map ReportItem took.0.rest, ap (map ReportItem) took.0.is)

-- what an actor takes from another is told by that one and the thing
router_takes_it : (t : RouterTaken) → router_takes (taken_by_router t).0 (taken_by_router t).1 ≡ Some t
router_takes_it (OrderIn order) = refl
router_takes_it (SegmentIn p segment) = refl
router_takes_it (MeshIn q item) = refl

far_takes_it : (t : FarTaken) → far_takes (taken_by_far t).0 (taken_by_far t).1 ≡ Some t
far_takes_it (OutwardIn r item) = refl
far_takes_it (SayIn step) = refl

operator_takes_it : (t : OperatorTaken) → operator_takes (taken_by_operator t).0 (taken_by_operator t).1 ≡ Some t
operator_takes_it (ReportIn r report) = refl

-- ---- one actor

module _ (setup : Setup) (numbers : ActorsHaveNumbers) (lab : worlds.DeedWorld OwnPart Parcel) (w : World) (is_lab : IsLab carried setup lab w)
    (me : ℕ) (x : ActorName) (is : actor_at setup me ≡ Some x) where
  -- what is first in a channel of the world is first in the laboratory's
  head_parcel : (from : ActorName) (thing : Thing) (rest : List Thing) → IsActor setup from → channel_of w (Some from) (Some x) ≡ thing ∷ rest
      → (item : Parcel) × (thing_of carried setup item ≡ thing) × Heads (lab.channel (number_in setup from) me) item
  head_parcel from thing rest there e = map_first (thing_of carried setup) (lab.channel (number_in setup from) me) thing rest
      (is_lab.sees.channels (number_in setup from) me
      ∙ ap (λ (o : Option ActorName). channel_of w o (actor_at setup me)) (numbers setup from there)
      ∙ ap (channel_of w (Some from)) is ∙ e)

  -- nothing comes from an actor that doesn't exist
  none_from : (from : ActorName) (thing : Thing) (rest : List Thing) → (IsActor setup from → ⊥) → channel_of w (Some from) (Some x) ≡ thing ∷ rest → ⊥
  none_from from thing rest unknown e =
      let f : thing ∷ rest ≡ [] = sym e ∙ is_lab.sees.within.channels from x (λ there here. unknown there) in absurd cc

  -- A row that takes the first item of a channel holds of it in the laboratory.
  refuted : {T : Type 0} (takes : ActorName → Thing → Option T) (Row : Option T → Type 0) (from other : ActorName) (thing : Thing) (rest : List Thing) (t : T)
      → other ≡ from → IsActor setup from → channel_of w (Some other) (Some x) ≡ thing ∷ rest → takes other thing ≡ Some t → Row (Some t)
      → ((item : Parcel) (more : List Parcel) → lab.channel (number_in setup from) me ≡ item ∷ more → Row (takes from (thing_of carried setup item)) → ⊥) → ⊥
  refuted takes Row from other thing rest t same there e takes_it row never =
      let h = head_parcel from thing rest there (ap (λ (a : ActorName). channel_of w (Some a) (Some x)) (sym same) ∙ e) in
      never h.0 h.2.rest h.2.is
      (subst Row (sym (ap (takes from) h.1 ∙ ap (λ (a : ActorName). takes a thing) (sym same) ∙ takes_it)) row)

-- ---- routers

module _ (setup : Setup) (named : RoutersTakeFromTheNamed) (w : World) (r : ℕ) (event : RouterEvent) where
  pub router_alone : router_sender event ≡ None → HoldsNever (router_row setup r event) sent_by_router (w.router r) None
      → (after : World) → RouterStep setup r event w after → ⊥
  router_alone none never after step = by_taken step.taken refl where
    by_taken : (t : Option RouterTaken) → step.taken ≡ t → ⊥
    by_taken None e = never step.sent step.part (subst (λ (o : Option RouterTaken). router_row setup r event (w.router r) o step.sent step.part) e step.row)
    by_taken (Some t) e =
        let f : Some (taken_by_router t).0 ≡ None =
        ap from_router_taken (sym e) ∙ named setup r event (w.router r) step.part step.taken step.sent step.row ∙ none in absurd cc

  module _ (numbers : ActorsHaveNumbers) (lab : worlds.DeedWorld OwnPart Parcel) (is_lab : IsLab carried setup lab w)
      (is : actor_at setup r ≡ Some (Router r)) (from : ActorName) (sender : router_sender event ≡ Some from) where
    router_from : (t : RouterTaken) (after : World) (step : RouterStep setup r event w after) → step.taken ≡ Some t → (taken_by_router t).0 ≡ from
    router_from t after step e = some_same (taken_by_router t).0 from
        (ap from_router_taken (sym e) ∙ named setup r event (w.router r) step.part step.taken step.sent step.row ∙ sender)

    router_takes_some : (after : World) (step : RouterStep setup r event w after) → step.taken ≡ None → ⊥
    router_takes_some after step e =
        let f : None ≡ Some from = ap from_router_taken (sym e) ∙ named setup r event (w.router r) step.part step.taken step.sent step.row ∙ sender in absurd cc

    pub router_unsent : (IsActor setup from → ⊥) → (after : World) → RouterStep setup r event w after → ⊥
    router_unsent unknown after step = by_taken step.taken refl where
      by_taken : (t : Option RouterTaken) → step.taken ≡ t → ⊥
      by_taken None e = router_takes_some after step e
      by_taken (Some t) e =
          let h = router_head w step.without r t (subst (λ (o : Option RouterTaken). RouterTook w r o step.without) e step.took) in
          none_from setup numbers lab w is_lab r (Router r) is from (taken_by_router t).1 h.0 unknown
          (ap (λ (a : ActorName). channel_of w (Some a) (Some (Router r))) (sym (router_from t after step e)) ∙ h.1)

    pub router_taking : IsActor setup from
        → ((item : Parcel) (more : List Parcel) → lab.channel (number_in setup from) r ≡ item ∷ more
        → HoldsNever (router_row setup r event) sent_by_router (w.router r) (router_takes from (thing_of carried setup item)))
        → (after : World) → RouterStep setup r event w after → ⊥
    router_taking there never after step = by_taken step.taken refl where
      by_taken : (t : Option RouterTaken) → step.taken ≡ t → ⊥
      by_taken None e = router_takes_some after step e
      by_taken (Some t) e =
          let h = router_head w step.without r t (subst (λ (o : Option RouterTaken). RouterTook w r o step.without) e step.took) in
          refuted setup numbers lab w is_lab r (Router r) is router_takes
          (λ (o : Option RouterTaken). router_row setup r event (w.router r) o step.sent step.part)
          from (taken_by_router t).0 (taken_by_router t).1 h.0 t (router_from t after step e) there h.1 (router_takes_it t)
          (subst (λ (o : Option RouterTaken). router_row setup r event (w.router r) o step.sent step.part) e step.row)
          (λ item more is_first row. never item more is_first step.sent step.part row)

-- ---- far sides

module _ (setup : Setup) (named : FarSidesTakeFromTheNamed) (w : World) (p : ℕ) (event : FarEvent) where
  pub far_alone : far_sender event ≡ None → HoldsNever (far_row setup p event) sent_by_far (w.far p) None
      → (after : World) → FarStep setup p event w after → ⊥
  far_alone none never after step = by_taken step.taken refl where
    by_taken : (t : Option FarTaken) → step.taken ≡ t → ⊥
    by_taken None e = never step.sent step.part (subst (λ (o : Option FarTaken). far_row setup p event (w.far p) o step.sent step.part) e step.row)
    by_taken (Some t) e =
        let f : Some (taken_by_far t).0 ≡ None =
        ap from_far_taken (sym e) ∙ named setup p event (w.far p) step.part step.taken step.sent step.row ∙ none in absurd cc

  module _ (numbers : ActorsHaveNumbers) (lab : worlds.DeedWorld OwnPart Parcel) (is_lab : IsLab carried setup lab w) (me : ℕ)
      (is : actor_at setup me ≡ Some (FarSide p)) (from : ActorName) (sender : far_sender event ≡ Some from) where
    far_from : (t : FarTaken) (after : World) (step : FarStep setup p event w after) → step.taken ≡ Some t → (taken_by_far t).0 ≡ from
    far_from t after step e = some_same (taken_by_far t).0 from
        (ap from_far_taken (sym e) ∙ named setup p event (w.far p) step.part step.taken step.sent step.row ∙ sender)

    far_takes_some : (after : World) (step : FarStep setup p event w after) → step.taken ≡ None → ⊥
    far_takes_some after step e =
        let f : None ≡ Some from = ap from_far_taken (sym e) ∙ named setup p event (w.far p) step.part step.taken step.sent step.row ∙ sender in absurd cc

    pub far_unsent : (IsActor setup from → ⊥) → (after : World) → FarStep setup p event w after → ⊥
    far_unsent unknown after step = by_taken step.taken refl where
      by_taken : (t : Option FarTaken) → step.taken ≡ t → ⊥
      by_taken None e = far_takes_some after step e
      by_taken (Some t) e =
          let h = far_head w step.without p t (subst (λ (o : Option FarTaken). FarTook w p o step.without) e step.took) in
          none_from setup numbers lab w is_lab me (FarSide p) is from (taken_by_far t).1 h.0 unknown
          (ap (λ (a : ActorName). channel_of w (Some a) (Some (FarSide p))) (sym (far_from t after step e)) ∙ h.1)

    pub far_taking : IsActor setup from
        → ((item : Parcel) (more : List Parcel) → lab.channel (number_in setup from) me ≡ item ∷ more
        → HoldsNever (far_row setup p event) sent_by_far (w.far p) (far_takes from (thing_of carried setup item)))
        → (after : World) → FarStep setup p event w after → ⊥
    far_taking there never after step = by_taken step.taken refl where
      by_taken : (t : Option FarTaken) → step.taken ≡ t → ⊥
      by_taken None e = far_takes_some after step e
      by_taken (Some t) e =
          let h = far_head w step.without p t (subst (λ (o : Option FarTaken). FarTook w p o step.without) e step.took) in
          refuted setup numbers lab w is_lab me (FarSide p) is far_takes
          (λ (o : Option FarTaken). far_row setup p event (w.far p) o step.sent step.part)
          from (taken_by_far t).0 (taken_by_far t).1 h.0 t (far_from t after step e) there h.1 (far_takes_it t)
          (subst (λ (o : Option FarTaken). far_row setup p event (w.far p) o step.sent step.part) e step.row)
          (λ item more is_first row. never item more is_first step.sent step.part row)

-- ---- the operator

module _ (setup : Setup) (named : TheOperatorTakesFromTheNamed) (w : World) (event : OperatorEvent) where
  pub operator_alone : operator_sender event ≡ None → HoldsNever (operator_row setup event) sent_by_operator w.operator None
      → (after : World) → OperatorStep setup event w after → ⊥
  operator_alone none never after step = by_taken step.taken refl where
    by_taken : (t : Option OperatorTaken) → step.taken ≡ t → ⊥
    by_taken None e = never step.sent step.part (subst (λ (o : Option OperatorTaken). operator_row setup event w.operator o step.sent step.part) e step.row)
    by_taken (Some t) e =
        let f : Some (taken_by_operator t).0 ≡ None =
        ap from_operator_taken (sym e) ∙ named setup event w.operator step.part step.taken step.sent step.row ∙ none in absurd cc

  module _ (numbers : ActorsHaveNumbers) (lab : worlds.DeedWorld OwnPart Parcel) (is_lab : IsLab carried setup lab w) (me : ℕ)
      (is : actor_at setup me ≡ Some Operator) (from : ActorName) (sender : operator_sender event ≡ Some from) where
    operator_from : (t : OperatorTaken) (after : World) (step : OperatorStep setup event w after) → step.taken ≡ Some t → (taken_by_operator t).0 ≡ from
    operator_from t after step e = some_same (taken_by_operator t).0 from
        (ap from_operator_taken (sym e) ∙ named setup event w.operator step.part step.taken step.sent step.row ∙ sender)

    operator_takes_some : (after : World) (step : OperatorStep setup event w after) → step.taken ≡ None → ⊥
    operator_takes_some after step e =
        let f : None ≡ Some from = ap from_operator_taken (sym e) ∙ named setup event w.operator step.part step.taken step.sent step.row ∙ sender in absurd cc

    pub operator_unsent : (IsActor setup from → ⊥) → (after : World) → OperatorStep setup event w after → ⊥
    operator_unsent unknown after step = by_taken step.taken refl where
      by_taken : (t : Option OperatorTaken) → step.taken ≡ t → ⊥
      by_taken None e = operator_takes_some after step e
      by_taken (Some t) e =
          let h = operator_head w step.without t (subst (λ (o : Option OperatorTaken). OperatorTook w o step.without) e step.took) in
          none_from setup numbers lab w is_lab me Operator is from (taken_by_operator t).1 h.0 unknown
          (ap (λ (a : ActorName). channel_of w (Some a) (Some Operator)) (sym (operator_from t after step e)) ∙ h.1)

    pub operator_taking : IsActor setup from
        → ((item : Parcel) (more : List Parcel) → lab.channel (number_in setup from) me ≡ item ∷ more
        → HoldsNever (operator_row setup event) sent_by_operator w.operator (operator_takes from (thing_of carried setup item)))
        → (after : World) → OperatorStep setup event w after → ⊥
    operator_taking there never after step = by_taken step.taken refl where
      by_taken : (t : Option OperatorTaken) → step.taken ≡ t → ⊥
      by_taken None e = operator_takes_some after step e
      by_taken (Some t) e =
          let h = operator_head w step.without t (subst (λ (o : Option OperatorTaken). OperatorTook w o step.without) e step.took) in
          refuted setup numbers lab w is_lab me Operator is operator_takes
          (λ (o : Option OperatorTaken). operator_row setup event w.operator o step.sent step.part)
          from (taken_by_operator t).0 (taken_by_operator t).1 h.0 t (operator_from t after step e) there h.1 (operator_takes_it t)
          (subst (λ (o : Option OperatorTaken). operator_row setup event w.operator o step.sent step.part) e step.row)
          (λ item more is_first row. never item more is_first step.sent step.part row)
