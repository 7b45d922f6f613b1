use Rattle.std.proofs.Common.{◌≡◌, ◌∷◌, ◌++◌, [], Option, ◌∙◌, ap, arith}
use Rattle.graft_edge.specs.declared.ids.RouterId.{RouterId}
use Rattle.evacuation.specs.Plans.{IsLeastLoaded, IsFull, one_more_load}
use Rattle.evacuation.proofs.PlanLaws.{length-plan, KeepsRooms-plan, number_given-plan, AreAtMost-plan}
use Rattle.evacuation.proofs.Turns.{Planned-none, Planned-given, Planned-not_given, Planned-all, one_more_load-written}
use Rattle.evacuation.proofs.plan.Goals as goal
use Rattle.evacuation.proofs.plan.Goals.{in-Some, in_default}

pub loop-init : goal.loop-init
loop-init c = Planned-none _ _ _ _ _ c.in_ok-loads.ensures.items (c.from_vec-targets.ensures ∙ c.in_ok-with_capacity.ensures.items)

pub loop-preserved : goal.loop-preserved
loop-preserved c =
    let pushed = c.in_ok-push.ensures.ok in
    elim c.match-target.branch [
      | in-Some w ↦
          let r = w.in-Some.router in
          let least : IsLeastLoaded c.loop.loads.items c.args.rooms.now c.args.from.0 r.0 = rw c.deref.ensures.value at w.in-Some.ensures.least in
          let next : c.match-target.loads.items ≡ one_more_load c.loop.loads.items r.0 =
          ap (λ v. v.items) w.loads-is
          ∙ one_more_load-written c.loop.loads.items r.0 w.from.result w.index_mut.result.now w.from.ensures least.free.in_range w.index_mut.ensures.value in
          Planned-given _ _ _ _ _ _ c.loop.invariant r least _ _ next (pushed ∙ ap (λ (t : Option RouterId). c.loop.targets ++ t ∷ []) w.target-is)
      | in_default w ↦
          let full : IsFull c.loop.loads.items c.args.rooms.now c.args.from.0 = rw c.deref.ensures.value at w.in_default.ensures.full in
          Planned-not_given _ _ _ _ _ _ c.loop.invariant full _ _ (ap (λ v. v.items) w.loads-is) (pushed
          ∙ ap (λ (t : Option RouterId). c.loop.targets ++ t ∷ []) (w.target-is ∙ w.in_default.is))
    ]

pub returns-clause-in_turn : goal.returns-clause-in_turn
returns-clause-in_turn c =
    let all : c.loop.counter ≡ c.args.count = omega arith in
    rw all at (Planned-all _ _ _ _ _ _ c.loop.invariant)

pub returns-clause-room : goal.returns-clause-room
returns-clause-room c = KeepsRooms-plan _ _ _ _ _ (returns-clause-in_turn c)

pub returns-clause-number : goal.returns-clause-number
returns-clause-number c = length-plan _ _ _ _ _ (returns-clause-in_turn c)

pub returns-clause-as_many : goal.returns-clause-as_many
returns-clause-as_many c = number_given-plan _ _ _ _ _ (returns-clause-in_turn c)

pub returns-clause-least : goal.returns-clause-least
returns-clause-least c = AreAtMost-plan _ _ _ _ _ (returns-clause-in_turn c)
