use Rattle.std.proofs.Common.{◌≡◌, ℕ, ◌+◌, List, ◌++◌, ◌∷◌, [], length, ap, ◌∙◌, arith}
use Rattle.std.proofs.lemmas.Slice.Zip.{Zip-more, either_empty_from_Zip}
use Rattle.std.specs.Slice.Iter.{iter_rest}
use Rattle.std.specs.Iterator.Adapters.{zip_first, zip_second}
use Rattle.evacuation.specs.Plans.{TargetList, plan_for}
use Rattle.operator_state.specs.Evacuate.{seated_from}
use Rattle.graft_edge.specs.declared.ids.PeeringId.{PeeringId}
use Rattle.operator_state.specs.declared.evacuate.Gift.{Gift}
use Rattle.operator_state.proofs.GiftLoops.{length-seated_from, gifts_left, one_more, none_left, all_gifts}
use Rattle.operator_state.proofs.evacuate.gifts_from.Goals as goal

pub overflow_cast-len : goal.overflow_cast-len
overflow_cast-len c = omega (
  arith,
  c.len.ensures,
  ap (λ (ps : List PeeringId). length ps) c.in_ok-peerings.ensures,
  length-seated_from 0 c.args.router c.args.seats.now,
  c.requires.few,
)

pub loop-peering-init : goal.loop-peering-init
loop-peering-init c = ap (λ (gifts : List Gift). gifts ++ gifts_left c.args.first c.args.router c.into_iter-peering-iterator.result) c.new-gifts.ensures

pub loop-peering-preserved : goal.loop-peering-preserved
loop-peering-preserved c = one_more c.args.first c.args.router c.loop-peering.peering-iterator c.loop-peering.gifts
    (gifts_left c.args.first c.args.router c.into_iter-peering-iterator.result) c.loop-peering.invariant
    c.next.new.self c.in-Some.peering.now c.in-Some.target.now c.push.new.self
    (Zip-more c.loop-peering.peering-iterator c.next.new.self c.next.result (c.in-Some.peering, c.in-Some.target) c.in-Some.is c.next.ensures.steps)
    (c.in_ok-push.ensures.ok
    ∙ ap (λ (n : ℕ). let gift : Gift = record {
      graft = c.args.first + n;
      peering = c.in-Some.peering.now;
      router = c.args.router;
      target = c.in-Some.target.now;
    } in c.loop-peering.gifts ++ gift ∷ []) c.from.ensures)

pub returns : goal.returns
returns c =
    let gives = c.into_iter-peering-iterator.ensures.into_iter_gives in
    let as_many : c.len.result ≡ length (seated_from 0 c.args.router c.args.seats.now) =
    c.len.ensures ∙ ap (λ (ps : List PeeringId). length ps) c.in_ok-peerings.ensures in
    let plan : ℕ → TargetList = plan_for c.args.rooms.now c.args.router.0 c.args.loads.now in
    let targets : c.in_ok-targets.targets ≡ plan c.len.result =
    c.a_plan_is_the_only_one.ensures c.args.rooms.now c.args.loads.now c.args.router.0 c.len.result c.in_ok-targets.targets
    (plan c.len.result) c.in_ok-targets.ensures.in_turn
    (c.there_is_a_plan.ensures c.args.rooms.now c.args.loads.now c.args.router.0 c.len.result) in
    none_left c.args.first c.args.router c.loop-peering.peering-iterator c.loop-peering.gifts
    (gifts_left c.args.first c.args.router c.into_iter-peering-iterator.result) c.loop-peering.invariant
    (either_empty_from_Zip c.loop-peering.peering-iterator c.next.new.self c.next.result c.in-None.is c.next.ensures.steps)
    ∙ all_gifts c.args.first c.args.router c.into_iter-peering-iterator.result c.args.seats.now c.args.loads.now c.args.rooms.now
    (ap (λ left. iter_rest (zip_first left)) gives ∙ ap iter_rest c.zip-peering-items.ensures.first
    ∙ c.iter.ensures.rest ∙ c.deref.ensures ∙ c.in_ok-peerings.ensures)
    (ap (λ left. iter_rest (zip_second left)) gives ∙ ap iter_rest c.zip-peering-items.ensures.second
    ∙ c.iter-2.ensures.rest ∙ c.deref-2.ensures ∙ targets ∙ ap plan as_many)
