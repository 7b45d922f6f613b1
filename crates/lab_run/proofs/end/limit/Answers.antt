use Rattle.std.proofs.Common.{ℕ, Option, subst}
use Rattle.graft_edge.specs.declared.ids.PeeringId.{PeeringId}
use Rattle.world_nodes.specs.Looks.{IsLowest, IsStuckIn, as_numbers}
use Rattle.lab_run.proofs.Counts.{same_total}
use Rattle.lab_run.proofs.end.limit.Goals as goal

pub returns-in-Some : goal.returns-in-Some
returns-in-Some c = λ setup w budget d has at total. record {
  whole = c.in-Some.length;
  lowest = subst (λ (o : Option (PeeringId × ℕ)). IsLowest (IsStuckIn setup w) (as_numbers o)) c.in-Some.is (c.in_ok-peering.ensures.lowest setup w has at);
  length_is = c.short.ensures;
}

pub returns-in-None : goal.returns-in-None
returns-in-None c = λ setup w budget d has at total. c.full.ensures setup w budget d
    (subst (λ (o : Option (PeeringId × ℕ)). IsLowest (IsStuckIn setup w) (as_numbers o)) c.in-None.is (c.in_ok-peering.ensures.lowest setup w has at))
    (same_total _ d.events c.events.result total c.events.ensures)
