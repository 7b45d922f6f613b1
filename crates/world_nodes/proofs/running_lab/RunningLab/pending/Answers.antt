use Rattle.std.proofs.Common.{◌∙◌, ℕ, List, ap, sym, subst}
use Rattle.ring_net.specs.Shown.{view}
use Rattle.ring_net.specs.Phases.{is_edge}
use Rattle.settled_check.specs.Firsts.{IsFirstOf}
use Rattle.world_nodes.specs.Looks.{IsSentOnOne}
use Rattle.world_nodes.proofs.CourseSteps.{none_pending, pending_world, size_in}
use Rattle.world_nodes.proofs.running_lab.RunningLab.pending.Goals as goal

pub returns-clause-first : goal.returns-clause-first
returns-clause-first c = λ setup w counts sound at.
    let running = c.args.self.now in
    pending_world setup (view running.net) w at.0 (size_in setup running.routers running.peerings _ counts c.requires.works.size) c.count.result
    (c.count.ensures ∙ sym c.requires.works.size)
    running.edges.items (λ a b. ap (λ edges. is_edge edges a b) running.same)
    (running.its_own setup counts).each (λ r. c.worlds_are_on_the_way.ensures.itself setup w r sound at.1)
    c.left_up_to.result c.on_its_way.result c.first_pending.result c.left_up_to.ensures
    (subst (λ (edges : List (ℕ × ℕ)). IsFirstOf (IsSentOnOne (view running.net).channel edges) c.on_its_way.result)
    c.as_slice.ensures.value c.on_its_way.ensures) c.first_pending.ensures

pub returns-clause-quiet : goal.returns-clause-quiet
returns-clause-quiet c = λ setup w counts sound at.
    none_pending setup w c.first_pending.result (c.quiet_is_found.ensures.nothing setup w
    (c.worlds_are_on_the_way.ensures.way setup w sound at.1 at.0.sees.sees.within)) (returns-clause-first c setup w counts sound at)
