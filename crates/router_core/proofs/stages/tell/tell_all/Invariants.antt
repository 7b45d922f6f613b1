use Rattle.ring_net.specs.Posts.{SameEdges}
use Rattle.router_core.specs.Tellings.{TellsFirst}
use Rattle.router_core.proofs.stages.tell.tell_all.Given as goal

-- so many routers were told all that is due to them
abbrev pub invariant-loop-q : goal.invariant-loop-q
invariant-loop-q l = TellsFirst l.q l.initial.router l.initial.post l.router l.post × SameEdges l.initial.post l.post
