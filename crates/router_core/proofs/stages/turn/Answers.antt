use Rattle.std.proofs.Common.{rules, ◌≡◌, ◌∙◌, ℕ, ◌+◌, ap}
use Rattle.std.proofs.lemmas.Result.{on_ok_weaker}
use Rattle.ring_net.proofs.TakesEach.{same_edges_then}
use Rattle.router_core.specs.declared.fields.Fields.{Fields}
use Rattle.router_core.proofs.EachPlace.{begins_all, confirms_all, emits_all, sends_again}
use Rattle.router_core.proofs.RoundSteps.{passes_all}
use Rattle.router_core.proofs.Standing.{keeps_turns}
use Rattle.router_core.proofs.TurnSteps.{turns_once}
use Rattle.router_core.proofs.stages.turn.Goals as goal

pub visit_all-requires-clause-keeps : goal.visit_all-requires-clause-keeps
visit_all-requires-clause-keeps c = keeps_turns c.args.router.now c.in-Some.turns c.requires

pub visit_all-requires-2-clause-keeps : goal.visit_all-requires-2-clause-keeps
visit_all-requires-2-clause-keeps c = c.in_ok-visit_all.ensures.visited.keeps

pub visit_all-requires-3-clause-keeps : goal.visit_all-requires-3-clause-keeps
visit_all-requires-3-clause-keeps c = c.in_ok-visit_all-2.ensures.visited.keeps

pub decide_all-requires : goal.decide_all-requires
decide_all-requires c = c.in_ok-visit_all-3.ensures.visited.keeps

pub tell_all-requires-clause-keeps : goal.tell_all-requires-clause-keeps
tell_all-requires-clause-keeps c = c.in_ok-decide_all.ensures.done.keeps

pub tell_all-requires-clause-clean : goal.tell_all-requires-clause-clean
tell_all-requires-clause-clean c = c.in_ok-decide_all.ensures.done.clean

pub visit_all-requires-4-clause-keeps : goal.visit_all-requires-4-clause-keeps
visit_all-requires-4-clause-keeps c = c.in_ok-tell_all.ensures.done.keeps

pub visit_all-requires-4-clause-needs : goal.visit_all-requires-4-clause-needs
visit_all-requires-4-clause-needs c = record {
  clean = ap (λ (f : Fields). f.rib.dirty) c.in_ok-tell_all.ensures.done.same ∙ c.in_ok-decide_all.ensures.done.clean;
  told = c.in_ok-tell_all.ensures.done.told;
}

pub put_all-requires-clause-keeps : goal.put_all-requires-clause-keeps
put_all-requires-clause-keeps c = c.in_ok-visit_all-4.ensures.visited.keeps

pub put_all-requires-clause-clean : goal.put_all-requires-clause-clean
put_all-requires-clause-clean c = ap (λ (f : Fields). f.rib.dirty) (c.in_ok-visit_all-4.ensures.visited.same
    ∙ ap (λ (f : Fields). let g : Fields = record f { places = c.visit_all-4.new.router.places } in g) c.in_ok-tell_all.ensures.done.same)
    ∙ c.in_ok-decide_all.ensures.done.clean

pub visit_all-requires-5-clause-keeps : goal.visit_all-requires-5-clause-keeps
visit_all-requires-5-clause-keeps c = c.in_ok-put_all.ensures.done.keeps

pub returns-in_err-visit_all-2-clause-edges : goal.returns-in_err-visit_all-2-clause-edges
returns-in_err-visit_all-2-clause-edges c = same_edges_then _ _ _ c.visit_all.ensures.edges c.visit_all-2.ensures.edges

pub returns-in_err-visit_all-3-clause-edges : goal.returns-in_err-visit_all-3-clause-edges
returns-in_err-visit_all-3-clause-edges c =
    same_edges_then _ _ _ c.visit_all.ensures.edges (same_edges_then _ _ _ c.visit_all-2.ensures.edges c.visit_all-3.ensures.edges)

pub returns-in_err-decide_all-clause-edges : goal.returns-in_err-decide_all-clause-edges
returns-in_err-decide_all-clause-edges c = same_edges_then _ _ _ c.visit_all.ensures.edges
    (same_edges_then _ _ _ c.visit_all-2.ensures.edges (same_edges_then _ _ _ c.visit_all-3.ensures.edges c.decide_all.ensures.edges))

pub returns-in_err-tell_all-clause-edges : goal.returns-in_err-tell_all-clause-edges
returns-in_err-tell_all-clause-edges c = same_edges_then _ _ _ c.visit_all.ensures.edges (same_edges_then _ _ _ c.visit_all-2.ensures.edges
    (same_edges_then _ _ _ c.visit_all-3.ensures.edges (same_edges_then _ _ _ c.decide_all.ensures.edges c.tell_all.ensures.edges)))

pub returns-in_err-visit_all-4-clause-edges : goal.returns-in_err-visit_all-4-clause-edges
returns-in_err-visit_all-4-clause-edges c = same_edges_then _ _ _ c.visit_all.ensures.edges (same_edges_then _ _ _ c.visit_all-2.ensures.edges
    (same_edges_then _ _ _ c.visit_all-3.ensures.edges
    (same_edges_then _ _ _ c.decide_all.ensures.edges (same_edges_then _ _ _ c.tell_all.ensures.edges c.visit_all-4.ensures.edges))))

pub returns-in_err-put_all-clause-edges : goal.returns-in_err-put_all-clause-edges
returns-in_err-put_all-clause-edges c = same_edges_then _ _ _ c.visit_all.ensures.edges
    (same_edges_then _ _ _ c.visit_all-2.ensures.edges (same_edges_then _ _ _ c.visit_all-3.ensures.edges
    (same_edges_then _ _ _ c.decide_all.ensures.edges
    (same_edges_then _ _ _ c.tell_all.ensures.edges (same_edges_then _ _ _ c.visit_all-4.ensures.edges c.put_all.ensures.edges)))))

pub returns-clause-edges : goal.returns-clause-edges
returns-clause-edges c = same_edges_then _ _ _ c.visit_all.ensures.edges
    (same_edges_then _ _ _ c.visit_all-2.ensures.edges (same_edges_then _ _ _ c.visit_all-3.ensures.edges
    (same_edges_then _ _ _ c.decide_all.ensures.edges (same_edges_then _ _ _ c.tell_all.ensures.edges
    (same_edges_then _ _ _ c.visit_all-4.ensures.edges (same_edges_then _ _ _ c.put_all.ensures.edges c.visit_all-5.ensures.edges))))))

pub returns-clause-turned : goal.returns-clause-turned
returns-clause-turned c =
    let counted : c.in-Some.turns ≡ c.args.router.now.turns + 1 = search rules in
    on_ok_weaker c.visit_all-5.result
    (λ emits. turns_once c.args.router.now (record c.args.router.now { turns = c.in-Some.turns }) c.visit_all.new.router c.visit_all-2.new.router
    c.visit_all-3.new.router c.decide_all.new.router c.tell_all.new.router c.visit_all-4.new.router c.put_all.new.router c.visit_all-5.new.router
    c.args.post.now c.visit_all.new.post c.visit_all-2.new.post c.visit_all-3.new.post c.decide_all.new.post
    c.tell_all.new.post c.visit_all-4.new.post c.put_all.new.post c.visit_all-5.new.post
    (ap (λ (n : ℕ). let f : Fields = record c.args.router.now { turns = n } in f) counted)
    (sends_again _ _ _ _ c.in_ok-visit_all.ensures.visited) (passes_all _ _ _ _ c.in_ok-visit_all-2.ensures.visited)
    (begins_all _ _ _ _ c.in_ok-visit_all-3.ensures.visited) c.in_ok-decide_all.ensures.done c.in_ok-tell_all.ensures.done
    (confirms_all _ _ _ _ c.in_ok-visit_all-4.ensures.visited) c.in_ok-put_all.ensures.done (emits_all _ _ _ _ emits)) c.visit_all-5.ensures.visited
