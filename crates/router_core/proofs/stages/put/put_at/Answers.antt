use Rattle.std.proofs.Common.{◌≡◌, ℕ, List, Some, Bool, false, refl, sym, subst}
use Rattle.std.specs.Prelude.{reverse, MatchBool}
use Rattle.std.specs.List.{All}
use Rattle.std.proofs.lemmas.List.Elements.{All-pop}
use Rattle.std.proofs.lemmas.Result.{on_ok_weaker}
use Rattle.ring_net.proofs.TakesEach.{same_edges_self, same_edges_then}
use Rattle.bgp_types.specs.Prefixes.{IsPrefix}
use Rattle.update_plan.specs.Plans.{IsWritableFor}
use Rattle.update_plan.specs.declared.batch.Batch.{Batch}
use Rattle.router_core.specs.Parts.{router_part}
use Rattle.router_core.specs.Places.{place_at}
use Rattle.router_core.specs.Putting.{PlannedAt, PutOrDone, PutsAt}
use Rattle.router_core.specs.declared.fields.Fields.{Fields}
use Rattle.router_core.proofs.PutPlaces.{next_at, reversed_pop, some_first, some_then, unwritable_then, puts_done, puts_then}
use Rattle.router_core.proofs.stages.put.put_at.Goals as goal
use Rattle.router_core.proofs.stages.put.put_at.Goals.{then-not-is_writable-via-then-not-is_writable}
use Rattle.router_core.proofs.stages.put.put_at.Goals.{then-not-is_writable-via-else-not-is_writable+in_ok-put_one+then-not-branch}

abbrev Planned : Fields → ℕ → List Batch → Type 0
Planned f n batches = PlannedAt f.known.setup f.number.0 (router_part f) n (place_at f.places.places n) batches

when_false : (P Q : Type 0) (b : Bool) → b ≡ false → MatchBool b P Q → Q
when_false P Q b e h = subst (λ (t : Bool). MatchBool t P Q) e h

pub loop-batch-init : goal.loop-batch-init
loop-batch-init c = record {
  edges = same_edges_self c.args.post.now;
  some = some_first c.args.n c.args.router.now c.args.post.now c.requires.keeps;
  planned = c.in_ok-batches.ensures.planned;
  sound = c.in_ok-batches.ensures.sound;
}

pub put_one-requires-clause-sound : goal.put_one-requires-clause-sound
put_one-requires-clause-sound c = (All-pop (λ (b : Batch). All IsPrefix b.prefixes) c.loop-batch.batches.items c.pop.new.self.items
    (Some c.in-Some.batch) c.in-Some.ensures.items c.loop-batch.invariant.sound).1

pub returns-then-not-is_writable-clause-puts : goal.returns-then-not-is_writable-clause-puts
returns-then-not-is_writable-clause-puts c =
    let f = c.loop-batch.router in
    let n = c.args.n in
    let plan = subst (λ (l : List Batch). Planned f n l)
    (reversed_pop c.loop-batch.batches.items c.pop.new.self.items c.in-Some.batch c.in-Some.ensures.items) c.loop-batch.invariant.planned in
    let next = next_at f n (place_at f.places.places n) c.in-Some.batch (reverse c.pop.new.self.items) c.loop-batch.invariant.some.keeps refl plan in
    elim c.then-not-is_writable.branch [
      | then-not-is_writable-via-then-not-is_writable w ↦
          subst (λ (g : Fields). PutsAt n c.args.router.now c.args.post.now g c.then-not-is_writable.post) (sym w.router-is)
          (subst (λ q. PutsAt n c.args.router.now c.args.post.now f q) (sym w.post-is)
          (puts_done n c.args.router.now f c.args.post.now c.loop-batch.post c.loop-batch.invariant.some
          (unwritable_then f n (place_at f.places.places n) c.in-Some.batch next
          (when_false (IsWritableFor c.in-Some.batch) (¬ IsWritableFor c.in-Some.batch) c.is_writable.result w.if-not-is_writable.true c.is_writable.ensures))))
      | then-not-is_writable-via-else-not-is_writable+in_ok-put_one+then-not-branch w ↦
          subst (λ (g : Fields). PutsAt n c.args.router.now c.args.post.now g c.then-not-is_writable.post) (sym w.router-is)
          (subst (λ q. PutsAt n c.args.router.now c.args.post.now w.put_one.new.router q) (sym w.post-is)
          (puts_then n c.args.router.now f w.put_one.new.router c.args.post.now c.loop-batch.post w.put_one.new.post c.loop-batch.invariant.some
          (record {
            some = w.in_ok-put_one.ensures.some;
            done = subst (λ (b : Bool). PutOrDone b n c.in-Some.batch f w.put_one.new.router) w.if-not-branch.true w.in_ok-put_one.ensures.put;
          })))
    ]

pub loop-batch-preserved : goal.loop-batch-preserved
loop-batch-preserved c =
    let f = c.loop-batch.router in
    let n = c.args.n in
    let plan = subst (λ (l : List Batch). Planned f n l)
    (reversed_pop c.loop-batch.batches.items c.pop.new.self.items c.in-Some.batch c.in-Some.ensures.items) c.loop-batch.invariant.planned in
    let put = subst (λ (b : Bool). PutOrDone b n c.in-Some.batch f c.put_one.new.router) c.if-not-branch.false c.in_ok-put_one.ensures.put in
    record {
      edges = same_edges_then c.args.post.now c.loop-batch.post c.put_one.new.post c.loop-batch.invariant.edges c.put_one.ensures.edges;
      some = some_then n c.args.router.now f c.put_one.new.router c.args.post.now c.loop-batch.post
          c.put_one.new.post c.loop-batch.invariant.some c.in_ok-put_one.ensures.some;
      planned = put.rest (reverse c.pop.new.self.items) plan;
      sound = (All-pop (λ (b : Batch). All IsPrefix b.prefixes) c.loop-batch.batches.items c.pop.new.self.items
          (Some c.in-Some.batch) c.in-Some.ensures.items c.loop-batch.invariant.sound).0;
    }

pub returns-clause-puts : goal.returns-clause-puts
returns-clause-puts c = on_ok_weaker c.put_nothing.result
    (λ puts. puts_then c.args.n c.args.router.now c.loop-batch.router c.put_nothing.new.router c.args.post.now
    c.loop-batch.post c.put_nothing.new.post c.loop-batch.invariant.some puts) c.put_nothing.ensures.puts
