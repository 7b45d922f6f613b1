use Rattle.std.proofs.Common.{ℕ, List, [], ◌∷◌, None, refl}
use Rattle.ring_net.specs.Deeds.{Deed, Replay, TakesNone}
use Rattle.ring_net.proofs.Replays.{all-append}
use Rattle.ring_net.proofs.PostLaws.{wrote_none, wrote_then}
use Rattle.ring_net.proofs.TakesEach.{same_edges_self, same_edges_then}
use Rattle.ring_tests.proofs.tests.ToyActor.turn.Goals as goal

any : (k : ℕ) (ds : List (Deed ℕ)) → Replay {P = Unit {0}} (λ _ _ _ _ _ _. Unit {0}) k tt ds tt
any k [] = refl
any k (d ∷ ds) = (tt, tt, any k ds)

pub loop-item-init : goal.loop-item-init
loop-item-init c = record { wrote = ([], wrote_none c.args.post.now, tt); edges = same_edges_self c.args.post.now }

pub loop-item-preserved : goal.loop-item-preserved
loop-item-preserved c =
    let before = c.loop-item.invariant.wrote in record {
      wrote = (
        _,
        wrote_then c.args.post.now c.loop-item.post c.event.new.post before.0 _ before.1 (c.in_ok-event.ensures.ok None),
        all-append TakesNone before.0 (_ ∷ []) before.2 (refl, tt),
      );
      edges = same_edges_then c.args.post.now c.loop-item.post c.event.new.post c.loop-item.invariant.edges c.event.ensures.edges;
    }

pub returns-clause-turned : goal.returns-clause-turned
returns-clause-turned c = record {
  deeds = c.loop-item.invariant.wrote.0;
  wrote = c.loop-item.invariant.wrote.1;
  none = c.loop-item.invariant.wrote.2;
  replay = any c.args.post.now.actor c.loop-item.invariant.wrote.0;
  moved = tt;
}
