use Rattle.std.proofs.Common.{◌≡◌, ◌==◌, [], ℕ, get_or, take}
use Rattle.std.specs.Prelude.{None, is_some}
use Rattle.std.specs.List.{list_any}
use Rattle.ring_net.specs.Posts.{box_items}
use Rattle.ring_net.proofs.post.Post.begin.Given as goal

abbrev pub invariant-loop-to : goal.invariant-loop-to
invariant-loop-to g l = record {
  edges : (b : ℕ) → is_some (get_or l.boxes.items b None) ≡ list_any (λ to. to == b) (take l.to-index l.edges);
  boxes : (b : ℕ) → box_items (get_or l.boxes.items b None) ≡ [];
}
