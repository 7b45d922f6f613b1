-- What the home side does keeps the streams of a peering.
use Rattle.std.proofs.Common.{◌≡◌, ℕ, List, [], ◌∷◌, ◌++◌, sym, ap, ◌∙◌, subst}
use Rattle.std.specs.List.{AllByRecursion}
use Rattle.std.proofs.lemmas.List.{append-nil}
use Rattle.tcp_seq.specs.Endpoint.{Endpoint, PlacedSegment}
use Rattle.tcp_seq.specs.Connection.{IsEmittedBy, AreLinked, StaysLinked}
use Rattle.graft_model.specs.Parts.{FarPart, Outward, World}
use Rattle.graft_laws.specs.Life.{SameLine, LineGets, LineGives, LineSays}
use Rattle.graft_laws.specs.Phases.{only_at}
use Rattle.graft_laws.specs.Streams.{IsOutwardOf, Streams}
use Rattle.graft_laws.proofs.Lists.{all_map, all_join}
use Rattle.graft_laws.proofs.Segments.{all_is, all_left, all_only, outward_still}

-- the same endpoint, linked as it is
pub unmoved : (x y : Endpoint) → AreLinked x y → StaysLinked x x y
unmoved x y linked = record { linked = linked; still = λ segment is. is }

-- the far side stays, and the home endpoint becomes one that is linked with it
module _ (w v : World) (p : ℕ) (x x' : Endpoint)
    (s : Streams w p x)
    (stays : StaysLinked x x' (w.far p).end)
    (far : v.far p ≡ w.far p) where
  still_out : (xs : List Outward) → AllByRecursion (IsOutwardOf x) xs → AllByRecursion (IsOutwardOf x') xs
  still_out xs all = all_map (IsOutwardOf x) (IsOutwardOf x') xs (outward_still x x' stays.still) all

  pub home_acts : (more : ℕ → List Outward) → ((r : ℕ) → v.outward r p ≡ w.outward r p ++ more r) → ((r : ℕ) → AllByRecursion (IsOutwardOf x') (more r))
      → ((r : ℕ) → AllByRecursion (IsEmittedBy (w.far p).end) (v.inward p r)) → Streams v p x'
  home_acts more outward all inward = record {
    linked = subst (λ (f : FarPart). AreLinked x' f.end) (sym far) stays.linked;
    outward = λ r. all_is (IsOutwardOf x') (w.outward r p ++ more r) (v.outward r p) (outward r)
        (all_join (IsOutwardOf x') (w.outward r p) (more r) (still_out (w.outward r p) (s.outward r)) (all r));
    remoteward = subst (λ (f : FarPart). AllByRecursion (IsEmittedBy x') f.remoteward) (sym far)
        (all_map (IsEmittedBy x) (IsEmittedBy x') (w.far p).remoteward stays.still s.remoteward);
    inward = λ r. subst (λ (f : FarPart). AllByRecursion (IsEmittedBy f.end) (v.inward p r)) (sym far) (inward r);
    homeward = subst (λ (f : FarPart). AllByRecursion (IsEmittedBy f.end) f.homeward) (sym far) s.homeward;
  }

-- nothing goes out or comes in
pub same_line : (w v : World) (p : ℕ) (x x' : Endpoint) → SameLine p w v → StaysLinked x x' (w.far p).end → Streams w p x → Streams v p x'
same_line w v p x x' line stays s =
    home_acts w v p x x' s stays line.far (λ r. []) (λ r. line.outward r ∙ sym (append-nil (w.outward r p))) (λ r. tt)
    (λ r. all_is (IsEmittedBy (w.far p).end) (w.inward p r) (v.inward p r) (line.inward r) (s.inward r))

-- an item goes out
pub line_gets : (w v : World) (p r : ℕ) (item : Outward) (x x' : Endpoint) → LineGets p r item w v → StaysLinked x x' (w.far p).end
    → IsOutwardOf x' item → Streams w p x → Streams v p x'
line_gets w v p r item x x' line stays is s =
    home_acts w v p x x' s stays line.far (λ n. only_at r item n) line.outward (λ n. all_only (IsOutwardOf x') r n item is)
    (λ n. all_is (IsEmittedBy (w.far p).end) (w.inward p n) (v.inward p n) (line.inward n) (s.inward n))

-- a segment comes in
pub line_gives : (w v : World) (p r : ℕ) (segment : PlacedSegment) (x x' : Endpoint) → LineGives p r segment w v → StaysLinked x x' (w.far p).end
    → Streams w p x → Streams v p x'
line_gives w v p r segment x x' line stays s =
    home_acts w v p x x' s stays line.far (λ n. []) (λ n. line.outward n ∙ sym (append-nil (w.outward n p))) (λ n. tt)
    (λ n. all_left (IsEmittedBy (w.far p).end) (only_at r segment n) (v.inward p n) (w.inward p n) (line.inward n) (s.inward n))

-- what comes in is the remote's
pub comes_in : (w v : World) (p r : ℕ) (segment : PlacedSegment) (x : Endpoint) → LineGives p r segment w v → Streams w p x → IsEmittedBy (w.far p).end segment
comes_in w v p r segment x line s =
    let head : (segment ∷ []) ++ v.inward p r ≡ w.inward p r =
    ap (λ (xs : List PlacedSegment). xs ++ v.inward p r) (sym (Rattle.graft_laws.proofs.Segments.only_here r segment)) ∙ line.inward r in
    (all_is (IsEmittedBy (w.far p).end) (w.inward p r) (segment ∷ v.inward p r) head (s.inward r)).0

-- a step is to be said
pub line_says : (w v : World) (p step : ℕ) (x : Endpoint) → LineSays p step w v → Streams w p x → Streams v p x
line_says w v p step x line s =
    home_acts w v p x x s (unmoved x (w.far p).end s.linked) line.far (λ r. []) (λ r. line.outward r ∙ sym (append-nil (w.outward r p))) (λ r. tt)
    (λ r. all_is (IsEmittedBy (w.far p).end) (w.inward p r) (v.inward p r) (line.inward r) (s.inward r))
