-- The segments of linked endpoints have places of streams.
use Rattle.std.proofs.Common.{ℕ}
use Rattle.tcp_seq.specs.Endpoint.{Endpoint, IsInStreams}
use Rattle.tcp_seq.specs.Connection.{IsEmittedBy, AreLinked}
use Rattle.tcp_seq.proofs.Flows.{turned, emitted_in_streams}
use Rattle.graft_model.specs.Parts.{Outward, Seg, PointAt, World}
use Rattle.graft_laws.specs.Streams.{IsOutwardOf, Streams, IsPlaced, ArePlaced}
use Rattle.graft_laws.proofs.Lists.{all_map}

item_placed : (x y : Endpoint) → AreLinked x y → (item : Outward) → IsOutwardOf x item → IsPlaced item
item_placed x y linked (Seg segment) is = emitted_in_streams x y segment linked is
item_placed x y linked (PointAt graft) is = tt

pub placed_are : (w : World) (p : ℕ) (x : Endpoint) → Streams w p x → ArePlaced w p
placed_are w p x s =
    let back : AreLinked (w.far p).end x = turned x (w.far p).end s.linked in
    record {
      outward = λ r. all_map (IsOutwardOf x) IsPlaced (w.outward r p) (item_placed x (w.far p).end s.linked) (s.outward r);
      remoteward = all_map (IsEmittedBy x) IsInStreams (w.far p).remoteward (λ segment is. emitted_in_streams x (w.far p).end segment s.linked is) s.remoteward;
      inward = λ r. all_map (IsEmittedBy (w.far p).end) IsInStreams (w.inward p r)
          (λ segment is. emitted_in_streams (w.far p).end x segment back is) (s.inward r);
      homeward = all_map (IsEmittedBy (w.far p).end) IsInStreams (w.far p).homeward
          (λ segment is. emitted_in_streams (w.far p).end x segment back is) s.homeward;
    }
