-- A reading of a whole capture.
use Rattle.std.proofs.Common.{◌≡◌, ℕ, ◌<◌, List, Option, None, subst, inl, inr}
use Rattle.std.specs.Prelude.{IfNone}
use Rattle.pcap_form.specs.Blocks.{Captured}
use Rattle.captured_streams.specs.declared.directed.Peer.{Peer}
use Rattle.captured_streams.specs.declared.directed.Directed.{Directed}
use Rattle.captured_streams.specs.declared.flows.Stream.{Stream}
use Rattle.captured_streams.specs.declared.flows.Both.{Both}
use Rattle.captured_streams.specs.declared.streams.Flow.{Flow}
use Rattle.captured_streams.specs.declared.stop.Hole.{Hole}
use Rattle.captured_streams.specs.Directed.{directed}
use Rattle.captured_streams.specs.Peers.{peers}
use Rattle.captured_streams.specs.Flows.{AreFlows, none_begun}
use Rattle.captured_streams.specs.Readings.{HasRest, IsOf, IsBeyond, IsLeft, IsHole}

pub none_of : {X : Type 0} (r : Option X) (P : Type 0) → r ≡ None → IfNone r P → P
none_of r P is none = subst (λ o. IfNone o P) is none

-- the first stream that has octets behind a hole
abbrev pub IsFirstRest : List Peer → List Both → Hole → Type 0
IsFirstRest known all hole =
    (k : ℕ) × (stream : Stream) × HasRest all k stream × ((n : ℕ) (other : Stream) → n < k → ¬ HasRest all n other) × IsOf known k stream hole

module _ (home : Option ℕ) (packets : List Captured) (known : List Peer) (segments : List Directed) (known_is : known ≡ peers (directed home packets))
    (segments_is : segments ≡ directed home packets) where
  pub beyond_is_hole : (hole : Hole) → IsBeyond known segments hole → IsHole home packets hole
  beyond_is_hole hole b =
      inl (subst (λ (ps : List Peer). IsBeyond ps (directed home packets) hole) known_is
      (subst (λ (ss : List Directed). IsBeyond known ss hole) segments_is b))

  pub left_is_hole : (hole : Hole) (known' : List Peer) (flows : List Flow) (all all' : List Both) → known' ≡ known → all' ≡ all
      → AreFlows known (none_begun known) segments flows all → IsFirstRest known' all' hole → IsHole home packets hole
  left_is_hole hole known' flows all all' peers_are all_are are rest =
      let r = subst (λ (ps : List Peer). IsFirstRest ps all hole) peers_are (subst (λ (bs : List Both). IsFirstRest known' bs hole) all_are rest) in
      let left : IsLeft known segments hole = record {
        flows = flows;
        end = all;
        brought = are;
        k = r.0;
        stream = r.1;
        rest = r.2;
        first = r.3;
        of = r.4;
      } in
      inr (subst (λ (ps : List Peer). IsLeft ps (directed home packets) hole) known_is
      (subst (λ (ss : List Directed). IsLeft known ss hole) segments_is left))
