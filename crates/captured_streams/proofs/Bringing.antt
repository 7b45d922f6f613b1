-- What the segments so far bring.
use Rattle.std.proofs.Common.{◌≡◌, ℕ, suc, ◌+◌, ◌<◌, List, [], ◌∷◌, ◌++◌, length, take, drop, get_or, Option, Some, None, refl, sym, ap, ◌∙◌, subst, arith}
use Rattle.std.specs.Prelude.{count_by, is_none}
use Rattle.std.proofs.Math.Seq.{drop-cons}
use Rattle.std.proofs.lemmas.List.{append-nil, take_more, take-append-drop}
use Rattle.std.proofs.lemmas.List.Sums.{count_by_more_yes, count_by_more_no}
use Rattle.std.proofs.lemmas.Option.{slice_get_within}
use Rattle.tcp_seq.specs.declared.segment.Way.{Way}
use Rattle.captured_streams.specs.declared.directed.Peer.{Peer}
use Rattle.captured_streams.specs.declared.directed.Directed.{Directed}
use Rattle.captured_streams.specs.declared.flows.Both.{Both}
use Rattle.captured_streams.specs.declared.streams.Flow.{Flow}
use Rattle.captured_streams.specs.declared.stop.Hole.{Hole}
use Rattle.captured_streams.specs.Peers.{same_peer, peer_at, is_other}
use Rattle.captured_streams.specs.Flows.{AreFlows, BringsAt, none_begun, stream_of, stream_at}
use Rattle.captured_streams.specs.Steps.{IsBeyondAt, BringsNext}
use Rattle.captured_streams.specs.Readings.{IsBeyond}
use Rattle.captured_streams.proofs.Positions.{position_found}
use Rattle.captured_streams.proofs.Numbering.{peers_same}
use Rattle.captured_streams.proofs.Flowing.{flows_more}

module _ (known : List Peer) (segments : List Directed) (i : ℕ) (s : Directed) (below : i < length segments) (at : s ≡ get_or segments i s) where
  taken : take (i + 1) segments ≡ take i segments ++ s ∷ []
  taken = take_more segments i s below ∙ ap (λ (r : Directed). take i segments ++ r ∷ []) (sym at)

  here_is : (o : Option ℕ) → peer_at known s ≡ o → is_other known (get_or segments i s) ≡ is_none o
  here_is o is = ap (is_other known) (sym at) ∙ ap (λ (q : Option ℕ). is_none q) is

  pub other_flows : (flows : List Flow) (all : List Both) → None ≡ peer_at known s → AreFlows known (none_begun known) (take i segments) flows all
      → AreFlows known (none_begun known) (take (i + 1) segments) flows all
  other_flows flows all none are =
      subst (λ (l : List Directed). AreFlows known (none_begun known) l flows all) (sym taken)
      (subst (λ (fs : List Flow). AreFlows known (none_begun known) (take i segments ++ s ∷ []) fs all) (append-nil flows)
      (flows_more known (none_begun known) (take i segments) s flows [] all all are
      (subst (λ (o : Option ℕ). BringsAt all s [] (λ end rest. (rest ≡ []) × (all ≡ end)) o) none (refl, refl))))

  pub next_flows : (k : ℕ) (flows flows' more : List Flow) (all all' : List Both) → Some k ≡ peer_at known s
      → AreFlows known (none_begun known) (take i segments) flows all → flows' ≡ flows ++ more → BringsNext all s k more all'
      → AreFlows known (none_begun known) (take (i + 1) segments) flows' all'
  next_flows k flows flows' more all all' is are joins next =
      subst (λ (l : List Directed). AreFlows known (none_begun known) l flows' all') (sym taken)
      (subst (λ (fs : List Flow). AreFlows known (none_begun known) (take i segments ++ s ∷ []) fs all') (sym joins)
      (flows_more known (none_begun known) (take i segments) s flows more all all' are
      (subst (λ (o : Option ℕ). BringsAt all s more (λ end rest. (rest ≡ []) × (all' ≡ end)) o) is next)))

  pub others_more : (n : ℕ) → None ≡ peer_at known s → n ≡ count_by (is_other known) (take i segments)
      → n + 1 ≡ count_by (is_other known) (take (i + 1) segments)
  others_more n none so_far = ap (λ (m : ℕ). m + 1) so_far ∙ sym (count_by_more_yes (is_other known) segments i s below (here_is None (sym none)))

  pub others_stay : (n k : ℕ) → Some k ≡ peer_at known s → n ≡ count_by (is_other known) (take i segments)
      → n ≡ count_by (is_other known) (take (i + 1) segments)
  others_stay n k is so_far = so_far ∙ sym (count_by_more_no (is_other known) segments i s below (here_is (Some k) (sym is)))

  split : segments ≡ take i segments ++ s ∷ drop (i + 1) segments
  split =
      let next : suc i ≡ i + 1 = omega arith in
      sym (take-append-drop i segments)
      ∙ ap (λ (xs : List Directed). take i segments ++ xs)
      (drop-cons segments i s below ∙ ap (λ (r : Directed). r ∷ drop (suc i) segments) (sym at) ∙ ap (λ (n : ℕ). s ∷ drop n segments) next)

  pub beyond_here : (flows : List Flow) (all : List Both) (k : ℕ) (hole : Hole) → AreFlows known (none_begun known) (take i segments) flows all
      → Some k ≡ peer_at known s → (hole.remote ≡ s.peer.remote) × IsBeyondAt s.way (stream_of all k s.way) s.segment hole.octet
      → IsBeyond known segments hole
  beyond_here flows all k hole are is b =
      let f = position_found (same_peer s.peer) known k (sym is) in
      let stop = b.1 in
      record {
        before = take i segments;
        s = s;
        rest = drop (i + 1) segments;
        is = split;
        flows = flows;
        all = all;
        brought = are;
        k = k;
        stream = stop.0;
        at = sym is;
        way = stop.1;
        so_far = ap (λ (w : Way). stream_at (stream_of all k w) s.segment) (sym stop.1) ∙ stop.2;
        beyond = stop.3;
        of = (f.0, f.1, b.0 ∙ ap (λ (p : Peer). p.remote) (peers_same s.peer f.0 f.2), stop.4);
      }

  pub within : (k : ℕ) → Some k ≡ peer_at known s → k < length known
  within k is =
      let f = position_found (same_peer s.peer) known k (sym is) in
      slice_get_within known k f.0 f.1
