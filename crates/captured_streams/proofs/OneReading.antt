-- A capture is read in one way.
use Rattle.std.proofs.Common.{◌≡◌, ℕ, ◌<◌, List, [], ◌∷◌, ◌++◌, Option, Some, None, refl, sym, ap, ◌∙◌, subst, inl, inr}
use Rattle.std.specs.Prelude.{true, count_by}
use Rattle.std.specs.List.{slice_get}
use Rattle.std.proofs.lemmas.Bool.{false≢true, cases_order}
use Rattle.tcp_seq.specs.declared.segment.Way.{Way}
use Rattle.tcp_seq.specs.declared.segment.Way.TheVariants.{Home}
use Rattle.pcap_form.specs.Blocks.{Captured}
use Rattle.tcp_packets.specs.declared.socket.Socket.{Socket}
use Rattle.captured_streams.specs.declared.directed.Peer.{Peer}
use Rattle.captured_streams.specs.declared.directed.Directed.{Directed}
use Rattle.captured_streams.specs.declared.flows.Stream.{Stream}
use Rattle.captured_streams.specs.declared.flows.Both.{Both}
use Rattle.captured_streams.specs.declared.streams.Flow.{Flow}
use Rattle.captured_streams.specs.declared.streams.Streams.{Streams}
use Rattle.captured_streams.specs.declared.stop.Hole.{Hole}
use Rattle.captured_streams.specs.Directed.{directed}
use Rattle.captured_streams.specs.Peers.{peers, peer_at, is_other}
use Rattle.captured_streams.specs.Flows.{stream_of, stream_at, set_stream, is_beyond, MayBring, BringsOn, BringsAt, AreFlows, none_begun}
use Rattle.captured_streams.specs.Readings.{IsReading, HasOctets, HasRest, IsOf, IsBeyond, IsLeft, IsHole}
use Rattle.captured_streams.proofs.SameStreams.{SameStream, SameSlot, SameAll, all_itself, all_back, same_at, beyond_same, brings_same, all_replaced}

abbrev flow : ℕ → Way → List ℕ → Flow
flow k way octets = record { peer = k; way = way; octets = octets }

-- ---- one segment

-- what is so behind a segment is so with it
module _ (s : Directed) (P Q : List Both → List Flow → Type 0) (R : Type 0)
    (behind : (a b : List Both) (fs gs : List Flow) → SameAll a b → P a fs → Q b gs → (fs ≡ gs) × R) where
  on_same : (a b : List Both) (fs gs : List Flow) (k : ℕ) (o p : Option Stream) → SameAll a b → SameSlot o p → BringsOn a s fs P k o
      → BringsOn b s gs Q k p → (fs ≡ gs) × R
  on_same a b fs gs k None None all same one other = behind a b fs gs all one other
  on_same a b fs gs k (Some x) (Some y) all same one other =
      let step = brings_same x y s.segment one.0 other.0 one.1 other.1 same one.4 other.4 in
      let rest = behind (set_stream a k s.way one.1) (set_stream b k s.way other.1) one.2 other.2
      (all_replaced a b k s.way one.1 other.1 all step.1) one.6 other.6 in (
        one.5 ∙ ap (λ (xs : List ℕ). flow k s.way xs ∷ one.2) step.0 ∙ ap (λ (more : List Flow). flow k s.way other.0 ∷ more) rest.0 ∙ sym other.5,
        rest.1,
      )
  on_same a b fs gs k None (Some y) all same one other = absurd same
  on_same a b fs gs k (Some x) None all same one other = absurd same

  pub at_same : (a b : List Both) (fs gs : List Flow) (o : Option ℕ) → SameAll a b → BringsAt a s fs P o → BringsAt b s gs Q o → (fs ≡ gs) × R
  at_same a b fs gs None all one other = behind a b fs gs all one other
  at_same a b fs gs (Some k) all one other =
      on_same a b fs gs k (stream_at (stream_of a k s.way) s.segment) (stream_at (stream_of b k s.way) s.segment) all
      (same_at (stream_of a k s.way) (stream_of b k s.way) s.segment (all.each k s.way)) one other

-- ---- all segments

same_ends : (a b end end' : List Both) → end ≡ a → end' ≡ b → SameAll a b → SameAll end end'
same_ends a b end end' e f all = subst (λ (l : List Both). SameAll l end') (sym e) (subst (SameAll a) (sym f) all)

same_flows : (known : List Peer) (segments : List Directed) (a b : List Both) (fs gs : List Flow) (end end' : List Both) → SameAll a b
    → AreFlows known a segments fs end → AreFlows known b segments gs end' → (fs ≡ gs) × SameAll end end'
same_flows known [] a b fs gs end end' all one other = (one.0 ∙ sym other.0, same_ends a b end end' one.1 other.1 all)
same_flows known (s ∷ segments) a b fs gs end end' all one other =
    at_same s (λ l more. AreFlows known l segments more end) (λ l more. AreFlows known l segments more end') (SameAll end end')
    (λ a b fs gs all one other. same_flows known segments a b fs gs end end' all one other) a b fs gs (peer_at known s) all one other

-- ---- a segment beyond its window

record Stops (known : List Peer) (all : List Both) (s : Directed) (k : ℕ) (stream : Stream) : Type 0 where
  pub at : peer_at known s ≡ Some k
  pub way : s.way ≡ Home
  pub so_far : stream_at (stream_of all k Home) s.segment ≡ Some stream
  pub beyond : is_beyond stream s.segment ≡ true

on_beyond : (s : Directed) (b : List Both) (gs : List Flow) (Q : List Both → List Flow → Type 0) (k : ℕ) (x : Stream) (p : Option Stream)
    → SameSlot (Some x) p → s.way ≡ Home → is_beyond x s.segment ≡ true → ¬ BringsOn b s gs Q k p
on_beyond s b gs Q k x None same way beyond brings = same
on_beyond s b gs Q k x (Some y) same way beyond brings =
    false≢true (sym (subst (λ (w : Way). MayBring w y s.segment) way brings.3) ∙ sym (beyond_same x y s.segment same) ∙ beyond)

-- it brings nothing
stops_there : (known : List Peer) (a b : List Both) (s : Directed) (k : ℕ) (stream : Stream) (gs : List Flow)
    (Q : List Both → List Flow → Type 0) → SameAll a b → Stops known a s k stream → ¬ BringsAt b s gs Q (peer_at known s)
stops_there known a b s k stream gs Q all stops brings =
    let same : SameSlot (stream_at (stream_of a k Home) s.segment) (stream_at (stream_of b k Home) s.segment) =
    same_at (stream_of a k Home) (stream_of b k Home) s.segment (all.each k Home) in
    on_beyond s b gs Q k stream (stream_at (stream_of b k Home) s.segment)
    (subst (λ (o : Option Stream). SameSlot o (stream_at (stream_of b k Home) s.segment)) stops.so_far same) stops.way stops.beyond
    (subst (λ (w : Way). BringsOn b s gs Q k (stream_at (stream_of b k w) s.segment)) stops.way
    (subst (λ (o : Option ℕ). BringsAt b s gs Q o) stops.at brings))

never : (known : List Peer) (before : List Directed) (s : Directed) (rest : List Directed) (a b : List Both) (fs gs : List Flow) (mid end : List Both)
    (k : ℕ) (stream : Stream) → SameAll a b → AreFlows known a before fs mid → Stops known mid s k stream
    → ¬ AreFlows known b (before ++ s ∷ rest) gs end
never known [] s rest a b fs gs mid end k stream all one stops other =
    stops_there known a b s k stream gs (λ l more. AreFlows known l rest more end) all
    (subst (λ (l : List Both). Stops known l s k stream) one.1 stops) other
never known (r ∷ before) s rest a b fs gs mid end k stream all one stops other =
    (at_same r (λ l more. AreFlows known l before more mid) (λ l more. AreFlows known l (before ++ s ∷ rest) more end) ⊥
    (λ a b fs gs all one other. absurd (never known before s rest a b fs gs mid end k stream all one stops other))
    a b fs gs (peer_at known r) all one other).1

-- two such segments, each the first one
same_stop : (known : List Peer) (a b : List Both) (s s' : Directed) (k k' : ℕ) (stream stream' : Stream) → s ≡ s' → SameAll a b
    → Stops known a s k stream → Stops known b s' k' stream' → (k ≡ k') × (stream.given ≡ stream'.given)
same_stop known a b s s' k k' stream stream' is all one other =
    let number : k ≡ k' = cc (ap (peer_at known) is, one.at, other.at) in
    let there : stream_at (stream_of b k Home) s.segment ≡ Some stream' =
    ap (λ (r : Directed). stream_at (stream_of b k Home) r.segment) is
    ∙ ap (λ (n : ℕ). stream_at (stream_of b n Home) s'.segment) number ∙ other.so_far in
    let same : SameStream stream stream' =
    subst (SameSlot (Some stream)) there
    (subst (λ (o : Option Stream). SameSlot o (stream_at (stream_of b k Home) s.segment)) one.so_far
    (same_at (stream_of a k Home) (stream_of b k Home) s.segment (all.each k Home))) in
    (number, same.given)

head_same : (s r : Directed) (xs ys : List Directed) → s ∷ xs ≡ r ∷ ys → s ≡ r
head_same s r xs ys e = cc

tail_same : (s r : Directed) (xs ys : List Directed) → s ∷ xs ≡ r ∷ ys → xs ≡ ys
tail_same s r xs ys e = cc

both_stop : (known : List Peer) (before before' : List Directed) (s s' : Directed) (rest rest' : List Directed) (a b : List Both) (fs gs : List Flow)
    (mid mid' : List Both) (k k' : ℕ) (stream stream' : Stream) → before ++ s ∷ rest ≡ before' ++ s' ∷ rest' → SameAll a b
    → AreFlows known a before fs mid → Stops known mid s k stream → AreFlows known b before' gs mid' → Stops known mid' s' k' stream'
    → (fs ≡ gs) × ((k ≡ k') × (stream.given ≡ stream'.given))
both_stop known [] [] s s' rest rest' a b fs gs mid mid' k k' stream stream' is all one stops other stops' = (
  one.0 ∙ sym other.0,
  same_stop known mid mid' s s' k k' stream stream' (head_same s s' rest rest' is) (same_ends a b mid mid' one.1 other.1 all) stops stops',
)
both_stop known [] (r ∷ before') s s' rest rest' a b fs gs mid mid' k k' stream stream' is all one stops other stops' =
    absurd (stops_there known a b r k stream gs (λ l more. AreFlows known l before' more mid') all
    (subst (λ (q : Directed). Stops known a q k stream) (head_same s r rest (before' ++ s' ∷ rest') is)
    (subst (λ (l : List Both). Stops known l s k stream) one.1 stops)) other)
both_stop known (r ∷ before) [] s s' rest rest' a b fs gs mid mid' k k' stream stream' is all one stops other stops' =
    absurd (stops_there known b a r k' stream' fs (λ l more. AreFlows known l before more mid) (all_back a b all)
    (subst (λ (q : Directed). Stops known b q k' stream') (sym (head_same r s' (before ++ s ∷ rest) rest' is))
    (subst (λ (l : List Both). Stops known l s' k' stream') other.1 stops')) one)
both_stop known (r ∷ before) (r' ∷ before') s s' rest rest' a b fs gs mid mid' k k' stream stream' is all one stops other stops' =
    let head : r ≡ r' = head_same r r' (before ++ s ∷ rest) (before' ++ s' ∷ rest') is in
    at_same r (λ l more. AreFlows known l before more mid) (λ l more. AreFlows known l before' more mid')
    ((k ≡ k') × (stream.given ≡ stream'.given))
    (λ a b fs gs all one other. both_stop known before before' s s' rest rest' a b fs gs mid mid' k k' stream stream'
    (tail_same r r' (before ++ s ∷ rest) (before' ++ s' ∷ rest') is) all one stops other stops')
    a b fs gs (peer_at known r) all one
    (subst (λ (q : Directed). BringsAt b q gs (λ l more. AreFlows known l before' more mid') (peer_at known q)) (sym head) other)

-- ---- octets that are left

rest_from : (b : List Both) (k : ℕ) (stream : Stream) (p : Option Stream) → stream_of b k Home ≡ p → SameSlot (Some stream) p
    → HasOctets stream
    → (other : Stream) × HasRest b k other × (stream.given ≡ other.given)
rest_from b k stream None e same h = absurd same
rest_from b k stream (Some y) e same h = (y, (e, (h.0, h.1, sym (same.ahead h.0) ∙ h.2)), same.given)

rest_same : (a b : List Both) (k : ℕ) (stream : Stream) → SameAll a b → HasRest a k stream
    → (other : Stream) × HasRest b k other × (stream.given ≡ other.given)
rest_same a b k stream all rest =
    rest_from b k stream (stream_of b k Home) refl
    (subst (λ (o : Option Stream). SameSlot o (stream_of b k Home)) rest.0 (all.each k Home)) rest.1

-- ---- readings and holes

abbrev hole_of : Socket → ℕ → Hole
hole_of remote octet = record { remote = remote; octet = octet }

same_hole : (known : List Peer) (k k' : ℕ) (stream stream' : Stream) (one other : Hole) → k ≡ k' → stream.given ≡ stream'.given
    → IsOf known k stream one → IsOf known k' stream' other → one ≡ other
same_hole known k k' stream stream' one other number given is is' =
    let peer : is.0 ≡ is'.0 = cc (is.1, ap (slice_get known) number, is'.1) in
    ap (λ (r : Socket). hole_of r one.octet) (is.2 ∙ ap (λ (p : Peer). p.remote) peer ∙ sym is'.2)
    ∙ ap (hole_of other.remote) (is.3 ∙ given ∙ sym is'.3)

module _ (known : List Peer) (segments : List Directed) where
  stops_of : (hole : Hole) (b : IsBeyond known segments hole) → Stops known b.all b.s b.k b.stream
  stops_of hole b = record { at = b.at; way = b.way; so_far = b.so_far; beyond = b.beyond }

  never_read : (hole : Hole) (b : IsBeyond known segments hole) (fs : List Flow) (end : List Both)
      → ¬ AreFlows known (none_begun known) segments fs end
  never_read hole b fs end are =
      never known b.before b.s b.rest (none_begun known) (none_begun known) b.flows fs b.all end b.k b.stream (all_itself (none_begun known)) b.brought
      (stops_of hole b) (subst (λ (l : List Directed). AreFlows known (none_begun known) l fs end) b.is are)

  one_beyond : (one other : Hole) → IsBeyond known segments one → IsBeyond known segments other → one ≡ other
  one_beyond one other b c =
      let same = both_stop known b.before c.before b.s c.s b.rest c.rest (none_begun known) (none_begun known) b.flows c.flows b.all c.all b.k c.k
      b.stream c.stream (sym b.is ∙ c.is) (all_itself (none_begun known)) b.brought (stops_of one b) c.brought (stops_of other c) in
      same_hole known b.k c.k b.stream c.stream one other same.1.0 same.1.1 b.of c.of

  ends_same : (fs gs : List Flow) (end end' : List Both) → AreFlows known (none_begun known) segments fs end
      → AreFlows known (none_begun known) segments gs end' → (fs ≡ gs) × SameAll end end'
  ends_same fs gs end end' one other =
      same_flows known segments (none_begun known) (none_begun known) fs gs end end' (all_itself (none_begun known)) one other

  not_first : (one other : Hole) (b : IsLeft known segments one) (c : IsLeft known segments other) → ¬ (b.k < c.k)
  not_first one other b c low =
      let r = rest_same b.end c.end b.k b.stream (ends_same b.flows c.flows b.end c.end b.brought c.brought).1 b.rest in
      c.first b.k r.0 low r.1

  one_left : (one other : Hole) → IsLeft known segments one → IsLeft known segments other → one ≡ other
  one_left one other b c =
      let number : b.k ≡ c.k = elim (cases_order b.k c.k) [
        | inl is ↦ is
        | inr ne ↦ elim ne [ inl low ↦ absurd (not_first one other b c low) | inr high ↦ absurd (not_first other one c b high) ]
      ] in
      let r = rest_same b.end c.end b.k b.stream (ends_same b.flows c.flows b.end c.end b.brought c.brought).1 b.rest in
      let stream : r.0 ≡ c.stream = cc (r.1.0, ap (λ (n : ℕ). stream_of c.end n Home) number, c.rest.0) in
      same_hole known b.k c.k b.stream c.stream one other number (r.2 ∙ ap (λ (s : Stream). s.given) stream) b.of c.of

abbrev streams_of : List Peer → List Flow → ℕ → ℕ → Streams
streams_of peers flows fragments others = record { peers = peers; flows = flows; fragments = fragments; others = others }

pub flows_of : (home : Option ℕ) (packets : List Captured) (one : Streams) (r : IsReading home packets one)
    → AreFlows (peers (directed home packets)) (none_begun (peers (directed home packets))) (directed home packets) one.flows r.end
flows_of home packets one r = subst (λ (ps : List Peer). AreFlows ps (none_begun ps) (directed home packets) one.flows r.end) r.peers_are r.flows

pub same_readings : (home : Option ℕ) (packets : List Captured) (one other : Streams) → IsReading home packets one → IsReading home packets other
    → one ≡ other
same_readings home packets one other r q =
    let all = directed home packets in
    let peers_same : one.peers ≡ other.peers = r.peers_are ∙ sym q.peers_are in
    let flows_same : one.flows ≡ other.flows =
    (ends_same (peers all) all one.flows other.flows r.end q.end (flows_of home packets one r) (flows_of home packets other q)).0 in
    let others_same : one.others ≡ other.others = r.others ∙ ap (λ (ps : List Peer). count_by (is_other ps) all) peers_same ∙ sym q.others in
    ap (λ (ps : List Peer). streams_of ps one.flows one.fragments one.others) peers_same
    ∙ ap (λ (fs : List Flow). streams_of other.peers fs one.fragments one.others) flows_same
    ∙ ap (λ (n : ℕ). streams_of other.peers other.flows n one.others) (r.fragments ∙ sym q.fragments)
    ∙ ap (streams_of other.peers other.flows other.fragments) others_same

pub no_hole : (home : Option ℕ) (packets : List Captured) (streams : Streams) (hole : Hole) → IsReading home packets streams
    → ¬ IsHole home packets hole
no_hole home packets streams hole r (inl b) =
    never_read (peers (directed home packets)) (directed home packets) hole b streams.flows r.end (flows_of home packets streams r)
no_hole home packets streams hole r (inr b) =
    let all = directed home packets in
    let left = rest_same b.end r.end b.k b.stream
    (ends_same (peers all) all b.flows streams.flows b.end r.end b.brought (flows_of home packets streams r)).1 b.rest in
    r.whole b.k left.0 left.1

pub same_holes : (home : Option ℕ) (packets : List Captured) (one other : Hole) → IsHole home packets one → IsHole home packets other → one ≡ other
same_holes home packets one other (inl b) (inl c) = one_beyond (peers (directed home packets)) (directed home packets) one other b c
same_holes home packets one other (inl b) (inr c) =
    absurd (never_read (peers (directed home packets)) (directed home packets) one b c.flows c.end c.brought)
same_holes home packets one other (inr b) (inl c) =
    absurd (never_read (peers (directed home packets)) (directed home packets) other c b.flows b.end b.brought)
same_holes home packets one other (inr b) (inr c) = one_left (peers (directed home packets)) (directed home packets) one other b c
