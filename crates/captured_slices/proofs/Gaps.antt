-- Where no segment leaves a gap there is no hole.
use Rattle.std.proofs.Common.{◌≡◌, ℕ, ◌+◌, ◌-◌, ◌^◌, ◌<◌, ◌≤◌, ◌⊎◌, inl, inr, max, ltb, Bool, true, false, List, [], ◌∷◌, ◌++◌, length}
use Rattle.std.proofs.Common.{Option, Some, None, get_or, refl, sym, ap, ◌∙◌, subst, arith}
use Rattle.std.specs.Prelude.{◌&&◌, ◌==◌, not, if◌then◌else◌}
use Rattle.std.specs.List.{AllByRecursion, cons_option, flat_map, position, slice_get}
use Rattle.std.proofs.Math.ListN.{length-set}
use Rattle.std.proofs.lemmas.Bool.{cases_eq, cases_lt, false≢true}
use Rattle.std.proofs.lemmas.Bool.Decides.{nat_tests}
use Rattle.std.proofs.lemmas.List.{append-nil, length-map}
use Rattle.std.proofs.lemmas.Option.{none-some, slice_get_within}
use Rattle.pcap_form.specs.Blocks.{Captured}
use Rattle.tcp_seq.specs.Numbers.{number, offset_from}
use Rattle.tcp_seq.specs.declared.segment.Way.{Way}
use Rattle.tcp_seq.specs.declared.segment.Way.TheVariants.{Home, Remote}
use Rattle.tcp_reasm.specs.Reassembly.{byte_ahead}
use Rattle.tcp_end.proofs.Offsets.{ahead_offset, behind_offset}
use Rattle.tcp_packets.specs.Reading.{Segment, read_packet}
use Rattle.captured_streams.specs.declared.directed.Peer.{Peer}
use Rattle.captured_streams.specs.declared.stop.Hole.{Hole}
use Rattle.captured_streams.specs.declared.streams.Flow.{Flow}
use Rattle.captured_streams.specs.Directed.{peer_of, whole_segments, in_pieces, directed}
use Rattle.captured_streams.specs.Peers.{is_home, same_peer, peer_at, peers}
use Rattle.captured_streams.specs.Flows.{begins, stream_at, stream_of, set_stream, with_stream, is_beyond, Brings, BringsAt, BringsOn, AreFlows, none_begun}
use Rattle.captured_streams.specs.Readings.{HasRest, IsHole}
use Rattle.captured_streams.proofs.Cutting.{one_piece}
use Rattle.captured_streams.proofs.Positions.{position_found, position_none}
use Rattle.captured_slices.specs.Slices.{sent_by, IsSliceAt, GoOn, HaveNoGap, HaveNoGaps}
use Rattle.captured_slices.proofs.Types.{Directed, Both, Stream}
use Rattle.captured_slices.proofs.Slicing.{IsOfStream, Has, of_stream_still, has_brought}
use Rattle.captured_slices.proofs.Remaining.{fresh, begun_if, begin_of, not_begun}
use Rattle.captured_slices.proofs.Distinct.{AreDistinct, peers_distinct}
use Rattle.captured_slices.proofs.Joining.{neither, set_here, set_away, home_away, IsLike, like_pieces, directed_as, has_or_none, not_own, own_is, none_yet}

-- A stream has given all that was said up to an end, and nothing is ahead.
abbrev IsAt : (first : ℕ) → (said : List ℕ) → (end : ℕ) → Option Stream → Type 0
IsAt first said end None = end ≡ 0
IsAt first said end (Some stream) = IsOfStream first said end stream × (stream.given ≡ end)

wider : (first : ℕ) (said : List ℕ) (low high : ℕ) (stream : Stream) → low ≤ high → IsOfStream first said low stream → IsOfStream first said high stream
wider first said low high stream le of = record {
  given = omega (arith, of.given, le);
  next = of.next;
  ahead = λ j octet is. let h = of.ahead j octet is in (omega (arith, h.0, le), h.1);
}

-- ---- one segment

module _ (first : ℕ) (said : List ℕ) (end : ℕ) (first_fits : first < 2 ^ 32) (said_fits : length said ≤ 2 ^ 20) (fits : end ≤ length said) (s : Segment)
    (offset : ℕ) (slice : IsSliceAt first said offset s) (from : offset ≤ end) where
  begun_at : (slot : Option Stream) (before : Stream) → IsAt first said end slot → stream_at slot s ≡ Some before → IsAt first said end (Some before)
  begun_at (Some stream) before at is =
      let same : stream ≡ before = cc is in
      subst (λ (st : Stream). IsAt first said end (Some st)) same at
  begun_at None before at is = elim (begins s)
      as (λ (b : Bool). begun_if b s ≡ Some before → IsAt first said end (Some before)) [
        | true ↦ λ e.
            let same : fresh s ≡ before = cc e in
            let none : offset ≡ 0 = omega (arith, from, at) in
            let starts : s.first ≡ first = slice.number_is ∙ ap (number first) none ∙ (let z : number first 0 ≡ first = omega (arith, first_fits) in z) in
            let of = begin_of first said 0 s first_fits starts in
            subst (λ (st : Stream). IsAt first said end (Some st)) same (wider first said 0 end (fresh s) (omega arith) of, sym at)
        | false ↦ λ e. absurd (none-some before e)
      ] is

  -- it isn't beyond the window
  not_beyond : (before : Stream) → IsAt first said end (Some before) → is_beyond before s ≡ false
  not_beyond before at =
      let far = ap (λ (n : ℕ). offset_from n before.rest.next) slice.number_is ∙ ap (offset_from (number first offset)) at.0.next in
      elim (cases_lt offset before.given) [
        | inl behind ↦
            let d : offset_from s.first before.rest.next ≡ 2 ^ 32 - (before.given - offset) =
            far ∙ behind_offset first before.given offset behind (omega (arith, at.1, fits, said_fits)) in
            let high : ltb (offset_from s.first before.rest.next) (2 ^ 31) ≡ false = far_off (offset_from s.first before.rest.next)
            (omega (arith, d, at.1, fits, said_fits, behind)) in
            no_far (not (length s.octets == 0)) (ltb 16384 (offset_from s.first before.rest.next + length s.octets))
            (ltb (offset_from s.first before.rest.next) (2 ^ 31)) high
        | inr ahead ↦
            let d : offset_from s.first before.rest.next ≡ offset - before.given =
            far ∙ ahead_offset first before.given offset ahead (omega (arith, slice.within, said_fits)) in
            let low : ltb 16384 (offset_from s.first before.rest.next + length s.octets) ≡ false =
            not_past (offset_from s.first before.rest.next + length s.octets) (omega (arith, d, from, at.1, slice.short)) in
            no_past (not (length s.octets == 0)) (ltb (offset_from s.first before.rest.next) (2 ^ 31))
            (ltb 16384 (offset_from s.first before.rest.next + length s.octets)) low
      ]
    where
      far_off : (n : ℕ) → 2 ^ 31 ≤ n → ltb n (2 ^ 31) ≡ false
      far_off n high = grind (arith, nat_tests)

      not_past : (n : ℕ) → n ≤ 16384 → ltb 16384 n ≡ false
      not_past n low = grind (arith, nat_tests)

      no_far : (a c b : Bool) → b ≡ false → (a && b && c) ≡ false
      no_far true c b e = ap (λ (x : Bool). x && c) e
      no_far false c b e = refl

      no_past : (a b c : Bool) → c ≡ false → (a && b && c) ≡ false
      no_past true true c e = e
      no_past true false c e = refl
      no_past false b c e = refl

  module _ (before : Stream) (at : IsAt first said end (Some before)) (octets : List ℕ) (after : Stream) (brings : Brings before s octets after) where
    reach_fits : max end (offset + length s.octets) ≤ length said
    reach_fits = omega (arith, fits, slice.within)

    of_before : IsOfStream first said (max end (offset + length s.octets)) before
    of_before = wider first said end (max end (offset + length s.octets)) before (omega arith) at.0

    of_after : IsOfStream first said (max end (offset + length s.octets)) after
    of_after = of_stream_still first said (max end (offset + length s.octets)) said_fits reach_fits before s offset of_before slice (omega arith) octets
        after brings

    -- the octet behind what is given would stand ahead
    nothing_left : after.given < max end (offset + length s.octets) → ⊥
    nothing_left less =
        let here = has_brought first said (max end (offset + length s.octets)) said_fits reach_fits before s offset of_before slice (omega arith) octets after
        brings (not_beyond before at) after.given (omega (arith, from, at.1, brings.given)) (omega (arith, less, at.1, brings.given)) in
        by_case here
      where
        by_case : Has after after.given → ⊥
        by_case (inl low) = omega (arith, low)
        by_case (inr (j, octet, is, there)) =
            let none : byte_ahead after.rest 0 ≡ None =
            brings.takes.ahead 0 ∙ ap (byte_ahead brings.between) (let z : length octets + 0 ≡ length octets = omega arith in z) ∙ brings.takes.ends in
            let first_one : j ≡ 0 = omega (arith, is) in
            none-some octet (sym none ∙ ap (byte_ahead after.rest) (sym first_one) ∙ there)

    at_after : IsAt first said (max end (offset + length s.octets)) (Some after)
    at_after = (
      of_after,
      elim (cases_lt after.given (max end (offset + length s.octets))) [
        | inl less ↦ absurd (nothing_left less)
        | inr high ↦ omega (arith, high, of_after.given)
      ],
    )

  -- a segment with which its stream hasn't begun
  at_none : (slot : Option Stream) → IsAt first said end slot → stream_at slot s ≡ None → IsAt first said (max end (offset + length s.octets)) slot
  at_none (Some stream) at none = absurd (none-some stream (sym none))
  at_none None at none =
      let empty : length s.octets ≡ 0 = ap (λ (xs : List ℕ). length xs) (not_begun None s none) in
      omega (arith, at, from, empty)

-- ---- all that is directed

module _ (known : List Peer) (k first : ℕ) (said : List ℕ) (first_fits : first < 2 ^ 32) (said_fits : length said ≤ 2 ^ 20) where
  abbrev IsOwn : Directed → Type 0
  IsOwn d = (d.way ≡ Home) × (peer_at known d ≡ Some k)

  abbrev IsNext : Directed → (end next : ℕ) → Type 0
  IsNext d end next =
      (IsOwn d × ((offset : ℕ) × IsSliceAt first said offset d.segment × (offset ≤ end) × (next ≡ max end (offset + length d.segment.octets))))
      ⊎ ((IsOwn d → ⊥) × (next ≡ end))

  abbrev Goes : (end : ℕ) → List Directed → Type 0
  Goes end [] = Unit {0}
  Goes end (d ∷ rest) = (next : ℕ) × IsNext d end next × Goes next rest

  -- how far it has come
  record Comes (all : List Both) (rest : List Directed) : Type 0 where
    end : ℕ
    fits : end ≤ length said
    at : IsAt first said end (stream_of all k Home)
    goes : Goes end rest

  within : (all : List Both) → length all ≡ length known → (d : Directed) (n : ℕ) → peer_at known d ≡ Some n → n < length all
  within all same_length d n at =
      let f = position_found (same_peer d.peer) known n at in
      omega (arith, slice_get_within known n f.0 f.1, same_length)

  next_fits : (d : Directed) (end next : ℕ) → end ≤ length said → IsNext d end next → next ≤ length said
  next_fits d end next fits (inl (own, (offset, slice, from, is))) = omega (arith, fits, slice.within, is)
  next_fits d end next fits (inr (other, is)) = omega (arith, fits, is)

  -- the stream behind a segment
  at_other : (d : Directed) (end next : ℕ) (all : List Both) → end ≤ length said → IsNext d end next → IsAt first said end (stream_of all k Home)
      → peer_at known d ≡ None → IsAt first said next (stream_of all k Home)
  at_other d end next all fits (inl (own, more)) at none = absurd (none-some k (sym none ∙ own.1))
  at_other d end next all fits (inr (other, is)) at none = subst (λ (m : ℕ). IsAt first said m (stream_of all k Home)) (sym is) at

  at_silent : (d : Directed) (end next : ℕ) (all : List Both) → end ≤ length said → IsNext d end next → IsAt first said end (stream_of all k Home)
      → (n : ℕ) → peer_at known d ≡ Some n → stream_at (stream_of all n d.way) d.segment ≡ None → IsAt first said next (stream_of all k Home)
  at_silent d end next all fits (inl (own, (offset, slice, from, is))) at n number none =
      let same : n ≡ k = cc (number, own.1) in
      let here : stream_at (stream_of all k Home) d.segment ≡ None =
      ap (λ (o : Option Stream). stream_at o d.segment)
      (ap (λ (w : Way). stream_of all k w) (sym own.0) ∙ ap (λ (j : ℕ). stream_of all j d.way) (sym same)) ∙ none in
      subst (λ (m : ℕ). IsAt first said m (stream_of all k Home)) (sym is)
      (at_none first said end first_fits said_fits fits d.segment offset slice from (stream_of all k Home) at here)
  at_silent d end next all fits (inr (other, is)) at n number none = subst (λ (m : ℕ). IsAt first said m (stream_of all k Home)) (sym is) at

  at_brought : (d : Directed) (end next : ℕ) (all : List Both) → length all ≡ length known → end ≤ length said → IsNext d end next
      → IsAt first said end (stream_of all k Home) → (n : ℕ) → peer_at known d ≡ Some n → (before after : Stream) (octets : List ℕ)
      → stream_at (stream_of all n d.way) d.segment ≡ Some before → Brings before d.segment octets after
      → IsAt first said next (stream_of (set_stream all n d.way after) k Home)
  at_brought d end next all same_length fits (inl (own, (offset, slice, from, is))) at n number before after octets begun brings =
      let same : n ≡ k = cc (number, own.1) in
      let here : stream_at (stream_of all k Home) d.segment ≡ Some before =
      ap (λ (o : Option Stream). stream_at o d.segment)
      (ap (λ (w : Way). stream_of all k w) (sym own.0) ∙ ap (λ (j : ℕ). stream_of all j d.way) (sym same)) ∙ begun in
      let begin = begun_at first said end first_fits said_fits fits d.segment offset slice from (stream_of all k Home) before at here in
      let ends = at_after first said end first_fits said_fits fits d.segment offset slice from before begin octets after brings in
      let set : stream_of (set_stream all n d.way after) k Home ≡ Some after =
      ap (λ (w : Way). stream_of (set_stream all n w after) k Home) own.0 ∙ ap (λ (j : ℕ). stream_of (set_stream all j Home after) k Home) same
      ∙ set_here all k after (within all same_length d k own.1) in
      subst (IsAt first said next) (sym set) (subst (λ (m : ℕ). IsAt first said m (Some after)) (sym is) ends)
  at_brought d end next all same_length fits (inr (other, is)) at n number before after octets begun brings =
      let away : d.way ≡ Home → n ≡ k → ⊥ = λ way_is same. other (way_is, number ∙ ap (λ (j : ℕ). Some j) same) in
      subst (IsAt first said next) (sym (set_away all n k d.way (within all same_length d n number) after away))
      (subst (λ (m : ℕ). IsAt first said m (stream_of all k Home)) (sym is) at)

  walk : (front rest : List Directed) (all : List Both) (flows : List Flow) (all' : List Both) (end : ℕ) → length all ≡ length known → end ≤ length said
      → Goes end (front ++ rest) → IsAt first said end (stream_of all k Home) → AreFlows known all front flows all' → Comes all' rest
  walk [] rest all flows all' end same_length fits goes at are =
      subst (λ (bs : List Both). Comes bs rest) (sym are.1) (record { end = end; fits = fits; at = at; goes = goes })
  walk (d ∷ front) rest all flows all' end same_length fits (next, step, goes) at are =
      by_number d (walk front rest) all flows all' end next same_length fits step goes at (peer_at known d) refl are
    where
      Walks : List Directed → List Directed → Type 0
      Walks front' rest' = (bs : List Both) (fs : List Flow) (bs' : List Both) (e : ℕ) → length bs ≡ length known → e ≤ length said
          → Goes e (front' ++ rest') → IsAt first said e (stream_of bs k Home) → AreFlows known bs front' fs bs' → Comes bs' rest'

      by_slot : (d' : Directed) → Walks front rest → (bs : List Both) (fs : List Flow) (bs' : List Both) (e n' : ℕ) → length bs ≡ length known
          → e ≤ length said → IsNext d' e n' → Goes n' (front ++ rest) → IsAt first said e (stream_of bs k Home) → (n : ℕ) → peer_at known d' ≡ Some n
          → (o : Option Stream) → stream_at (stream_of bs n d'.way) d'.segment ≡ o
          → BringsOn bs d' fs (λ after more. AreFlows known after front more bs') n o → Comes bs' rest
      by_slot d' go bs fs bs' e n' size low one more now n number None begun are' =
          go bs fs bs' n' size (next_fits d' e n' low one) more (at_silent d' e n' bs low one now n number begun) are'
      by_slot d' go bs fs bs' e n' size low one more now n number (Some before) begun (octets, after, others, may, brings, flows_is, are') =
          go (set_stream bs n d'.way after) others bs' n' (length-set bs n (with_stream d'.way after (get_or bs n neither)) ∙ size)
          (next_fits d' e n' low one) more (at_brought d' e n' bs size low one now n number before after octets begun brings) are'

      by_number : (d' : Directed) → Walks front rest → (bs : List Both) (fs : List Flow) (bs' : List Both) (e n' : ℕ) → length bs ≡ length known
          → e ≤ length said → IsNext d' e n' → Goes n' (front ++ rest) → IsAt first said e (stream_of bs k Home) → (o : Option ℕ) → peer_at known d' ≡ o
          → BringsAt bs d' fs (λ after more. AreFlows known after front more bs') o → Comes bs' rest
      by_number d' go bs fs bs' e n' size low one more now None none are' =
          go bs fs bs' n' size (next_fits d' e n' low one) more (at_other d' e n' bs low one now none) are'
      by_number d' go bs fs bs' e n' size low one more now (Some n) number are' =
          by_slot d' go bs fs bs' e n' size low one more now n number (stream_at (stream_of bs n d'.way) d'.segment) refl are'

  -- ---- no hole

  not_left : (segments : List Directed) (flows : List Flow) (end : List Both) → Goes 0 segments → AreFlows known (none_begun known) segments flows end
      → (stream : Stream) → HasRest end k stream → ⊥
  not_left segments flows end goes are stream rest =
      let comes = walk segments [] (none_begun known) flows end 0 (length-map known (λ (p : Peer). neither)) (omega arith)
      (subst (Goes 0) (sym (append-nil segments)) goes) (subst (IsAt first said 0) (sym (none_yet known k)) refl) are in
      let here : IsAt first said comes.end (Some stream) = subst (IsAt first said comes.end) rest.0 comes.at in
      let ahead = here.0.ahead rest.1.0 rest.1.1 rest.1.2 in
      omega (arith, ahead.0, here.1)

  never_beyond : (front : List Directed) (d : Directed) (rest : List Directed) (flows : List Flow) (all : List Both) → Goes 0 (front ++ d ∷ rest)
      → AreFlows known (none_begun known) front flows all → peer_at known d ≡ Some k → d.way ≡ Home → (stream : Stream)
      → stream_at (stream_of all k Home) d.segment ≡ Some stream → is_beyond stream d.segment ≡ true → ⊥
  never_beyond front d rest flows all goes are number way_is stream begun beyond =
      let comes = walk front (d ∷ rest) (none_begun known) flows all 0 (length-map known (λ (p : Peer). neither)) (omega arith) goes
      (subst (IsAt first said 0) (sym (none_yet known k)) refl) are in
      by_next comes.end comes.fits comes.at comes.goes.1
    where
      by_next : (e : ℕ) → e ≤ length said → IsAt first said e (stream_of all k Home) → {n : ℕ} → IsNext d e n → ⊥
      by_next e low at (inl (own, (offset, slice, from, is))) =
          let begin = begun_at first said e first_fits said_fits low d.segment offset slice from (stream_of all k Home) stream at begun in
          false≢true (sym (not_beyond first said e first_fits said_fits low d.segment offset slice from stream begin) ∙ beyond)
      by_next e low at (inr (other, is)) = other (way_is, number)

-- ---- from packets

module _ (home : Option ℕ) (known : List Peer) (k : ℕ) (peer : Peer) (distinct : AreDistinct known) (there : slice_get known k ≡ Some peer) (first : ℕ)
    (said : List ℕ) (first_fits : first < 2 ^ 32) (said_fits : length said ≤ 2 ^ 20) where
  abbrev GoesOn : ℕ → List Directed → Type 0
  GoesOn end ds = Goes known k first said first_fits said_fits end ds

  others_go : (s : Directed) → ((d : Directed) → IsLike s d → d.way ≡ Home → peer_at known d ≡ Some k → ⊥) → (ds rest : List Directed) (end : ℕ)
      → AllByRecursion (IsLike s) ds → GoesOn end rest → GoesOn end (ds ++ rest)
  others_go s other [] rest end like goes = goes
  others_go s other (d ∷ ds) rest end like goes = (end, inr ((λ own. other d like.0 own.0 own.1), refl), others_go s other ds rest end like.1 goes)

  abbrev GoIf : (found : List Directed) → Option Segment → (rest : List Captured) → (end : ℕ) → Type 0
  GoIf found sent rest end =
      GoOn first said end (cons_option sent (sent_by home peer rest)) → GoesOn end (flat_map in_pieces (found ++ whole_segments home rest))

  module _ (rest : List Captured) (behind : (end : ℕ) → GoOn first said end (sent_by home peer rest) → GoesOn end (directed home rest)) (s : Segment)
      (end : ℕ) where
    remote_goes : GoIf (directed_as Remote s ∷ []) None rest end
    remote_goes goes =
        others_go (directed_as Remote s) (λ d like way_is number. home_away (sym way_is ∙ like.1)) (in_pieces (directed_as Remote s)) (directed home rest)
        end (like_pieces 16 (directed_as Remote s)) (behind end goes)

    unlike_goes : (peer_at known (directed_as Home s) ≡ Some k → ⊥) → GoIf (directed_as Home s ∷ []) None rest end
    unlike_goes ne goes =
        others_go (directed_as Home s) (λ d like way_is number. ne (ap (λ (p : Peer). position (same_peer p) known) (sym like.0) ∙ number))
        (in_pieces (directed_as Home s)) (directed home rest) end (like_pieces 16 (directed_as Home s)) (behind end goes)

    own_goes : peer_at known (directed_as Home s) ≡ Some k → GoIf (directed_as Home s ∷ []) (Some s) rest end
    own_goes number (offset, slice, from, goes) =
        subst (λ (ds : List Directed). GoesOn end (ds ++ directed home rest)) (one_piece 16 (directed_as Home s) slice.short)
        (max end (offset + length s.octets), inl ((refl, number), (offset, slice, from, refl)), behind (max end (offset + length s.octets)) goes)

    home_goes : (o : Option ℕ) → peer_at known (directed_as Home s) ≡ o
        → GoIf (directed_as Home s ∷ []) (if same_peer (peer_of Home s) peer then Some s else None) rest end
    home_goes None none =
        subst (λ (b : Bool). GoIf (directed_as Home s ∷ []) (if b then Some s else None) rest end)
        (sym (position_none (same_peer (peer_of Home s)) known none k peer there)) (unlike_goes (λ is. none-some k (sym none ∙ is)))
    home_goes (Some n) number = elim (cases_eq n k) [
      | inr ne ↦
          subst (λ (b : Bool). GoIf (directed_as Home s ∷ []) (if b then Some s else None) rest end)
          (sym (not_own known k peer distinct there s n number ne))
          (unlike_goes (λ is. ne (let same : n ≡ k = cc (number, is) in same)))
      | inl same ↦
          let own = subst (λ (j : ℕ). peer_at known (directed_as Home s) ≡ Some j) same number in
          subst (λ (b : Bool). GoIf (directed_as Home s ∷ []) (if b then Some s else None) rest end)
          (sym (own_is known k peer distinct there s own)) (own_goes own)
    ]

    way_goes : (way : Way) → GoIf (directed_as way s ∷ []) (if is_home way && same_peer (peer_of Home s) peer then Some s else None) rest end
    way_goes Home = home_goes (peer_at known (directed_as Home s)) refl
    way_goes Remote = remote_goes

  all_go : (packets : List Captured) (end : ℕ) → GoOn first said end (sent_by home peer packets) → GoesOn end (directed home packets)
  all_go [] end goes = tt
  all_go (packet ∷ rest) end goes = elim (has_or_none home peer (read_packet packet)) [
    | inl h ↦
        subst (λ (ds : List Directed). GoesOn end (flat_map in_pieces (ds ++ whole_segments home rest))) (sym h.found_is)
        (all_go rest end (subst (λ (o : Option Segment). GoOn first said end (cons_option o (sent_by home peer rest))) h.sent_is goes))
    | inr h ↦
        subst (λ (ds : List Directed). GoesOn end (flat_map in_pieces (ds ++ whole_segments home rest))) (sym h.found_is)
        (way_goes rest (all_go rest) h.s end h.way
        (subst (λ (o : Option Segment). GoOn first said end (cons_option o (sent_by home peer rest))) h.sent_is goes))
  ]

-- ---- the whole

module _ (home : Option ℕ) (packets : List Captured) (no_gaps : HaveNoGaps home packets) where
  abbrev sessions : List Peer
  sessions = peers (directed home packets)

  session_goes : (k : ℕ) (peer : Peer) → slice_get sessions k ≡ Some peer → (gap : HaveNoGap (sent_by home peer packets))
      → Goes sessions k gap.first gap.said gap.first_fits gap.said_fits 0 (directed home packets)
  session_goes k peer there gap =
      all_go home sessions k peer (peers_distinct (directed home packets)) there gap.first gap.said gap.first_fits gap.said_fits packets 0 gap.go_on

  hole_nowhere : (hole : Hole) → IsHole home packets hole → ⊥
  hole_nowhere hole (inl b) =
      let f = position_found (same_peer b.s.peer) sessions b.k b.at in
      let gap = no_gaps b.k f.0 f.1 in
      never_beyond sessions b.k gap.first gap.said gap.first_fits gap.said_fits b.before b.s b.rest b.flows b.all
      (subst (Goes sessions b.k gap.first gap.said gap.first_fits gap.said_fits 0) b.is (session_goes b.k f.0 f.1 gap)) b.brought b.at b.way b.stream
      b.so_far b.beyond
  hole_nowhere hole (inr l) =
      let gap = no_gaps l.k l.of.0 l.of.1 in
      not_left sessions l.k gap.first gap.said gap.first_fits gap.said_fits (directed home packets) l.flows l.end
      (session_goes l.k l.of.0 l.of.1 gap) l.brought l.stream l.rest

pub no_hole : (home : Option ℕ) (packets : List Captured) (hole : Hole) → HaveNoGaps home packets → ¬ IsHole home packets hole
no_hole home packets hole no_gaps = hole_nowhere home packets no_gaps hole
