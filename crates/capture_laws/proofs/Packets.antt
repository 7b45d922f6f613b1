-- The packets that are tapped, as they are read.
use Rattle.std.proofs.Common.{◌≡◌, ◌≢◌, ℕ, ◌+◌, ◌^◌, ◌<◌, ◌≤◌, inl, inr, Bool, true, false, List, [], ◌∷◌, length, map, Option, Some, None}
use Rattle.std.proofs.Common.{Ok, refl, sym, ap, ◌∙◌, subst, arith}
use Rattle.std.specs.Prelude.{◌==◌, ◌&&◌, ◌||◌, if◌then◌else◌, filter_map, slice_get, nat_le}
use Rattle.std.specs.List.{cons_option}
use Rattle.std.specs.Option.{option_map, option_and_then}
use Rattle.std.proofs.lemmas.Bool.{cases_eq}
use Rattle.std.proofs.lemmas.Bool.Decides.{nat_tests}
use Rattle.pcap_form.specs.declared.link.LinkType.TheVariants.{Ipv4}
use Rattle.tcp_seq.specs.Numbers.{number}
use Rattle.tcp_seq.specs.Endpoint.{PlacedSegment}
use Rattle.tcp_seq.specs.declared.segment.Segment.{Segment as Numbered}
use Rattle.tcp_seq.specs.declared.segment.Way.{Way}
use Rattle.tcp_seq.specs.declared.segment.Way.TheVariants.{Home, Remote}
use Rattle.tcp_packets.specs.declared.socket.Socket.{Socket}
use Rattle.tcp_packets.specs.Reading.{Segment, read_packet}
use Rattle.tcp_packets.specs.Writing.{IsInRange, written_packet}
use Rattle.captured_streams.specs.declared.directed.Peer.{Peer}
use Rattle.captured_streams.specs.Peers.{same_socket, same_peer}
use Rattle.captured_slices.specs.Slices.{goes_home, is_of, sent_in}
use Rattle.graft_model.specs.Setups.{Setup}
use Rattle.graft_model.specs.Parts.{World}
use Rattle.graft_model.specs.Steps.{Event, ByRouter, ByFar, ByOperator, Step, Run}
use Rattle.lab_tables.specs.declared.input.LabInput.{LabInput}
use Rattle.lab_tables.specs.declared.input.PeeringInput.{PeeringInput}
use Rattle.lab_capture.specs.Ends.{home_socket, remote_socket, numbered, packet_to}
use Rattle.lab_capture.specs.Taps.{seen_by, packet_at, tapped, tapped_along}
use Rattle.capture_laws.proofs.SentSegments.{to_home, sent_at, sent_along, SendsOr, step_sends}

-- a written packet is read as the segment that was written
abbrev pub WrittenIsRead : Type 0
WrittenIsRead = (source target : Socket) (s : Numbered) → IsInRange source → IsInRange target → s.seq.0 < 2 ^ 32 → length s.bytes ≤ 65495
    → read_packet (record { link = Ipv4; octets = written_packet source target s })
    ≡ Ok (record { source = source; target = target; opens = false; first = s.seq.0; octets = s.bytes })

-- both ends of each peering are in their ranges
pub record HasEnds (input : LabInput) : Type 0 where
  pub home : (q : ℕ) (peering : PeeringInput) → slice_get input.peerings q ≡ Some peering → IsInRange (home_socket peering)
  pub remote : (q : ℕ) (peering : PeeringInput) → slice_get input.peerings q ≡ Some peering → IsInRange (remote_socket q peering)

abbrev pub peer_in : (q : ℕ) → PeeringInput → Peer
peer_in q peering = record { home = home_socket peering; remote = remote_socket q peering }

-- what a remote's segment is read as
abbrev pub read_as : (q : ℕ) → PeeringInput → PlacedSegment → Segment
read_as q peering s = record {
  source = remote_socket q peering;
  target = home_socket peering;
  opens = false;
  first = number peering.remote_seq s.offset;
  octets = s.bytes;
}

-- what a packet's octets bring of what this peer's remote sends
abbrev pub brings : Peer → List ℕ → Option Segment
brings peer octets = sent_in None peer (read_packet (record { link = Ipv4; octets = octets }))

-- ---- one packet

pub no_port : (q : ℕ) → (49152 + q == 179) ≡ false
no_port q = grind (arith, nat_tests)

-- a segment to home is its remote's
of_home : (peer : Peer) (q : ℕ) (peering : PeeringInput) (s : PlacedSegment) → is_of None peer (read_as q peering s) ≡ same_peer (peer_in q peering) peer
of_home peer q peering s =
    ap (λ (b : Bool). (b || true) && goes_home (Some (if b then Remote else Home)) && same_peer (peer_in q peering) peer) (no_port q)

module _ (law : WrittenIsRead) (input : LabInput) (ends : HasEnds input) (peer : Peer) (q : ℕ) (peering : PeeringInput)
    (there : slice_get input.peerings q ≡ Some peering) (s : PlacedSegment) (short : length s.bytes ≤ 65495) where
  home_brings : brings peer (packet_to Home q peering s) ≡ (if same_peer (peer_in q peering) peer then Some (read_as q peering s) else None)
  home_brings =
      ap (sent_in None peer) (law (remote_socket q peering) (home_socket peering) (numbered q Home peering.remote_seq peering.home_seq s)
      (ends.remote q peering there) (ends.home q peering there) (omega arith) short)
      ∙ ap (λ (b : Bool). if b then Some (read_as q peering s) else None) (of_home peer q peering s)

  remote_brings : brings peer (packet_to Remote q peering s) ≡ None
  remote_brings =
      ap (sent_in None peer) (law (home_socket peering) (remote_socket q peering) (numbered q Remote peering.home_seq peering.remote_seq s)
      (ends.home q peering there) (ends.remote q peering there) (omega arith) short)

-- ---- which peers are the same

pub peer_itself : (p : Peer) → same_peer p p ≡ true
peer_itself p =
    let itself : (n : ℕ) → (n == n) ≡ true = λ n. grind (arith, nat_tests) in
    rw (itself p.home.address, itself p.home.port, itself p.remote.address, itself p.remote.port) refl

and_false : (a b : Bool) → b ≡ false → (a && b) ≡ false
and_false true b e = e
and_false false b e = refl

-- two remotes have two ports
other_peer : (q p : ℕ) (one other : PeeringInput) → q ≢ p → same_peer (peer_in q one) (peer_in p other) ≡ false
other_peer q p one other ne =
    let ports : (49152 + q == 49152 + p) ≡ false = grind (arith, nat_tests) in
    and_false (same_socket (home_socket one) (home_socket other)) (same_socket (remote_socket q one) (remote_socket p other))
    (and_false (one.remote_address == other.remote_address) (49152 + q == 49152 + p) ports)

-- ---- the packet of an event

module _ (law : WrittenIsRead) (input : LabInput) (ends : HasEnds input) (p : ℕ) (peering : PeeringInput) (there : slice_get input.peerings p ≡ Some peering)
  where
    abbrev own : Peer
    own = peer_in p peering

    -- what a seen segment brings
    abbrev seen_brings : (q : ℕ) → Way × PlacedSegment → Option Segment
    seen_brings q seen = option_and_then (brings own) (packet_at input q seen)

    too_long : (q : ℕ) (seen : Way × PlacedSegment) → nat_le (length seen.1.bytes) 65495 ≡ false → seen_brings q seen ≡ None
    too_long q seen long =
        ap (λ (b : Bool). option_and_then (brings own)
        (if b then option_map (λ x. packet_to seen.0 q x seen.1) (slice_get input.peerings q) else None)) long

    with_room : (q : ℕ) (seen : Way × PlacedSegment) → nat_le (length seen.1.bytes) 65495 ≡ true
        → seen_brings q seen ≡ option_and_then (brings own) (option_map (λ x. packet_to seen.0 q x seen.1) (slice_get input.peerings q))
    with_room q seen fits =
        ap (λ (b : Bool). option_and_then (brings own)
        (if b then option_map (λ x. packet_to seen.0 q x seen.1) (slice_get input.peerings q) else None)) fits

    short_of : (n : ℕ) → nat_le n 65495 ≡ true → n ≤ 65495
    short_of n fits = grind (arith, nat_tests)

    remote_seen : (q : ℕ) (s : PlacedSegment) → seen_brings q (Remote, s) ≡ None
    remote_seen q s = elim (nat_le (length s.bytes) 65495) as (λ (b : Bool). nat_le (length s.bytes) 65495 ≡ b → seen_brings q (Remote, s) ≡ None) [
      | false ↦ λ long. too_long q (Remote, s) long
      | true ↦ λ fits. with_room q (Remote, s) fits ∙ elim (slice_get input.peerings q)
          as (λ (o : Option PeeringInput). slice_get input.peerings q ≡ o → option_and_then (brings own) (option_map (λ x. packet_to Remote q x s) o) ≡ None) [
            | None ↦ λ e. refl
            | Some other ↦ λ e. remote_brings law input ends own q other e s (short_of (length s.bytes) fits)
          ] refl
    ] refl

    other_seen : (q : ℕ) (s : PlacedSegment) → q ≢ p → seen_brings q (Home, s) ≡ None
    other_seen q s ne = elim (nat_le (length s.bytes) 65495) as (λ (b : Bool). nat_le (length s.bytes) 65495 ≡ b → seen_brings q (Home, s) ≡ None) [
      | false ↦ λ long. too_long q (Home, s) long
      | true ↦ λ fits. with_room q (Home, s) fits ∙ elim (slice_get input.peerings q)
          as (λ (o : Option PeeringInput). slice_get input.peerings q ≡ o → option_and_then (brings own) (option_map (λ x. packet_to Home q x s) o) ≡ None) [
            | None ↦ λ e. refl
            | Some other ↦ λ e. home_brings law input ends own q other e s (short_of (length s.bytes) fits)
                ∙ ap (λ (b : Bool). if b then Some (read_as q other s) else None) (other_peer q p other peering ne)
          ] refl
    ] refl

    own_seen : (s : PlacedSegment) → length s.bytes ≤ 1024 → seen_brings p (Home, s) ≡ Some (read_as p peering s)
    own_seen s short =
        let fits : nat_le (length s.bytes) 65495 ≡ true = grind (arith, nat_tests) in
        with_room p (Home, s) fits
        ∙ ap (λ (o : Option PeeringInput). option_and_then (brings own) (option_map (λ x. packet_to Home p x s) o)) there
        ∙ home_brings law input ends own p peering there s (omega (arith, short))
        ∙ ap (λ (b : Bool). if b then Some (read_as p peering s) else None) (peer_itself own)

    abbrev IsShortOf : Option PlacedSegment → Type 0
    IsShortOf None = Unit {0}
    IsShortOf (Some s) = length s.bytes ≤ 1024

    seen_is : (q : ℕ) (o : Option (Way × PlacedSegment)) → IsShortOf (if q == p then to_home o else None)
        → option_and_then (seen_brings q) o ≡ option_map (read_as p peering) (if q == p then to_home o else None)
    seen_is q o short = elim (cases_eq q p) [
      | inl same ↦
          let test : (q == p) ≡ true = grind (arith, nat_tests) in
          ap (λ (n : ℕ). option_and_then (seen_brings n) o) same
          ∙ own_o o (subst (λ (b : Bool). IsShortOf (if b then to_home o else None)) test short)
          ∙ sym (ap (λ (b : Bool). option_map (read_as p peering) (if b then to_home o else None)) test)
      | inr ne ↦
          let test : (q == p) ≡ false = grind (arith, nat_tests) in
          other_o ne o ∙ sym (ap (λ (b : Bool). option_map (read_as p peering) (if b then to_home o else None)) test)
    ] where
      own_o : (o' : Option (Way × PlacedSegment)) → IsShortOf (to_home o') → option_and_then (seen_brings p) o' ≡ option_map (read_as p peering) (to_home o')
      own_o None few = refl
      own_o (Some (Home, s)) few = own_seen s few
      own_o (Some (Remote, s)) few = remote_seen p s

      other_o : q ≢ p → (o' : Option (Way × PlacedSegment)) → option_and_then (seen_brings q) o' ≡ None
      other_o ne None = refl
      other_o ne (Some (Home, s)) = other_seen q s ne
      other_o ne (Some (Remote, s)) = remote_seen q s

    then_then : (q : ℕ) (o : Option (Way × PlacedSegment))
        → option_and_then (brings own) (option_and_then (packet_at input q) o) ≡ option_and_then (seen_brings q) o
    then_then q None = refl
    then_then q (Some seen) = refl

    short_sent : (e f : _) (o : Option PlacedSegment) → SendsOr e f o → IsShortOf o
    short_sent e f None sends = tt
    short_sent e f (Some s) (inl slice) = slice.short
    short_sent e f (Some s) (inr emits) = omega (arith, ap (λ (t : PlacedSegment). length t.bytes) emits.empty)

    -- the packet of an event brings what this remote sends by it
    pub tap_brings : (setup : Setup) (event : Event) (w v : World) → Step setup event w v
        → option_and_then (brings own) (tapped input event w v) ≡ option_map (read_as p peering) (sent_at p event w v)
    tap_brings setup (ByRouter r event) w v step = refl
    tap_brings setup (ByFar q event) w v step =
        then_then q (seen_by event (w.far q) (v.far q))
        ∙ seen_is q (seen_by event (w.far q) (v.far q))
        (short_sent (w.far p).end (v.far p).end (sent_at p (ByFar q event) w v) (step_sends setup p (ByFar q event) w v step))
    tap_brings setup (ByOperator event) w v step = refl

    cons_mapped : (o : Option PlacedSegment) (rest : List PlacedSegment)
        → cons_option (option_map (read_as p peering) o) (map (read_as p peering) rest) ≡ map (read_as p peering) (cons_option o rest)
    cons_mapped None rest = refl
    cons_mapped (Some s) rest = refl

    -- and those of a run bring all that it sends
    pub taps_bring : (setup : Setup) (w : World) (events : List Event) (v : World) (run : Run setup w events v)
        → filter_map (option_and_then (brings own)) (tapped_along input setup w events v run)
        ≡ map (read_as p peering) (sent_along p setup w events v run)
    taps_bring setup w [] v run = refl
    taps_bring setup w (event ∷ events) v (u, step, run) =
        ap (λ (o : Option Segment). cons_option o (filter_map (option_and_then (brings own)) (tapped_along input setup u events v run)))
        (tap_brings setup event w u step)
        ∙ ap (cons_option (option_map (read_as p peering) (sent_at p event w u))) (taps_bring setup u events v run)
        ∙ cons_mapped (sent_at p event w u) (sent_along p setup u events v run)
