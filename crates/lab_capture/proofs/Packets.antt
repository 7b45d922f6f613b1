-- The packet of a segment of the program is that of the segment which it stands for.
use Rattle.std.proofs.Common.{◌≡◌, ℕ, ◌<◌, ◌≤◌, ◌^◌, Bool, true, false, List, length, cond, refl, sym, ap, ◌∙◌, arith}
use Rattle.std.specs.Prelude.{Option, Some, None, slice_get, option_map, unwrap_or, nat_le}
use Rattle.std.proofs.lemmas.Bool.Decides.{nat_tests}
use Rattle.tcp_seq.specs.Numbers.{number}
use Rattle.tcp_seq.specs.Endpoint.{PlacedSegment}
use Rattle.tcp_seq.specs.Placed.{placed}
use Rattle.tcp_seq.specs.declared.segment.Segment.{Segment}
use Rattle.tcp_seq.specs.declared.segment.Way.{Way}
use Rattle.tcp_seq.specs.declared.segment.Way.TheVariants.{Home, Remote}
use Rattle.tcp_packets.specs.Writing.{written_packet}
use Rattle.graft_model.specs.Setups.{PeeringSetup}
use Rattle.graft_actors.specs.Items.{home_first, remote_first, placed_for, segment_of}
use Rattle.lab_tables.specs.declared.input.LabInput.{LabInput}
use Rattle.lab_tables.specs.declared.input.PeeringInput.{PeeringInput}
use Rattle.lab_setup.specs.Setups.{setup_of, peering_setup}
use Rattle.lab_setup.proofs.Setups.{peering_there}
use Rattle.lab_capture.specs.Ends.{packet_to, sockets, home_socket, remote_socket}
use Rattle.lab_capture.specs.Tapping.{packet_of}

-- a segment's numbers are those of the offsets at which it is placed
abbrev pub HasItsOffsets : Type 0
HasItsOffsets = (seq_first ack_first : ℕ) (g : Segment) → seq_first < 2 ^ 32 → ack_first < 2 ^ 32 → g.seq.0 < 2 ^ 32 → g.ack.0 < 2 ^ 32
    → (g.seq.0 ≡ number seq_first (placed seq_first ack_first g).offset) × (g.ack.0 ≡ number ack_first (placed seq_first ack_first g).ack)

pub numbers_kept : HasItsOffsets → (way : Way) (peering : PeeringInput) (g : Segment) → peering.home_seq < 2 ^ 32 → peering.remote_seq < 2 ^ 32
    → g.seq.0 < 2 ^ 32 → g.ack.0 < 2 ^ 32
    → written_packet (sockets way g.peering.0 peering).0 (sockets way g.peering.0 peering).1 g
    ≡ packet_to way g.peering.0 peering (placed_for way peering.home_seq peering.remote_seq g)
numbers_kept law Home peering g home remote seq ack =
    let kept = law peering.remote_seq peering.home_seq g remote home seq ack in λ i. written_packet (remote_socket g.peering.0 peering) (home_socket peering)
    (record g { way = Home; seq = record { 0 = kept.0 i }; ack = record { 0 = kept.1 i }; window = 16384 })
numbers_kept law Remote peering g home remote seq ack =
    let kept = law peering.home_seq peering.remote_seq g home remote seq ack in λ i. written_packet (home_socket peering) (remote_socket g.peering.0 peering)
    (record g { way = Remote; seq = record { 0 = kept.0 i }; ack = record { 0 = kept.1 i }; window = 16384 })

module _ (input : LabInput) (g : Segment) where
  bytes_kept : (way : Way) (home remote : ℕ) → (placed_for way home remote g).bytes ≡ g.bytes
  bytes_kept Home home remote = refl
  bytes_kept Remote home remote = refl

  -- as many octets as the segment has
  size : length (segment_of (setup_of input) g).bytes ≡ length g.bytes
  size = ap (λ (bytes : List ℕ). length bytes)
      (bytes_kept g.way (home_first (setup_of input) g.peering.0) (remote_first (setup_of input) g.peering.0))

  module _ (peering : PeeringInput) (there : slice_get input.peerings g.peering.0 ≡ Some peering) where
    in_setup : slice_get (setup_of input).peerings g.peering.0 ≡ Some (peering_setup input (g.peering.0, peering))
    in_setup = peering_there input g.peering.0 peering there

    home_is : home_first (setup_of input) g.peering.0 ≡ peering.home_seq
    home_is = ap (λ (o : Option PeeringSetup). unwrap_or (option_map (λ config. config.send_first.0) (option_map (λ x. x.config) o)) 0) in_setup

    remote_is : remote_first (setup_of input) g.peering.0 ≡ peering.remote_seq
    remote_is = ap (λ (o : Option PeeringSetup). unwrap_or (option_map (λ config. config.receive_first.0) (option_map (λ x. x.config) o)) 0) in_setup

    placed_is : segment_of (setup_of input) g ≡ placed_for g.way peering.home_seq peering.remote_seq g
    placed_is = λ i. placed_for g.way (home_is i) (remote_is i) g

    pub with_room : length g.bytes ≤ 65495
        → Some (packet_to g.way g.peering.0 peering (placed_for g.way peering.home_seq peering.remote_seq g)) ≡ packet_of input g
    with_room fits =
        ap (λ (s : PlacedSegment). Some (packet_to g.way g.peering.0 peering s)) (sym placed_is)
        ∙ by_test (nat_le (length (segment_of (setup_of input) g).bytes) 65495) refl
      where
        by_test : (t : Bool) → nat_le (length (segment_of (setup_of input) g).bytes) 65495 ≡ t
            → Some (packet_to g.way g.peering.0 peering (segment_of (setup_of input) g))
            ≡ cond t (option_map (λ x. packet_to g.way g.peering.0 x (segment_of (setup_of input) g)) (slice_get input.peerings g.peering.0)) None
        by_test false e = absurd (grind (arith, nat_tests, size))
        by_test true e = sym (ap (λ (o : Option PeeringInput). option_map (λ x. packet_to g.way g.peering.0 x (segment_of (setup_of input) g)) o) there)

  -- a peering that isn't there has no packets
  pub without_peering : slice_get input.peerings g.peering.0 ≡ None → None ≡ packet_of input g
  without_peering none = by_test (nat_le (length (segment_of (setup_of input) g).bytes) 65495) where
    by_test : (t : Bool)
        → None ≡ cond t (option_map (λ x. packet_to g.way g.peering.0 x (segment_of (setup_of input) g)) (slice_get input.peerings g.peering.0)) None
    by_test false = refl
    by_test true = sym (ap (λ (o : Option PeeringInput). option_map (λ x. packet_to g.way g.peering.0 x (segment_of (setup_of input) g)) o) none)
