-- What is tapped along a run, and how it stands in the capture.
use Rattle.std.proofs.Common.{◌≡◌, ℕ, zero, suc, ◌+◌, ◌≤◌, inl, inr, Bool, true, false, List, [], ◌∷◌, length, map, Option, Some, None}
use Rattle.std.proofs.Common.{refl, sym, ap, ◌∙◌, subst, arith, cond}
use Rattle.std.specs.Prelude.{◌==◌, ◌||◌, if◌then◌else◌, filter_map, is_some, nat_le, slice_get}
use Rattle.std.specs.List.{AllByRecursion, cons_option, enumerate_from, filter, flat_map}
use Rattle.std.specs.Option.{option_map, option_and_then}
use Rattle.std.proofs.lemmas.Bool.{cases_eq, false≢true}
use Rattle.std.proofs.lemmas.Bool.Decides.{nat_tests}
use Rattle.std.proofs.lemmas.Option.{none-some}
use Rattle.pcap_form.specs.Blocks.{Captured}
use Rattle.pcap_form.specs.Written.{AreShort, read_back}
use Rattle.pcap_form.specs.declared.link.LinkType.TheVariants.{Ipv4}
use Rattle.tcp_seq.specs.Endpoint.{PlacedSegment}
use Rattle.tcp_seq.specs.declared.segment.Segment.{Segment as Numbered}
use Rattle.tcp_seq.specs.declared.segment.Way.{Way}
use Rattle.tcp_seq.specs.declared.segment.Way.TheVariants.{Home, Remote}
use Rattle.tcp_packets.specs.declared.socket.Socket.{Socket}
use Rattle.tcp_packets.specs.Writing.{written_packet}
use Rattle.captured_streams.specs.declared.directed.Peer.{Peer}
use Rattle.captured_streams.specs.Directed.{directed_in, directed_on}
use Rattle.captured_slices.specs.Slices.{sent_by}
use Rattle.captured_slices.proofs.Types.{Directed}
use Rattle.ring_net.specs.declared.entry.JournalEntry.{JournalEntry}
use Rattle.graft_model.specs.Setups.{Setup}
use Rattle.graft_model.specs.Parts.{World}
use Rattle.graft_model.specs.Steps.{Event, ByRouter, ByFar, ByOperator, Step, Run}
use Rattle.graft_actors.specs.Actors.{FarSide, number_in}
use Rattle.graft_actors.specs.Laws.{AreEntriesOf, IsEntryOf}
use Rattle.entry_rounds.specs.Rounds.{entry_rounds}
use Rattle.lab_tables.specs.declared.input.LabInput.{LabInput}
use Rattle.lab_tables.specs.declared.input.PeeringInput.{PeeringInput}
use Rattle.lab_capture.specs.Ends.{home_socket, remote_socket, numbered, packet_to}
use Rattle.lab_capture.specs.Taps.{seen_by, packet_at, tapped, tapped_along}
use Rattle.lab_capture.specs.Captures.{timed_at, timed, AreByRound, captured}
use Rattle.lab_capture.specs.declared.timed.Timed.{Timed}
use Rattle.capture_laws.proofs.SentSegments.{to_home, sent_at, sent_along}
use Rattle.capture_laws.proofs.ByRounds.{AreOwn, IsOwn, kept_order, rounds_rise_along}
use Rattle.capture_laws.proofs.Packets.{WrittenIsRead, HasEnds, peer_in, read_as, brings, no_port, tap_brings, taps_bring}
use Rattle.capture_laws.proofs.Sessions.{IsKnownPacket}

-- ---- packets of peerings

-- The octets are the packet of a segment of a peering.
pub record IsTap (input : LabInput) (octets : List ℕ) : Type 0 where
  pub way : Way
  pub q : ℕ
  pub peering : PeeringInput
  pub s : PlacedSegment
  pub there : slice_get input.peerings q ≡ Some peering
  pub short : length s.bytes ≤ 65495
  pub is : octets ≡ packet_to way q peering s

abbrev pub IsTapIf : LabInput → Option (List ℕ) → Type 0
IsTapIf input None = Unit {0}
IsTapIf input (Some octets) = IsTap input octets

tap_at : (input : LabInput) (q : ℕ) (seen : Way × PlacedSegment) → IsTapIf input (packet_at input q seen)
tap_at input q seen = elim (nat_le (length seen.1.bytes) 65495)
    as (λ (b : Bool). nat_le (length seen.1.bytes) 65495 ≡ b
    → IsTapIf input (if b then option_map (λ x. packet_to seen.0 q x seen.1) (slice_get input.peerings q) else None)) [
      | false ↦ λ e. tt
      | true ↦ λ fits. elim (slice_get input.peerings q)
          as (λ (o : Option PeeringInput). slice_get input.peerings q ≡ o → IsTapIf input (option_map (λ x. packet_to seen.0 q x seen.1) o)) [
            | None ↦ λ e. tt
            | Some peering ↦ λ e. record {
              way = seen.0;
              q = q;
              peering = peering;
              s = seen.1;
              there = e;
              short = grind (arith, nat_tests);
              is = refl;
            }
          ] refl
    ] refl

tap_of : (input : LabInput) (event : Event) (w v : World) → IsTapIf input (tapped input event w v)
tap_of input (ByRouter r event) w v = tt
tap_of input (ByFar q event) w v = by_seen (seen_by event (w.far q) (v.far q)) where
  by_seen : (o : Option (Way × PlacedSegment)) → IsTapIf input (option_and_then (packet_at input q) o)
  by_seen None = tt
  by_seen (Some seen) = tap_at input q seen
tap_of input (ByOperator event) w v = tt

pub taps_of : (input : LabInput) (setup : Setup) (w : World) (events : List Event) (v : World) (run : Run setup w events v)
    → AllByRecursion (IsTapIf input) (tapped_along input setup w events v run)
taps_of input setup w [] v run = tt
taps_of input setup w (event ∷ events) v (u, step, run) = (tap_of input event w u, taps_of input setup u events v run)

-- ---- in the order of rounds

module _ (input : LabInput) where
  abbrev IsTimed : Timed → Type 0
  IsTimed t = IsTap input t.octets

  timed_from : (rounds : List ℕ) (n : ℕ) (taps : List (Option (List ℕ))) → AllByRecursion (IsTapIf input) taps
      → AllByRecursion IsTimed (flat_map (timed_at rounds) (enumerate_from n taps))
  timed_from rounds n [] all = tt
  timed_from rounds n (None ∷ taps) all = timed_from rounds (n + 1) taps all.1
  timed_from rounds n (Some octets ∷ taps) all = (all.0, timed_from rounds (n + 1) taps all.1)

  filter_all : (p : Timed → Bool) (ts : List Timed) → AllByRecursion IsTimed ts → AllByRecursion IsTimed (filter p ts)
  filter_all p [] all = tt
  filter_all p (t ∷ ts) all = elim (p t) as (λ (b : Bool). AllByRecursion IsTimed (cond b (t ∷ filter p ts) (filter p ts))) [
    | true ↦ (all.0, filter_all p ts all.1)
    | false ↦ filter_all p ts all.1
  ]

  from_filter : (p : Timed → Bool) (ts : List Timed) (k : ℕ) (t : Timed) → AllByRecursion IsTimed (filter p ts) → slice_get ts k ≡ Some t → p t ≡ true
      → IsTimed t
  from_filter p [] k t all at passes = absurd (none-some t at)
  from_filter p (u ∷ ts) zero t all at passes =
      let same : u ≡ t = cc at in
      let here : p u ≡ true = ap p same ∙ passes in
      subst IsTimed same (subst (λ (b : Bool). AllByRecursion IsTimed (cond b (u ∷ filter p ts) (filter p ts))) here all).0
  from_filter p (u ∷ ts) (suc k) t all at passes = from_filter p ts k t (behind (p u) all) at passes where
    behind : (b : Bool) → AllByRecursion IsTimed (cond b (u ∷ filter p ts) (filter p ts)) → AllByRecursion IsTimed (filter p ts)
    behind true known = known.1
    behind false known = known

  each_all : (ts : List Timed) → ((k : ℕ) (t : Timed) → slice_get ts k ≡ Some t → IsTimed t) → AllByRecursion IsTimed ts
  each_all [] each = tt
  each_all (t ∷ ts) each = (each 0 t refl, each_all ts (λ k u at. each (suc k) u at))

  pub by_round_all : (all packets : List Timed) → AreByRound all packets → AllByRecursion IsTimed all → AllByRecursion IsTimed packets
  by_round_all all packets by known = each_all packets (λ k t at.
      let itself : (t.round == t.round) ≡ true = grind (arith, nat_tests) in
      from_filter (λ (p : Timed). p.round == t.round) packets k t
      (subst (AllByRecursion IsTimed) (sym (by.each t.round)) (filter_all (λ (p : Timed). p.round == t.round) all known)) at itself)

  pub all_timed : (rounds : List ℕ) (taps : List (Option (List ℕ))) → AllByRecursion (IsTapIf input) taps → AllByRecursion IsTimed (timed rounds taps)
  all_timed rounds taps all = timed_from rounds 0 taps all

-- ---- as packets of a capture

written_length : (source target : Socket) (s : Numbered) → length s.bytes ≤ 65495 → length (written_packet source target s) ≤ 65535
written_length source target s short = omega (arith, short)

tap_length : (input : LabInput) (octets : List ℕ) → IsTap input octets → length octets ≤ 65535
tap_length input octets tap = by_way tap.way tap.is where
  by_way : (way : Way) → octets ≡ packet_to way tap.q tap.peering tap.s → length octets ≤ 65535
  by_way Home is =
      subst (λ (xs : List ℕ). length xs ≤ 65535) (sym is)
      (written_length (remote_socket tap.q tap.peering) (home_socket tap.peering)
      (numbered tap.q Home tap.peering.remote_seq tap.peering.home_seq tap.s) tap.short)
  by_way Remote is =
      subst (λ (xs : List ℕ). length xs ≤ 65535) (sym is)
      (written_length (home_socket tap.peering) (remote_socket tap.q tap.peering)
      (numbered tap.q Remote tap.peering.home_seq tap.peering.remote_seq tap.s) tap.short)

pub all_short : (input : LabInput) (packets : List Timed) → AllByRecursion (λ t. IsTap input t.octets) packets → AreShort (map captured packets)
all_short input [] all = tt
all_short input (t ∷ packets) all = (tap_length input t.octets all.0, all_short input packets all.1)

-- a connection of a peering
abbrev pub IsPeerIn : LabInput → Peer → Type 0
IsPeerIn input peer = (q : ℕ) × (peering : PeeringInput) × (slice_get input.peerings q ≡ Some peering) × (peer ≡ peer_in q peering)

module _ (law : WrittenIsRead) (input : LabInput) (ends : HasEnds input) where
  abbrev packet : List ℕ → Captured
  packet octets = record { link = Ipv4; octets = octets }

  tap_known : (octets : List ℕ) → IsTap input octets → IsKnownPacket (IsPeerIn input) (packet octets)
  tap_known octets tap = by_way tap.way tap.is where
    Known : List Directed → Type 0
    Known ds = AllByRecursion (λ d. d.way ≡ Home → IsPeerIn input d.peer) ds

    by_way : (way : Way) → octets ≡ packet_to way tap.q tap.peering tap.s → IsKnownPacket (IsPeerIn input) (packet octets)
    by_way Home is =
        subst (λ (xs : List ℕ). IsKnownPacket (IsPeerIn input) (packet xs)) (sym is)
        (subst (λ r. AllByRecursion (λ (d : Directed). d.way ≡ Home → IsPeerIn input d.peer) (directed_in None r))
        (sym (law (remote_socket tap.q tap.peering) (home_socket tap.peering)
        (numbered tap.q Home tap.peering.remote_seq tap.peering.home_seq tap.s) (ends.remote tap.q tap.peering tap.there)
        (ends.home tap.q tap.peering tap.there) (omega arith) tap.short))
        (subst (λ (b : Bool). AllByRecursion (λ (d : Directed). d.way ≡ Home → IsPeerIn input d.peer)
        (if b || true then directed_on (Some (if b then Remote else Home)) (read_as tap.q tap.peering tap.s) else [])) (sym (no_port tap.q))
        ((λ way_is. (tap.q, tap.peering, tap.there, refl)), tt)))
    by_way Remote is =
        subst (λ (xs : List ℕ). IsKnownPacket (IsPeerIn input) (packet xs)) (sym is)
        (subst (λ r. AllByRecursion (λ (d : Directed). d.way ≡ Home → IsPeerIn input d.peer) (directed_in None r))
        (sym (law (home_socket tap.peering) (remote_socket tap.q tap.peering)
        (numbered tap.q Remote tap.peering.home_seq tap.peering.remote_seq tap.s) (ends.home tap.q tap.peering tap.there)
        (ends.remote tap.q tap.peering tap.there) (omega arith) tap.short))
        ((λ way_is. absurd (away way_is)), tt))
      where
        away : Remote ≡ Home → ⊥
        away e = cc

  pub all_known : (packets : List Timed) → AllByRecursion (λ t. IsTap input t.octets) packets
      → AllByRecursion (IsKnownPacket (IsPeerIn input)) (read_back (map captured packets))
  all_known [] all = tt
  all_known (t ∷ packets) all = (tap_known t.octets all.0, all_known packets all.1)

  -- ---- what a remote's packets bring

  module _ (p : ℕ) (peering : PeeringInput) (there : slice_get input.peerings p ≡ Some peering) where
    abbrev own : Peer
    own = peer_in p peering

    read_packets : (packets : List Timed) → sent_by None own (read_back (map captured packets)) ≡ filter_map (λ (t : Timed). brings own t.octets) packets
    read_packets [] = refl
    read_packets (t ∷ packets) = ap (cons_option (brings own t.octets)) (read_packets packets)

    timed_brings : (rounds : List ℕ) (n : ℕ) (taps : List (Option (List ℕ)))
        → filter_map (λ (t : Timed). brings own t.octets) (flat_map (timed_at rounds) (enumerate_from n taps))
        ≡ filter_map (option_and_then (brings own)) taps
    timed_brings rounds n [] = refl
    timed_brings rounds n (None ∷ taps) = timed_brings rounds (n + 1) taps
    timed_brings rounds n (Some octets ∷ taps) = ap (cons_option (brings own octets)) (timed_brings rounds (n + 1) taps)

    abbrev passes : List ℕ → Bool
    passes octets = is_some (brings own octets)

    none_passes : (setup : Setup) (event : Event) (w v : World) (entry : JournalEntry) → Step setup event w v → sent_at p event w v ≡ None
        → IsOwn passes (number_in setup (FarSide p)) entry (tapped input event w v)
    none_passes setup event w v entry step none = by_tap (tapped input event w v) refl where
      by_tap : (o : Option (List ℕ)) → tapped input event w v ≡ o → IsOwn passes (number_in setup (FarSide p)) entry o
      by_tap None e = tt
      by_tap (Some octets) e = λ some.
          let nothing : brings own octets ≡ None =
          sym (ap (option_and_then (brings own)) e) ∙ tap_brings law input ends p peering there setup event w v step
          ∙ ap (option_map (read_as p peering)) none in
          absurd (false≢true (sym (ap is_some nothing) ∙ some))

    own_entry : (setup : Setup) (event : Event) (w v : World) (entry : JournalEntry) → Step setup event w v → IsEntryOf setup event entry
        → IsOwn passes (number_in setup (FarSide p)) entry (tapped input event w v)
    own_entry setup (ByRouter r event) w v entry step is = tt
    own_entry setup (ByOperator event) w v entry step is = tt
    own_entry setup (ByFar q event) w v entry step is = elim (cases_eq q p) [
      | inl same ↦ by_tap (tapped input (ByFar q event) w v) (is.maker ∙ ap (λ (n : ℕ). number_in setup (FarSide n)) same)
      | inr ne ↦
          let other : (q == p) ≡ false = grind (arith, nat_tests) in
          none_passes setup (ByFar q event) w v entry step (ap (λ (b : Bool). if b then to_home (seen_by event (w.far q) (v.far q)) else None) other)
    ] where
      by_tap : (o : Option (List ℕ)) → entry.actor ≡ number_in setup (FarSide p) → IsOwn passes (number_in setup (FarSide p)) entry o
      by_tap None maker = tt
      by_tap (Some octets) maker = λ some. maker

    own_entries : (setup : Setup) (w : World) (events : List Event) (v : World) (run : Run setup w events v) (journal : List JournalEntry)
        → AreEntriesOf setup events journal → AreOwn passes (number_in setup (FarSide p)) journal (tapped_along input setup w events v run)
    own_entries setup w [] v run [] are = tt
    own_entries setup w [] v run (entry ∷ journal) are = absurd are
    own_entries setup w (event ∷ events) v run [] are = absurd are
    own_entries setup w (event ∷ events) v (u, step, run) (entry ∷ journal) are =
        (own_entry setup event w u entry step are.0, own_entries setup u events v run journal are.1)

    -- what is read of a remote is what it sent, in its order
    pub sent_is : (marks : List (List ℕ)) (journal : List JournalEntry) (setup : Setup) (w : World) (events : List Event) (v : World)
        (run : Run setup w events v) → AreEntriesOf setup events journal → (packets : List Timed)
        → AreByRound (timed (entry_rounds marks journal) (tapped_along input setup w events v run)) packets
        → sent_by None own (read_back (map captured packets)) ≡ map (read_as p peering) (sent_along p setup w events v run)
    sent_is marks journal setup w events v run are packets by =
        let taps = tapped_along input setup w events v run in
        let rounds = entry_rounds marks journal in
        read_packets packets
        ∙ kept_order (λ (t : Timed). brings own t.octets) (timed rounds taps) packets by
        (rounds_rise_along passes (number_in setup (FarSide p)) marks journal taps (own_entries setup w events v run journal are))
        ∙ timed_brings rounds 0 taps ∙ taps_bring law input ends p peering there setup w events v run
