-- The segments of the packets so far.
use Rattle.std.proofs.Common.{◌≡◌, ℕ, ◌+◌, ◌^◌, ◌<◌, List, [], ◌∷◌, ◌++◌, length, take, get_or, Option, sym, ap, ◌∙◌}
use Rattle.std.specs.Prelude.{true, false, count_by, Result}
use Rattle.std.specs.List.{flat_map}
use Rattle.std.proofs.lemmas.List.{append-nil, take_more, flat_map_more}
use Rattle.std.proofs.lemmas.List.Concat.{flat_map-append}
use Rattle.std.proofs.lemmas.List.Sums.{count_by_more_yes, count_by_more_no}
use Rattle.pcap_form.specs.Blocks.{Captured}
use Rattle.tcp_packets.specs.declared.read.LeftOut.{LeftOut}
use Rattle.tcp_packets.specs.Reading.{Segment, read_packet}
use Rattle.captured_streams.specs.declared.directed.Directed.{Directed}
use Rattle.captured_streams.specs.Directed.{directed, directed_in, in_pieces, pieces}
use Rattle.captured_streams.specs.Readings.{is_left, is_fragment}

module _ (home : Option ℕ) (packets : List Captured) (i : ℕ) (p : Captured) (below : i < length packets) (at : p ≡ get_or packets i p) where
  directed_more : directed home (take (i + 1) packets) ≡ directed home (take i packets) ++ flat_map in_pieces (directed_in home (read_packet p))
  directed_more =
      let f : Captured → List Directed = λ q. directed_in home (read_packet q) in
      ap (directed home) (take_more packets i p below)
      ∙ ap (flat_map in_pieces) (sym (flat_map_more f [] (take i packets) (get_or packets i p)))
      ∙ flat_map-append in_pieces (flat_map f (take i packets)) (f (get_or packets i p))
      ∙ ap (λ (q : Captured). directed home (take i packets) ++ flat_map in_pieces (f q)) (sym at)

  pub one_more : (old new : List Directed) (r : Result Segment LeftOut) (d : Directed) → old ≡ directed home (take i packets) → r ≡ read_packet p
      → directed_in home r ≡ d ∷ [] → new ≡ old ++ pieces 16 d → new ≡ directed home (take (i + 1) packets)
  one_more old new r d so_far is one joins =
      joins ∙ ap (λ (xs : List Directed). xs ++ pieces 16 d) so_far
      ∙ ap (λ (xs : List Directed). directed home (take i packets) ++ xs)
      (sym (append-nil (pieces 16 d)) ∙ ap (flat_map in_pieces) (sym one ∙ ap (directed_in home) is))
      ∙ sym directed_more

  pub none_more : (old : List Directed) (r : Result Segment LeftOut) → old ≡ directed home (take i packets) → r ≡ read_packet p
      → directed_in home r ≡ [] → old ≡ directed home (take (i + 1) packets)
  none_more old r so_far is none =
      so_far ∙ sym (append-nil (directed home (take i packets)))
      ∙ ap (λ (xs : List Directed). directed home (take i packets) ++ flat_map in_pieces xs) (sym none ∙ ap (directed_in home) is) ∙ sym directed_more

  pub fragment_more : (n : ℕ) (r : Result Segment LeftOut) → r ≡ read_packet p → is_left r ≡ true → n ≡ count_by is_fragment (take i packets)
      → n + 1 ≡ count_by is_fragment (take (i + 1) packets)
  fragment_more n r is left so_far =
      ap (λ (m : ℕ). m + 1) so_far
      ∙ sym (count_by_more_yes is_fragment packets i p below (ap is_fragment (sym at) ∙ sym (ap is_left is) ∙ left))

  pub fragments_stay : (n : ℕ) (r : Result Segment LeftOut) → r ≡ read_packet p → is_left r ≡ false → n ≡ count_by is_fragment (take i packets)
      → n ≡ count_by is_fragment (take (i + 1) packets)
  fragments_stay n r is other so_far =
      so_far ∙ sym (count_by_more_no is_fragment packets i p below (ap is_fragment (sym at) ∙ sym (ap is_left is) ∙ other))

abbrev pub IsShort : Directed → Type 0
IsShort s = length s.segment.octets < 2 ^ 16
