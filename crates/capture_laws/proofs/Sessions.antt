-- The sessions that are read: those of the remotes that say something.
use Rattle.std.proofs.Common.{◌≡◌, ◌≢◌, ℕ, zero, suc, ◌≤◌, inl, inr, Bool, true, false, List, [], ◌∷◌, ◌++◌, length, Option, Some, None}
use Rattle.std.proofs.Common.{refl, sym, ap, ◌∙◌, subst, arith}
use Rattle.std.specs.Prelude.{◌==◌, ◌&&◌, ◌||◌, not, if◌then◌else◌, fold, slice_get}
use Rattle.std.specs.List.{AllByRecursion, cons_option, flat_map, list_any}
use Rattle.std.proofs.lemmas.Bool.{false≢true}
use Rattle.std.proofs.lemmas.Bool.Decides.{nat_tests}
use Rattle.std.proofs.lemmas.Option.{none-some}
use Rattle.std.proofs.lemmas.List.Folds.{list_any-append}
use Rattle.std.proofs.lemmas.Grind.{flat_map-append}
use Rattle.pcap_form.specs.Blocks.{Captured}
use Rattle.tcp_seq.specs.declared.segment.Way.{Way}
use Rattle.tcp_seq.specs.declared.segment.Way.TheVariants.{Home, Remote}
use Rattle.tcp_packets.specs.Reading.{Segment, read_packet}
use Rattle.captured_streams.specs.declared.directed.Peer.{Peer}
use Rattle.captured_streams.specs.Directed.{peer_of, directed_in, whole_segments, in_pieces, directed}
use Rattle.captured_streams.specs.Peers.{is_home, same_remote, same_peer, says, with_peer, peers}
use Rattle.captured_streams.proofs.Positions.{any_found}
use Rattle.captured_streams.proofs.Numbering.{peers_same}
use Rattle.captured_streams.proofs.Cutting.{one_piece}
use Rattle.captured_slices.specs.Slices.{sent_in, sent_by}
use Rattle.captured_slices.proofs.Types.{Directed}
use Rattle.captured_slices.proofs.Joining.{IsLike, like_pieces, directed_as, has_or_none}

-- ---- all of a list

all_joined : {A : Type 0} (P : A → Type 0) (xs ys : List A) → AllByRecursion P xs → AllByRecursion P ys → AllByRecursion P (xs ++ ys)
all_joined P [] ys all more = more
all_joined P (x ∷ xs) ys all more = (all.0, all_joined P xs ys all.1 more)

all_flat : {A B : Type 0} (f : A → List B) (P : A → Type 0) (Q : B → Type 0) → ((x : A) → P x → AllByRecursion Q (f x)) → (xs : List A)
    → AllByRecursion P xs → AllByRecursion Q (flat_map f xs)
all_flat f P Q each [] all = tt
all_flat f P Q each (x ∷ xs) all = all_joined Q (f x) (flat_map f xs) (each x all.0) (all_flat f P Q each xs all.1)

all_mapped : {A : Type 0} (P Q : A → Type 0) → ((x : A) → P x → Q x) → (xs : List A) → AllByRecursion P xs → AllByRecursion Q xs
all_mapped P Q each [] all = tt
all_mapped P Q each (x ∷ xs) all = (each x all.0, all_mapped P Q each xs all.1)

pub all_here : {A : Type 0} (P : A → Type 0) (xs : List A) (k : ℕ) (x : A) → AllByRecursion P xs → slice_get xs k ≡ Some x → P x
all_here P [] k x all at = absurd (none-some x at)
all_here P (y ∷ xs) zero x all at =
    let same : y ≡ x = cc at in
    subst P same all.0
all_here P (y ∷ xs) (suc k) x all at = all_here P xs k x all.1 at

-- what `with_peer` is where something is said or isn't
abbrev joins_if : Bool → List Peer → Directed → List Peer
joins_if b known d = if b then (if list_any (same_remote d.peer) known then known else known ++ d.peer ∷ []) else known

-- ---- each session is that of a known connection

module _ (IsKnown : Peer → Type 0) where
  abbrev pub IsKnownHome : Directed → Type 0
  IsKnownHome d = d.way ≡ Home → IsKnown d.peer

  abbrev pub IsKnownPacket : Captured → Type 0
  IsKnownPacket packet = AllByRecursion IsKnownHome (directed_in None (read_packet packet))

  in_pieces_known : (d : Directed) → IsKnownHome d → AllByRecursion IsKnownHome (in_pieces d)
  in_pieces_known d known =
      all_mapped (IsLike d) IsKnownHome (λ e like way_is. subst IsKnown (sym like.0) (known (sym like.1 ∙ way_is))) (in_pieces d) (like_pieces 16 d)

  directed_known : (packets : List Captured) → AllByRecursion IsKnownPacket packets → AllByRecursion IsKnownHome (directed None packets)
  directed_known packets all =
      all_flat in_pieces IsKnownHome IsKnownHome in_pieces_known (whole_segments None packets)
      (all_flat (λ packet. directed_in None (read_packet packet)) IsKnownPacket IsKnownHome (λ packet known. known) packets all)

  home_if : (d : Directed) → says d ≡ true → d.way ≡ Home
  home_if d says_it = by_way d.way refl says_it where
    by_way : (way : Way) → d.way ≡ way → (is_home way && not (length d.segment.octets == 0)) ≡ true → d.way ≡ Home
    by_way Home is e = is
    by_way Remote is e = absurd (false≢true e)

  with_known : (known : List Peer) (d : Directed) → AllByRecursion IsKnown known → IsKnownHome d → AllByRecursion IsKnown (with_peer known d)
  with_known known d all one = elim (says d)
      as (λ (b : Bool). says d ≡ b → AllByRecursion IsKnown (joins_if b known d)) [
        | false ↦ λ e. all
        | true ↦ λ e. elim (list_any (same_remote d.peer) known) as (λ (b : Bool). AllByRecursion IsKnown (if b then known else known ++ d.peer ∷ [])) [
          | true ↦ all
          | false ↦ all_joined IsKnown known (d.peer ∷ []) all (one (home_if d e), tt)
        ]
      ] refl

  fold_known : (known : List Peer) (all : List Directed) → AllByRecursion IsKnown known → AllByRecursion IsKnownHome all
      → AllByRecursion IsKnown (fold with_peer known all)
  fold_known known [] so_far all = so_far
  fold_known known (d ∷ rest) so_far all = fold_known (with_peer known d) rest (with_known known d so_far all.0) all.1

  pub sessions_known : (packets : List Captured) → AllByRecursion IsKnownPacket packets → AllByRecursion IsKnown (peers (directed None packets))
  sessions_known packets all = fold_known [] (directed None packets) tt (directed_known packets all)

-- ---- each remote that says something has a session

or_left : (a b : Bool) → a ≡ true → (a || b) ≡ true
or_left true b e = refl
or_left false b e = absurd (false≢true e)

or_right : (a b : Bool) → b ≡ true → (a || b) ≡ true
or_right true b e = refl
or_right false b e = e

both_true : (a b : Bool) → (a && b) ≡ true → (a ≡ true) × (b ≡ true)
both_true true b e = (refl, e)
both_true false b e = absurd (false≢true e)

remote_itself : (p : Peer) → same_remote p p ≡ true
remote_itself p = let e : (p.remote.address == p.remote.address) ≡ true = grind (arith, nat_tests) in e

any_with : (known : List Peer) (d : Directed) (p : Peer) → list_any (same_remote p) known ≡ true → list_any (same_remote p) (with_peer known d) ≡ true
any_with known d p any = elim (says d)
    as (λ (b : Bool). list_any (same_remote p) (joins_if b known d) ≡ true) [
      | false ↦ any
      | true ↦ elim (list_any (same_remote d.peer) known) as (λ (b : Bool). list_any (same_remote p) (if b then known else known ++ d.peer ∷ []) ≡ true) [
        | true ↦ any
        | false ↦ list_any-append (same_remote p) known (d.peer ∷ []) ∙ or_left (list_any (same_remote p) known) (list_any (same_remote p) (d.peer ∷ [])) any
      ]
    ]

any_stays : (known : List Peer) (all : List Directed) (p : Peer) → list_any (same_remote p) known ≡ true
    → list_any (same_remote p) (fold with_peer known all) ≡ true
any_stays known [] p any = any
any_stays known (d ∷ rest) p any = any_stays (with_peer known d) rest p (any_with known d p any)

any_now : (known : List Peer) (d : Directed) → says d ≡ true → list_any (same_remote d.peer) (with_peer known d) ≡ true
any_now known d says_it =
    subst (λ (b : Bool). list_any (same_remote d.peer) (joins_if b known d) ≡ true) (sym says_it)
    (elim (list_any (same_remote d.peer) known)
    as (λ (b : Bool). list_any (same_remote d.peer) known ≡ b → list_any (same_remote d.peer) (if b then known else known ++ d.peer ∷ []) ≡ true) [
      | true ↦ λ e. e
      | false ↦ λ e. list_any-append (same_remote d.peer) known (d.peer ∷ [])
          ∙ or_right (list_any (same_remote d.peer) known) (list_any (same_remote d.peer) (d.peer ∷ []))
          (or_left (same_remote d.peer d.peer) false (remote_itself d.peer))
    ] refl)

any_session : (known : List Peer) (all : List Directed) (n : ℕ) (d : Directed) → slice_get all n ≡ Some d → says d ≡ true
    → list_any (same_remote d.peer) (fold with_peer known all) ≡ true
any_session known [] n d at says_it = absurd (none-some d at)
any_session known (x ∷ rest) zero d at says_it =
    let same : x ≡ d = cc at in
    any_stays (with_peer known x) rest d.peer (subst (λ (y : Directed). list_any (same_remote d.peer) (with_peer known y) ≡ true) (sym same)
    (any_now known d says_it))
any_session known (x ∷ rest) (suc n) d at says_it = any_session (with_peer known x) rest n d at says_it

-- ---- what a remote says is among all that is directed

abbrev says_as : Peer → Directed → Bool
says_as peer d = says d && same_peer d.peer peer

some_long : (octets : List ℕ) → octets ≢ [] → not (length octets == 0) ≡ true
some_long [] some = absurd (some refl)
some_long (x ∷ xs) some = long (length xs) where
  long : (n : ℕ) → not (suc n == 0) ≡ true
  long n = grind (arith, nat_tests)

-- a segment of few octets is one piece, and says them
own_says : (peer : Peer) (s : Segment) → same_peer (peer_of Home s) peer ≡ true → s.octets ≢ [] → length s.octets ≤ 4096
    → list_any (says_as peer) (in_pieces (directed_as Home s)) ≡ true
own_says peer s own some short =
    subst (λ (ds : List Directed). list_any (says_as peer) ds ≡ true) (one_piece 16 (directed_as Home s) short)
    (or_left (says_as peer (directed_as Home s)) false
    (ap (λ (b : Bool). b && same_peer (peer_of Home s) peer) (some_long s.octets some) ∙ own))

module _ (peer : Peer) where
  -- what is directed in a packet and in those behind it
  abbrev directed_with : List Directed → List Captured → List Directed
  directed_with found rest = flat_map in_pieces (found ++ whole_segments None rest)

  later_says : (found : List Directed) (rest : List Captured) → list_any (says_as peer) (directed None rest) ≡ true
      → list_any (says_as peer) (directed_with found rest) ≡ true
  later_says found rest any =
      ap (list_any (says_as peer)) (flat_map-append in_pieces found (whole_segments None rest))
      ∙ list_any-append (says_as peer) (flat_map in_pieces found) (directed None rest)
      ∙ or_right (list_any (says_as peer) (flat_map in_pieces found)) (list_any (says_as peer) (directed None rest)) any

  own_there : (s : Segment) (rest : List Captured) → same_peer (peer_of Home s) peer ≡ true → s.octets ≢ [] → length s.octets ≤ 4096
      → list_any (says_as peer) (directed_with (directed_as Home s ∷ []) rest) ≡ true
  own_there s rest own some short =
      list_any-append (says_as peer) (in_pieces (directed_as Home s)) (directed None rest)
      ∙ or_left (list_any (says_as peer) (in_pieces (directed_as Home s))) (list_any (says_as peer) (directed None rest)) (own_says peer s own some short)

  abbrev SaysSome : List Directed → Option Segment → List Captured → Type 0
  SaysSome found o rest = (n : ℕ) (r : Segment) → slice_get (cons_option o (sent_by None peer rest)) n ≡ Some r → r.octets ≢ [] → length r.octets ≤ 4096
      → list_any (says_as peer) (directed_with found rest) ≡ true

  module _ (rest : List Captured)
      (behind : (n : ℕ) (r : Segment) → slice_get (sent_by None peer rest) n ≡ Some r → r.octets ≢ [] → length r.octets ≤ 4096
      → list_any (says_as peer) (directed None rest) ≡ true) where
    one_first : (s : Segment) → same_peer (peer_of Home s) peer ≡ true → SaysSome (directed_as Home s ∷ []) (Some s) rest
    one_first s own zero r at some short =
        let same : s ≡ r = cc at in
        own_there s rest own (subst (λ (t : Segment). t.octets ≢ []) (sym same) some) (subst (λ (t : Segment). length t.octets ≤ 4096) (sym same) short)
    one_first s own (suc n) r at some short = later_says (directed_as Home s ∷ []) rest (behind n r at some short)

    by_way : (s : Segment) (way : Way)
        → SaysSome (directed_as way s ∷ []) (if is_home way && same_peer (peer_of Home s) peer then Some s else None) rest
    by_way s Remote = λ n r at some short. later_says (directed_as Remote s ∷ []) rest (behind n r at some short)
    by_way s Home = elim (same_peer (peer_of Home s) peer)
        as (λ (b : Bool). same_peer (peer_of Home s) peer ≡ b → SaysSome (directed_as Home s ∷ []) (if b then Some s else None) rest) [
          | true ↦ λ own. one_first s own
          | false ↦ λ other n r at some short. later_says (directed_as Home s ∷ []) rest (behind n r at some short)
        ] refl

    by_packet : (packet : Captured) → SaysSome (directed_in None (read_packet packet)) (sent_in None peer (read_packet packet)) rest
    by_packet packet = elim (has_or_none None peer (read_packet packet)) [
      | inl h ↦
          subst (λ (o : Option Segment). SaysSome (directed_in None (read_packet packet)) o rest) (sym h.sent_is)
          (λ n r at some short. later_says (directed_in None (read_packet packet)) rest (behind n r at some short))
      | inr h ↦
          subst (λ (ds : List Directed). SaysSome ds (sent_in None peer (read_packet packet)) rest) (sym h.found_is)
          (subst (λ (o : Option Segment). SaysSome (directed_as h.way h.s ∷ []) o rest) (sym h.sent_is) (by_way h.s h.way))
    ]

  says_there : (packets : List Captured) (n : ℕ) (r : Segment) → slice_get (sent_by None peer packets) n ≡ Some r → r.octets ≢ []
      → length r.octets ≤ 4096 → list_any (says_as peer) (directed None packets) ≡ true
  says_there [] n r at some short = absurd (none-some r at)
  says_there (packet ∷ rest) n r at some short = by_packet rest (says_there rest) packet n r at some short

  pub has_session : (packets : List Captured) (n : ℕ) (r : Segment) → slice_get (sent_by None peer packets) n ≡ Some r → r.octets ≢ []
      → length r.octets ≤ 4096
      → (k : ℕ) × (other : Peer) × (slice_get (peers (directed None packets)) k ≡ Some other) × (same_remote peer other ≡ true)
  has_session packets n r at some short =
      let found = any_found (says_as peer) (directed None packets) (says_there packets n r at some short) in
      let d = found.1 in
      let both = both_true (says d) (same_peer d.peer peer) found.3 in
      let any = any_session [] (directed None packets) found.0 d found.2 both.0 in
      let there = any_found (same_remote d.peer) (peers (directed None packets)) any in
      (there.0, there.1, there.2, ap (λ (p : Peer). same_remote p there.1) (sym (peers_same d.peer peer both.1)) ∙ there.3)
