-- The numbers of connections.
use Rattle.std.proofs.Common.{◌≡◌, ℕ, ◌+◌, ◌<◌, Bool, true, false, cond, List, [], ◌∷◌, ◌++◌, length, take, get_or, Option, Some, None}
use Rattle.std.proofs.Common.{refl, sym, ap, ◌∙◌, inl, inr, arith}
use Rattle.std.proofs.Common.{length-append}
use Rattle.std.specs.Bool.{then_some}
use Rattle.std.specs.Prelude.{◌&&◌, ◌==◌, is_some}
use Rattle.std.proofs.lemmas.List.Sums.{fold_more}
use Rattle.std.specs.List.{slice_get, list_any}
use Rattle.std.specs.BTreeMap.{BTreeMap, get, is_at, Updates}
use Rattle.std.specs.Ordering.{nat_cmp, is_eq}
use Rattle.std.specs.Cmp.{Equal-is}
use Rattle.std.proofs.lemmas.Bool.{cases_lt, cases_eq, cond-true, cond-false, eq-eqb, false≢true}
use Rattle.std.proofs.lemmas.Bool.Decides.{Decides-eqb}
use Rattle.std.proofs.lemmas.Map.Lookups.{exact_unsigned}
use Rattle.std.proofs.lemmas.Option.{slice_get_within}
use Rattle.tcp_seq.proofs.Lookups.{get-append_left, get-append_right}
use Rattle.tcp_packets.specs.declared.socket.Socket.{Socket}
use Rattle.captured_streams.specs.declared.directed.Peer.{Peer}
use Rattle.captured_streams.specs.declared.directed.Directed.{Directed}
use Rattle.captured_streams.specs.Numbered.{IsNumbered}
use Rattle.captured_streams.specs.Peers.{same_remote, same_socket, same_peer, says, with_peer, peers, peer_at}
use Rattle.captured_streams.proofs.Positions.{Some-None, position_found, position_none, any_here, any_found}

-- ---- equal connections

both_true : (a b : Bool) → (a && b) ≡ true → (a ≡ true) × (b ≡ true)
both_true true b e = (refl, e)
both_true false b e = absurd (false≢true e)

abbrev socket : ℕ → ℕ → Socket
socket address port = record { address = address; port = port }

sockets : (s t : Socket) → same_socket s t ≡ true → s ≡ t
sockets s t e =
    let h = both_true (s.address == t.address) (s.port == t.port) e in
    ap (λ (n : ℕ). socket n s.port) ((Decides-eqb s.address t.address).0 h.0) ∙ ap (socket t.address) ((Decides-eqb s.port t.port).0 h.1)

abbrev peer : Socket → Socket → Peer
peer home remote = record { home = home; remote = remote }

pub peers_same : (p q : Peer) → same_peer p q ≡ true → p ≡ q
peers_same p q e =
    let h = both_true (same_socket p.home q.home) (same_socket p.remote q.remote) e in
    ap (λ (s : Socket). peer s p.remote) (sockets p.home q.home h.0) ∙ ap (peer q.home) (sockets p.remote q.remote h.1)

-- ---- the connection of a segment

module _ (list : List Peer) (numbers : BTreeMap ℕ ℕ) (numbered : IsNumbered list numbers) (s : Directed) where
  number_of : (k : ℕ) → peer_at list s ≡ Some k → get nat_cmp numbers s.peer.remote.address ≡ Some k
  number_of k e =
      let f = position_found (same_peer s.peer) list k e in
      ap (λ (p : Peer). get nat_cmp numbers p.remote.address) (peers_same s.peer f.0 f.2) ∙ numbered.each k f.0 f.1

  pub at_none : get nat_cmp numbers s.peer.remote.address ≡ None → peer_at list s ≡ None
  at_none none = elim (peer_at list s) as (λ (o : Option ℕ). peer_at list s ≡ o → o ≡ None) [
    | None ↦ λ e. refl
    | Some k ↦ λ e. absurd (Some-None k (sym (number_of k e) ∙ none))
  ] refl

  pub at_some : (k : ℕ) (p : Peer) → get nat_cmp numbers s.peer.remote.address ≡ Some k → slice_get list k ≡ Some p
      → peer_at list s ≡ then_some (same_peer s.peer p) k
  at_some k p got there = elim (peer_at list s) as (λ (o : Option ℕ). peer_at list s ≡ o → o ≡ then_some (same_peer s.peer p) k) [
    | None ↦ λ e. sym (ap (λ (b : Bool). then_some b k) (position_none (same_peer s.peer) list e k p there))
    | Some j ↦ λ e.
        let f = position_found (same_peer s.peer) list j e in
        let same : j ≡ k = cc (number_of j e, got) in
        let is : f.0 ≡ p = cc (f.1, ap (slice_get list) same, there) in
        ap (λ (n : ℕ). Some n) same ∙ sym (ap (λ (b : Bool). then_some b k) (ap (same_peer s.peer) (sym is) ∙ f.2))
  ] refl

  pub within : (k : ℕ) → get nat_cmp numbers s.peer.remote.address ≡ Some k → k < length list
  within k got = let old = numbered.only s.peer.remote.address k got in slice_get_within list k old.0 old.1

-- ---- one segment more

some_is : (o : Option ℕ) → is_some o ≡ true → (k : ℕ) × (o ≡ Some k)
some_is None e = absurd (false≢true e)
some_is (Some k) e = (k, refl)

pub none_is : (o : Option ℕ) → is_some o ≡ false → o ≡ None
none_is None e = refl
none_is (Some k) e = absurd (false≢true (sym e))

pub peers_more : (segments : List Directed) (i : ℕ) (s : Directed) (list new : List Peer) → i < length segments → s ≡ get_or segments i s
    → list ≡ peers (take i segments) → with_peer list s ≡ new → new ≡ peers (take (i + 1) segments)
peers_more segments i s list new below at so_far joins =
    sym joins ∙ ap (λ (known : List Peer). with_peer known s) so_far ∙ ap (with_peer (peers (take i segments))) at
    ∙ sym (fold_more with_peer [] segments i s below)

pub silent_stays : (list : List Peer) (s : Directed) → says s ≡ false → with_peer list s ≡ list
silent_stays list s silent = cond-false (says s) (cond (list_any (same_remote s.peer) list) list (list ++ s.peer ∷ [])) list silent

module _ (list : List Peer) (numbers : BTreeMap ℕ ℕ) (numbered : IsNumbered list numbers) (s : Directed) (some : says s ≡ true) where
  joins_or_stays : with_peer list s ≡ cond (list_any (same_remote s.peer) list) list (list ++ s.peer ∷ [])
  joins_or_stays = cond-true (says s) (cond (list_any (same_remote s.peer) list) list (list ++ s.peer ∷ [])) list some

  pub known_stays : is_some (get nat_cmp numbers s.peer.remote.address) ≡ true → with_peer list s ≡ list
  known_stays got =
      let found = some_is (get nat_cmp numbers s.peer.remote.address) got in
      let k = found.0 in
      let old = numbered.only s.peer.remote.address k found.1 in
      joins_or_stays ∙ cond-true (list_any (same_remote s.peer) list) list (list ++ s.peer ∷ [])
      (any_here (same_remote s.peer) list k old.0 old.1 (eq-eqb s.peer.remote.address old.0.remote.address (sym old.2)))

  pub new_joins : get nat_cmp numbers s.peer.remote.address ≡ None → with_peer list s ≡ list ++ s.peer ∷ []
  new_joins none =
      joins_or_stays ∙ elim (list_any (same_remote s.peer) list)
      as (λ (b : Bool). list_any (same_remote s.peer) list ≡ b → cond b list (list ++ s.peer ∷ []) ≡ list ++ s.peer ∷ []) [
        | true ↦ λ e.
            let f = any_found (same_remote s.peer) list e in
            let same = (Decides-eqb s.peer.remote.address f.1.remote.address).0 f.3 in
            absurd (Some-None f.0 (sym (numbered.each f.0 f.1 f.2) ∙ sym (ap (λ (a : ℕ). get nat_cmp numbers a) same) ∙ none))
        | false ↦ λ e. refl
      ] refl

-- ---- one connection more

apart : (a q : ℕ) → (a ≡ q → ⊥) → is_at (nat_cmp a) q ≡ false
apart a q ne = elim (is_eq (nat_cmp a q)) as (λ (b : Bool). is_eq (nat_cmp a q) ≡ b → b ≡ false) [
  | true ↦ λ e. absurd (ne (exact_unsigned a q ((Equal-is (nat_cmp a q)).0 e)))
  | false ↦ λ e. refl
] refl

module _ (list : List Peer) (numbers numbers' : BTreeMap ℕ ℕ) (numbered : IsNumbered list numbers) (p : Peer)
    (none : get nat_cmp numbers p.remote.address ≡ None) (updates : Updates nat_cmp numbers numbers' p.remote.address (Some (length list))) where
  last : slice_get (list ++ p ∷ []) (length list) ≡ Some p
  last = get-append_right list (p ∷ []) (length list) 0 (omega arith)

  each_more : (k : ℕ) (q : Peer) → slice_get (list ++ p ∷ []) k ≡ Some q → get nat_cmp numbers' q.remote.address ≡ Some k
  each_more k q at = elim (cases_lt k (length list)) [
    | inl low ↦
        let old = numbered.each k q (sym (get-append_left list (p ∷ []) k low) ∙ at) in
        updates.2 q.remote.address (apart p.remote.address q.remote.address (λ same.
        Some-None k (sym old ∙ sym (ap (λ (a : ℕ). get nat_cmp numbers a) same) ∙ none))) ∙ old
    | inr high ↦
        let is : k ≡ length list = omega (arith, high, slice_get_within (list ++ p ∷ []) k q at, length-append list (p ∷ [])) in
        let same : p ≡ q = cc (last, ap (slice_get (list ++ p ∷ [])) is, at) in
        ap (λ (r : Peer). get nat_cmp numbers' r.remote.address) (sym same) ∙ updates.1 ∙ ap (λ (n : ℕ). Some n) (sym is)
  ]

  only_more : (address k : ℕ) → get nat_cmp numbers' address ≡ Some k
      → (q : Peer) × (slice_get (list ++ p ∷ []) k ≡ Some q) × (q.remote.address ≡ address)
  only_more address k got = elim (cases_eq p.remote.address address) [
    | inl same ↦
        let is : length list ≡ k = cc (updates.1, ap (λ (a : ℕ). get nat_cmp numbers' a) same, got) in
        (p, ap (slice_get (list ++ p ∷ [])) (sym is) ∙ last, same)
    | inr ne ↦
        let old = numbered.only address k (sym (updates.2 address (apart p.remote.address address ne)) ∙ got) in
        (old.0, get-append_left list (p ∷ []) k (slice_get_within list k old.0 old.1) ∙ old.1, old.2)
  ]

  pub numbered_more : IsNumbered (list ++ p ∷ []) numbers'
  numbered_more = record { each = each_more; only = only_more }
