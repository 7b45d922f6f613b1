-- Each connection that is read has a remote address of its own.
use Rattle.std.proofs.Common.{◌≡◌, ℕ, ◌<◌, ◌≤◌, inl, inr, Bool, true, false, List, [], ◌∷◌, ◌++◌, length, Some, refl, sym, ap, ◌∙◌, arith}
use Rattle.std.proofs.Common.{length-append}
use Rattle.std.specs.Prelude.{fold, if◌then◌else◌}
use Rattle.std.specs.List.{slice_get, list_any}
use Rattle.std.proofs.lemmas.Bool.{cases_lt, eq-eqb, false≢true}
use Rattle.std.proofs.lemmas.Option.{none-some, slice_get_within}
use Rattle.tcp_seq.proofs.Lookups.{get-append_left, get-append_right}
use Rattle.captured_streams.specs.declared.directed.Peer.{Peer}
use Rattle.captured_streams.specs.Peers.{same_remote, says, with_peer, peers}
use Rattle.captured_streams.proofs.Positions.{any_here}
use Rattle.captured_slices.proofs.Types.{Directed}

pub record AreDistinct (known : List Peer) : Type 0 where
  pub same : (n m : ℕ) (one other : Peer) → slice_get known n ≡ Some one → slice_get known m ≡ Some other
      → one.remote.address ≡ other.remote.address → n ≡ m

module _ (known : List Peer) (p : Peer) (distinct : AreDistinct known) (none : list_any (same_remote p) known ≡ false) where
  last_is : (n : ℕ) (one : Peer) → length known ≤ n → slice_get (known ++ p ∷ []) n ≡ Some one → (n ≡ length known) × (p ≡ one)
  last_is n one high at =
      let is : n ≡ length known = omega (arith, high, slice_get_within (known ++ p ∷ []) n one at, length-append known (p ∷ [])) in
      let last : slice_get (known ++ p ∷ []) n ≡ Some p = get-append_right known (p ∷ []) n 0 (omega (arith, is)) in
      (is, cc (last, at))

  -- the new one isn't the same as an old one
  new_differs : (n : ℕ) (one : Peer) → slice_get known n ≡ Some one → p.remote.address ≡ one.remote.address → ⊥
  new_differs n one at same =
      false≢true (sym none ∙ any_here (same_remote p) known n one at (eq-eqb p.remote.address one.remote.address same))

  old_is : (n : ℕ) (one : Peer) → n < length known → slice_get (known ++ p ∷ []) n ≡ Some one → slice_get known n ≡ Some one
  old_is n one low at = sym (get-append_left known (p ∷ []) n low) ∙ at

  pub distinct_more : AreDistinct (known ++ p ∷ [])
  distinct_more = record {
    same = λ n m one other at at' same. elim (cases_lt n (length known)) [
      | inl low ↦ elim (cases_lt m (length known)) [
        | inl low' ↦ distinct.same n m one other (old_is n one low at) (old_is m other low' at') same
        | inr high ↦
            let last = last_is m other high at' in
            absurd (new_differs n one (old_is n one low at) (ap (λ (q : Peer). q.remote.address) last.1 ∙ sym same))
      ]
      | inr high ↦
          let last = last_is n one high at in
          elim (cases_lt m (length known)) [
            | inl low' ↦ absurd (new_differs m other (old_is m other low' at') (ap (λ (q : Peer). q.remote.address) last.1 ∙ same))
            | inr high' ↦ last.0 ∙ sym (last_is m other high' at').0
          ]
    ];
  }

distinct_with : (known : List Peer) (s : Directed) → AreDistinct known → AreDistinct (with_peer known s)
distinct_with known s distinct = elim (says s)
    as (λ (b : Bool). AreDistinct (if b then (if list_any (same_remote s.peer) known then known else known ++ s.peer ∷ []) else known)) [
      | false ↦ distinct
      | true ↦ elim (list_any (same_remote s.peer) known)
          as (λ (b : Bool). list_any (same_remote s.peer) known ≡ b → AreDistinct (if b then known else known ++ s.peer ∷ [])) [
            | true ↦ λ e. distinct
            | false ↦ λ e. distinct_more known s.peer distinct e
          ] refl
    ]

distinct_all : (known : List Peer) (all : List Directed) → AreDistinct known → AreDistinct (fold with_peer known all)
distinct_all known [] distinct = distinct
distinct_all known (s ∷ rest) distinct = distinct_all (with_peer known s) rest (distinct_with known s distinct)

pub peers_distinct : (all : List Directed) → AreDistinct (peers all)
peers_distinct all = distinct_all [] all (record { same = λ n m one other at. absurd (none-some one at) })
