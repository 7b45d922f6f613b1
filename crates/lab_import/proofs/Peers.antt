-- What has no room is a connection's of the capture.
use Rattle.std.proofs.Common.{◌≡◌, ℕ, zero, suc, ◌<◌, ◌≤◌, Bool, true, false, not, cond, List, [], ◌∷◌, ◌++◌, length, get_or, Option, Some, None}
use Rattle.std.proofs.Common.{refl, sym, ap, ◌∙◌, subst, inl, inr, arith}
use Rattle.std.specs.Prelude.{map, nat_lt, option_map}
use Rattle.std.specs.Option.{option_map_or}
use Rattle.std.specs.List.{All, AllByRecursion, cons_option, enumerate_from, filter, filter_map, flat_map, range_with_len, slice_get}
use Rattle.std.proofs.lemmas.Bool.{and_parts, false≢true}
use Rattle.std.proofs.lemmas.Bool.Decides.{Decides-ltb}
use Rattle.std.proofs.lemmas.List.Elements.{All-head}
use Rattle.std.proofs.lemmas.Option.{slice_get-get_or, slice_get_within}
use Rattle.captured_streams.specs.declared.directed.Peer.{Peer}
use Rattle.captured_streams.specs.declared.streams.Flow.{Flow}
use Rattle.captured_streams.specs.declared.streams.Streams.{Streams}
use Rattle.imported_sessions.specs.Messages.{ended_at, told, unfinished}
use Rattle.imported_sessions.specs.Opens.{has_as, home_open, is_external, remote_open}
use Rattle.imported_sessions.specs.Steps.{ArePacked, AreSteps, last_of, pieces}
use Rattle.imported_sessions.specs.Imports.{IsImport, peering_at, peering_with}
use Rattle.imported_sessions.specs.declared.imported.Said.{Said}
use Rattle.imported_sessions.specs.declared.imported.ImportedPeering.{ImportedPeering}
use Rattle.imported_sessions.specs.declared.imported.Imported.{Imported}
use Rattle.lab_import.specs.Limits.{IsBeyond}
use Rattle.lab_import.specs.declared.limits.Beyond.{Beyond}

-- ---- elements

None-Some : {X : Type 0} (x : X) → None ≡ Some x → ⊥
None-Some x e = cc

Some-same : {X : Type 0} (x y : X) → Some x ≡ Some y → x ≡ y
Some-same x y e = cc

module _ {X : Type 0} (P : X → Type 0) where
  each_at : (xs : List X) (n : ℕ) (x : X) → AllByRecursion P xs → slice_get xs n ≡ Some x → P x
  each_at [] n x all at = absurd (None-Some x at)
  each_at (y ∷ ys) zero x all at = subst P (Some-same y x at) all.0
  each_at (y ∷ ys) (suc n) x all at = each_at ys n x all.1 at

  all_from : (xs : List X) → ((n : ℕ) (x : X) → slice_get xs n ≡ Some x → P x) → AllByRecursion P xs
  all_from [] each = tt
  all_from (x ∷ xs) each = (each 0 x refl, all_from xs (λ n. each (suc n)))

  all_append : (xs ys : List X) → AllByRecursion P xs → AllByRecursion P ys → AllByRecursion P (xs ++ ys)
  all_append [] ys all more = more
  all_append (x ∷ xs) ys all more = (all.0, all_append xs ys all.1 more)

  all_front : (xs ys : List X) → AllByRecursion P (xs ++ ys) → AllByRecursion P xs
  all_front [] ys all = tt
  all_front (x ∷ xs) ys all = (all.0, all_front xs ys all.1)

  all_rest : (xs ys : List X) → AllByRecursion P (xs ++ ys) → AllByRecursion P ys
  all_rest [] ys all = all
  all_rest (x ∷ xs) ys all = all_rest xs ys all.1

  -- Of lists that are joined, each has elements of the whole.
  all_parts : (parts : List (List X)) → AllByRecursion P (flat_map (λ part. part) parts) → AllByRecursion (AllByRecursion P) parts
  all_parts [] all = tt
  all_parts (part ∷ parts) all = (
    all_front part (flat_map (λ p. p) parts) all,
    all_parts parts (all_rest part (flat_map (λ p. p) parts) all),
  )

  all_filter : (test : X → Bool) → ((x : X) → test x ≡ true → P x) → (xs : List X) → AllByRecursion P (filter test xs)
  all_filter test passes [] = tt
  all_filter test passes (x ∷ xs) = elim (test x) as (λ (b : Bool). test x ≡ b → AllByRecursion P (cond b (x ∷ filter test xs) (filter test xs))) [
    | true ↦ λ e. (passes x e, all_filter test passes xs)
    | false ↦ λ e. all_filter test passes xs
  ] refl

  all_filter_map : {Y : Type 0} (f : Y → Option X) → ((y : Y) (x : X) → f y ≡ Some x → P x) → (ys : List Y) → AllByRecursion P (filter_map f ys)
  all_filter_map f gives [] = tt
  all_filter_map f gives (y ∷ ys) = elim (f y) as (λ (o : Option X). f y ≡ o → AllByRecursion P (cons_option o (filter_map f ys))) [
    | None ↦ λ e. all_filter_map f gives ys
    | Some x ↦ λ e. (gives y x e, all_filter_map f gives ys)
  ] refl

  all_flat_map : {Y : Type 0} (Q : Y → Type 0) (f : Y → List X) → ((y : Y) → Q y → AllByRecursion P (f y)) → (ys : List Y) → AllByRecursion Q ys
      → AllByRecursion P (flat_map f ys)
  all_flat_map Q f gives [] all = tt
  all_flat_map Q f gives (y ∷ ys) all = all_append (f y) (flat_map f ys) (gives y all.0) (all_flat_map Q f gives ys all.1)

-- ---- peerings

peer_is : (s : Streams) (k : ℕ) (peer : Peer) (p : ImportedPeering)
    → option_map (λ o. peering_with s k peer o (home_open s k)) (remote_open s k) ≡ Some p → p.peer ≡ k
peer_is s k peer p e = elim (remote_open s k) as (λ q. option_map (λ o. peering_with s k peer o (home_open s k)) q ≡ Some p → p.peer ≡ k) [
  | None ↦ λ e. absurd (None-Some p e)
  | Some o ↦ λ e. sym (ap (λ q. q.peer) (Some-same (peering_with s k peer o (home_open s k)) p e))
] e

module _ (s : Streams) (home_as : ℕ) where
  abbrev IsBelow : ℕ → Type 0
  IsBelow k = k < length s.peers

  kept_below : (k : ℕ) → is_external s home_as k ≡ true → IsBelow k
  kept_below k e =
      (Decides-ltb k (length s.peers)).0
      (and_parts (nat_lt k (length s.peers)) (option_map_or (λ o. not (has_as home_as o)) (remote_open s k) false) e).0

  peering_below : (x : ℕ × Peer) (p : ImportedPeering) → peering_at s home_as x ≡ Some p → IsBelow p.peer
  peering_below (k, peer) p e = elim (is_external s home_as k)
      as (λ (b : Bool). is_external s home_as k ≡ b
      → cond b (option_map (λ o. peering_with s k peer o (home_open s k)) (remote_open s k)) None ≡ Some p → IsBelow p.peer) [
        | true ↦ λ kept is. subst IsBelow (sym (peer_is s k peer p is)) (kept_below k kept)
        | false ↦ λ left is. absurd (None-Some p is)
      ] refl e

  -- ---- steps

  abbrev SaysBelow : Said → Type 0
  SaysBelow said = IsBelow said.peer

  step_below : (part : List Said) (step : Said) → 1 ≤ length part → All (λ said. said.peer ≡ step.peer) part → AllByRecursion SaysBelow part
      → IsBelow step.peer
  step_below [] step some one all = absurd (omega (arith, some))
  step_below (said ∷ rest) step some one all = subst IsBelow (All-head (λ x. x.peer ≡ step.peer) said rest one) all.0

  packed_below : (all whole : List Said) → AllByRecursion SaysBelow all → ArePacked all whole → AllByRecursion SaysBelow whole
  packed_below all whole below packed = all_from SaysBelow whole (λ n step at.
      let within : n < length packed.parts = omega (arith, slice_get_within whole n step at, packed.count) in
      let part = get_or packed.parts n [] in
      let there : slice_get packed.parts n ≡ Some part = slice_get-get_or packed.parts n [] within in
      let is = packed.each n part step there at in
      step_below part step is.some is.one
      (each_at (AllByRecursion SaysBelow) packed.parts n part
      (all_parts SaysBelow packed.parts (subst (AllByRecursion SaysBelow) (sym packed.all_are) below)) there))

  said_below : (k : ℕ) → IsBelow k → (all : List (List ℕ)) → AllByRecursion SaysBelow (map (λ piece. record { peer = k; octets = piece }) all)
  said_below k below [] = tt
  said_below k below (piece ∷ rest) = (below, said_below k below rest)

  last_below : (flows : List Flow) (k : ℕ) → IsBelow k → AllByRecursion SaysBelow (last_of flows k)
  last_below flows k below = said_below k below (pieces (unfinished k flows))

  steps_below : (count : ℕ) (flows : List Flow) (steps : List Said) → AreSteps (is_external s home_as) count flows steps → AllByRecursion SaysBelow steps
  steps_below count flows steps are =
      let keeps = is_external s home_as in
      subst (AllByRecursion SaysBelow) (sym are.steps_are)
      (all_append SaysBelow are.whole (flat_map (last_of flows) (filter keeps (range_with_len 0 count)))
      (packed_below (told keeps flows) are.whole
      (all_filter SaysBelow (λ said. keeps said.peer) (λ said. kept_below said.peer) (flat_map (ended_at flows) (range_with_len 0 (length flows)))) are.packed)
      (all_flat_map SaysBelow IsBelow (last_of flows) (last_below flows) (filter keeps (range_with_len 0 count))
      (all_filter IsBelow keeps kept_below (range_with_len 0 count))))

-- ---- both

pub beyond_below : (s : Streams) (i : Imported) (beyond : Beyond) → IsImport s i → IsBeyond i beyond → beyond.peer < length s.peers
beyond_below s i beyond import is = elim is [
  | inl peering ↦ subst (λ (b : Beyond). b.peer < length s.peers) (sym peering.is)
      (each_at (λ p. p.peer < length s.peers) i.peerings peering.n peering.p
      (subst (AllByRecursion (λ p. p.peer < length s.peers)) (sym import.peerings_are)
      (all_filter_map (λ p. p.peer < length s.peers) (peering_at s i.home_as) (peering_below s i.home_as) (enumerate_from 0 s.peers))) peering.at)
  | inr step ↦ subst (λ (b : Beyond). b.peer < length s.peers) (sym step.1.is)
      (each_at (λ said. said.peer < length s.peers) i.steps step.1.n step.1.step
      (steps_below s i.home_as (length s.peers) s.flows i.steps import.steps) step.1.at)
]
