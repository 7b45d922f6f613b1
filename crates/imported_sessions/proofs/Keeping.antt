-- Sessions that are kept, one behind another.
use Rattle.std.proofs.Common.{◌≡◌, ℕ, zero, suc, ◌+◌, ◌<◌, true, false, cond, eqb, not, List, [], ◌∷◌, ◌++◌, length, take, get_or, Option}
use Rattle.std.proofs.Common.{Some, None}
use Rattle.std.proofs.Common.{refl, sym, ap, ◌∙◌, append_assoc, arith}
use Rattle.std.specs.Prelude.{filter, slice_get}
use Rattle.std.specs.List.{flat_map, filter_map, cons_option, enumerate_from, range_with_len}
use Rattle.std.specs.Option.{option_map, option_map_or}
use Rattle.std.proofs.lemmas.Bool.{cond-true, cond-false}
use Rattle.std.proofs.lemmas.List.{append-nil, length_push, length-take-le, map-id, take_more}
use Rattle.std.proofs.lemmas.List.Concat.{flat_map-append}
use Rattle.std.proofs.lemmas.List.Elements.{filter-append, filter_map-append}
use Rattle.std.proofs.lemmas.List.FromFn.{map-range_with_len_more}
use Rattle.bgp_types.specs.declared.message.OpenMsg.{OpenMsg}
use Rattle.captured_streams.specs.declared.directed.Peer.{Peer}
use Rattle.captured_streams.specs.declared.streams.Streams.{Streams}
use Rattle.imported_sessions.specs.declared.imported.ImportedPeering.{ImportedPeering}
use Rattle.imported_sessions.specs.declared.imported.Said.{Said}
use Rattle.imported_sessions.specs.declared.opened.Opened.{Opened}
use Rattle.imported_sessions.specs.Opened.{AreAllOpened}
use Rattle.imported_sessions.specs.Imports.{peering_at, peering_with}
use Rattle.imported_sessions.specs.Opens.{home_open, is_external, remote_open}
use Rattle.imported_sessions.specs.Steps.{last_of}
use Rattle.imported_sessions.proofs.Openings.{external_is}
use Rattle.tcp_seq.proofs.Lookups.{get-append_right}

range_more : (n : ℕ) → range_with_len 0 (n + 1) ≡ range_with_len 0 n ++ n ∷ []
range_more n =
    sym (map-id (range_with_len 0 (n + 1))) ∙ map-range_with_len_more (λ k. k) 0 n n (omega arith)
    ∙ ap (λ xs. xs ++ n ∷ []) (map-id (range_with_len 0 n))

numbered_more : {X : Type 0} (a : ℕ) (xs : List X) (x : X) → enumerate_from a (xs ++ x ∷ []) ≡ enumerate_from a xs ++ (a + length xs, x) ∷ []
numbered_more {X} a [] x = let here : a ≡ a + 0 = omega arith in ap (λ (k : ℕ). (k, x) ∷ []) here
numbered_more {X} a (y ∷ xs) x =
    let next : a + 1 + length xs ≡ a + suc (length xs) = omega arith in
    ap (λ (zs : List (ℕ × X)). (a, y) ∷ zs) (numbered_more (a + 1) xs x ∙ ap (λ (k : ℕ). enumerate_from (a + 1) xs ++ (k, x) ∷ []) next)

-- the first n sessions are kept or left out
pub record AreKept (s : Streams) (home_as n : ℕ) (earlier : List Said) (peerings : List ImportedPeering) (internal : ℕ) (steps : List Said) : Type 0 where
  pub peerings_are : peerings ≡ filter_map (peering_at s home_as) (enumerate_from 0 (take n s.peers))
  pub counted : internal + length peerings ≡ n
  pub steps_are : steps ≡ earlier ++ flat_map (last_of s.flows) (filter (is_external s home_as) (range_with_len 0 n))

module _ (s : Streams) (home_as n : ℕ) (earlier : List Said) (peerings : List ImportedPeering) (internal : ℕ) (steps : List Said)
    (so_far : AreKept s home_as n earlier peerings internal steps) (peer : Peer) (low : n < length s.peers) (at : peer ≡ get_or s.peers n peer) where
  next_peer : filter_map (peering_at s home_as) (enumerate_from 0 (take (n + 1) s.peers))
      ≡ filter_map (peering_at s home_as) (enumerate_from 0 (take n s.peers)) ++ cons_option (peering_at s home_as (n, peer)) []
  next_peer =
      let size : 0 + length (take n s.peers) ≡ n = omega (arith, length-take-le n s.peers (omega (arith, low))) in
      ap (λ (xs : List Peer). filter_map (peering_at s home_as) (enumerate_from 0 xs))
      (take_more s.peers n peer low ∙ ap (λ (p : Peer). take n s.peers ++ p ∷ []) (sym at))
      ∙ ap (filter_map (peering_at s home_as)) (numbered_more 0 (take n s.peers) peer
      ∙ ap (λ (k : ℕ). enumerate_from 0 (take n s.peers) ++ (k, peer) ∷ []) size)
      ∙ filter_map-append (peering_at s home_as) (enumerate_from 0 (take n s.peers)) ((n, peer) ∷ [])

  next_steps : flat_map (last_of s.flows) (filter (is_external s home_as) (range_with_len 0 (n + 1)))
      ≡ flat_map (last_of s.flows) (filter (is_external s home_as) (range_with_len 0 n))
      ++ flat_map (last_of s.flows) (cond (is_external s home_as n) (n ∷ []) [])
  next_steps =
      ap (λ (ks : List ℕ). flat_map (last_of s.flows) (filter (is_external s home_as) ks)) (range_more n)
      ∙ ap (flat_map (last_of s.flows)) (filter-append (is_external s home_as) (range_with_len 0 n) (n ∷ []))
      ∙ flat_map-append (last_of s.flows) (filter (is_external s home_as) (range_with_len 0 n)) (cond (is_external s home_as n) (n ∷ []) [])

  pub left_out : is_external s home_as n ≡ false → AreKept s home_as (n + 1) earlier peerings (internal + 1) steps
  left_out inside =
      let none : peering_at s home_as (n, peer) ≡ None =
      cond-false (is_external s home_as n) (option_map (λ remote. peering_with s n peer remote (home_open s n)) (remote_open s n)) None inside in
      let ps = filter_map (peering_at s home_as) (enumerate_from 0 (take n s.peers)) in
      let ss = flat_map (last_of s.flows) (filter (is_external s home_as) (range_with_len 0 n)) in
      record {
        peerings_are = so_far.peerings_are
            ∙ sym (next_peer ∙ ap (λ o. ps ++ cons_option o []) none ∙ append-nil ps);
        counted = let c = so_far.counted in omega arith;
        steps_are = so_far.steps_are ∙ ap (λ (xs : List Said). earlier ++ xs)
            (sym (next_steps ∙ ap (λ (ks : List ℕ). ss ++ flat_map (last_of s.flows) ks) (cond-false (is_external s home_as n) (n ∷ []) [] inside)
            ∙ append-nil ss));
      }

  pub kept : (peering : ImportedPeering) (remote : OpenMsg) → is_external s home_as n ≡ true → remote_open s n ≡ Some remote
      → peering ≡ peering_with s n peer remote (home_open s n)
      → AreKept s home_as (n + 1) earlier (peerings ++ peering ∷ []) internal (steps ++ last_of s.flows n)
  kept peering remote outside opens is =
      let some : peering_at s home_as (n, peer) ≡ Some peering =
      cond-true (is_external s home_as n) (option_map (λ remote. peering_with s n peer remote (home_open s n)) (remote_open s n)) None outside
      ∙ ap (option_map (λ remote. peering_with s n peer remote (home_open s n))) opens ∙ ap (λ (p : ImportedPeering). Some p) (sym is) in
      let ps = filter_map (peering_at s home_as) (enumerate_from 0 (take n s.peers)) in
      let ss = flat_map (last_of s.flows) (filter (is_external s home_as) (range_with_len 0 n)) in
      record {
        peerings_are = ap (λ (xs : List ImportedPeering). xs ++ peering ∷ []) so_far.peerings_are
            ∙ sym (next_peer ∙ ap (λ o. ps ++ cons_option o []) some);
        counted = let c = so_far.counted in let l = length_push peerings peering in omega arith;
        steps_are = ap (λ (xs : List Said). xs ++ last_of s.flows n) so_far.steps_are
            ∙ append_assoc earlier ss (last_of s.flows n)
            ∙ ap (λ (xs : List Said). earlier ++ xs) (sym (next_steps
            ∙ ap (λ (ks : List ℕ). ss ++ flat_map (last_of s.flows) ks) (cond-true (is_external s home_as n) (n ∷ []) [] outside)
            ∙ ap (λ (xs : List Said). ss ++ xs) (append-nil (last_of s.flows n))));
      }

-- ---- the next session

pub some_at : {X : Type 0} (xs : List X) (n : ℕ) → n < length xs → (x : X) × (x ≡ get_or xs n x)
some_at [] n low = absurd (omega (arith, low))
some_at (x ∷ xs) zero low = (x, refl)
some_at (x ∷ xs) (suc n) low = some_at xs n (omega (arith, low))

pub next_at : {X : Type 0} (all before rest : List X) (x : X) → before ++ x ∷ rest ≡ all → slice_get all (length before) ≡ Some x
next_at all before rest x parts =
    ap (λ ys. slice_get ys (length before)) (sym parts) ∙ get-append_right before (x ∷ rest) (length before) 0 (omega arith)

pub external_here : (s : Streams) (opened : List Opened) → AreAllOpened s opened → (home_as k : ℕ) (session : Opened) → slice_get opened k ≡ Some session
    → is_external s home_as k ≡ not (eqb session.remote_as home_as)
external_here s opened all home_as k session at =
    sym (external_is s opened all home_as k) ∙ ap (λ (o : Option Opened). option_map_or (λ session. not (eqb session.remote_as home_as)) o false) at

pub same_kept : (s : Streams) (home_as n m : ℕ) (earlier : List Said) (ps qs : List ImportedPeering) (internal : ℕ) (ss ts : List Said)
    → AreKept s home_as n earlier ps internal ss → m ≡ n → qs ≡ ps → ts ≡ ss → AreKept s home_as m earlier qs internal ts
same_kept s home_as n m earlier ps qs internal ss ts k size peerings steps = record {
  peerings_are = peerings ∙ k.peerings_are ∙ ap (λ j. filter_map (peering_at s home_as) (enumerate_from 0 (take j s.peers))) (sym size);
  counted = ap (λ (xs : List ImportedPeering). internal + length xs) peerings ∙ k.counted ∙ sym size;
  steps_are = steps ∙ k.steps_are ∙ ap (λ j. earlier ++ flat_map (last_of s.flows) (filter (is_external s home_as) (range_with_len 0 j))) (sym size);
}
