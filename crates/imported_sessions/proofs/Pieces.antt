-- Octets in pieces.
use Rattle.std.proofs.Common.{◌≡◌, ℕ, ◌+◌, ◌*◌, ◌/◌, ◌<◌, min, List, [], ◌∷◌, ◌++◌, length, map, take, drop, append_assoc, refl, sym}
use Rattle.std.proofs.Common.{ap, ◌∙◌, length-drop, arith}
use Rattle.std.specs.Fork.{slice_chunk}
use Rattle.std.specs.List.{range_with_len}
use Rattle.std.proofs.lemmas.List.{take_at, drop_at, take_min, drop_min, drop-drop, map_push}
use Rattle.std.proofs.lemmas.List.FromFn.{map-range_with_len_more}
use Rattle.imported_sessions.specs.declared.imported.Said.{Said}
use Rattle.imported_sessions.specs.Heard.{said_by}

-- one piece more
pub record IsPiece (octets : List ℕ) (n : ℕ) (piece rest : List ℕ) : Type 0 where
  pub piece_is : piece ≡ slice_chunk octets 4096 n
  pub rest_is : rest ≡ drop ((n + 1) * 4096) octets
  pub within : (n + 1) * 4096 < length octets + 4096

pub next_piece : (octets : List ℕ) (n : ℕ) (before piece rest : List ℕ) → before ≡ drop (n * 4096) octets → before ≡ piece ++ rest
    → length piece ≡ min 4096 (length before) → 0 < length before → IsPiece octets n piece rest
next_piece octets n before piece rest is parts size some =
    let front : take 4096 before ≡ piece =
    sym (take_min 4096 before) ∙ ap (λ k. take k before) (sym size) ∙ ap (take (length piece)) parts ∙ take_at piece rest (length piece) refl in
    let behind : drop 4096 before ≡ rest =
    sym (drop_min 4096 before) ∙ ap (λ k. drop k before) (sym size) ∙ ap (drop (length piece)) parts ∙ drop_at piece rest (length piece) refl in
    let next : n * 4096 + 4096 ≡ (n + 1) * 4096 = omega arith in
    record {
      piece_is = sym front ∙ ap (take 4096) is;
      rest_is = sym behind ∙ ap (drop 4096) is ∙ drop-drop 4096 (n * 4096) octets ∙ ap (λ k. drop k octets) next;
      within = omega (arith, ap length is, length-drop (n * 4096) octets, some);
    }

pub last_piece : (octets : List ℕ) (n : ℕ) (rest : List ℕ) → rest ≡ drop (n * 4096) octets → n * 4096 < length octets + 4096 → length rest ≡ 0
    → n ≡ (length octets + 4095) / 4096
last_piece octets n rest is within empty = omega (arith, ap length is, length-drop (n * 4096) octets, within, empty)

-- the steps with one piece more
pub piece_said : (peer : ℕ) (octets : List ℕ) (n m : ℕ) (piece : List ℕ) (earlier steps : List Said) → m ≡ n + 1 → piece ≡ slice_chunk octets 4096 n
    → steps ≡ earlier ++ map (said_by peer) (map (slice_chunk octets 4096) (range_with_len 0 n))
    → steps ++ said_by peer piece ∷ [] ≡ earlier ++ map (said_by peer) (map (slice_chunk octets 4096) (range_with_len 0 m))
piece_said peer octets n m piece earlier steps next is so_far =
    let front = map (slice_chunk octets 4096) (range_with_len 0 n) in
    ap (λ (xs : List Said). xs ++ said_by peer piece ∷ []) so_far ∙ append_assoc earlier (map (said_by peer) front) (said_by peer piece ∷ [])
    ∙ ap (λ (xs : List Said). earlier ++ xs) (sym (map_push (said_by peer) front piece)
    ∙ ap (λ (p : List ℕ). map (said_by peer) (front ++ p ∷ [])) is
    ∙ ap (map (said_by peer)) (sym (map-range_with_len_more (slice_chunk octets 4096) 0 n n (omega arith)))
    ∙ ap (λ k. map (said_by peer) (map (slice_chunk octets 4096) (range_with_len 0 k))) (sym next))
