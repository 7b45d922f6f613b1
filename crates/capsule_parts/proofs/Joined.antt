-- Pieces are joined, or looked at, one after another.
use Rattle.std.proofs.Common.{◌≡◌, ◌≢◌, ℕ, ◌+◌, ◌<◌, ◌≤◌, List, [], ◌∷◌, ◌++◌, length, drop, refl, sym, ap, ◌∙◌, subst}
use Rattle.std.proofs.Common.{take, append_assoc, length-append, arith, inl, inr, ◌⊎◌}
use Rattle.std.specs.Prelude.{slice_index_or}
use Rattle.std.proofs.lemmas.List.{drop_all, take_all}
use Rattle.tcp_seq.specs.declared.state.Piece.{Piece}
use Rattle.tcp_end.specs.State.{LieFrom}
use Rattle.tcp_end.specs.Whole.{numbered_from, numbered_in}
use Rattle.capsule_parts.specs.Sound.{IsPieceAbove, LieAbove}
use Rattle.capsule_parts.proofs.Items.{item_left, item_taken}
use Rattle.capsule_parts.proofs.Runs.{above_wider, last_ends, last_replaced, numbered_more, numbered_one, numbered_pieces}

-- ---- a piece is added

abbrev pub with_bytes : Piece → List ℕ → Piece
with_bytes p bytes = record p { bytes = p.bytes ++ bytes }

-- the bytes of a piece are added, and the pieces lie apart as before
abbrev pub IsAdded : Piece → (old new : List Piece) → Type 0
IsAdded piece old new = (numbered_in new ≡ numbered_in old ++ numbered_from piece.offset piece.bytes)
    × ((below : ℕ) → LieAbove below piece.offset old → below < piece.offset → 0 < length piece.bytes
    → LieAbove below (piece.offset + length piece.bytes) new)

-- to the last piece, if it follows that
module _ (rest : List Piece) (last piece : Piece) (follows : last.offset + length last.bytes ≡ piece.offset) where
  follow_bytes : numbered_in (rest ++ with_bytes last piece.bytes ∷ []) ≡ numbered_in (rest ++ last ∷ []) ++ numbered_from piece.offset piece.bytes
  follow_bytes =
      numbered_pieces rest (with_bytes last piece.bytes ∷ [])
      ∙ ap (λ (es : List (ℕ × ℕ)). numbered_in rest ++ es) (numbered_one (with_bytes last piece.bytes)
      ∙ numbered_more last.offset last.bytes piece.bytes
      ∙ ap (λ (n : ℕ). numbered_from last.offset last.bytes ++ numbered_from n piece.bytes) follows)
      ∙ sym (append_assoc (numbered_in rest) (numbered_from last.offset last.bytes) (numbered_from piece.offset piece.bytes))
      ∙ ap (λ (es : List (ℕ × ℕ)). es ++ numbered_from piece.offset piece.bytes)
      (ap (λ (es : List (ℕ × ℕ)). numbered_in rest ++ es) (sym (numbered_one last)) ∙ sym (numbered_pieces rest (last ∷ [])))

  follow_apart : (below : ℕ) → LieAbove below piece.offset (rest ++ last ∷ []) → 0 < length piece.bytes
      → LieAbove below (piece.offset + length piece.bytes) (rest ++ with_bytes last piece.bytes ∷ [])
  follow_apart below lie some =
      let size = length-append last.bytes piece.bytes in
      last_replaced below piece.offset (piece.offset + length piece.bytes) rest last (with_bytes last piece.bytes ∷ []) (omega arith) lie
      (λ n above. (above, omega (arith, size, some), omega (arith, size, follows), tt))

  pub added_to_last : (old new : List Piece) → old ≡ rest ++ last ∷ [] → new ≡ rest ++ with_bytes last piece.bytes ∷ [] → IsAdded piece old new
  added_to_last old new was is = subst (λ (ps : List Piece). IsAdded piece ps new) (sym was)
      (subst (IsAdded piece (rest ++ last ∷ [])) (sym is) (follow_bytes, λ below lie above some. follow_apart below lie some))

-- or behind it
module _ (rest : List Piece) (last piece : Piece) (apart : last.offset + length last.bytes ≢ piece.offset) where
  behind_bytes : numbered_in ((rest ++ last ∷ []) ++ piece ∷ []) ≡ numbered_in (rest ++ last ∷ []) ++ numbered_from piece.offset piece.bytes
  behind_bytes =
      numbered_pieces (rest ++ last ∷ []) (piece ∷ [])
      ∙ ap (λ (es : List (ℕ × ℕ)). numbered_in (rest ++ last ∷ []) ++ es) (numbered_one piece)

  behind_apart : (below : ℕ) → LieAbove below piece.offset (rest ++ last ∷ []) → 0 < length piece.bytes
      → LieAbove below (piece.offset + length piece.bytes) ((rest ++ last ∷ []) ++ piece ∷ [])
  behind_apart below lie some =
      let end = last_ends below piece.offset rest last lie in
      subst (LieAbove below (piece.offset + length piece.bytes)) (sym (append_assoc rest (last ∷ []) (piece ∷ [])))
      (last_replaced below piece.offset (piece.offset + length piece.bytes) rest last (last ∷ piece ∷ []) (omega arith) lie
      (λ n above. (above, end.0, omega (arith, end.1), (omega (arith, end.1, apart), some, omega arith, tt))))

  pub added_behind : (old new : List Piece) → old ≡ rest ++ last ∷ [] → new ≡ (rest ++ last ∷ []) ++ piece ∷ [] → IsAdded piece old new
  added_behind old new was is = subst (λ (ps : List Piece). IsAdded piece ps new) (sym was)
      (subst (IsAdded piece (rest ++ last ∷ [])) (sym is) (behind_bytes, λ below lie above some. behind_apart below lie some))

-- ---- all pieces

-- pieces that were joined, and those that are left
pub record Stretch (below high : ℕ) (left joined : List Piece) : Type 0 where
  pub to : ℕ
  pub above : LieAbove below to joined
  pub from : LieFrom to high left
  pub past : below < to
  pub within : (joined ≡ []) ⊎ (to ≤ high)

pub stretch_none : (below high : ℕ) (pieces : List Piece) → LieFrom (below + 1) high pieces → Stretch below high pieces []
stretch_none below high pieces lie = record { to = below + 1; above = tt; from = lie; past = omega arith; within = inl refl }

pub stretch_more : (below high : ℕ) (piece : Piece) (left joined new : List Piece)
    → ((n : ℕ) → LieAbove n piece.offset joined → n < piece.offset → 0 < length piece.bytes → LieAbove n (piece.offset + length piece.bytes) new)
    → Stretch below high (piece ∷ left) joined → Stretch below high left new
stretch_more below high piece left joined new adds s =
    let first = s.from.0 in
    let past = s.past in
    record {
      to = piece.offset + length piece.bytes;
      above = adds below (above_wider below s.to piece.offset joined first s.above) (omega (arith, first, past)) s.from.1;
      from = s.from.3;
      past = omega (arith, first, past);
      within = inr s.from.2;
    }

pub stretch_all : (below high : ℕ) (joined : List Piece) → Stretch below high [] joined → LieAbove below high joined
stretch_all below high joined s = by_end s.within where
  by_end : (joined ≡ []) ⊎ (s.to ≤ high) → LieAbove below high joined
  by_end (inl none) = subst (LieAbove below high) (sym none) tt
  by_end (inr le) = above_wider below s.to high joined le s.above

-- what is kept of the pieces so far
abbrev pub IsJoined : List Piece → ℕ → List Piece → Type 0
IsJoined pieces i joined = (numbered_in joined ≡ numbered_in (take i pieces))
    × ((below high : ℕ) → LieFrom (below + 1) high pieces → Stretch below high (drop i pieces) joined)

pub joined_none : (pieces joined : List Piece) → joined ≡ [] → IsJoined pieces 0 joined
joined_none pieces joined none = subst (IsJoined pieces 0) (sym none) (refl, stretch_none_all) where
  stretch_none_all : (below high : ℕ) → LieFrom (below + 1) high pieces → Stretch below high pieces []
  stretch_none_all below high lie = stretch_none below high pieces lie

pub joined_more : (pieces : List Piece) (i : ℕ) (piece : Piece) (joined new : List Piece) → i < length pieces → piece ≡ slice_index_or pieces i piece
    → IsJoined pieces i joined → numbered_in new ≡ numbered_in joined ++ numbered_from piece.offset piece.bytes
    → ((n : ℕ) → LieAbove n piece.offset joined → n < piece.offset → 0 < length piece.bytes → LieAbove n (piece.offset + length piece.bytes) new)
    → IsJoined pieces (i + 1) new
joined_more pieces i piece joined new below is before bytes adds = (
  bytes
      ∙ ap (λ (es : List (ℕ × ℕ)). es ++ numbered_from piece.offset piece.bytes) before.0
      ∙ sym (ap numbered_in (item_taken pieces i piece below is)
      ∙ numbered_pieces (take i pieces) (piece ∷ [])
      ∙ ap (λ (es : List (ℕ × ℕ)). numbered_in (take i pieces) ++ es) (numbered_one piece)),
  λ low high lie. stretch_more low high piece (drop (i + 1) pieces) joined new adds
      (subst (λ (ps : List Piece). Stretch low high ps joined) (item_left pieces i piece below is) (before.1 low high lie)),
)

pub joined_all : (pieces : List Piece) (i : ℕ) (joined : List Piece) → length pieces ≤ i → IsJoined pieces i joined
    → (numbered_in joined ≡ numbered_in pieces) × ((below high : ℕ) → LieFrom (below + 1) high pieces → LieAbove below high joined)
joined_all pieces i joined past is = (
  is.0 ∙ ap numbered_in (take_all i pieces past),
  λ low high lie. stretch_all low high joined (subst (λ (ps : List Piece). Stretch low high ps joined) (drop_all i pieces past) (is.1 low high lie)),
)

-- ---- whether pieces lie apart

-- it depends on those that are left
pub record AboveFrom (below high : ℕ) (pieces : List Piece) (end : ℕ) (left : List Piece) : Type 0 where
  pub to : LieAbove below high pieces → LieAbove end high left
  pub from : LieAbove end high left → LieAbove below high pieces

pub above_first : (below high : ℕ) (pieces : List Piece) → AboveFrom below high pieces below pieces
above_first below high pieces = record { to = λ lie. lie; from = λ lie. lie }

module _ (below high : ℕ) (pieces : List Piece) (i end : ℕ) (piece : Piece) (within : i < length pieces)
    (is : piece ≡ slice_index_or pieces i piece) (so : AboveFrom below high pieces end (drop i pieces)) where
  here : AboveFrom below high pieces end (piece ∷ drop (i + 1) pieces)
  here = subst (AboveFrom below high pieces end) (item_left pieces i piece within is) so

  pub above_further : IsPieceAbove end high piece → AboveFrom below high pieces (piece.offset + length piece.bytes) (drop (i + 1) pieces)
  above_further above = record { to = λ lie. (here.to lie).3; from = λ lie. here.from (above.0, above.1, above.2, lie) }

  pub above_stops : ¬ IsPieceAbove end high piece → ¬ LieAbove below high pieces
  above_stops not lie = let l = here.to lie in not (l.0, l.1, l.2)
