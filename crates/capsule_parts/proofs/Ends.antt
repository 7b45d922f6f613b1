-- The end of a capsule, and what it stands for.
use Rattle.std.proofs.Common.{◌≡◌, ℕ, ◌+◌, ◌≤◌, List, [], ◌∷◌, ◌++◌, length, take, drop, Option, None, refl, sym, ap, ◌∙◌, subst}
use Rattle.std.proofs.Common.{length-append, arith, inl, inr}
use Rattle.std.specs.FinMap as map
use Rattle.std.specs.Option.{option_or}
use Rattle.std.proofs.lemmas.Bool.{cases_lt}
use Rattle.std.proofs.Math.Seq.{drop-append_seam, take-append_seam}
use Rattle.tcp_seq.specs.Endpoint.{Endpoint, received, received_bytes}
use Rattle.tcp_seq.specs.declared.state.Piece.{Piece}
use Rattle.tcp_seq.specs.declared.state.EndState.{EndState}
use Rattle.tcp_seq.proofs.ByteFrom.{byte_past}
use Rattle.tcp_seq.proofs.Received.{some_none}
use Rattle.tcp_reasm.specs.Runs.{held}
use Rattle.tcp_end.specs.Standing.{EndStands}
use Rattle.tcp_end.specs.State.{IsEndState, LieFrom, got}
use Rattle.tcp_end.specs.Whole.{endpoint_of}
use Rattle.tcp_end.proofs.Wholes.{get-arrived_of}
use Rattle.capsule_parts.proofs.Runs.{arrived_in_order}

-- a byte of pieces stands below their end
held_within : (low high k : ℕ) (ps : List Piece) → LieFrom low high ps → high ≤ k → held ps k ≡ None
held_within low high k [] lie past = refl
held_within low high k (p ∷ ps) lie past =
    ap (λ (o : Option ℕ). option_or o (held ps k)) (byte_past p.offset p.bytes k (omega (arith, lie.2, past)))
    ∙ held_within (p.offset + length p.bytes) high k ps lie.3 past

-- ---- the state of an end stands for the endpoint that has its fields

module _ (s : EndState) (stream read : List ℕ) (sound : IsEndState s) (taken : s.taken ≡ length read) where
  abbrev e : Endpoint
  e = endpoint_of stream read s

  abbrev all : List ℕ
  all = read ++ s.ready

  all_length : length all ≡ got s
  all_length = length-append read s.ready ∙ ap (λ (n : ℕ). n + length s.ready) (sym taken)

  lie : LieFrom (length all + 1) (got s + 16384) s.ahead
  lie = subst (λ (n : ℕ). LieFrom (n + 1) (got s + 16384) s.ahead) (sym all_length) sound.ahead

  pub received_all : received_bytes e ≡ all
  received_all = arrived_in_order all (got s + 16384) s.ahead lie

  pub read_first : take s.taken (received_bytes e) ≡ read
  read_first = ap (take s.taken) received_all ∙ ap (λ (n : ℕ). take n all) taken ∙ take-append_seam read s.ready

  pub read_within : s.taken ≤ received e
  read_within = let size = ap (λ (xs : List ℕ). length xs) received_all in let n = all_length in omega (arith, size, n)

  pub ready_left : drop s.taken (received_bytes e) ≡ s.ready
  ready_left = ap (drop s.taken) received_all ∙ ap (λ (n : ℕ). drop n all) taken ∙ drop-append_seam read s.ready

  ahead_is : (offset : ℕ) → received e ≤ offset → map.get e.arrived offset ≡ held s.ahead offset
  ahead_is offset past =
      get-arrived_of all s.ahead offset
      ∙ ap (λ (o : Option ℕ). option_or o (held s.ahead offset)) (byte_past 0 all offset
      (let size = ap (λ (xs : List ℕ). length xs) received_all in omega (arith, past, size)))

  in_window : (offset : ℕ) → got s + 16384 ≤ offset → map.get e.arrived offset ≡ None
  in_window offset past =
      get-arrived_of all s.ahead offset
      ∙ ap (λ (o : Option ℕ). option_or o (held s.ahead offset)) (byte_past 0 all offset (let n = all_length in omega (arith, n, past)))
      ∙ held_within (length all + 1) (got s + 16384) offset s.ahead lie past

  pub stands : s.acked ≤ length stream → s.waiting ≡ drop s.acked stream → got s ≤ 1048576 → EndStands s e
  stands within waits few = record {
    sound = sound;
    acked = refl;
    emitted = refl;
    read = refl;
    owed = refl;
    acked_within = within;
    waiting = waits;
    read_within = read_within;
    ready = sym ready_left;
    ahead = ahead_is;
    in_stream = λ offset there. elim (cases_lt offset (got s + 16384)) [
      | inl below ↦ omega (arith, below, few)
      | inr past ↦ absurd (some_none (map.get e.arrived offset) there (in_window offset past))
    ];
  }
