use Rattle.std.proofs.Common.{◌≡◌, ◌∙◌, ◌-◌, length, refl, ap, subst, arith}
use Rattle.std.specs.Prelude.{None, option_copied}
use Rattle.std.specs.Int.{w32}
use Rattle.std.specs.List.{last_or, slice_get}
use Rattle.capsule_bytes.specs.Stops.{Passes, Stops}
use Rattle.std.proofs.lemmas.List.{length_push}
use Rattle.capsule_bytes.specs.Fields.{any_number, counted}
use Rattle.capsule_bytes.specs.Capsules.{piece_fields}
use Rattle.capsule_bytes.proofs.Readings.{Passes-none, exit}
use Rattle.capsule_bytes.proofs.MemberLists.{last_is, Passes-push, Passes-counted, count_stops, member_stops}
use Rattle.capsule_bytes.proofs.lists.read_pieces.Goals as goal

pub returns-in_err-count : goal.returns-in_err-count
returns-in_err-count c = exit (counted piece_fields) _ _ _ _ c.from_residual.ensures.1 (count_stops piece_fields _ _ (c.in_err-count.ensures.stops
    (any_number w32 0) refl))

pub loop-init : goal.loop-init
loop-init c = rw c.new-pieces.ensures (refl, Passes-none _)

pub returns-in_err-piece : goal.returns-in_err-piece
returns-in_err-piece c =
    let before : option_copied c.last.result ≡ last_or None c.loop.pieces =
    c.last.ensures.value ∙ ap (λ xs. slice_get xs (length xs - 1)) c.deref.ensures ∙ last_is c.loop.pieces in
    exit (counted piece_fields) _ _ _ _ c.from_residual-in_err-piece.ensures.1 (member_stops piece_fields c.in_ok-count.count c.loop.pieces _ _ _
    (omega (arith, c.loop.invariant.0))
    c.in_ok-count.ensures.passed c.loop.invariant.1 _
    (subst (λ b. Stops (piece_fields b) c.loop.cursor c.in_err-piece.field-0.0) before c.in_err-piece.ensures))

pub loop-preserved : goal.loop-preserved
loop-preserved c =
    let before : option_copied c.last.result ≡ last_or None c.loop.pieces =
    c.last.ensures.value ∙ ap (λ xs. slice_get xs (length xs - 1)) c.deref.ensures ∙ last_is c.loop.pieces in
    rw c.in_ok-push.ensures.ok (
      omega (
        arith,
        length_push c.loop.pieces
            c.in_ok-piece.piece,
        c.loop.invariant.0,
      ),
      Passes-push piece_fields c.loop.pieces c.in_ok-piece.piece _ _ _ c.loop.invariant.1
          (subst (λ b. Passes (piece_fields b c.in_ok-piece.piece) c.loop.cursor c.read_piece.new.cursor) before c.in_ok-piece.ensures),
    )

pub returns : goal.returns
returns c =
    Passes-counted piece_fields c.in_ok-count.count c.loop.pieces _ _ _ (omega (arith, c.loop.invariant.0)) c.in_ok-count.ensures.passed c.loop.invariant.1
