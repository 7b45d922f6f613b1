use Rattle.std.proofs.Common.{[], ◌∷◌, length, refl}
use Rattle.std.specs.Int.{w32}
use Rattle.capsule_bytes.specs.Fields.{any_number, flag, text, counted}
use Rattle.capsule_bytes.specs.Capsules.{piece_fields}
use Rattle.capsule_bytes.proofs.Checked.{fits_below}
use Rattle.capsule_bytes.proofs.Readings.{right_front}
use Rattle.capsule_bytes.proofs.Written.{written}
use Rattle.capsule_bytes.proofs.write.push_end.Goals as goal

pub push_text-requires : goal.push_text-requires
push_text-requires c = rw c.deref.ensures (fits_below (length c.args.end.now.waiting) 4294967296 c.requires.1.1.1.0.0)

pub push_text-requires-2 : goal.push_text-requires-2
push_text-requires-2 c = rw c.deref-2.ensures (fits_below (length c.args.end.now.ready) 4294967296 c.requires.1.1.1.1.1.1.1.0.0)

pub push_pieces-requires : goal.push_pieces-requires
push_pieces-requires c =
    let e = c.args.end.now in
    rw c.deref-3.ensures (right_front (counted piece_fields e.ahead) (any_number w32 e.acked_at_turn ∷ flag e.owed ∷ []) c.requires.1.1.1.1.1.1.1.1.1)

pub returns : goal.returns
returns c =
    let e = c.args.end.now in
    written ((any_number w32 e.send_first.0 ∷ []) ∷ (any_number w32 e.acked ∷ []) ∷ (any_number w32 e.sent ∷ []) ∷ text w32 e.waiting
    ∷ (any_number w32 e.receive_first.0 ∷ []) ∷ (any_number w32 e.taken ∷ []) ∷ text w32 e.ready ∷ counted piece_fields e.ahead
    ∷ (any_number w32 e.acked_at_turn ∷ []) ∷ []) (flag e.owed ∷ []) _ _ _ (
      _,
      c.in_ok-push_u32.ensures,
      (
        _,
        c.in_ok-push_u32-2.ensures,
        (
          _,
          c.in_ok-push_u32-3.ensures,
          (
            _,
            (rw c.deref.ensures at c.in_ok-push_text.ensures),
            (
              _,
              c.in_ok-push_u32-4.ensures,
              (
                _,
                c.in_ok-push_u32-5.ensures,
                (
                  _,
                  (rw c.deref-2.ensures at c.in_ok-push_text-2.ensures),
                  (
                    _,
                    (rw c.deref-3.ensures at c.in_ok-push_pieces.ensures),
                    (_, c.in_ok-push_u32-6.ensures, refl),
                  ),
                ),
              ),
            ),
          ),
        ),
      ),
    ) c.in_ok-push_flag.ensures
