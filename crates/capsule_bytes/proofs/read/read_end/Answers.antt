use Rattle.std.proofs.Common.{[], ◌∷◌, refl, false}
use Rattle.std.specs.Int.{w32}
use Rattle.capsule_bytes.specs.Fields.{any_number, flag, text, counted}
use Rattle.capsule_bytes.specs.Capsules.{piece_fields, end_fields}
use Rattle.capsule_bytes.proofs.Forms.{end_state}
use Rattle.capsule_bytes.proofs.Readings.{behind, field_behind, passes_joined, exit}
use Rattle.capsule_bytes.proofs.read.read_end.Goals as goal

pub returns-in_err-send_first-clause-fields : goal.returns-in_err-send_first-clause-fields
returns-in_err-send_first-clause-fields c =
    exit end_fields _ _ _ _ c.from_residual.ensures.1 (field_behind end_fields ([])
    (end_state 0 0 0 [] 0 0 [] [] 0 false) (any_number w32 0) _ refl _ _ refl _ (c.in_err-send_first.ensures.stops (any_number w32 0) refl))

pub returns-in_err-acked-clause-fields : goal.returns-in_err-acked-clause-fields
returns-in_err-acked-clause-fields c =
    exit end_fields _ _ _ _ c.from_residual-in_err-acked.ensures.1 (field_behind end_fields ((any_number w32 c.in_ok-send_first.send_first ∷ []) ∷ [])
    (end_state c.in_ok-send_first.send_first 0 0 [] 0 0 [] [] 0 false) (any_number w32 0) _ refl _ _ (_, c.in_ok-send_first.ensures.passed, refl) _
    (c.in_err-acked.ensures.stops (any_number w32 0) refl))

pub returns-in_err-sent-clause-fields : goal.returns-in_err-sent-clause-fields
returns-in_err-sent-clause-fields c =
    exit end_fields _ _ _ _ c.from_residual-in_err-sent.ensures.1 (field_behind end_fields ((any_number w32 c.in_ok-send_first.send_first ∷ []) ∷
    (any_number w32 c.in_ok-acked.acked ∷ []) ∷ [])
    (end_state c.in_ok-send_first.send_first c.in_ok-acked.acked 0 [] 0 0 [] [] 0 false) (any_number w32 0) _ refl _ _ (
      _,
      c.in_ok-send_first.ensures.passed,
      (_, c.in_ok-acked.ensures.passed, refl),
    ) _ (c.in_err-sent.ensures.stops (any_number w32 0) refl))

pub returns-in_err-waiting-clause-fields : goal.returns-in_err-waiting-clause-fields
returns-in_err-waiting-clause-fields c =
    exit end_fields _ _ _ _ c.from_residual-in_err-waiting.ensures.1 (behind (text w32) end_fields ((any_number w32 c.in_ok-send_first.send_first
    ∷ []) ∷ (any_number w32 c.in_ok-acked.acked ∷ []) ∷ (any_number w32 c.in_ok-sent.sent ∷ []) ∷ [])
    (λ x. record {
      value = end_state c.in_ok-send_first.send_first c.in_ok-acked.acked
          c.in_ok-sent.sent x 0 0 [] [] 0 false;
      after = _;
      is = refl;
    }) _ _ (
      _,
      c.in_ok-send_first.ensures.passed,
      (
        _,
        c.in_ok-acked.ensures.passed,
        (_, c.in_ok-sent.ensures.passed, refl),
      ),
    ) _ c.in_err-waiting.ensures)

pub returns-in_err-receive_first-clause-fields : goal.returns-in_err-receive_first-clause-fields
returns-in_err-receive_first-clause-fields c =
    exit end_fields _ _ _ _ c.from_residual-in_err-receive_first.ensures.1 (field_behind end_fields ((any_number w32 c.in_ok-send_first.send_first
    ∷ []) ∷ (any_number w32 c.in_ok-acked.acked ∷ []) ∷ (any_number w32 c.in_ok-sent.sent ∷ []) ∷ text w32 c.in_ok-waiting.waiting ∷ [])
    (end_state c.in_ok-send_first.send_first c.in_ok-acked.acked c.in_ok-sent.sent c.in_ok-waiting.waiting 0 0 [] [] 0 false)
    (any_number w32 0) _ refl _ _ (
      _,
      c.in_ok-send_first.ensures.passed,
      (
        _,
        c.in_ok-acked.ensures.passed,
        (
          _,
          c.in_ok-sent.ensures.passed,
          (
            _,
            c.in_ok-waiting.ensures,
            refl,
          ),
        ),
      ),
    ) _ (c.in_err-receive_first.ensures.stops (any_number w32 0) refl))

pub returns-in_err-taken-clause-fields : goal.returns-in_err-taken-clause-fields
returns-in_err-taken-clause-fields c =
    exit end_fields _ _ _ _ c.from_residual-in_err-taken.ensures.1 (field_behind end_fields ((any_number w32 c.in_ok-send_first.send_first ∷ []) ∷
    (any_number w32 c.in_ok-acked.acked ∷ []) ∷ (any_number w32 c.in_ok-sent.sent ∷ []) ∷ text w32 c.in_ok-waiting.waiting ∷ (any_number w32
    c.in_ok-receive_first.receive_first ∷ []) ∷ [])
    (end_state c.in_ok-send_first.send_first c.in_ok-acked.acked c.in_ok-sent.sent c.in_ok-waiting.waiting
    c.in_ok-receive_first.receive_first 0 [] [] 0 false) (any_number w32 0) _ refl _ _ (
      _,
      c.in_ok-send_first.ensures.passed,
      (
        _,
        c.in_ok-acked.ensures.passed,
        (_, c.in_ok-sent.ensures.passed, (_, c.in_ok-waiting.ensures, (_, c.in_ok-receive_first.ensures.passed, refl))),
      ),
    ) _
    (c.in_err-taken.ensures.stops (any_number w32 0) refl))

pub returns-in_err-ready-clause-fields : goal.returns-in_err-ready-clause-fields
returns-in_err-ready-clause-fields c =
    exit end_fields _ _ _ _ c.from_residual-in_err-ready.ensures.1 (behind (text w32) end_fields ((any_number w32 c.in_ok-send_first.send_first ∷ [])
    ∷ (any_number w32 c.in_ok-acked.acked ∷ []) ∷ (any_number w32 c.in_ok-sent.sent ∷ []) ∷ text w32 c.in_ok-waiting.waiting ∷ (any_number w32
    c.in_ok-receive_first.receive_first ∷ []) ∷ (any_number w32 c.in_ok-taken.taken ∷ []) ∷ [])
    (λ x. record {
      value = end_state c.in_ok-send_first.send_first c.in_ok-acked.acked c.in_ok-sent.sent c.in_ok-waiting.waiting
          c.in_ok-receive_first.receive_first c.in_ok-taken.taken x [] 0 false;
      after = _;
      is = refl;
    }) _ _ (
      _,
      c.in_ok-send_first.ensures.passed,
      (
        _,
        c.in_ok-acked.ensures.passed,
        (
          _,
          c.in_ok-sent.ensures.passed,
          (
            _,
            c.in_ok-waiting.ensures,
            (
              _,
              c.in_ok-receive_first.ensures.passed,
              (
                _,
                c.in_ok-taken.ensures.passed,
                refl,
              ),
            ),
          ),
        ),
      ),
    ) _ c.in_err-ready.ensures)

pub returns-in_err-ahead-clause-fields : goal.returns-in_err-ahead-clause-fields
returns-in_err-ahead-clause-fields c =
    exit end_fields _ _ _ _ c.from_residual-in_err-ahead.ensures.1 (behind (counted piece_fields) end_fields ((any_number w32
    c.in_ok-send_first.send_first ∷ []) ∷ (any_number w32 c.in_ok-acked.acked ∷ []) ∷ (any_number w32 c.in_ok-sent.sent ∷ []) ∷ text w32
    c.in_ok-waiting.waiting ∷ (any_number w32 c.in_ok-receive_first.receive_first ∷ []) ∷ (any_number w32 c.in_ok-taken.taken ∷ []) ∷ text w32
    c.in_ok-ready.ready ∷ [])
    (λ x. record {
      value = end_state c.in_ok-send_first.send_first c.in_ok-acked.acked c.in_ok-sent.sent c.in_ok-waiting.waiting
          c.in_ok-receive_first.receive_first c.in_ok-taken.taken c.in_ok-ready.ready x 0 false;
      after = _;
      is = refl;
    }) _ _ (
      _,
      c.in_ok-send_first.ensures.passed,
      (
        _,
        c.in_ok-acked.ensures.passed,
        (
          _,
          c.in_ok-sent.ensures.passed,
          (
            _,
            c.in_ok-waiting.ensures,
            (
              _,
              c.in_ok-receive_first.ensures.passed,
              (_, c.in_ok-taken.ensures.passed, (_, c.in_ok-ready.ensures, refl)),
            ),
          ),
        ),
      ),
    ) _ c.in_err-ahead.ensures)

pub returns-in_err-acked_at_turn-clause-fields : goal.returns-in_err-acked_at_turn-clause-fields
returns-in_err-acked_at_turn-clause-fields c =
    exit end_fields _ _ _ _ c.from_residual-in_err-acked_at_turn.ensures.1 (field_behind end_fields ((any_number w32 c.in_ok-send_first.send_first
    ∷ []) ∷ (any_number w32 c.in_ok-acked.acked ∷ []) ∷ (any_number w32 c.in_ok-sent.sent ∷ []) ∷ text w32 c.in_ok-waiting.waiting ∷
    (any_number w32 c.in_ok-receive_first.receive_first ∷ []) ∷ (any_number w32 c.in_ok-taken.taken ∷ []) ∷ text w32 c.in_ok-ready.ready
    ∷ counted piece_fields c.in_ok-ahead.ahead ∷ [])
    (end_state c.in_ok-send_first.send_first c.in_ok-acked.acked c.in_ok-sent.sent c.in_ok-waiting.waiting c.in_ok-receive_first.receive_first
    c.in_ok-taken.taken c.in_ok-ready.ready c.in_ok-ahead.ahead 0 false) (any_number w32 0) _ refl _ _ (
      _,
      c.in_ok-send_first.ensures.passed,
      (
        _,
        c.in_ok-acked.ensures.passed,
        (
          _,
          c.in_ok-sent.ensures.passed,
          (
            _,
            c.in_ok-waiting.ensures,
            (
              _,
              c.in_ok-receive_first.ensures.passed,
              (
                _,
                c.in_ok-taken.ensures.passed,
                (_, c.in_ok-ready.ensures, (_, c.in_ok-ahead.ensures, refl)),
              ),
            ),
          ),
        ),
      ),
    ) _ (c.in_err-acked_at_turn.ensures.stops
    (any_number w32 0) refl))

pub returns-in_err-owed-clause-fields : goal.returns-in_err-owed-clause-fields
returns-in_err-owed-clause-fields c =
    exit end_fields _ _ _ _ c.from_residual-in_err-owed.ensures.1 (behind (λ b. flag b ∷ []) end_fields ((any_number w32
    c.in_ok-send_first.send_first ∷ []) ∷ (any_number w32 c.in_ok-acked.acked ∷ []) ∷ (any_number w32 c.in_ok-sent.sent ∷ []) ∷ text w32
    c.in_ok-waiting.waiting ∷ (any_number w32 c.in_ok-receive_first.receive_first ∷ []) ∷ (any_number w32 c.in_ok-taken.taken ∷ []) ∷ text w32
    c.in_ok-ready.ready ∷ counted piece_fields c.in_ok-ahead.ahead ∷ (any_number w32 c.in_ok-acked_at_turn.acked_at_turn ∷ []) ∷ [])
    (λ x. record {
      value = end_state c.in_ok-send_first.send_first c.in_ok-acked.acked c.in_ok-sent.sent c.in_ok-waiting.waiting
          c.in_ok-receive_first.receive_first c.in_ok-taken.taken c.in_ok-ready.ready c.in_ok-ahead.ahead
          c.in_ok-acked_at_turn.acked_at_turn x;
      after = _;
      is = refl;
    }) _ _ (
      _,
      c.in_ok-send_first.ensures.passed,
      (
        _,
        c.in_ok-acked.ensures.passed,
        (
          _,
          c.in_ok-sent.ensures.passed,
          (
            _,
            c.in_ok-waiting.ensures,
            (
              _,
              c.in_ok-receive_first.ensures.passed,
              (
                _,
                c.in_ok-taken.ensures.passed,
                (
                  _,
                  c.in_ok-ready.ensures,
                  (_, c.in_ok-ahead.ensures, (_, c.in_ok-acked_at_turn.ensures.passed, refl)),
                ),
              ),
            ),
          ),
        ),
      ),
    ) _ c.in_err-owed.ensures)

pub returns-clause-fields : goal.returns-clause-fields
returns-clause-fields c =
    passes_joined ((any_number w32 c.in_ok-send_first.send_first ∷ []) ∷ (any_number w32 c.in_ok-acked.acked ∷ []) ∷ (any_number w32
    c.in_ok-sent.sent ∷ []) ∷ text w32 c.in_ok-waiting.waiting ∷ (any_number w32 c.in_ok-receive_first.receive_first ∷ []) ∷ (any_number w32
    c.in_ok-taken.taken ∷ []) ∷ text w32 c.in_ok-ready.ready ∷ counted piece_fields c.in_ok-ahead.ahead ∷ (any_number w32
    c.in_ok-acked_at_turn.acked_at_turn ∷ []) ∷ [])
    (flag c.in_ok-owed.owed ∷ []) _ _ _ (
      _,
      c.in_ok-send_first.ensures.passed,
      (
        _,
        c.in_ok-acked.ensures.passed,
        (
          _,
          c.in_ok-sent.ensures.passed,
          (
            _,
            c.in_ok-waiting.ensures,
            (
              _,
              c.in_ok-receive_first.ensures.passed,
              (
                _,
                c.in_ok-taken.ensures.passed,
                (
                  _,
                  c.in_ok-ready.ensures,
                  (
                    _,
                    c.in_ok-ahead.ensures,
                    (
                      _,
                      c.in_ok-acked_at_turn.ensures.passed,
                      refl,
                    ),
                  ),
                ),
              ),
            ),
          ),
        ),
      ),
    ) c.in_ok-owed.ensures
