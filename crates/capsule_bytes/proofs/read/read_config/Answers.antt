use Rattle.std.proofs.Common.{[], ◌∷◌, refl, false}
use Rattle.std.specs.Int.{w8, w16, w32, is_in_range}
use Rattle.capsule_bytes.specs.Fields.{any_number, number}
use Rattle.capsule_bytes.specs.Capsules.{offer}
use Rattle.capsule_bytes.proofs.Forms.{config_form, config}
use Rattle.capsule_bytes.proofs.Readings.{behind, field_behind, passes_joined, exit}
use Rattle.capsule_bytes.proofs.read.read_config.Goals as goal

pub returns-in_err-peering : goal.returns-in_err-peering
returns-in_err-peering c =
    exit config_form _ _ _ _ c.from_residual.ensures.1 (field_behind config_form ([])
    (config 0 0 0 0 0 0 0 false false) (any_number w8 0) _ refl _ _ refl _ (c.in_err-peering.ensures.stops (any_number w8 0) refl))

pub returns-in_err-remote_as : goal.returns-in_err-remote_as
returns-in_err-remote_as c =
    exit config_form _ _ _ _ c.from_residual-in_err-remote_as.ensures.1 (field_behind config_form ((any_number w8 c.in_ok-peering.peering ∷ []) ∷ [])
    (config c.in_ok-peering.peering 0 0 0 0 0 0 false false) (any_number w32 0) _ refl _ _ (_, c.in_ok-peering.ensures.passed, refl) _
    (c.in_err-remote_as.ensures.stops (any_number w32 0) refl))

pub returns-in_err-home_as : goal.returns-in_err-home_as
returns-in_err-home_as c =
    exit config_form _ _ _ _ c.from_residual-in_err-home_as.ensures.1 (field_behind config_form ((any_number w8 c.in_ok-peering.peering ∷ []) ∷
    (any_number w32 c.in_ok-remote_as.remote_as ∷ []) ∷ [])
    (config c.in_ok-peering.peering c.in_ok-remote_as.remote_as 0 0 0 0 0 false false) (any_number w32 0) _ refl _ _ (
      _,
      c.in_ok-peering.ensures.passed,
      (_, c.in_ok-remote_as.ensures.passed, refl),
    ) _ (c.in_err-home_as.ensures.stops (any_number w32 0) refl))

pub returns-in_err-identifier : goal.returns-in_err-identifier
returns-in_err-identifier c =
    exit config_form _ _ _ _ c.from_residual-in_err-identifier.ensures.1 (field_behind config_form ((any_number w8 c.in_ok-peering.peering ∷ []) ∷
    (any_number w32 c.in_ok-remote_as.remote_as ∷ []) ∷ (any_number w32 c.in_ok-home_as.home_as ∷ []) ∷ [])
    (config c.in_ok-peering.peering c.in_ok-remote_as.remote_as c.in_ok-home_as.home_as 0 0 0 0 false false) (any_number w32 0) _ refl _ _ (
      _,
      c.in_ok-peering.ensures.passed,
      (_, c.in_ok-remote_as.ensures.passed, (_, c.in_ok-home_as.ensures.passed, refl)),
    ) _
    (c.in_err-identifier.ensures.stops (any_number w32 0) refl))

pub returns-in_err-remote_address : goal.returns-in_err-remote_address
returns-in_err-remote_address c =
    exit config_form _ _ _ _ c.from_residual-in_err-remote_address.ensures.1 (field_behind config_form ((any_number w8 c.in_ok-peering.peering ∷ []) ∷
    (any_number w32 c.in_ok-remote_as.remote_as ∷ []) ∷ (any_number w32 c.in_ok-home_as.home_as ∷ []) ∷ (any_number w32 c.in_ok-identifier.identifier
    ∷ []) ∷ [])
    (config c.in_ok-peering.peering c.in_ok-remote_as.remote_as c.in_ok-home_as.home_as c.in_ok-identifier.identifier 0 0 0 false false)
    (any_number w32 0) _ refl _ _ (
      _,
      c.in_ok-peering.ensures.passed,
      (
        _,
        c.in_ok-remote_as.ensures.passed,
        (
          _,
          c.in_ok-home_as.ensures.passed,
          (_, c.in_ok-identifier.ensures.passed, refl),
        ),
      ),
    ) _ (c.in_err-remote_address.ensures.stops (any_number w32 0) refl))

pub returns-in_err-local_address : goal.returns-in_err-local_address
returns-in_err-local_address c =
    exit config_form _ _ _ _ c.from_residual-in_err-local_address.ensures.1 (field_behind config_form ((any_number w8 c.in_ok-peering.peering ∷ []) ∷
    (any_number w32 c.in_ok-remote_as.remote_as ∷ []) ∷ (any_number w32 c.in_ok-home_as.home_as ∷ []) ∷ (any_number w32 c.in_ok-identifier.identifier
    ∷ []) ∷ (any_number w32 c.in_ok-remote_address.remote_address ∷ []) ∷ [])
    (config c.in_ok-peering.peering c.in_ok-remote_as.remote_as c.in_ok-home_as.home_as c.in_ok-identifier.identifier
    c.in_ok-remote_address.remote_address 0 0 false false) (any_number w32 0) _ refl _ _ (
      _,
      c.in_ok-peering.ensures.passed,
      (
        _,
        c.in_ok-remote_as.ensures.passed,
        (
          _,
          c.in_ok-home_as.ensures.passed,
          (
            _,
            c.in_ok-identifier.ensures.passed,
            (
              _,
              c.in_ok-remote_address.ensures.passed,
              refl,
            ),
          ),
        ),
      ),
    ) _ (c.in_err-local_address.ensures.stops (any_number w32 0) refl))

pub returns-in_err-home_hold : goal.returns-in_err-home_hold
returns-in_err-home_hold c =
    exit config_form _ _ _ _ c.from_residual-in_err-home_hold.ensures.1 (field_behind config_form ((any_number w8 c.in_ok-peering.peering ∷ []) ∷
    (any_number w32 c.in_ok-remote_as.remote_as ∷ []) ∷ (any_number w32 c.in_ok-home_as.home_as ∷ []) ∷ (any_number w32 c.in_ok-identifier.identifier
    ∷ []) ∷ (any_number w32 c.in_ok-remote_address.remote_address ∷ []) ∷ (any_number w32 c.in_ok-local_address.local_address ∷ []) ∷ [])
    (config c.in_ok-peering.peering c.in_ok-remote_as.remote_as c.in_ok-home_as.home_as c.in_ok-identifier.identifier
    c.in_ok-remote_address.remote_address c.in_ok-local_address.local_address 0 false false) (any_number w16 0) _ refl _ _ (
      _,
      c.in_ok-peering.ensures.passed,
      (
        _,
        c.in_ok-remote_as.ensures.passed,
        (
          _,
          c.in_ok-home_as.ensures.passed,
          (
            _,
            c.in_ok-identifier.ensures.passed,
            (_, c.in_ok-remote_address.ensures.passed, (_, c.in_ok-local_address.ensures.passed, refl)),
          ),
        ),
      ),
    ) _ (c.in_err-home_hold.ensures.stops
    (any_number w16 0) refl))

pub returns-in_err-offered : goal.returns-in_err-offered
returns-in_err-offered c =
    exit config_form _ _ _ _ c.from_residual-in_err-offered.ensures.1 (behind (λ o. number w8 (is_in_range 0 3) (offer o.0 o.1) ∷ []) config_form
    ((any_number w8 c.in_ok-peering.peering ∷ []) ∷ (any_number w32 c.in_ok-remote_as.remote_as ∷ []) ∷ (any_number w32 c.in_ok-home_as.home_as ∷ [])
    ∷ (any_number w32 c.in_ok-identifier.identifier ∷ []) ∷ (any_number w32 c.in_ok-remote_address.remote_address ∷ []) ∷ (any_number w32
    c.in_ok-local_address.local_address ∷ []) ∷ (any_number w16 c.in_ok-home_hold.home_hold ∷ []) ∷ [])
    (λ o. record {
      value = config c.in_ok-peering.peering c.in_ok-remote_as.remote_as c.in_ok-home_as.home_as c.in_ok-identifier.identifier
          c.in_ok-remote_address.remote_address c.in_ok-local_address.local_address c.in_ok-home_hold.home_hold o.0 o.1;
      after = [];
      is = refl;
    }) _ _ (
      _,
      c.in_ok-peering.ensures.passed,
      (
        _,
        c.in_ok-remote_as.ensures.passed,
        (
          _,
          c.in_ok-home_as.ensures.passed,
          (
            _,
            c.in_ok-identifier.ensures.passed,
            (
              _,
              c.in_ok-remote_address.ensures.passed,
              (
                _,
                c.in_ok-local_address.ensures.passed,
                (
                  _,
                  c.in_ok-home_hold.ensures.passed,
                  refl,
                ),
              ),
            ),
          ),
        ),
      ),
    ) _ c.in_err-offered.ensures)

pub returns : goal.returns
returns c = passes_joined ((any_number w8 c.in_ok-peering.peering ∷ []) ∷ (any_number w32 c.in_ok-remote_as.remote_as ∷ []) ∷ (any_number w32
    c.in_ok-home_as.home_as ∷ []) ∷ (any_number w32 c.in_ok-identifier.identifier ∷ []) ∷ (any_number w32 c.in_ok-remote_address.remote_address ∷ [])
    ∷ (any_number w32 c.in_ok-local_address.local_address ∷ []) ∷ (any_number w16 c.in_ok-home_hold.home_hold ∷ []) ∷ []) (number w8 (is_in_range 0 3)
    (offer c.in_ok-offered.offered c.in_ok-offered.unicast) ∷ []) _ _ _ (
      _,
      c.in_ok-peering.ensures.passed,
      (
        _,
        c.in_ok-remote_as.ensures.passed,
        (
          _,
          c.in_ok-home_as.ensures.passed,
          (
            _,
            c.in_ok-identifier.ensures.passed,
            (
              _,
              c.in_ok-remote_address.ensures.passed,
              (
                _,
                c.in_ok-local_address.ensures.passed,
                (
                  _,
                  c.in_ok-home_hold.ensures.passed,
                  refl,
                ),
              ),
            ),
          ),
        ),
      ),
    ) c.in_ok-offered.ensures
