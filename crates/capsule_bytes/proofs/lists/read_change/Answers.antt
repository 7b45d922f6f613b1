use Rattle.std.proofs.Common.{List, [], ◌∷◌, refl, sym, ap}
use Rattle.std.specs.Prelude.{None, option_copied}
use Rattle.std.specs.Int.{w8, w32, is_in_range}
use Rattle.std.proofs.lemmas.List.{append-nil}
use Rattle.capsule_bytes.specs.Fields.{Field, number, any_number}
use Rattle.capsule_bytes.specs.Capsules.{side_number, prefix_len, attrs_fields, change_fields}
use Rattle.capsule_bytes.proofs.Readings.{behind, passes_joined, exit}
use Rattle.capsule_bytes.proofs.lists.read_change.Goals as goal

pub returns-in_err-side : goal.returns-in_err-side
returns-in_err-side c =
    exit (change_fields (option_copied c.args.before)) _ _ _ _ c.from_residual.ensures.1 (behind (λ side. number w8 (is_in_range 0 1)
    (side_number side) ∷ []) (change_fields (option_copied c.args.before)) []
    (λ side. record { value = record { side = side; prefix = record { address = 0; len = 0 }; attrs = None }; after = _; is = refl })
    _ _ refl _ c.in_err-side.ensures)

pub returns-in_err-prefix : goal.returns-in_err-prefix
returns-in_err-prefix c =
    let before = option_copied c.args.before in
    let side = c.in_ok-side.side in
    exit (change_fields (option_copied c.args.before)) _ _ _ _ c.from_residual-in_err-prefix.ensures.1 (behind (λ p. any_number w32 p.address
    ∷ prefix_len before side p ∷ []) (change_fields before)
    ((number w8 (is_in_range 0 1) (side_number side) ∷ []) ∷ [])
    (λ p. record { value = record { side = side; prefix = p; attrs = None }; after = _; is = refl })
    _ _ (_, c.in_ok-side.ensures, refl) _ c.in_err-prefix.ensures)

pub returns-in_err-attrs : goal.returns-in_err-attrs
returns-in_err-attrs c =
    let before = option_copied c.args.before in
    let side = c.in_ok-side.side in
    let p = c.in_ok-prefix.prefix in
    exit (change_fields (option_copied c.args.before)) _ _ _ _ c.from_residual-in_err-attrs.ensures.1 (behind attrs_fields (change_fields before)
    ((number w8 (is_in_range 0 1) (side_number side) ∷ []) ∷ (any_number w32 p.address ∷ prefix_len before side p ∷ []) ∷ [])
    (λ attrs. record {
      value = record { side = side; prefix = p; attrs = attrs };
      after = [];
      is = ap (λ (fs : List Field).
          number w8 (is_in_range 0 1) (side_number side) ∷ any_number w32 p.address ∷ prefix_len before side p ∷ fs) (sym (append-nil (attrs_fields attrs)));
    })
    _ _ (_, c.in_ok-side.ensures, (_, c.in_ok-prefix.ensures, refl)) _ c.in_err-attrs.ensures)

pub returns : goal.returns
returns c =
    let before = option_copied c.args.before in
    let side = c.in_ok-side.side in
    let p = c.in_ok-prefix.prefix in
    passes_joined ((number w8 (is_in_range 0 1) (side_number side) ∷ []) ∷ (any_number w32 p.address ∷ prefix_len before side p ∷ []) ∷ [])
    (attrs_fields c.in_ok-attrs.attrs) _ _ _ (_, c.in_ok-side.ensures, (_, c.in_ok-prefix.ensures, refl)) c.in_ok-attrs.ensures
