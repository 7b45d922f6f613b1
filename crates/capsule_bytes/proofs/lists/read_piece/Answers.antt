use Rattle.std.proofs.Common.{◌≡◌, ℕ, [], ◌∷◌, length, refl, sym, ap, true}
use Rattle.std.specs.Prelude.{nat_lt, option_copied, replicate}
use Rattle.std.specs.Int.{w32}
use Rattle.std.proofs.lemmas.List.{length-replicate}
use Rattle.capsule_bytes.specs.Fields.{number, octets_where}
use Rattle.capsule_bytes.specs.Capsules.{is_ahead_of, piece_fields}
use Rattle.capsule_bytes.proofs.Checked.{Passes-number}
use Rattle.capsule_bytes.proofs.Readings.{field_behind, passes_joined, exit}
use Rattle.capsule_bytes.proofs.lists.read_piece.Goals as goal

pub returns-in_err-offset : goal.returns-in_err-offset
returns-in_err-offset c =
    let form = piece_fields (option_copied c.args.before) in
    exit (piece_fields (option_copied c.args.before)) _ _ _ _ c.from_residual.ensures.1 (field_behind form [] (record { offset = 0; bytes = [] })
    (number w32 (is_ahead_of (option_copied c.args.before)) 0) _ refl _ _ refl _ (c.in_err-offset.ensures.stops 0))

pub returns-in_err-size : goal.returns-in_err-size
returns-in_err-size c =
    let form = piece_fields (option_copied c.args.before) in
    let offset = number w32 (is_ahead_of (option_copied c.args.before)) c.in_ok-offset.offset in
    exit (piece_fields (option_copied c.args.before)) _ _ _ _ c.from_residual-in_err-size.ensures.1 (field_behind form ((offset ∷ []) ∷ [])
    (record { offset = c.in_ok-offset.offset; bytes = [] })
    (number w32 (nat_lt 0) 0) _ refl _ _ (_, c.in_ok-offset.ensures.passed, refl) _ (c.in_err-size.ensures.stops 0))

pub returns-in_err-bytes : goal.returns-in_err-bytes
returns-in_err-bytes c =
    let form = piece_fields (option_copied c.args.before) in
    let offset = number w32 (is_ahead_of (option_copied c.args.before)) c.in_ok-offset.offset in
    let size = c.in_ok-size.size in
    let zeros = replicate size 0 in
    let bytes = octets_where (λ _. true) zeros in
    let long : form (record { offset = c.in_ok-offset.offset; bytes = zeros }) ≡ offset ∷ number w32 (nat_lt 0) size ∷ bytes ∷ [] =
    ap (λ (n : ℕ). offset ∷ number w32 (nat_lt 0) n ∷ bytes ∷ []) (length-replicate size 0) in
    exit (piece_fields (option_copied c.args.before)) _ _ _ _ c.from_residual-in_err-bytes.ensures.1 (field_behind form ((offset ∷ []) ∷ (number w32
    (nat_lt 0) size ∷ []) ∷ [])
    (record { offset = c.in_ok-offset.offset; bytes = zeros }) bytes [] long _ _
    (_, c.in_ok-offset.ensures.passed, (_, c.in_ok-size.ensures.passed, refl)) _ (c.in_err-bytes.ensures.stops bytes (length-replicate size 0)))

pub returns : goal.returns
returns c =
    let offset = number w32 (is_ahead_of (option_copied c.args.before)) c.in_ok-offset.offset in
    let bytes = octets_where (λ _. true) c.in_ok-bytes.bytes in
    let size = Passes-number w32 (nat_lt 0) c.in_ok-size.size (length c.in_ok-bytes.bytes) (sym c.in_ok-bytes.ensures.size) _ _
    c.in_ok-size.ensures.passed in
    passes_joined ((offset ∷ []) ∷ (number w32 (nat_lt 0) (length c.in_ok-bytes.bytes) ∷ []) ∷ []) (bytes ∷ []) _ _ _
    (_, c.in_ok-offset.ensures.passed, (_, size, refl)) c.in_ok-bytes.ensures.passed
