use Rattle.std.proofs.Common.{◌≡◌, ◌++◌, ℕ, List, [], ◌∷◌, length, refl, sym, ap, ◌∙◌, arith, rules}
use Rattle.std.specs.Prelude.{Some, None, replicate}
use Rattle.std.specs.Int.{w8, is_in_range}
use Rattle.std.proofs.lemmas.List.{append-nil, length-replicate}
use Rattle.capsule_bytes.specs.declared.stop.CapsuleStop.TheVariants as stops
use Rattle.capsule_bytes.specs.Fields.{number, octets_where}
use Rattle.capsule_bytes.specs.Capsules.{is_name, name_fields}
use Rattle.capsule_bytes.proofs.Checked.{none_left}
use Rattle.capsule_bytes.proofs.Readings.{field_behind, exit}
use Rattle.capsule_bytes.proofs.read.read_name.Goals as goal

pub returns-in_err-size : goal.returns-in_err-size
returns-in_err-size c =
    exit name_fields _ _ _ _ c.from_residual.ensures.1 (field_behind name_fields [] None (number w8 (is_in_range 0 16) 0) [] refl _ _ refl _
    (c.in_err-size.ensures.stops 0))

pub returns-in_err-octets : goal.returns-in_err-octets
returns-in_err-octets c =
    let n = c.in_ok-size.size in
    let field = octets_where is_name (replicate n 0) in
    let long = length-replicate n 0 in
    exit name_fields _ _ _ _ c.from_residual-in_err-octets.ensures.1 (field_behind name_fields ((number w8 (is_in_range 0 16) n ∷ []) ∷ []) (Some
    (replicate n 0)) field []
    (ap (λ (k : ℕ). number w8 (is_in_range 0 16) k ∷ field ∷ []) long) _ _ (_, c.in_ok-size.ensures.passed, refl) _
    (c.in_err-octets.ensures.stops field (long ∙ sym c.from.ensures)))

pub returns-in_default : goal.returns-in_default
returns-in_default c =
    let octets = c.in_ok-octets.octets.now in
    let long : length octets ≡ c.in_ok-size.size = c.in_ok-octets.ensures.size ∙ c.from.ensures in
    let field = octets_where is_name octets in
    let passed = c.in_ok-octets.ensures.passed in
    field_behind name_fields ((number w8 (is_in_range 0 16) c.in_ok-size.size ∷ []) ∷ []) (Some octets) field []
    (ap (λ (k : ℕ). number w8 (is_in_range 0 16) k ∷ field ∷ []) long) _ _ (_, c.in_ok-size.ensures.passed, refl) (stops.Value c.place-place.result) (
      c.place-place.ensures,
      record {
        found = octets;
        rest = c.take.new.self.octets;
        octets_are = passed.octets_are ∙ ap (λ (o : List ℕ). o ++ c.take.new.self.octets) (append-nil octets);
        some = omega (arith, long, c.if-size-eq0.false);
        whole = refl;
        wrong = none_left _ c.name_in.result (search rules) c.name_in.ensures;
      },
    )
