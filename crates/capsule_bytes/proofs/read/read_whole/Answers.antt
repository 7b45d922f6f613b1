use Rattle.std.proofs.Common.{◌≡◌, ◌≢◌, [], refl, rules, true, sym, ◌∙◌}
use Rattle.capsule_bytes.specs.Fields.{octets_where}
use Rattle.capsule_bytes.specs.Capsules.{magic}
use Rattle.capsule_bytes.proofs.Whole.{first_answer, other_first, right_first, body_answer, whole_capsule, more_follows, bytes_differ, bytes_same, nothing_left}
use Rattle.capsule_bytes.proofs.read.read_whole.Goals as goal

pub returns-in_err-first : goal.returns-in_err-first
returns-in_err-first c =
    first_answer c.args.bytes.now _ c.new-cursor.ensures _ _ c.from_residual.ensures.1 (c.in_err-first.ensures.stops (octets_where (λ _. true) magic) refl)

pub returns-then-ne : goal.returns-then-ne
returns-then-ne c =
    let other : c.in_ok-first.first.now ≢ magic = bytes_differ c.in_ok-first.first.now magic (search rules) in
    other_first c.args.bytes.now c.in_ok-first.first.now _ _ c.new-cursor.ensures c.in_ok-first.ensures.size c.in_ok-first.ensures.passed other

pub returns-in_err-parts : goal.returns-in_err-parts
returns-in_err-parts c =
    let same : c.in_ok-first.first.now ≡ magic = bytes_same c.in_ok-first.first.now magic (search rules) in
    let head = right_first c.args.bytes.now c.in_ok-first.first.now _ _ c.new-cursor.ensures c.in_ok-first.ensures.passed same in
    body_answer c.args.bytes.now _ head _ _ c.from_residual-in_err-parts.ensures.1 c.in_err-parts.ensures.fields

pub returns-then-not-is_empty : goal.returns-then-not-is_empty
returns-then-not-is_empty c =
    let same : c.in_ok-first.first.now ≡ magic = bytes_same c.in_ok-first.first.now magic (search rules) in
    let head = right_first c.args.bytes.now c.in_ok-first.first.now _ _ c.new-cursor.ensures c.in_ok-first.ensures.passed same in
    let more = more_follows c.args.bytes.now _ c.read_body.new.cursor c.in_ok-parts.parts head c.in_ok-parts.ensures.fields c.in_ok-parts.ensures.peering
    c.in_ok-parts.ensures.way (search rules) in
    rw c.place.ensures more

pub returns : goal.returns
returns c =
    let same : c.in_ok-first.first.now ≡ magic = bytes_same c.in_ok-first.first.now magic (search rules) in
    let head = right_first c.args.bytes.now c.in_ok-first.first.now _ _ c.new-cursor.ensures c.in_ok-first.ensures.passed same in
    let none : c.read_body.new.cursor.octets ≡ [] = sym c.left.ensures ∙ nothing_left c.left.result.now (search rules) in
    whole_capsule c.args.bytes.now _ c.read_body.new.cursor c.in_ok-parts.parts head c.in_ok-parts.ensures.fields c.in_ok-parts.ensures.peering
    c.in_ok-parts.ensures.way none
