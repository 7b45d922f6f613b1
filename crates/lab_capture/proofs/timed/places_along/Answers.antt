use Rattle.std.proofs.Common.{◌≡◌, ◌+◌, ◌<◌, ◌∙◌, ℕ, List, length, get_or, refl, sym, ap, subst, arith}
use Rattle.std.proofs.lemmas.List.{length-set, length_push}
use Rattle.lab_capture.proofs.Times.{counts_low, counts_more, places_more}
use Rattle.lab_capture.proofs.timed.places_along.Goals as goal

pub count-place-requires-clause-there : goal.count-place-requires-clause-there
count-place-requires-clause-there c = subst (λ (n : ℕ). get_or c.args.rounds.now c.loop-round.round-index 0 < n) (sym c.loop-round.invariant.ends)
    (c.requires.there c.loop-round.round-index 0 c.loop-round-test.true)

pub count-place-requires-clause-room : goal.count-place-requires-clause-room
count-place-requires-clause-room c =
    let rounds = c.args.rounds.now in
    let i = c.loop-round.round-index in
    let round : ℕ = get_or rounds i 0 in
    let fits : round < length c.loop-round.counts = subst (λ (n : ℕ). round < n) (sym c.loop-round.invariant.ends)
    (c.requires.there i 0 c.loop-round-test.true) in
    let low = counts_low rounds c.loop-round.counts i round c.loop-round-test.true (c.loop-round.invariant.counted round fits) in
    omega (arith, low)

pub loop-round-preserved : goal.loop-round-preserved
loop-round-preserved c =
    let rounds = c.args.rounds.now in
    let i = c.loop-round.round-index in
    let was = c.loop-round.invariant in
    let below : i < length rounds = c.loop-round-test.true in
    let round : ℕ = get_or rounds i 0 in
    let fits : round < length c.loop-round.counts = subst (λ (n : ℕ). round < n) (sym was.ends) (c.requires.there i 0 below) in
    let set = c.count-place.ensures.counts in
    let many : length c.count-place.new.counts ≡ length c.loop-round.counts = ap (λ (xs : List ℕ). length xs) set ∙ length-set _ _ _ in
    record {
      ends = many ∙ was.ends;
      counted = λ r r_below. ap (λ (xs : List ℕ). get_or xs r 0) set
          ∙ counts_more rounds c.loop-round.counts i round below refl fits was.counted r (omega (arith, many, r_below));
      all = ap (λ (xs : List ℕ). length xs) c.in_ok-push.ensures.items ∙ (length_push _ _ ∙ ap (λ (n : ℕ). n + 1) was.all);
      each = places_more rounds c.loop-round.places.items _ i c.count-place.result was.all was.each
          (c.count-place.ensures.before ∙ was.counted round fits) c.in_ok-push.ensures.items;
    }
