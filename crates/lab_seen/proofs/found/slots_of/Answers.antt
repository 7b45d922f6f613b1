use Rattle.std.proofs.Common.{◌≡◌, ◌∷◌, [], ◌++◌, length, map, sym, ap, ◌∙◌, append_assoc}
use Rattle.std.specs.List.{range_with_len}
use Rattle.std.specs.Vec.Iter.{into_iter_items}
use Rattle.std.proofs.lemmas.List.FromFn.{length-map-range_with_len}
use Rattle.lab_seen.specs.Found.{first_on}
use Rattle.lab_seen.proofs.Fronts.{written}
use Rattle.lab_seen.proofs.found.slots_of.Goals as goal

pub loop-one-preserved : goal.loop-one-preserved
loop-one-preserved c =
    let at = c.loop-one in
    let x = c.in-Some.one in
    let slots = c.as_mut_slice.result.now in
    let steps : into_iter_items at.one-iterator ≡ x ∷ into_iter_items c.next.new.self = c.in-Some.ensures.steps.0 in
    let count : length slots ≡ c.args.peerings =
    ap length (c.as_mut_slice.ensures.value ∙ at.invariant.1) ∙ length-map-range_with_len (first_on at.yielded) 0 c.args.peerings in
    let was : slots ≡ map (first_on at.yielded) (range_with_len 0 (length slots)) =
    c.as_mut_slice.ensures.value ∙ at.invariant.1 ∙ ap (λ n. map (first_on at.yielded) (range_with_len 0 n)) (sym count) in (
      append_assoc at.yielded (x ∷ []) _ ∙ rw (← steps) at.invariant.0,
      written c.put.new.slots at.slots.items at.slots.len (c.put.auto.slots ∙ c.as_mut_slice.ensures.len) ∙ c.put.ensures at.yielded was
          ∙ ap (λ n. map (first_on (at.yielded ++ x ∷ [])) (range_with_len 0 n)) count,
    )
