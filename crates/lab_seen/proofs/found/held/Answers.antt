use Rattle.std.proofs.Common.{◌++◌, ℕ, List, Option, map, sym, ap, ◌∙◌}
use Rattle.std.specs.Prelude.{slice_get}
use Rattle.std.specs.List.{flat_map, range_with_len}
use Rattle.std.specs.Vec.Iter.{into_iter_items}
use Rattle.std.proofs.lemmas.List.{nil_from_length}
use Rattle.std.proofs.lemmas.Option.{MatchOption-at_none}
use Rattle.lab_seen.specs.declared.found.Found.{Found}
use Rattle.world_nodes.specs.declared.node.Node.{Node}
use Rattle.lab_report.specs.declared.lab.Place.TheVariants.{Held}
use Rattle.lab_seen.specs.Found.{found_at, held_by}
use Rattle.lab_seen.proofs.Ranges.{one_number_more}
use Rattle.lab_seen.proofs.Fronts.{IsNext, walked}
use Rattle.lab_seen.proofs.found.held.Goals as goal

-- one router more, where the next actor is that of its number
pub loop-number-preserved : goal.loop-number-preserved
loop-number-preserved c =
    let at = c.loop-number in
    let actors = c.args.actors in
    let held : ℕ → List Found = λ r. held_by r (slice_get actors r) in
    let next : IsNext actors at.number c.next.result (into_iter_items c.next.new.self) =
    walked actors at.number c.next.result (into_iter_items c.next.new.self) (sym at.invariant.0 ∙ c.next.ensures.items)
    (λ none. sym at.invariant.0
    ∙ nil_from_length (into_iter_items at.nodes) (sym at.nodes.rest.ok.0 ∙ (MatchOption-at_none _ _ none c.next.ensures.cases).0)) in (
      next.left,
      c.in_ok-add_held.ensures
          ∙ ap (λ (xs : List Found). xs ++ map (found_at (Held (record { 0 = at.number }))) c.in_ok-sessions.sessions) at.invariant.1
          ∙ ap (λ xs. flat_map held (range_with_len 0 at.number) ++ map (found_at (Held (record { 0 = at.number }))) xs) c.in_ok-sessions.ensures
          ∙ ap (λ (o : Option Node). flat_map held (range_with_len 0 at.number) ++ held_by at.number o) next.element
          ∙ sym (one_number_more held at.number),
    )
