use Rattle.std.proofs.Common.{◌≡◌, ◌∷◌, [], ◌++◌, List, Option, Some, None, length, map, filter_map, refl, sym, ap, ◌∙◌, append_assoc, append-nil, arith}
use Rattle.std.specs.Vec.Iter.{into_iter_items}
use Rattle.bgp_session.specs.Running.{RunningSession}
use Rattle.router_core.specs.Places.{session_in, sessions_in}
use Rattle.router_core.specs.declared.place.Place.{Place}
use Rattle.router_core.proofs.place.sessions_of.Goals as goal

nothing_left : {X : Type 0} (l : List X) → length l ≡ 0 → l ≡ []
nothing_left [] h = refl
nothing_left (x ∷ xs) h = absurd (omega arith)

-- the sessions of one more place
one_more : (xs : List Place) (x : Place) → sessions_in (map Some (xs ++ x ∷ [])) ≡ sessions_in (map Some xs) ++ session_in (Some x)
one_more [] x = append-nil (session_in (Some x))
one_more (y ∷ xs) x = ap (λ (s : List RunningSession). session_in (Some y) ++ s) (one_more xs x)
    ∙ sym (append_assoc (session_in (Some y)) (sessions_in (map Some xs)) (session_in (Some x)))

-- vacant places hold none
of_values : (places : List (Option Place)) → sessions_in (map Some (filter_map (λ (value : Option Place). value) places)) ≡ sessions_in places
of_values [] = refl
of_values (None ∷ places) = of_values places
of_values (Some x ∷ places) = ap (λ (s : List RunningSession). session_in (Some x) ++ s) (of_values places)

pub loop-place-preserved : goal.loop-place-preserved
loop-place-preserved c =
    let at = c.loop-place in
    let x = c.in-Some.place in
    let steps : into_iter_items at.place-iterator ≡ x ∷ into_iter_items c.next.new.self = c.in-Some.ensures.steps.0 in (
      append_assoc at.yielded (x ∷ []) _ ∙ rw (← steps) at.invariant.0,
      c.in_ok-push_session.ensures ∙ ap (λ (s : List RunningSession). s ++ session_in (Some x)) at.invariant.1 ∙ sym (one_more at.yielded x),
      let was = at.invariant.2 in
          let gone = c.in-Some.ensures.steps.1 in
          let short = ap length steps in
          omega arith,
    )

pub returns : goal.returns
returns c =
    let at = c.loop-place in
    let none = c.in-None.ensures.steps in
    let empty : into_iter_items at.place-iterator ≡ [] = nothing_left _ (sym at.invariant.2 ∙ none.0) in
    let all = sym (append-nil at.yielded) ∙ rw empty at at.invariant.0 ∙ c.into_iter-place-iterator.ensures.into_iter_gives.0 in
    at.invariant.1
    ∙ (ap (λ (xs : List Place). sessions_in (map Some xs)) (all ∙ c.into_vec-place-items.ensures ∙ c.in_ok-into_values.ensures)
    ∙ of_values c.args.places.places)
