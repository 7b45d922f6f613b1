use Rattle.std.proofs.Common.{◌≡◌, ℕ, ◌+◌, ◌∙◌, List, [], ◌∷◌, ◌++◌, length, map, take, refl, sym, ap, subst, arith}
use Rattle.std.specs.Prelude.{sum_by, slice_index_or}
use Rattle.std.specs.List.{flat_map}
use Rattle.std.proofs.lemmas.List.{take_more, append_assoc, append-nil, length-map, get_or-map}
use Rattle.std.proofs.lemmas.List.Sums.{sum_by-append}
use Rattle.std.proofs.lemmas.Grind.{flat_map-append}
use Rattle.lab_tables.specs.declared.input.PeeringInput.{PeeringInput}
use Rattle.lab_input.specs.Counts.{step_grafts, settles_of, step_prefixes, AreSaid, IsTally}
use Rattle.lab_input.proofs.counts.counts_of.Goals as goal

sum_more : {X : Type 0} (f : X → ℕ) (xs : List X) (x : X) → sum_by f (xs ++ x ∷ []) ≡ sum_by f xs + f x
sum_more f xs x = let e : sum_by f (xs ++ x ∷ []) ≡ sum_by f xs + (0 + f x) = sum_by-append f xs (x ∷ []) in omega arith

flat_more : {X A : Type 0} (f : X → List A) (xs : List X) (x : X) → flat_map f (xs ++ x ∷ []) ≡ flat_map f xs ++ f x
flat_more f xs x = flat_map-append f xs (x ∷ []) ∙ ap (λ ys. flat_map f xs ++ ys) (append-nil (f x))

opened : (peerings : List PeeringInput) → AreSaid [] peerings (map (λ p. length p.opening) peerings)
opened peerings = (
  length-map peerings (λ p. length p.opening),
  λ k p within is.
      let e : slice_index_or (map (λ q. length q.opening) peerings) k 0 ≡ length p.opening =
      get_or-map (λ q. length q.opening) peerings k p 0 within ∙ ap (λ q. length q.opening) (sym is) in
      omega (arith, e),
)

pub loop-step-init : goal.loop-step-init
loop-step-init c = record {
  grafts = refl;
  settles = refl;
  prefixes = sym (append-nil c.args.networks);
  said = subst (AreSaid [] c.args.peerings.now) (sym c.in_ok-openings.ensures) (opened c.args.peerings.now);
}

pub loop-step-preserved : goal.loop-step-preserved
loop-step-preserved c =
    let networks = c.args.networks in
    let peerings = c.args.peerings.now in
    let steps = c.args.steps.now in
    let i = c.loop-step.step-index in
    let step = c.step-item.result in
    let before = take i steps in
    let longer : take (i + 1) steps ≡ before ++ step ∷ [] = take_more steps i step (omega arith) ∙ ap (λ y. before ++ y ∷ []) (sym c.step-item.is) in
    let so_far = c.loop-step.invariant in
    let more = c.in_ok-count_step.ensures in
    let f = step_grafts (length peerings) in
    subst (λ l. IsTally networks peerings l c.count_step.new.tally) (sym longer) (record {
      grafts = more.grafts ∙ ap (λ n. n + f step) so_far.grafts ∙ sym (sum_more f before step);
      settles = more.settles ∙ ap (λ n. n + settles_of step) so_far.settles ∙ sym (sum_more settles_of before step);
      prefixes = more.prefixes ∙ ap (λ ps. ps ++ step_prefixes step) so_far.prefixes
          ∙ append_assoc networks (flat_map step_prefixes before) (step_prefixes step)
          ∙ ap (λ ps. networks ++ ps) (sym (flat_more step_prefixes before step));
      said = more.said before so_far.said;
    })
