use Rattle.std.proofs.Common.{ℕ, ◌≡◌, ◌<◌, List, [], ◌∷◌, ◌++◌, length, subst, sym, ap, ◌∙◌, arith}
use Rattle.std.specs.List.{All, swap}
use Rattle.std.proofs.lemmas.List.Edits.{length-swap}
use Rattle.std.proofs.lemmas.List.Elements.{All-get_or, All-push}
use Rattle.std.proofs.lemmas.List.Sorted.{All-permutation, IsPermutation-swap}
use Rattle.ring_net.specs.Deals.{SwapsBelow}
use Rattle.ring_net.proofs.deal.Table.put.Goals as goal

below_swap : (n m : ℕ) (xs ys : List ℕ) (a b : ℕ) → a < length xs → b < length xs → ys ≡ swap xs a b → m ≡ n
    → All (λ k. k < n) xs → All (λ k. k < m) ys
below_swap n m xs ys a b in_a in_b e same h = subst (λ l. All (λ k. k < l) ys) (sym same)
    (All-permutation (λ k. k < n) xs ys (IsPermutation-swap xs ys a b in_a in_b e) h)

below_push : (n m : ℕ) (xs ys : List (ℕ × ℕ)) (a b : ℕ) → a < n → b < n → ys ≡ xs ++ (a, b) ∷ [] → m ≡ n → SwapsBelow n xs → SwapsBelow m ys
below_push n m xs ys a b in_a in_b e same h = subst (λ l. SwapsBelow l ys) (sym same) (subst (λ zs. SwapsBelow n zs) (sym e)
    (All-push (λ (s : ℕ × ℕ). (s.0 < n) × (s.1 < n)) xs (a, b) h (in_a, in_b)))

pub invariant_of-self-then-from-place : goal.invariant_of-self-then-from-place
invariant_of-self-then-from-place c =
    let old = c.args.self.now in
    let n = length old.places.items in
    let from = c.index-from.result.now in
    let other = c.index-other.result.now in
    let in_place : c.args.place < length old.actors.items = omega (arith, old.same, c.requires.place) in
    let in_from : from < n = omega (
      arith,
      c.index-from.ensures,
      All-get_or (λ k. k < n) old.places.items c.args.actor from c.requires.actor old.places_below,
    ) in
    let in_other : other < n = omega (
      arith,
      c.index-other.ensures,
      All-get_or (λ k. k < n) old.actors.items c.args.place other in_place old.actors_below,
    ) in
    let len : length c.swap-then-from-place.new.self.items ≡ n =
    ap (λ xs. length xs) c.swap-then-from-place.ensures.items ∙ length-swap old.places.items c.args.actor other in
    record {
      same = ap (λ xs. length xs) c.swap.ensures.items ∙ length-swap old.actors.items c.args.place from ∙ old.same ∙ sym len;
      actors_below = below_swap n _ old.actors.items c.swap.new.self.items c.args.place from in_place (omega (arith, old.same, in_from))
          c.swap.ensures.items len old.actors_below;
      places_below = below_swap n _ old.places.items c.swap-then-from-place.new.self.items c.args.actor other c.requires.actor in_other
          c.swap-then-from-place.ensures.items len old.places_below;
      swaps_below = below_push n _ old.swaps.items c.push.new.self.items c.args.place from c.requires.place in_from
          c.in_ok-push.ensures.items len old.swaps_below;
    }
