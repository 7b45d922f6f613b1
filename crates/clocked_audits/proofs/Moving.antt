-- How many items an event takes and sends.
use Rattle.std.proofs.Common.{◌≡◌, ◌<◌, ◌+◌, ◌-◌, ◌&&◌, Bool, true, false, refl, ap, ◌∙◌, arith, Option, Some}
use Rattle.graft_model.specs.Setups.{Setup}
use Rattle.graft_model.specs.Parts.{World}
use Rattle.graft_actors.specs.Actors.{ActorName, same_name}
use Rattle.graft_actors.proofs.Numbers.{same_itself, same_tells}
use Rattle.run_clocks.specs.Clocks.{on_way}
use Rattle.clocked_audits.specs.Timed.{MovesNamed, is_it, one_if}

and_true : (f t : Bool) → t ≡ true → one_if (f && t) ≡ one_if f
and_true f t e = ap (λ (b : Bool). one_if (f && b)) e ∙ by_test f where
  by_test : (f : Bool) → one_if (f && true) ≡ one_if f
  by_test true = refl
  by_test false = refl

and_false : (f t : Bool) → t ≡ false → one_if (f && t) ≡ 0
and_false f t e = ap (λ (b : Bool). one_if (f && b)) e ∙ by_test f where
  by_test : (f : Bool) → one_if (f && false) ≡ 0
  by_test true = refl
  by_test false = refl

module _ (setup : Setup) (w u : World) (maker : ActorName) (from to : Option ActorName) (moves : MovesNamed setup w u maker from to) where
  pub took_is : (x : ActorName) → on_way w x maker - on_way u x maker ≡ one_if (is_it from x)
  took_is x =
      let moved = moves.moves x maker in
      let gone = and_true (is_it from x) (same_name maker maker) (same_itself maker) in
      by_test (same_name x maker) refl moved gone
    where
      by_test : (t : Bool) → same_name x maker ≡ t
          → on_way u x maker + one_if (is_it from x && same_name maker maker) ≡ on_way w x maker + one_if (same_name x maker && is_it to maker)
          → one_if (is_it from x && same_name maker maker) ≡ one_if (is_it from x) → on_way w x maker - on_way u x maker ≡ one_if (is_it from x)
      by_test true e moved gone =
          let is = same_tells x maker e in
          let before : on_way w x maker ≡ 0 = ap (λ (y : ActorName). on_way w y maker) is ∙ moves.none_before in
          let some = moves.some x maker in
          omega (arith, before, some, gone)
      by_test false e moved gone =
          let none : one_if (same_name x maker && is_it to maker) ≡ 0 = ap (λ (b : Bool). one_if (b && is_it to maker)) e in
          omega (arith, moved, gone, none)

  pub sent_is : (y : ActorName) → on_way u maker y - on_way w maker y ≡ one_if (is_it to y)
  sent_is y =
      let moved = moves.moves maker y in
      let given : one_if (same_name maker maker && is_it to y) ≡ one_if (is_it to y) = ap (λ (b : Bool). one_if (b && is_it to y)) (same_itself maker) in
      by_test (same_name y maker) refl moved given
    where
      by_test : (t : Bool) → same_name y maker ≡ t
          → on_way u maker y + one_if (is_it from maker && same_name y maker) ≡ on_way w maker y + one_if (same_name maker maker && is_it to y)
          → one_if (same_name maker maker && is_it to y) ≡ one_if (is_it to y) → on_way u maker y - on_way w maker y ≡ one_if (is_it to y)
      by_test true e moved given =
          let is = same_tells y maker e in
          let before : on_way w maker y ≡ 0 = ap (λ (z : ActorName). on_way w maker z) is ∙ moves.none_before in
          let after : on_way u maker y ≡ 0 = ap (λ (z : ActorName). on_way u maker z) is ∙ moves.none_after in
          let some = moves.some maker y in
          omega (arith, before, after, some, moved, given)
      by_test false e moved given =
          let none = and_false (is_it from maker) (same_name y maker) e in
          omega (arith, moved, given, none)

  -- what is taken from a sender was on its way
  pub was_there : (x : ActorName) → from ≡ Some x → 0 < on_way w x maker
  was_there x e =
      let one : one_if (is_it from x && same_name maker maker) ≡ 1 = and_true (is_it from x) (same_name maker maker) (same_itself maker)
      ∙ ap (λ (o : Option ActorName). one_if (is_it o x)) e ∙ ap one_if (same_itself x) in
      let some = moves.some x maker in
      omega (arith, one, some)
