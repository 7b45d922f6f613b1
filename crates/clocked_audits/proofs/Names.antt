-- Names of actors, told apart by their numbers.
use Rattle.std.proofs.Common.{◌≡◌, ◌==◌, Bool, true, false, Option, Some, None, refl, sym, ap, ◌∙◌, ◌<◌, arith}
use Rattle.std.proofs.lemmas.Bool.{eq-eqb, eqb-true}
use Rattle.graft_model.specs.Setups.{Setup}
use Rattle.graft_actors.specs.Actors.{ActorName, Router, FarSide, Operator, IsActor, actor_at, number_in, same_name}
use Rattle.graft_actors.proofs.Numbers.{there, same_itself, same_tells, some_same}
use Rattle.world_runs.specs.Labs.{actors_in}
use Rattle.audit_clocks.specs.Stamps.{is_named}
use Rattle.clocked_audits.specs.Timed.{is_it, named_number}

-- two tests that tell the same
pub both_ways : (t u : Bool) → (t ≡ true → u ≡ true) → (u ≡ true → t ≡ true) → t ≡ u
both_ways true u to back = sym (to refl)
both_ways false true to back = back refl
both_ways false false to back = refl

module _ (setup : Setup) where
  pub one_number : (x y : ActorName) → IsActor setup x → IsActor setup y → number_in setup x ≡ number_in setup y → x ≡ y
  one_number x y x_known y_known e = some_same x y (sym (there setup x x_known) ∙ ap (actor_at setup) e ∙ there setup y y_known)

  pub number_test : (x y : ActorName) → IsActor setup x → IsActor setup y → (number_in setup x == number_in setup y) ≡ same_name x y
  number_test x y x_known y_known = both_ways (number_in setup x == number_in setup y) (same_name x y)
      (λ e. ap (same_name x) (sym (one_number x y x_known y_known (eqb-true (number_in setup x) (number_in setup y) e))) ∙ same_itself x)
      (λ e. eq-eqb (number_in setup x) (number_in setup y) (ap (number_in setup) (same_tells x y e)))

  pub named_test : (name : Option ActorName) (x : ActorName) → ((y : ActorName) → name ≡ Some y → IsActor setup y) → IsActor setup x
      → is_named (named_number setup name) (number_in setup x) ≡ is_it name x
  named_test None x known x_known = refl
  named_test (Some y) x known x_known = number_test x y x_known (known y refl)

pub number_below : (setup : Setup) (x : ActorName) → IsActor setup x → number_in setup x < actors_in setup
number_below setup (Router r) known = omega (arith, known)
number_below setup (FarSide p) known = omega (arith, known)
number_below setup Operator known = omega arith
