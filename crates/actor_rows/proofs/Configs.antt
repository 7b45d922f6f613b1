-- The configuration of the rows is that of their laboratory's peering 0.
use Rattle.std.proofs.Common.{◌≡◌, ◌≤◌, ℕ, zero, suc, List, [], ◌∷◌, length, Bool, false, Option, Some, None, refl, ap, ◌∙◌, arith}
use Rattle.std.proofs.lemmas.Bool.Decides.{nat_tests}
use Rattle.std.specs.Prelude.{◌==◌, option_map, if◌then◌else◌, slice_get}
use Rattle.link_bag.specs.declared.plan.Plan.{Plan}
use Rattle.actor_configs.specs.Says.{bytes_to_say, say_by}
use Rattle.actor_configs.specs.Fars.{IsFarConfigOf}
use Rattle.actor_configs.specs.declared.says.Say.{Say}
use Rattle.actor_rows.specs.Laboratory.{laboratory}

abbrev pub says_of : (first second third : List ℕ) → List Say
says_of first second third = record { step = 0; bytes = first } ∷ record { step = 2; bytes = second } ∷ record { step = 7; bytes = third } ∷ []

-- what is found of a step by whether it is the first, the second or the third
abbrev found : (first second third : List ℕ) (a b c : Bool) → Option (List ℕ)
found first second third a b c = option_map (λ (say : Say). say.bytes)
    (if a then Some (record { step = 0; bytes = first }) else if b then Some
    (record { step = 2; bytes = second }) else if c then Some (record { step = 7; bytes = third }) else None)

says_are : (opening first second third : List ℕ) (step : ℕ)
    → bytes_to_say (says_of first second third) step ≡ say_by 0 (slice_get (laboratory opening first second third).steps step)
says_are opening first second third zero = refl
says_are opening first second third (suc zero) = refl
says_are opening first second third (suc (suc zero)) = refl
says_are opening first second third (suc (suc (suc zero))) = refl
says_are opening first second third (suc (suc (suc (suc zero)))) = refl
says_are opening first second third (suc (suc (suc (suc (suc zero))))) = refl
says_are opening first second third (suc (suc (suc (suc (suc (suc zero)))))) = refl
says_are opening first second third (suc (suc (suc (suc (suc (suc (suc zero))))))) = refl
says_are opening first second third (suc (suc (suc (suc (suc (suc (suc (suc zero)))))))) = refl
says_are opening first second third (suc (suc (suc (suc (suc (suc (suc (suc (suc n))))))))) =
    let step : ℕ = suc (suc (suc (suc (suc (suc (suc (suc (suc n)))))))) in
    let a : (0 == step) ≡ false = grind (arith, nat_tests) in
    let b : (2 == step) ≡ false = grind (arith, nat_tests) in
    let c : (7 == step) ≡ false = grind (arith, nat_tests) in
    ap (λ (x : Bool). found first second third x (2 == step) (7 == step)) a
    ∙ (ap (λ (x : Bool). found first second third false x (7 == step)) b ∙ ap (found first second third false false) c)

pub is_config : (opening first second third : List ℕ) (says : List Say) (plan : Plan) → length opening ≤ 4096 → says ≡ says_of first second third
    → IsFarConfigOf (laboratory opening first second third)
    (record {
      routers = 3;
      peerings = 2;
      peering = record { 0 = 0 };
      pointer = record { 0 = 0 };
      send_first = record { 0 = 5000 };
      receive_first = record { 0 = 1000 };
      opening = opening;
      says = says;
      plan = plan;
      beat = 5;
    })
is_config opening first second third says plan short said = record {
  peering = _;
  is = refl;
  routers = refl;
  few = omega arith;
  peerings = refl;
  pointer = refl;
  known = omega arith;
  sends = refl;
  receives = refl;
  opening = refl;
  short = short;
  says = λ step. ap (λ (xs : List Say). bytes_to_say xs step) said ∙ says_are opening first second third step;
  beat = refl;
}
