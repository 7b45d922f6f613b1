-- New clocks are those of a run without events.
use Rattle.std.proofs.Common.{◌≡◌, ℕ, List, length, refl, ap, ◌∙◌, arith, get_or}
use Rattle.std.proofs.lemmas.List.{length-replicate, get_or-replicate}
use Rattle.graft_model.specs.Setups.{Setup}
use Rattle.graft_model.specs.First.{first_world}
use Rattle.graft_actors.specs.Actors.{ActorName, Router, FarSide, Operator, number_in}
use Rattle.world_runs.specs.Labs.{actors_in}
use Rattle.run_clocks.specs.Clocks.{greatest, on_way}
use Rattle.clocked_audits.specs.Laws.{ClocksBegin}
use Rattle.clocked_audits.proofs.Greatest.{greatest_level}
use Rattle.clocked_audits.proofs.Names.{number_below}

-- nothing is on its way in the first world
nothing_first : (setup : Setup) (x y : ActorName) → on_way (first_world setup) x y ≡ 0
nothing_first setup (Router q) (Router r) = refl
nothing_first setup (Router q) (FarSide p) = refl
nothing_first setup (Router q) Operator = refl
nothing_first setup (FarSide p) (Router r) = refl
nothing_first setup (FarSide p) (FarSide q) = refl
nothing_first setup (FarSide p) Operator = refl
nothing_first setup Operator (Router r) = refl
nothing_first setup Operator (FarSide p) = refl
nothing_first setup Operator Operator = refl

pub begins : ClocksBegin
begins setup clocks new = record {
  count = ap (λ (cs : List ℕ). length cs) new.clocks_are ∙ length-replicate (actors_in setup) 0;
  clock = λ x known. ap (λ (cs : List ℕ). get_or cs (number_in setup x) 0) new.clocks_are
      ∙ get_or-replicate (actors_in setup) (number_in setup x) 0 0 (number_below setup x known);
  all = ap greatest new.clocks_are ∙ greatest_level (actors_in setup) 0 (omega arith);
  taken = λ x y x_known y_known. omega arith;
  stamps = λ x y x_known y_known. new.none (number_in setup x) (number_in setup y);
  many = λ x y x_known y_known. ap (λ (xs : List ℕ). length xs) (new.none (number_in setup x) (number_in setup y)) ∙ nothing x y;
}
  where
    nothing : (x y : ActorName) → 0 ≡ on_way (first_world setup) x y
    nothing x y = let none = nothing_first setup x y in omega (arith, none)
