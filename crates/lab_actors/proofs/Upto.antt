-- One actor more.
use Rattle.std.proofs.Common.{◌≡◌, ℕ, ◌+◌, ◌-◌, ◌<◌, List, [], ◌∷◌, ◌++◌, length, get_or, refl, sym, ap, ◌∙◌, inl, inr, arith}
use Rattle.std.specs.Prelude.{Some, slice_index_or}
use Rattle.std.proofs.lemmas.Bool.{cases_lt}
use Rattle.std.proofs.lemmas.List.{length-append, get_or_append_left, get_or-append_right}
use Rattle.link_bag.specs.declared.plan.Fault.{Fault}
use Rattle.graft_model.specs.Setups.{Setup, routers_in, peerings_in}
use Rattle.graft_model.specs.First.{first_far}
use Rattle.graft_actors.specs.Actors.{ActorName, Router, FarSide, Operator, FarIs, actor_at}
use Rattle.graft_actors.proofs.Numbers.{some_same, there}
use Rattle.world_runs.specs.Labs.{AreFirstActors, actors_in}
use Rattle.world_nodes.specs.Fresh.{IsFresh}
use Rattle.world_nodes.specs.Nodes.{own, Works}
use Rattle.world_nodes.specs.declared.node.Node.{Node}
use Rattle.lab_setup.proofs.Lists.{all_append, get_below}
use Rattle.lab_actors.specs.Firsts.{first_own, IsFirstNode, AreFirstUpTo}

pub none_yet : (setup : Setup) (faults : List Fault) → AreFirstUpTo setup faults 0 []
none_yet setup faults = record { size = refl; each = λ k d x below is. absurd (omega arith); works = tt; fresh = tt }

module _ (setup : Setup) (faults : List Fault) (n : ℕ) (actors : List Node) (name : ActorName)
    (node : Node) (so_far : AreFirstUpTo setup faults n actors) (at : actor_at setup n ≡ Some name)
    (first : IsFirstNode setup faults name node) where
  longer : length (actors ++ node ∷ []) ≡ n + 1
  longer = let h = length-append actors (node ∷ []) in let size = so_far.size in omega arith

  last_is : (d : Node) → get_or (actors ++ node ∷ []) n d ≡ node
  last_is d =
      let size = so_far.size in
      let here : n - length actors ≡ 0 = omega arith in
      get_or-append_right actors (node ∷ []) (length actors) n d refl (omega arith) ∙ ap (λ i. get_or (node ∷ []) i d) here

  each : (k : ℕ) (d : Node) (x : ActorName) → k < n + 1 → actor_at setup k ≡ Some x → own (slice_index_or (actors ++ node ∷ []) k d) ≡ first_own setup x
  each k d x below is = elim (cases_lt k n) [
    | inl less ↦
        let size = so_far.size in
        ap own (get_or_append_left actors (node ∷ []) d k (omega arith)) ∙ so_far.each k d x less is
    | inr more ↦
        let same : k ≡ n = omega arith in
        ap (λ i. own (get_or (actors ++ node ∷ []) i d)) same ∙ ap own (last_is d) ∙ first.is
        ∙ ap (first_own setup) (some_same name x (sym at ∙ ap (actor_at setup) (sym same) ∙ is))
  ]

  pub one_more : AreFirstUpTo setup faults (n + 1) (actors ++ node ∷ [])
  one_more = record {
    size = longer;
    each = each;
    works = all_append Works actors (node ∷ []) so_far.works (first.works, tt);
    fresh = all_append (IsFresh setup faults) actors (node ∷ []) so_far.fresh (first.fresh, tt);
  }

-- all of them
pub are_first : (setup : Setup) (faults : List Fault) (actors : List Node) → AreFirstUpTo setup faults (actors_in setup) actors
    → AreFirstActors own setup actors
are_first setup faults actors all = record {
  all = all.size;
  routers = λ r d less. all.each r d (Router r) (omega arith) (there setup (Router r) less);
  far_sides = λ p d peering is. (
      let less = get_below setup.peerings p peering is in
      all.each (routers_in setup + p) d (FarSide p) (omega arith) (there setup (FarSide p) less)
      ∙ ap (λ o. record { setup = setup; name = FarSide p; part = FarIs (first_far o) }) is
      );
  operator = λ d. all.each (routers_in setup + peerings_in setup) d Operator (omega arith) (there setup Operator tt);
}
