-- What the actors and channels of a net tell of the world that it is.
use Rattle.std.proofs.Common.{◌≡◌, ◌≤◌, ◌<◌, ◌+◌, ◌-◌, ◌∙◌, ℕ, zero, suc, Bool, true, false, List, [], ◌∷◌, length}
use Rattle.std.proofs.Common.{get_or, map, Option, Some, None, refl, ap, sym, subst, arith, inl, inr}
use Rattle.std.specs.Prelude.{◌⊎◌, ◌==◌, ◌&&◌}
use Rattle.std.specs.List.{Any}
use Rattle.std.proofs.lemmas.Bool.Decides.{eqb_tells, nat_tests}
use Rattle.std.proofs.lemmas.List.{length-map}
use Rattle.std.proofs.lemmas.List.Folds.{list_any_at, Any-from_list_any}
use Rattle.ring_net.specs.Phases.{View, is_edge}
use Rattle.ring_net.specs.declared.entry.Stamped.{Stamped}
use Rattle.graft_steps.specs.declared.item.Item.{Item}
use Rattle.graft_steps.specs.declared.rest.Pending.{Pending}
use Rattle.graft_steps.specs.declared.rest.Pending.TheVariants.{Script, Graft, Channel, Bag, Stream, Dirty, DueIn, DueOut}
use Rattle.session_value.specs.Sessions.{SessionValue}
use Rattle.graft_model.specs.Setups.{Setup, routers_in, peerings_in}
use Rattle.graft_model.specs.Parts.{World}
use Rattle.graft_actors.specs.Actors.{ActorPart, ActorName, Router, FarSide, Operator, MeshItem, IsActor, number_in, actor_at}
use Rattle.graft_actors.specs.Seen.{part_of, channel_of}
use Rattle.graft_actors.proofs.Numbers.{there, of_number, at_operator}
use Rattle.graft_actors.specs.Items.{thing_of}
use Rattle.graft_actors.specs.Acts.{OwnPart}
use Rattle.settled_check.specs.Worlds.{IsLeft, OnItsWay, AtRouter, AtFarSide, ToOperator, LeftOnItsWay, HasItemOnItsWay}
use Rattle.world_runs.specs.Labs.{actors_in}
use Rattle.world_runs.specs.Runs.{IsSeenAs}
use Rattle.world_nodes.specs.Edges.{has_channel, talks}
use Rattle.world_nodes.specs.Looks.{IsLeftBy, IsLeftWith, IsLeftToOne, IsSentOnOne}

below_or_past : (k n : ℕ) → (k < n) ⊎ (n ≤ k)
below_or_past k n = grind arith

-- each number below that of all actors is somebody's
somebody : (setup : Setup) (k : ℕ) → k < actors_in setup → (x : ActorName) × (actor_at setup k ≡ Some x)
somebody setup k k_in = elim (below_or_past k (routers_in setup)) [
  | inl l ↦ (Router k, there setup (Router k) l)
  | inr past ↦ elim (below_or_past k (routers_in setup + peerings_in setup)) [
    | inl l ↦
        let p_in : k - routers_in setup < peerings_in setup = omega arith in
        let is : routers_in setup + (k - routers_in setup) ≡ k = omega arith in (
          FarSide (k - routers_in setup),
          subst (λ n. actor_at setup n ≡ Some (FarSide (k - routers_in setup))) is (there setup (FarSide (k - routers_in setup)) p_in),
        )
    | inr last ↦ let is : routers_in setup + peerings_in setup ≡ k = omega arith in
        (Operator, subst (λ n. actor_at setup n ≡ Some Operator) is (at_operator setup))
  ]
]

number_below : (setup : Setup) (x : ActorName) → IsActor setup x → number_in setup x < actors_in setup
number_below setup (Router r) l = omega (arith, l)
number_below setup (FarSide p) l = omega (arith, l)
number_below setup Operator l = omega arith

own_same : (o : OwnPart) (setup : Setup) (name : ActorName) (part : ActorPart) → o.setup ≡ setup → o.name ≡ name → o.part ≡ part
    → o ≡ record { setup = setup; name = name; part = part }
own_same o setup name part e f g = ap (λ s. record { setup = s; name = o.name; part = o.part }) e
    ∙ ap (λ n. record { setup = setup; name = n; part = o.part }) f ∙ ap (λ p. record { setup = setup; name = name; part = p }) g

some_of : {A : Type 0} (xs : List A) (k : ℕ) → k < length xs → A
some_of [] k h = absurd (omega arith)
some_of (x ∷ xs) k h = x

get_mapped : {A B : Type 0} (f : A → B) (xs : List A) (k : ℕ) (b : B) (a : A) → k < length xs → get_or (map f xs) k b ≡ f (get_or xs k a)
get_mapped f [] k b a h = absurd (omega arith)
get_mapped f (x ∷ xs) zero b a h = refl
get_mapped f (x ∷ xs) (suc k) b a h = get_mapped f xs k b a (omega arith)

no_items : {A B : Type 0} (f : A → B) (xs : List A) → map f xs ≡ [] → xs ≡ []
no_items f [] e = refl
no_items f (x ∷ xs) e = absurd cc

-- where nobody talks, nothing is on its way
pub silent : (w : World) → ((r : ℕ) → w.mesh r r ≡ []) → (from to : Option ActorName) → talks from to ≡ false → channel_of w from to ≡ []
silent w itself None to e = refl
silent w itself (Some (Router q)) None e = refl
silent w itself (Some (FarSide p)) None e = refl
silent w itself (Some Operator) None e = refl
silent w itself (Some (Router q)) (Some (Router r)) e = elim (eqb_tells q r) [
  | inl s ↦ subst (λ n. map MeshItem (w.mesh q n) ≡ []) s.1 (ap (λ items. map MeshItem items) (itself q))
  | inr ne ↦ absurd (let h : true ≡ false = sym (rw (ne.0) refl) ∙ e in cc)
]
silent w itself (Some (Router q)) (Some (FarSide p)) e = absurd cc
silent w itself (Some (Router q)) (Some Operator) e = absurd cc
silent w itself (Some (FarSide p)) (Some (Router r)) e = absurd cc
silent w itself (Some (FarSide p)) (Some (FarSide q)) e = refl
silent w itself (Some (FarSide p)) (Some Operator) e = refl
silent w itself (Some Operator) (Some (Router r)) e = absurd cc
silent w itself (Some Operator) (Some (FarSide p)) e = absurd cc
silent w itself (Some Operator) (Some Operator) e = refl

module _ {A C : Type 0} (own : A → OwnPart) (session : C → SessionValue) (setup : Setup) (v : View A (Item C))
    (w : World) (seen : IsSeenAs own session setup v w) (size : length v.actors ≡ actors_in setup) where
  -- each actor's part is that of its name in the world
  pub part_is : (k : ℕ) (x : ActorName) (a : A) → actor_at setup k ≡ Some x → k < length v.actors
      → own (get_or v.actors k a) ≡ record { setup = setup; name = x; part = part_of w x }
  part_is k x a is k_in = own_same (own (get_or v.actors k a)) setup x (part_of w x)
      (ap (λ o. o.setup) here ∙ seen.sees.setups k x is) (ap (λ o. o.name) here ∙ seen.sees.names k x is) (ap (λ o. o.part) here ∙ seen.sees.sees.parts k x is)
    where
      here : own (get_or v.actors k a) ≡ seen.lab.part k
      here = sym (seen.is.parts k a k_in)

  -- what holds of the part of one actor
  pub of_one : (P : OwnPart → Type 0) → Any P (map own v.actors)
      → (x : ActorName) × IsActor setup x × P (record { setup = setup; name = x; part = part_of w x })
  of_one P any =
      let k_in : any.0 < length v.actors = omega (arith, any.2, length-map v.actors own) in
      let name = somebody setup any.0 (omega (arith, k_in, size)) in
      let a = some_of v.actors any.0 k_in in (
        name.0,
        (of_number setup any.0 name.0 name.1).0,
        subst P (sym any.3 ∙ get_mapped own v.actors any.0 any.1 a k_in ∙ part_is any.0 name.0 a name.1 k_in) any.4,
      )

  pub to_one : (P : OwnPart → Type 0) (x : ActorName) → IsActor setup x → P (record { setup = setup; name = x; part = part_of w x }) → Any P (map own v.actors)
  to_one P x known here =
      let k_in : number_in setup x < length v.actors = omega (arith, number_below setup x known, size) in
      let a = some_of v.actors (number_in setup x) k_in in
      let part = own (get_or v.actors (number_in setup x) a) in (
        number_in setup x,
        part,
        omega (arith, k_in, length-map v.actors own),
        get_mapped own v.actors (number_in setup x) part a k_in,
        subst P (sym (part_is (number_in setup x) x a (there setup x known) k_in)) here,
      )

  -- ---- what is left to do

  module _ (edges : List (ℕ × ℕ)) (viewed : (a b : ℕ) → v.edge a b ≡ is_edge edges a b)
      (each : (a b : ℕ) → is_edge edges a b ≡ has_channel setup a b) (itself : (r : ℕ) → w.mesh r r ≡ []) where
    things : (a b : ℕ) → is_edge edges a b ≡ true
        → map (thing_of session setup) (map (λ (x : Stamped (Item C)). x.item) (v.channel a b)) ≡ channel_of w (actor_at setup a) (actor_at setup b)
    things a b e = ap (λ items. map (thing_of session setup) items) (sym (seen.is.channels a b (viewed a b ∙ e))) ∙ seen.sees.sees.channels a b

    sent_left : (x : Pending) → IsSentOnOne v.channel edges x → IsLeft setup w x
    sent_left x any = subst (λ y. IsLeft setup w y) (sym any.4.0) (OnItsWay (λ none.
        any.4.1 (no_items (λ (z : Stamped (Item C)). z.item) (v.channel any.1.0 any.1.1)
        (no_items (thing_of session setup) (map (λ (z : Stamped (Item C)). z.item) (v.channel any.1.0 any.1.1)) (things any.1.0 any.1.1 edge ∙ none)))))
      where
        edge : is_edge edges any.1.0 any.1.1 ≡ true
        edge = list_any_at (λ (e : ℕ × ℕ). e.0 == any.1.0 && e.1 == any.1.1) edges any.0 any.1 any.2 (rw (any.3) (both any.1.0 any.1.1))
          where
            both : (a b : ℕ) → (a == a && b == b) ≡ true
            both a b = grind (arith, nat_tests)

    left_sent : (a b : ℕ) → HasItemOnItsWay setup w a b → IsSentOnOne v.channel edges (Channel a b)
    left_sent a b some = by_test (is_edge edges a b) refl
      where
        by_test : (t : Bool) → is_edge edges a b ≡ t → IsSentOnOne v.channel edges (Channel a b)
        by_test false e = absurd (some (silent w itself (actor_at setup a) (actor_at setup b) (sym (each a b) ∙ e)))
        by_test true e =
            let found = Any-from_list_any (λ (x : ℕ × ℕ). x.0 == a && x.1 == b) edges e in
            let same = pair found.1.0 found.1.1 found.4 in (
              found.0,
              found.1,
              found.2,
              found.3,
              (
                rw (same.0, same.1) refl,
                λ none.
                    let empty : v.channel a b ≡ [] = ap (λ n. v.channel n b) (sym same.0) ∙ ap (λ n. v.channel found.1.0 n) (sym same.1) ∙ none in
                    some (sym (things a b e) ∙ ap (λ xs. map (thing_of session setup) (map (λ (z : Stamped (Item C)). z.item) xs)) empty),
              ),
            )
          where
            pair : (x y : ℕ) → (x == a && y == b) ≡ true → (x ≡ a) × (y ≡ b)
            pair x y e = elim (eqb_tells x a) [
              | inl s ↦ elim (eqb_tells y b) [ inl r ↦ (s.1, r.1) | inr ne ↦ absurd (let h : false ≡ true = sym (rw (s.0, ne.0) refl) ∙ e in cc) ]
              | inr ne ↦ absurd (let h : false ≡ true = sym (rw (ne.0) refl) ∙ e in cc)
            ]

    by_name : (x : Pending) (name : ActorName) → IsActor setup name → IsLeftBy setup name (part_of w name) x → IsLeft setup w x
    by_name x (Router r) known left = AtRouter r known left
    by_name x (FarSide p) known left = AtFarSide p known left
    by_name x Operator known left = ToOperator left

    pub net_left : (x : Pending) → (IsLeftToOne (map own v.actors) x ⊎ IsSentOnOne v.channel edges x) → IsLeft setup w x
    net_left x (inl any) = let found = of_one (λ (o : OwnPart). IsLeftWith o x) any in by_name x found.0 found.1 found.2
    net_left x (inr sent) = sent_left x sent

    on_its_way : (x : Pending) → LeftOnItsWay setup w x → IsSentOnOne v.channel edges x
    on_its_way (Channel a b) some = left_sent a b some
    on_its_way Script some = absurd some
    on_its_way (Graft k) some = absurd some
    on_its_way (Bag p) some = absurd some
    on_its_way (Stream p) some = absurd some
    on_its_way (Dirty r) some = absurd some
    on_its_way (DueIn r q) some = absurd some
    on_its_way (DueOut p) some = absurd some

    pub left_net : (x : Pending) → IsLeft setup w x → (IsLeftToOne (map own v.actors) x ⊎ IsSentOnOne v.channel edges x)
    left_net x (OnItsWay some) = inr (on_its_way x some)
    left_net x (AtRouter r known left) = inl (to_one (λ (o : OwnPart). IsLeftWith o x) (Router r) known left)
    left_net x (AtFarSide p known left) = inl (to_one (λ (o : OwnPart). IsLeftWith o x) (FarSide p) known left)
    left_net x (ToOperator left) = inl (to_one (λ (o : OwnPart). IsLeftWith o x) Operator tt left)
