-- An auditor before the first entry stands for the first world.
use Rattle.std.proofs.Common.{◌≡◌, ℕ, zero, suc, ◌<◌, ◌≤◌, List, [], ◌∷◌, length, Option, Some, None, map, option_map, refl, sym, ap, ◌∙◌, subst, arith}
use Rattle.std.specs.Prelude.{slice_get, unwrap_or}
use Rattle.std.proofs.lemmas.Option.{slice_get_within}
use Rattle.bgp_session.specs.Running.{carried}
use Rattle.graft_model.specs.Setups.{IsSetup, PeeringSetup, Setup, peerings_in, routers_in}
use Rattle.graft_model.specs.First.{first_far, first_operator, first_router, first_world}
use Rattle.graft_laws.proofs.Runs.{reached_first}
use Rattle.graft_actors.specs.Actors.{ActorName, FarSide, Operator, Router, actor_at}
use Rattle.graft_actors.specs.Acts.{OwnPart}
use Rattle.graft_actors.specs.Items.{thing_of}
use Rattle.graft_actors.specs.Seen.{IsFirstNet, Net, Sees}
use Rattle.graft_actors.proofs.Numbers.{there}
use Rattle.world_runs.specs.Labs.{AllMayGo, actors_in, net_of}
use Rattle.audit_ruling.specs.Rulings.{far_own, operator_own, router_own}
use Rattle.audit_channels.specs.Channels.{IsSquare, parcels}
use Rattle.audit_far.specs.Parts.{far_part}
use Rattle.audit_far.specs.declared.far.AuditedFar.{AuditedFar}
use Rattle.audit_operator.specs.Parts.{OperatorStands, operator_part}
use Rattle.audit_router.specs.Parts.{router_part}
use Rattle.audit_router.specs.declared.router.AuditedRouter.{AuditedRouter}
use Rattle.run_auditor.specs.Begins.{AreFirstFarSides, AreFirstRouters}
use Rattle.run_auditor.specs.Sound.{AuditorInvariant}
use Rattle.run_auditor.specs.States.{StandsFor, lab_of, own_of}
use Rattle.run_auditor.specs.declared.auditor.Auditor.{Auditor}

module _ (f : Auditor) (begins : (net : Net) → IsFirstNet f.known.setup net → Sees f.known.setup net (first_world f.known.setup)) (sound : IsSetup f.known.setup)
    (routers : AreFirstRouters f.known.setup f.routers.items) (far_sides : AreFirstFarSides f.known.setup f.far_sides.items)
    (operator : operator_part f.operator ≡ first_operator f.known.setup) (empty : (a b : ℕ) → parcels f.inboxes.items a b ≡ []) where
  abbrev setup : Setup
  setup = f.known.setup

  router_is : (r : ℕ) (o : Option AuditedRouter) → slice_get f.routers.items r ≡ o → unwrap_or (option_map router_part o) (first_router setup r) ≡ first_router setup r
  router_is r None is = refl
  router_is r (Some x) is = (routers.each r x is).first

  far_is : (p : ℕ) (peering : PeeringSetup) → slice_get setup.peerings p ≡ Some peering → (o : Option AuditedFar) → slice_get f.far_sides.items p ≡ o
      → unwrap_or (option_map far_part o) (first_far None) ≡ first_far (Some peering)
  far_is p peering known None is =
      let below : p < length f.far_sides.items = subst (λ (n : ℕ). p < n) (sym far_sides.all) (slice_get_within setup.peerings p peering known) in
      let some = gone f.far_sides.items p below is in absurd some
    where
      gone : {A : Type 0} (xs : List A) (n : ℕ) → n < length xs → slice_get xs n ≡ None → ⊥
      gone [] n below e = omega (arith, below)
      gone (x ∷ xs) zero below e = cc
      gone (x ∷ xs) (suc n) below e = gone xs n (omega (arith, below)) e
  far_is p peering known (Some x) is = (far_sides.each p x is).first ∙ ap first_far known

  own_router : (r : ℕ) → own_of f (Some (Router r)) ≡ router_own setup r (first_router setup r)
  own_router r = ap (router_own setup r) (router_is r (slice_get f.routers.items r) refl)

  own_far : (p : ℕ) (peering : PeeringSetup) → slice_get setup.peerings p ≡ Some peering → own_of f (Some (FarSide p)) ≡ far_own setup p (first_far (Some peering))
  own_far p peering known = ap (far_own setup p) (far_is p peering known (slice_get f.far_sides.items p) refl)

  first_net : IsFirstNet setup (net_of carried setup (lab_of f))
  first_net = record {
    routers = λ r below. ap (λ (o : Option ActorName). (own_of f o).part) (there setup (Router r) below) ∙ ap (λ (own : OwnPart). own.part) (own_router r);
    far_sides = λ p peering known. ap (λ (o : Option ActorName). (own_of f o).part) (there setup (FarSide p) (slice_get_within setup.peerings p peering known))
        ∙ ap (λ (own : OwnPart). own.part) (own_far p peering known);
    operator = ap (λ (o : Option ActorName). (own_of f o).part) (there setup Operator tt) ∙ ap (λ own. (operator_own setup own).part) operator;
    channels = λ a b. ap (map (thing_of carried setup)) (empty a b);
  }

  own_setup : (x : ActorName) → (own_of f (Some x)).setup ≡ setup
  own_setup (Router r) = refl
  own_setup (FarSide p) = refl
  own_setup Operator = refl

  own_name : (x : ActorName) → (own_of f (Some x)).name ≡ x
  own_name (Router r) = refl
  own_name (FarSide p) = refl
  own_name Operator = refl

  none_goes : (from to : Option ActorName) → AllMayGo carried setup from to []
  none_goes None to = refl
  none_goes (Some from) None = refl
  none_goes (Some from) (Some to) = tt

  pub stands_first : StandsFor f (first_world setup)
  stands_first = record {
    sound = sound;
    reached = reached_first setup;
    lab = record {
      setups = λ n x e. ap (λ (o : Option ActorName). (own_of f o).setup) e ∙ own_setup x;
      names = λ n x e. ap (λ (o : Option ActorName). (own_of f o).name) e ∙ own_name x;
      fits = λ a b. subst (AllMayGo carried setup (actor_at setup a) (actor_at setup b)) (sym (empty a b)) (none_goes (actor_at setup a) (actor_at setup b));
      sees = begins (net_of carried setup (lab_of f)) first_net;
    };
  }

  pub sound_first : routers_in setup ≤ 256 → peerings_in setup ≤ 256 → f.operator.known.setup ≡ setup → OperatorStands f.operator
      → IsSquare (actors_in setup) f.inboxes.items → AuditorInvariant f
  sound_first few_routers few_peerings operator_setup operator_stands square = record {
    world = first_world setup;
    stands = stands_first;
    few_routers = few_routers;
    few_peerings = few_peerings;
    all_routers = routers.all;
    all_far_sides = far_sides.all;
    routers = λ r x e. let is = routers.each r x e in record { setup = is.setup_is; number = is.number; sound = is.sound };
    far_sides = λ p x e. let is = far_sides.each p x e in record { setup = is.setup_is; number = is.number; sound = is.sound };
    operator_setup = operator_setup;
    operator = operator_stands;
    square = square;
  }
