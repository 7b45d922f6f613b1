-- The parts of an auditor's actors are those of the world for which it stands.
use Rattle.std.proofs.Common.{◌≡◌, ℕ, ◌+◌, ◌<◌, Option, Some, None, option_map, sym, ap, ◌∙◌, subst}
use Rattle.std.specs.Prelude.{slice_get, unwrap_or}
use Rattle.std.proofs.lemmas.Option.{slice_get_within}
use Rattle.graft_model.specs.Setups.{Setup, peerings_in, routers_in}
use Rattle.graft_model.specs.Parts.{FarPart, OperatorPart, RouterPart, World}
use Rattle.graft_model.specs.First.{first_far, first_router}
use Rattle.graft_actors.specs.Actors.{ActorName, ActorPart, FarIs, FarSide, Operator, OperatorIs, Router, RouterIs, actor_at}
use Rattle.graft_actors.proofs.Numbers.{there}
use Rattle.audit_far.specs.Parts.{far_part}
use Rattle.audit_far.specs.declared.far.AuditedFar.{AuditedFar}
use Rattle.audit_operator.specs.Parts.{operator_part}
use Rattle.audit_router.specs.Parts.{router_part}
use Rattle.audit_router.specs.declared.router.AuditedRouter.{AuditedRouter}
use Rattle.run_auditor.specs.Sound.{AuditorInvariant}
use Rattle.run_auditor.specs.States.{StandsFor, own_of}
use Rattle.run_auditor.specs.declared.auditor.Auditor.{Auditor}

abbrev router_in : ActorPart → RouterPart → RouterPart
router_in (RouterIs part) other = part
router_in part other = other

abbrev far_in : ActorPart → FarPart → FarPart
far_in (FarIs part) other = part
far_in part other = other

abbrev operator_in : ActorPart → OperatorPart → OperatorPart
operator_in (OperatorIs part) other = part
operator_in part other = other

module _ (f : Auditor) (inv : AuditorInvariant f) (w : World) (s : StandsFor f w) where
  abbrev setup : Setup
  setup = f.known.setup

  pub router_is : (r : ℕ) (x : AuditedRouter) → slice_get f.routers.items r ≡ Some x → router_part x ≡ w.router r
  router_is r x at = ap (λ (part : ActorPart). router_in part (router_part x))
      (ap (λ (o : Option AuditedRouter). RouterIs (unwrap_or (option_map router_part o) (first_router setup r))) (sym at)
      ∙ (ap (λ (o : Option ActorName). (own_of f o).part) (sym at_r) ∙ s.lab.sees.parts r (Router r) at_r))
    where
      at_r : actor_at setup r ≡ Some (Router r)
      at_r = there setup (Router r) (subst (λ (n : ℕ). r < n) inv.all_routers (slice_get_within f.routers.items r x at))

  pub far_is : (p : ℕ) (x : AuditedFar) → slice_get f.far_sides.items p ≡ Some x → far_part x ≡ w.far p
  far_is p x at = ap (λ (part : ActorPart). far_in part (far_part x))
      (ap (λ (o : Option AuditedFar). FarIs (unwrap_or (option_map far_part o) (first_far None))) (sym at)
      ∙ (ap (λ (o : Option ActorName). (own_of f o).part) (sym at_p) ∙ s.lab.sees.parts (routers_in setup + p) (FarSide p) at_p))
    where
      at_p : actor_at setup (routers_in setup + p) ≡ Some (FarSide p)
      at_p = there setup (FarSide p) (subst (λ (n : ℕ). p < n) inv.all_far_sides (slice_get_within f.far_sides.items p x at))

  pub operator_is : operator_part f.operator ≡ w.operator
  operator_is = ap (λ (part : ActorPart). operator_in part (operator_part f.operator))
      (ap (λ (o : Option ActorName). (own_of f o).part) (sym at_it) ∙ s.lab.sees.parts (routers_in setup + peerings_in setup) Operator at_it)
    where
      at_it : actor_at setup (routers_in setup + peerings_in setup) ≡ Some Operator
      at_it = there setup Operator tt
