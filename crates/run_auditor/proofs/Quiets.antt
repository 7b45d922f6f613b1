-- Nothing is left to the actors of an auditor exactly where its world is quiet.
use Rattle.std.proofs.Common.{◌≡◌, Bool, ℕ, zero, suc, ◌<◌, List, [], ◌∷◌, length, Some, map, refl, sym, ap, ◌∙◌, subst, arith}
use Rattle.std.specs.Prelude.{◌↔◌, IsTrue, slice_get, slice_index_or, All}
use Rattle.std.proofs.lemmas.Option.{slice_get_within, get_or_from_slice_get, slice_get-get_or}
use Rattle.bgp_session.specs.Running.{carried}
use Rattle.graft_steps.specs.declared.rest.Pending.{Pending}
use Rattle.graft_steps.specs.declared.rest.Pending.TheVariants.{Channel, Script, Graft, Bag, Stream, Dirty, DueIn, DueOut}
use Rattle.graft_model.specs.Setups.{Setup}
use Rattle.graft_model.specs.Parts.{FarPart, OperatorPart, RouterPart, World}
use Rattle.graft_model.specs.Quiet.{Quiet}
use Rattle.graft_actors.specs.Actors.{actor_at}
use Rattle.graft_actors.specs.Items.{thing_of}
use Rattle.graft_actors.specs.Seen.{channel_of}
use Rattle.settled_check.specs.Left.{LeftAtFar, LeftAtRouter, LeftToOperator}
use Rattle.settled_check.specs.Worlds.{AtFarSide, AtRouter, IsLeft, LeftOnItsWay, OnItsWay, QuietIsNothingLeft, ToOperator}
use Rattle.world_runs.specs.Laws.{WorldsAreOnTheWay}
use Rattle.audit_ruling.specs.Rulings.{Parcel}
use Rattle.audit_channels.specs.Channels.{parcels}
use Rattle.audit_far.specs.Parts.{FarInvariant, far_part}
use Rattle.audit_far.specs.declared.far.AuditedFar.{AuditedFar}
use Rattle.audit_operator.specs.Parts.{operator_part}
use Rattle.audit_router.specs.Parts.{RouterInvariant, router_part}
use Rattle.audit_router.specs.declared.router.AuditedRouter.{AuditedRouter}
use Rattle.run_auditor.specs.Rests.{AllRest, FarRests, RouterRests, TellsQuiet}
use Rattle.run_auditor.specs.Sound.{AuditorInvariant}
use Rattle.run_auditor.specs.States.{StandsFor}
use Rattle.run_auditor.specs.declared.auditor.Auditor.{Auditor}
use Rattle.run_auditor.proofs.Seen.{far_is, operator_is, router_is}

all_gotten : {A : Type 0} (P : A → Type 0) (xs : List A) (n : ℕ) (x : A) → All P xs → slice_get xs n ≡ Some x → P x
all_gotten P xs n x all e = subst P (get_or_from_slice_get xs n x x e) (all n x (slice_get_within xs n x e))

got : {A : Type 0} (xs : List A) (n : ℕ) → n < length xs → (x : A) × (slice_get xs n ≡ Some x)
got [] n below = absurd (omega (arith, below))
got (x ∷ xs) zero below = (x, refl)
got (x ∷ xs) (suc n) below = got xs n (omega (arith, below))

module _ (way : WorldsAreOnTheWay) (nothing_is_quiet : QuietIsNothingLeft) (f : Auditor) (inv : AuditorInvariant f) (w : World) (s : StandsFor f w) where
  in_quiet : ((x : Pending) → ¬ IsLeft f.known.setup w x) ↔ Quiet f.known.setup w
  in_quiet = nothing_is_quiet f.known.setup w (way f.known.setup w s.sound s.reached s.lab.sees.within)

  none_on_its_way : ((a b : ℕ) → parcels f.inboxes.items a b ≡ []) → (x : Pending) → LeftOnItsWay f.known.setup w x → ⊥
  none_on_its_way none (Channel a b) left = left (sym (s.lab.sees.channels a b) ∙ ap (map (thing_of carried f.known.setup)) (none a b))
  none_on_its_way none Script left = left
  none_on_its_way none (Graft k) left = left
  none_on_its_way none (Bag p) left = left
  none_on_its_way none (Stream p) left = left
  none_on_its_way none (Dirty r) left = left
  none_on_its_way none (DueIn r q) left = left
  none_on_its_way none (DueOut p) left = left

  nothing_left : AllRest f → (x : Pending) → ¬ IsLeft f.known.setup w x
  nothing_left rest x (OnItsWay left) = none_on_its_way rest.channels x left
  nothing_left rest x (AtRouter r below left) =
      let there_is = got f.routers.items r (subst (λ (n : ℕ). r < n) (sym inv.all_routers) below) in
      all_gotten RouterRests f.routers.items r there_is.0 rest.routers there_is.1 x
      (subst (λ (n : ℕ). LeftAtRouter n (router_part there_is.0) x) (sym (inv.routers r there_is.0 there_is.1).number)
      (subst (λ (part : RouterPart). LeftAtRouter r part x) (sym (router_is f inv w s r there_is.0 there_is.1)) left))
  nothing_left rest x (AtFarSide p below left) =
      let there_is = got f.far_sides.items p (subst (λ (n : ℕ). p < n) (sym inv.all_far_sides) below) in
      all_gotten FarRests f.far_sides.items p there_is.0 rest.far_sides there_is.1 x
      (subst (λ (n : ℕ). LeftAtFar n (far_part there_is.0) x) (sym (inv.far_sides p there_is.0 there_is.1).number)
      (subst (λ (part : FarPart). LeftAtFar p part x) (sym (far_is f inv w s p there_is.0 there_is.1)) left))
  nothing_left rest x (ToOperator left) =
      rest.of_operator x (subst (λ (setup : Setup). LeftToOperator setup (operator_part f.operator) x) (sym inv.operator_setup)
      (subst (λ (part : OperatorPart). LeftToOperator f.known.setup part x) (sym (operator_is f inv w s)) left))

  -- what a world without anything left says of the actors
  module _ (none : (x : Pending) → ¬ IsLeft f.known.setup w x) where
    empty : (a b : ℕ) → parcels f.inboxes.items a b ≡ []
    empty a b = by_items (parcels f.inboxes.items a b) (s.lab.sees.channels a b) where
      by_items : (xs : List Parcel) → map (thing_of carried f.known.setup) xs ≡ channel_of w (actor_at f.known.setup a) (actor_at f.known.setup b) → xs ≡ []
      by_items [] e = refl
      by_items (item ∷ xs) e = absurd (none (Channel a b) (OnItsWay (λ none_there.
          let never : thing_of carried f.known.setup item ∷ map (thing_of carried f.known.setup) xs ≡ [] = e ∙ none_there in absurd cc)))

    router_rests : (r : ℕ) (x : AuditedRouter) → slice_get f.routers.items r ≡ Some x → RouterRests x
    router_rests r x at pending left = none pending (AtRouter r (subst (λ (n : ℕ). r < n) inv.all_routers (slice_get_within f.routers.items r x at))
        (subst (λ (part : RouterPart). LeftAtRouter r part pending) (router_is f inv w s r x at)
        (subst (λ (n : ℕ). LeftAtRouter n (router_part x) pending) (inv.routers r x at).number left)))

    far_rests : (p : ℕ) (x : AuditedFar) → slice_get f.far_sides.items p ≡ Some x → FarRests x
    far_rests p x at pending left = none pending (AtFarSide p (subst (λ (n : ℕ). p < n) inv.all_far_sides (slice_get_within f.far_sides.items p x at))
        (subst (λ (part : FarPart). LeftAtFar p part pending) (far_is f inv w s p x at)
        (subst (λ (n : ℕ). LeftAtFar n (far_part x) pending) (inv.far_sides p x at).number left)))

    all_rest : AllRest f
    all_rest = record {
      channels = empty;
      of_operator = λ x left. none x (ToOperator (subst (λ (part : OperatorPart). LeftToOperator f.known.setup part x) (operator_is f inv w s)
          (subst (λ (setup : Setup). LeftToOperator setup (operator_part f.operator) x) inv.operator_setup left)));
      far_sides = λ n d below. far_rests n (slice_index_or f.far_sides.items n d) (slice_get-get_or f.far_sides.items n d below);
      routers = λ n d below. router_rests n (slice_index_or f.routers.items n d) (slice_get-get_or f.routers.items n d below);
    }

  pub quiet_is : AllRest f ↔ Quiet f.known.setup w
  quiet_is = (λ rest. in_quiet.0 (nothing_left rest), λ quiet. all_rest (in_quiet.1 quiet))

module _ (f : Auditor) (inv : AuditorInvariant f) where
  pub all_far_sides_sound : All FarInvariant f.far_sides.items
  all_far_sides_sound n d below = (inv.far_sides n (slice_index_or f.far_sides.items n d) (slice_get-get_or f.far_sides.items n d below)).sound

  pub all_routers_sound : All RouterInvariant f.routers.items
  all_routers_sound n d below = (inv.routers n (slice_index_or f.routers.items n d) (slice_get-get_or f.routers.items n d below)).sound

-- what tells whether all rest tells whether the world is quiet
pub told : (way : WorldsAreOnTheWay) (nothing_is_quiet : QuietIsNothingLeft) (f : Auditor) (inv : AuditorInvariant f) (answer : Bool)
    → IsTrue answer ↔ AllRest f → TellsQuiet f answer
told way nothing_is_quiet f inv answer rest = record {
  rest = rest;
  quiet = λ w s. let quiet = quiet_is way nothing_is_quiet f inv w s in (λ yes. quiet.0 (rest.0 yes), λ is. rest.1 (quiet.1 is));
}
