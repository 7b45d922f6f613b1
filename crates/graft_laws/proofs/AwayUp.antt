-- A session that is frozen or on its way is established.
use Rattle.std.proofs.Common.{◌≡◌, ◌==◌, cond, ℕ, ◌<◌, Bool, true, false, Option, Some, None, refl, ap, ◌∙◌, subst, arith}
use Rattle.std.proofs.lemmas.Bool.Decides.{nat_tests}
use Rattle.bgp_types.specs.declared.message.SessionState.{SessionState}
use Rattle.bgp_types.specs.declared.message.SessionState.TheVariants.{Established}
use Rattle.graft_steps.specs.declared.refusal.Refusal.{Refusal}
use Rattle.graft_steps.specs.declared.refusal.Refusal.TheVariants.{SameRouter}
use Rattle.graft_steps.specs.Refusals.{freeze_refusal, session_refusal}
use Rattle.session_value.specs.Sessions.{SessionValue, state, hold_time}
use Rattle.graft_model.specs.Setups.{Setup, IsSetup, peerings_in}
use Rattle.graft_model.specs.Parts.{Errand, Live, Moved, Back, World}
use Rattle.graft_model.specs.Steps.{Heads}
use Rattle.graft_laws.specs.Phases.{Halted, Moving, Returning, Phase, Busy, place_by}
use Rattle.graft_laws.specs.Life.{Acts, Change, Freezes, Lands, Returns, Clears, GraftMove, Grafts}
use Rattle.graft_laws.specs.Keeps.{Reached, IsInvariant, Has}
use Rattle.graft_laws.specs.Owned.{is_on, mesh_items_on}
use Rattle.graft_laws.proofs.Deeds.{known_mesh}
use Rattle.graft_laws.proofs.Following.{own_head}
use Rattle.graft_laws.proofs.Grafts.{equal}
use Rattle.graft_laws.proofs.Phases.{moved_in, back_in}
use Rattle.graft_laws.proofs.Runs.{always_has, always_owned}

abbrev UpAway : Phase → SessionValue → Type 0
UpAway (Busy q k t Halted) s = state s ≡ Established
UpAway (Busy q k t Moving) s = state s ≡ Established
UpAway (Busy q k t (Returning refusal)) s = state s ≡ Established
UpAway phase s = Unit {0}

established_is : (st : SessionState) (hold : ℕ) → session_refusal st hold ≡ None → st ≡ Established
established_is Established hold e = refl
established_is _ hold e = absurd cc

-- what is frozen is established
frozen_up : (q t : ℕ) (st : SessionState) (hold : ℕ) → freeze_refusal (record { 0 = q }) (record { 0 = t }) st hold ≡ None → st ≡ Established
frozen_up q t st hold e = by_test (t == q) e where
  by_test : (b : Bool) → cond b (Some SameRouter) (session_refusal st hold) ≡ None → st ≡ Established
  by_test true g = absurd cc
  by_test false g = established_is st hold g

-- where a session is live, nothing is asked of it
live_free : (phase : Phase) (s next : SessionValue) (o : Option Errand) (r : ℕ) → place_by phase s r ≡ Live s o → UpAway phase next
live_free (Busy q k t Halted) s next o r e = absurd (grind (arith, nat_tests))
live_free (Busy q k t Moving) s next o r e = absurd (grind (arith, nat_tests))
live_free (Busy q k t (Returning refusal)) s next o r e = absurd (grind (arith, nat_tests))
live_free _ s next o r e = tt

up_on : {setup : Setup} {w : World} (phase next : Phase) (s : SessionValue) → GraftMove setup w phase s next → UpAway phase s → UpAway next s
up_on _ _ s (Freezes {q = q} {t = t} no_cause) up = frozen_up q t (state s) (hold_time s) no_cause
up_on _ _ s Returns up = tt
up_on _ _ s _ up = up

up_then : (setup : Setup) (w v : World) (p : ℕ) (phase next : Phase) (s t : SessionValue) → Change setup w v p phase s next t → UpAway phase s → UpAway next t
up_then setup w v p phase next s _ (Grafts move line entries) up = up_on phase next s move up
up_then setup w v p _ _ s _ (Lands admitted line entries) up = tt
up_then setup w v p _ _ s _ (Clears line entries) up = tt
up_then setup w v p phase _ s next (Acts r errand live act) up = live_free phase s next errand r live
up_then setup w v p _ _ s _ _ up = up

abbrev IsUpAway : World → ℕ → Phase → SessionValue → Type 0
IsUpAway w p phase s = UpAway phase s

keeps_up : (setup : Setup) → IsInvariant setup IsUpAway
keeps_up setup = record {
  first = λ p config is. tt;
  step = λ before after p phase next s t reached below stands then change up. up_then setup before after p phase next s t change up;
}

module _ (setup : Setup) (w : World) (sound : IsSetup setup) (reached : Reached setup w) where
  here : (p : ℕ) → p < peerings_in setup → Has setup IsUpAway w p
  here p below = always_has setup IsUpAway sound (keeps_up setup) w reached p below

  -- a session at the head of a channel, to its target or back
  pub moved_up : (a b k p : ℕ) (s : SessionValue) → Heads (w.mesh a b) (Moved k p s) → state s ≡ Established
  moved_up a b k p s h =
      let has : Has setup IsUpAway w p = here p (known_mesh setup w (always_owned setup sound w reached) a b p (Moved k p s) h (equal p)) in
      let e = moved_in has.phase p has.session s a b k (mesh_items_on p h.rest)
      (own_head (is_on p) (w.mesh a b) h.rest (Moved k p s) h.is (equal p) ∙ has.stands.mesh a b) in
      ap state e.1 ∙ subst (λ (x : Phase). UpAway x has.session) e.0 has.more

  pub back_up : (a b k p : ℕ) (s : SessionValue) (refusal : Refusal) → Heads (w.mesh a b) (Back k p s refusal) → state s ≡ Established
  back_up a b k p s refusal h =
      let has : Has setup IsUpAway w p = here p (known_mesh setup w (always_owned setup sound w reached) a b p (Back k p s refusal) h (equal p)) in
      let e = back_in has.phase p has.session s refusal a b k (mesh_items_on p h.rest)
      (own_head (is_on p) (w.mesh a b) h.rest (Back k p s refusal) h.is (equal p) ∙ has.stands.mesh a b) in
      ap state e.1 ∙ subst (λ (x : Phase). UpAway x has.session) e.0 has.more
