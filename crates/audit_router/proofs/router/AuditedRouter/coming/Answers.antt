use Rattle.std.proofs.Common.{◌≡◌, ◌<◌, ◌∙◌, Some, ap, arith, option_copied, refl, sym}
use Rattle.std.specs.Prelude.{slice_get}
use Rattle.std.proofs.lemmas.Bool.{false≢true}
use Rattle.std.proofs.lemmas.Option.{same_Some}
use Rattle.graft_model.specs.Setups.{peerings_in}
use Rattle.audit_channels.specs.Channels.{parcels_in}
use Rattle.audit_router.specs.Nexts.{coming_in}
use Rattle.audit_router.proofs.AtTarget.{comes_here, comes_not, nothing_comes, one_answer}
use Rattle.audit_router.proofs.Firsts.{moved_first}
use Rattle.audit_router.proofs.router.AuditedRouter.coming.Goals as goal

pub returns-in_default : goal.returns-in_default
returns-in_default c = λ refusal. (
  λ same. absurd (let no : ⊥ = cc in no),
  λ comes. absurd (nothing_comes c.args.self.now (parcels_in c.args.channel.now) (sym c.next_session.ensures ∙ ap option_copied c.in_default.is) refusal comes),
)

pub returns-then-not-is_vacant : goal.returns-then-not-is_vacant
returns-then-not-is_vacant c = λ refusal. (
  λ same. absurd (let no : ⊥ = cc in no),
  λ comes. absurd (comes_not c.args.self.now (parcels_in c.args.channel.now) c.in-Some.config.now c.requires
      (sym c.next_session.ensures ∙ ap option_copied c.in-Some.is) (λ vacant. false≢true (c.if-not-is_vacant.ensures.1 vacant)) refusal comes),
)

pub returns : goal.returns
returns c =
    let r = c.args.self.now in
    let channel = parcels_in c.args.channel.now in
    let next : coming_in (slice_get channel 0) ≡ Some c.in-Some.config.now = sym c.next_session.ensures ∙ ap option_copied c.in-Some.is in
    let vacant = c.if-not-is_vacant.ensures.0 refl in
    let known : c.in-Some.config.now.peering.0 < peerings_in r.tables.known.setup = omega (arith, vacant.0, c.requires.all) in
    let own = comes_here r channel c.in-Some.config.now (moved_first channel c.in-Some.config.now next) known vacant.1 c.in_ok-admission.field-0
    c.in_ok-admission.ensures in
    λ refusal. (
      λ same. comes_here r channel c.in-Some.config.now (moved_first channel c.in-Some.config.now next) known vacant.1 refusal
          (sym (same_Some c.in_ok-admission.field-0 refusal same) ∙ c.in_ok-admission.ensures),
      λ comes. ap Some (one_answer r c.requires 0 channel c.in_ok-admission.field-0 refusal own comes),
    )
