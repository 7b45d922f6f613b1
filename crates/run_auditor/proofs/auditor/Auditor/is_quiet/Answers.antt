use Rattle.std.proofs.Common.{◌≡◌, ◌∙◌, ℕ, List, [], subst, sym}
use Rattle.std.specs.Prelude.{All}
use Rattle.std.proofs.lemmas.Bool.{false≢true}
use Rattle.audit_channels.specs.Channels.{parcels}
use Rattle.audit_channels.specs.declared.inboxes.Inbox.{Inbox}
use Rattle.audit_far.specs.Parts.{FarInvariant}
use Rattle.audit_router.specs.Parts.{RouterInvariant}
use Rattle.run_auditor.specs.Rests.{FarRests, RouterRests}
use Rattle.run_auditor.proofs.Quiets.{all_far_sides_sound, all_routers_sound, told}
use Rattle.run_auditor.proofs.auditor.Auditor.is_quiet.Goals as goal

pub far_sides_rest-requires : goal.far_sides_rest-requires
far_sides_rest-requires c = subst (All FarInvariant) (sym c.deref.ensures.value) (all_far_sides_sound c.args.self.now c.requires)

pub routers_rest-requires : goal.routers_rest-requires
routers_rest-requires c =
    subst (All RouterInvariant) (sym c.deref-then-far_sides_rest.ensures.value) (all_routers_sound c.args.self.now c.requires)

pub returns-then-not-are_empty : goal.returns-then-not-are_empty
returns-then-not-are_empty c = told c.worlds_are_on_the_way.ensures.way c.quiet_is_found.ensures.nothing c.args.self.now c.requires _ (
  λ no. absurd (false≢true no),
  λ rest. sym c.if-not-are_empty.true ∙ c.are_empty.ensures.1
      (subst (λ (xs : List Inbox). (a b : ℕ) → parcels xs a b ≡ []) (sym c.as_slice.ensures.value) rest.channels),
)

pub returns-then-not-is_at_rest : goal.returns-then-not-is_at_rest
returns-then-not-is_at_rest c = told c.worlds_are_on_the_way.ensures.way c.quiet_is_found.ensures.nothing c.args.self.now c.requires _ (
  λ no. absurd (false≢true no),
  λ rest. sym c.if-not-is_at_rest.true ∙ c.is_at_rest.ensures.1 rest.of_operator,
)

pub returns-then-far_sides_rest : goal.returns-then-far_sides_rest
returns-then-far_sides_rest c = told c.worlds_are_on_the_way.ensures.way c.quiet_is_found.ensures.nothing c.args.self.now c.requires _ (
  λ yes. record {
    channels = subst (λ (xs : List Inbox). (a b : ℕ) → parcels xs a b ≡ []) c.as_slice.ensures.value (c.are_empty.ensures.0 c.if-not-are_empty.false);
    of_operator = c.is_at_rest.ensures.0 c.if-not-is_at_rest.false;
    far_sides = subst (All FarRests) c.deref.ensures.value (c.far_sides_rest.ensures.0 c.if-far_sides_rest.true);
    routers = subst (All RouterRests) c.deref-then-far_sides_rest.ensures.value (c.routers_rest.ensures.0 yes);
  },
  λ rest. c.routers_rest.ensures.1 (subst (All RouterRests) (sym c.deref-then-far_sides_rest.ensures.value) rest.routers),
)

pub returns-else-far_sides_rest : goal.returns-else-far_sides_rest
returns-else-far_sides_rest c = told c.worlds_are_on_the_way.ensures.way c.quiet_is_found.ensures.nothing c.args.self.now c.requires _ (
  λ yes. absurd (false≢true (sym c.if-far_sides_rest.false ∙ yes)),
  λ rest. c.far_sides_rest.ensures.1 (subst (All FarRests) (sym c.deref.ensures.value) rest.far_sides),
)
