use Rattle.std.proofs.Common.{◌≡◌, ◌∙◌, ℕ, List, false, length, true, ap, sym}
use Rattle.std.proofs.lemmas.Bool.{eq-eqb, eqb-true}
use Rattle.audit_far.proofs.Begins.{all_acked, no_segments, rests}
use Rattle.audit_far.proofs.far.AuditedFar.is_at_rest.Goals as goal

pub returns-then-is_link_empty : goal.returns-then-is_link_empty
returns-then-is_link_empty c =
    let f = c.args.self.now in
    let empty = c.is_link_empty.ensures.0 c.if-is_link_empty.true in (
      λ t. rests f empty.0 empty.1 (sym c.acked.ensures ∙ eqb-true _ _ t ∙ ap (λ (xs : List ℕ). length xs) c.said.ensures),
      λ none. eq-eqb _ _ (c.acked.ensures ∙ all_acked f none ∙ sym (ap (λ (xs : List ℕ). length xs) c.said.ensures)),
    )

pub returns-else-is_link_empty : goal.returns-else-is_link_empty
returns-else-is_link_empty c = (
  λ t. absurd cc,
  λ none. absurd (let e : true ≡ false = sym (c.is_link_empty.ensures.1 (no_segments c.args.self.now none)) ∙ c.if-is_link_empty.false in cc),
)
