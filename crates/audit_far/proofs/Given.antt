-- What a bag gave at an index.
use Rattle.std.proofs.Common.{◌≡◌, ℕ, ◌≤◌, Bool, List, length, Option, Some, None, subst}
use Rattle.std.specs.Prelude.{IfNone, IfSome, slice_get}
use Rattle.tcp_seq.specs.declared.segment.Segment.{Segment}
use Rattle.audit_far.specs.Parts.{left_in_bag}

module _ (keep : Bool) (index : ℕ) (old new : List Segment) (answer : Option Segment) where
  pub gave_none : answer ≡ None → IfNone answer ((length old ≤ index) × (new ≡ old)) → (length old ≤ index) × (new ≡ old)
  gave_none is none = subst (λ (o : Option Segment). IfNone o ((length old ≤ index) × (new ≡ old))) is none

  pub gave_some : (segment : Segment) → answer ≡ Some segment
      → IfSome answer (λ x. (slice_get old index ≡ Some x) × (new ≡ left_in_bag keep index old))
      → (slice_get old index ≡ Some segment) × (new ≡ left_in_bag keep index old)
  gave_some segment is some = subst (λ (o : Option Segment).
      IfSome o (λ x. (slice_get old index ≡ Some x) × (new ≡ left_in_bag keep index old))) is some
