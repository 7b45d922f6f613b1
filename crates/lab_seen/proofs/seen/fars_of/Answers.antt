use Rattle.std.proofs.Common.{◌≡◌, ◌+◌, ◌++◌, ◌∷◌, [], ℕ, List, Option, Some, None, append-nil, sym, ap, ◌∙◌}
use Rattle.std.specs.Prelude.{slice_get}
use Rattle.std.specs.List.{flat_map, range_with_len}
use Rattle.std.specs.Option.{option_copied}
use Rattle.far_side.specs.Fars.{part_of_far}
use Rattle.far_side.specs.declared.far.Far.{Far}
use Rattle.lab_report.specs.declared.lab.FarView.{FarView}
use Rattle.lab_seen.specs.Found.{far_in, fars_of}
use Rattle.lab_seen.specs.Seen.{far_view}
use Rattle.lab_seen.proofs.Ranges.{one_number_more}
use Rattle.lab_seen.proofs.seen.fars_of.Goals.{in-Some+in_ok-far_view+in_ok-push, in_default}
use Rattle.lab_seen.proofs.seen.fars_of.Goals as goal

pub loop-number-preserved : goal.loop-number-preserved
loop-number-preserved c =
    let at = c.loop-number in
    let fars : ℕ → List FarView = λ p. fars_of (far_in (slice_get c.args.actors.now (c.args.routers + p))) in
    let so_far = flat_map fars (range_with_len 0 at.number) in
    elim c.match-far_at.branch [
      | in-Some+in_ok-far_view+in_ok-push w ↦
          let far = w.in-Some.far.now in
          let found : far_in (slice_get c.args.actors.now (c.args.routers + at.number)) ≡ Some far = sym c.far_at.ensures ∙ ap option_copied w.in-Some.is in
          w.fars-is
          ∙ w.in_ok-push.ensures.ok
          ∙ ap (λ (v : FarView). at.fars ++ v ∷ []) w.in_ok-far_view.ensures
          ∙ ap (λ (vs : List FarView). vs ++ far_view (part_of_far far) ∷ []) at.invariant
          ∙ ap (λ (o : Option Far). so_far ++ fars_of o) (sym found)
          ∙ sym (one_number_more fars at.number)
      | in_default w ↦
          let none : far_in (slice_get c.args.actors.now (c.args.routers + at.number)) ≡ None = sym c.far_at.ensures ∙ ap option_copied w.in_default.is in
          w.fars-is
          ∙ at.invariant
          ∙ sym (append-nil so_far)
          ∙ ap (λ (o : Option Far). so_far ++ fars_of o) (sym none)
          ∙ sym (one_number_more fars at.number)
    ]
