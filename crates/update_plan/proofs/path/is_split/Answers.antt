use Rattle.std.proofs.Common.{◌≡◌, Bool, true, false, not, refl, sym, ◌∙◌}
use Rattle.std.proofs.lemmas.Slice.Eq.{bytes_eq-Decides}
use Rattle.update_plan.specs.Passing.{first_ases}
use Rattle.update_plan.proofs.Same.{paths_equal}
use Rattle.update_plan.proofs.path.is_split.Goals as goal

not_false : (b : Bool) → not b ≡ false → b ≡ true
not_false true e = refl
not_false false e = absurd cc

pub returns : goal.returns
returns c =
    let same : c.args.ases.now ≡ first_ases c.args.path.now =
    (bytes_eq-Decides c.args.ases.now c.split.result.0.now).0 (not_false _ (sym c.ne.ensures ∙ c.if-ne.false)) ∙ c.split.ensures.ases in
    let equal = paths_equal c.args.parts.now c.split.result.1.now in
    (λ e. (same, equal.0 (sym c.eq.ensures ∙ e) ∙ c.split.ensures.parts), λ h. c.eq.ensures ∙ equal.1 (h.1 ∙ sym c.split.ensures.parts))
