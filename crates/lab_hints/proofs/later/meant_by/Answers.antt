use Rattle.std.proofs.Common.{◌∙◌, List, ℕ, ap, map}
use Rattle.std.specs.Borrow.{Bor}
use Rattle.near_names.specs.Nearness.{nearest}
use Rattle.lab_hints.proofs.later.meant_by.Goals as goal

pub returns : goal.returns
returns c =
    c.in_ok-nearest.ensures
    ∙ ap (λ names. nearest names c.args.name.now) (ap (map (λ (name : Bor (List ℕ)). name.now)) c.as_slice.ensures ∙ c.in_ok-names.ensures)
