use Rattle.std.proofs.Common.{◌≢◌, List, ◌++◌, ℕ, ap, subst, ◌∙◌}
use Rattle.std.specs.Prelude.{Option, Some, None}
use Rattle.std.specs.Borrow.{Bor}
use Rattle.std.proofs.lemmas.Bool.Decides.{Decides-eqb}
use Rattle.std.proofs.lemmas.Slice.Eq.{strip_prefix_is}
use Rattle.journal_form.proofs.Dividing.{Divides-found, Divides-first, no_division}
use Rattle.journal_form.proofs.reading.divide.Goals as goal

pub returns-in-Some : goal.returns-in-Some
returns-in-Some c =
    Divides-found c.args.text.now c.as_bytes-divider.result.now c.in-Some.at c.as_bytes-divider.ensures.value c.in-Some.ensures

pub returns-in_err-strip_prefix-in-None : goal.returns-in_err-strip_prefix-in-None
returns-in_err-strip_prefix-in-None c =
    let none : Option (Bor (List ℕ)) = None in
    let other = strip_prefix_is Decides-eqb c.args.text.now c.as_bytes-line.result.now none c.in_err-strip_prefix-in-None.ensures.cases in
    rw c.from_residual.ensures (no_division c.args.text.now c.as_bytes-divider.result.now c.as_bytes-divider.ensures.value c.in-None.ensures
    (subst (λ (line : List ℕ). (rest : List ℕ) → c.args.text.now ≢ line ++ rest) c.as_bytes-line.ensures.value other))

pub returns-in_ok-strip_prefix-in-None : goal.returns-in_ok-strip_prefix-in-None
returns-in_ok-strip_prefix-in-None c =
    let rest : Bor (List ℕ) = c.in_ok-strip_prefix-in-None.field-0 in
    let found = strip_prefix_is Decides-eqb c.args.text.now c.as_bytes-line.result.now (Some rest) c.in_ok-strip_prefix-in-None.ensures.cases in
    Divides-first c.args.text.now c.as_bytes-divider.result.now rest.now c.as_bytes-divider.ensures.value c.in-None.ensures
    (found ∙ ap (λ (line : List ℕ). line ++ rest.now) c.as_bytes-line.ensures.value)
