use Rattle.std.proofs.Common.{◌≡◌, ◌≢◌, ℕ, ◌+◌, List, ◌++◌, refl, sym, ap, subst, ◌∙◌, inl, inr}
use Rattle.std.specs.Prelude.{Option, Some, None}
use Rattle.std.specs.Borrow.{Bor}
use Rattle.std.proofs.lemmas.List.{append-nil}
use Rattle.std.proofs.lemmas.Bool.Decides.{Decides-eqb}
use Rattle.std.proofs.lemmas.Slice.Eq.{strip_prefix_is}
use Rattle.journal_form.specs.Journals.{end_line}
use Rattle.journal_form.proofs.ReadSoFar.{nothing_behind, something_behind}
use Rattle.journal_form.proofs.reading.end_reading.Goals as goal

pub returns-in_default-clause-fault : goal.returns-in_default-clause-fault
returns-in_default-clause-fault c = λ i is.
    let none : Option (Bor (List ℕ)) = None in
    let other = strip_prefix_is Decides-eqb c.args.left.now c.as_bytes.result.now none c.in_default.ensures.cases in
    let no_end = subst (λ (line : List ℕ). (behind : List ℕ) → c.args.left.now ≢ line ++ behind) c.as_bytes.ensures.value other in
    let same : c.len-count.result ≡ i = cc in
    inl (sym same ∙ c.len-count.ensures, c.requires.end, λ ends. no_end ends.behind ends.line)

pub returns-then-not-is_empty-clause-fault : goal.returns-then-not-is_empty-clause-fault
returns-then-not-is_empty-clause-fault c = λ i is.
    let behind : Bor (List ℕ) = c.in-Some.behind in
    let found = strip_prefix_is Decides-eqb c.args.left.now c.as_bytes.result.now (Some behind) c.in-Some.ensures.cases in
    let same : c.len-count.result + 1 ≡ i = cc in
    inr (
      sym same ∙ ap (λ (n : ℕ). n + 1) c.len-count.ensures,
      record {
        behind = behind.now;
        line = found ∙ ap (λ (line : List ℕ). line ++ behind.now) c.as_bytes.ensures.value;
        more = something_behind behind.now c.if-not-is_empty.ensures;
      },
    )

pub returns-clause-entries : goal.returns-clause-entries
returns-clause-entries c =
    let behind : Bor (List ℕ) = c.in-Some.behind in
    let found = strip_prefix_is Decides-eqb c.args.left.now c.as_bytes.result.now (Some behind) c.in-Some.ensures.cases in (
      refl,
      found ∙ ap (λ (line : List ℕ). line ++ behind.now) c.as_bytes.ensures.value
          ∙ ap (λ (more : List ℕ). end_line ++ more) (nothing_behind behind.now c.if-not-is_empty.ensures) ∙ append-nil end_line,
    )
