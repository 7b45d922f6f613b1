use Rattle.std.proofs.Common.{◌≡◌, ℕ, List, refl, sym, subst, arith}
use Rattle.std.specs.Prelude.{Ok, Err}
use Rattle.std.specs.Str.Parse.{ParsesUnsigned}
use Rattle.std.proofs.lemmas.Bool.{false≢true}
use Rattle.journal_form.specs.Numbers.{BeginsPlainly}
use Rattle.journal_form.proofs.Numbers.{IsUtf8-number, is_value, is_error, IsNumber-read, one_number, number_is_read, BeginsPlainly-decimal}
use Rattle.journal_form.proofs.number.read_decimal.Goals as goal

pub returns-in_err-text : goal.returns-in_err-text
returns-in_err-text c =
    let no_text = is_error _ _ c.from_utf8.result c.from_utf8.ensures.cases c.in_err-text.ensures.variant (λ _ wrong. wrong.0) in
    rw c.from_residual.ensures (λ n is. no_text (IsUtf8-number c.args.most n c.args.octets.now (omega (arith, c.ranges.most.fits)) is))

pub returns-in-Ok : goal.returns-in-Ok
returns-in-Ok c =
    let same : c.in_ok-text.text.now ≡ c.args.octets.now =
    (is_value _ _ c.from_utf8.result c.in_ok-text.text c.from_utf8.ensures.cases c.in_ok-text.ensures.value).0 in
    IsNumber-read ℕ c.args.most c.in-Ok.number c.args.octets.now c.if-number-most.true (c.if-begins_plainly.ensures.0 refl)
    (subst (λ (t : List ℕ). ParsesUnsigned {E = ℕ} 64 10 t (Ok c.in-Ok.number)) same c.in-Ok.ensures.value.0)

pub returns-in_default : goal.returns-in_default
returns-in_default c = λ n is.
    absurd (false≢true (c.if-begins_plainly.ensures.1
    (subst BeginsPlainly (sym is.1) (BeginsPlainly-decimal n (omega (arith, is.0, c.ranges.most.fits))))))

pub returns-in_default-2 : goal.returns-in_default-2
returns-in_default-2 c = λ n is.
    let same : c.in_ok-text.text.now ≡ c.args.octets.now =
    (is_value _ _ c.from_utf8.result c.in_ok-text.text c.from_utf8.ensures.cases c.in_ok-text.ensures.value).0 in
    omega (
      arith,
      c.if-number-most.false,
      is.0,
      one_number ℕ c.args.most c.in-Ok.number n c.args.octets.now (omega (arith, c.ranges.most.fits))
          (subst (λ (t : List ℕ). ParsesUnsigned {E = ℕ} 64 10 t (Ok c.in-Ok.number)) same c.in-Ok.ensures.value.0) is,
    )

pub returns-in_default-3 : goal.returns-in_default-3
returns-in_default-3 c = λ n is.
    let same : c.in_ok-text.text.now ≡ c.args.octets.now =
    (is_value _ _ c.from_utf8.result c.in_ok-text.text c.from_utf8.ensures.cases c.in_ok-text.ensures.value).0 in
    number_is_read ℕ 0 c.args.most n c.args.octets.now (omega (arith, c.ranges.most.fits))
    (subst (λ (t : List ℕ). ParsesUnsigned {E = ℕ} 64 10 t (Err 0)) same c.in_default.ensures.value.0) is
