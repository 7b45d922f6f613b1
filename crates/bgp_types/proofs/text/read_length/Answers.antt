use Rattle.std.proofs.Common.{ℕ, refl, arith}
use Rattle.std.proofs.lemmas.Bool.{false≢true}
use Rattle.bgp_types.proofs.TextLemmas.{IsLengthText-read, same_length, no_length, BeginsPlainly-length}
use Rattle.bgp_types.proofs.text.read_length.Goals as goal

pub returns-in-Ok : goal.returns-in-Ok
returns-in-Ok c = IsLengthText-read ℕ c.args.text.now c.in-Ok.len (c.if-begins_plainly.ensures.0 refl) c.if-len-le32.true c.in-Ok.ensures.value.0

pub returns-in_default : goal.returns-in_default
returns-in_default c = λ len is. absurd (false≢true (c.if-begins_plainly.ensures.1 (BeginsPlainly-length c.args.text.now len is)))

pub returns-in_default-2 : goal.returns-in_default-2
returns-in_default-2 c = λ len is. omega (arith, same_length ℕ c.args.text.now c.in-Ok.len len c.in-Ok.ensures.value.0 is, is.0)

pub returns-in_default-3 : goal.returns-in_default-3
returns-in_default-3 c = λ len is. no_length ℕ 0 c.args.text.now len c.in_default.ensures.value.0 is
