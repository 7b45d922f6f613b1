use Rattle.std.proofs.Common.{◌++◌, take, arith, length-append, length-take}
use Rattle.std.specs.Prelude.{Result, Ok, Err, IfErr}
use Rattle.graft_edge.proofs.Pieces.{Took-append}
use Rattle.graft_edge.proofs.source.read_all.Goals as goal

-- what is so of every error is so of this one
if_any_error : {A E : Type 0} {P : E → Type 0} (result : Result A E) → ((e : E) → P e) → IfErr result P
if_any_error (Ok value) every = tt
if_any_error (Err e) every = every e

pub returns-then-n-most-clause-too_long : goal.returns-then-n-most-clause-too_long
returns-then-n-most-clause-too_long g c = λ _. (
  c.loop-bytes.bytes ++ take c.in_ok-n.n c.read.new.buf,
  simp (length-append, length-take) (omega (arith, c.in_ok-n.ensures.within)),
  Took-append _ _ _ _ _ c.loop-bytes.invariant.taken c.in_ok-n.ensures.took,
)

pub returns-in_err-extend-clause-stopped : goal.returns-in_err-extend-clause-stopped
returns-in_err-extend-clause-stopped g c = if_any_error c.from_residual-in_err-extend.result (λ _ _. (
  c.loop-bytes.bytes ++ take c.in_ok-n.n c.read.new.buf,
  simp (length-append, length-take) (omega (arith, c.in_ok-n.ensures.within)),
  Took-append _ _ _ _ _ c.loop-bytes.invariant.taken c.in_ok-n.ensures.took,
))
