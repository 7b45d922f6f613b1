use Rattle.std.proofs.Common.{refl, arith}
use Rattle.std.specs.Int.{w32}
use Rattle.std.specs.Prelude.{None}
use Rattle.std.specs.List.{last_or}
use Rattle.std.proofs.lemmas.List.{length_push}
use Rattle.capsule_bytes.specs.Fields.{any_number, counted}
use Rattle.capsule_bytes.specs.Capsules.{line_fields}
use Rattle.capsule_bytes.proofs.Readings.{Passes-none, exit}
use Rattle.capsule_bytes.proofs.MemberLists.{Passes-push, Passes-counted, count_stops, member_stops}
use Rattle.capsule_bytes.proofs.lists.read_lines.Goals as goal

pub returns-in_err-count : goal.returns-in_err-count
returns-in_err-count c = exit (counted line_fields) _ _ _ _ c.from_residual.ensures.1 (count_stops line_fields _ _ (c.in_err-count.ensures.stops
    (any_number w32 0) refl))

pub loop-init : goal.loop-init
loop-init c = rw c.new-lines.ensures (refl, Passes-none _)

pub returns-in_err-line : goal.returns-in_err-line
returns-in_err-line c =
    exit (counted line_fields) _ _ _ _ c.from_residual-in_err-line.ensures.1 (member_stops line_fields c.in_ok-count.count c.loop.lines _ _ _ (omega
    (arith, c.loop.invariant.0))
    c.in_ok-count.ensures.passed c.loop.invariant.1 _ (c.in_err-line.ensures (last_or None c.loop.lines)))

pub loop-preserved : goal.loop-preserved
loop-preserved c =
    rw c.in_ok-push.ensures.ok (
      omega (
        arith,
        length_push c.loop.lines
            c.in_ok-line.line,
        c.loop.invariant.0,
      ),
      Passes-push line_fields c.loop.lines c.in_ok-line.line _ _ _ c.loop.invariant.1 (c.in_ok-line.ensures
          (last_or None c.loop.lines)),
    )

pub returns : goal.returns
returns c =
    Passes-counted line_fields c.in_ok-count.count c.loop.lines _ _ _ (omega (arith, c.loop.invariant.0)) c.in_ok-count.ensures.passed c.loop.invariant.1
