use Rattle.std.proofs.Common.{ℕ, ◌-◌, List, length, drop, subst, arith, rules}
use Rattle.std.specs.Prelude.{◌≡◌, ◌≢◌, MatchBool}
use Rattle.std.specs.Cmp.Lexicographic.{told_text}
use Rattle.std.proofs.lemmas.List.{length-drop, take_all}
use Rattle.capsule_parts.proofs.check.is_waiting.Goals as goal

pub returns : goal.returns
returns c =
    let put = c.args.put.now in
    let acked = c.args.end.now.acked in
    let size = length-drop acked put in
    subst (λ (xs : List ℕ). MatchBool c.eq.result (c.args.end.now.waiting ≡ xs) (c.args.end.now.waiting ≢ xs))
    (take_all (length put - acked) (drop acked put) (omega (arith, size)))
    (told_text _ _ c.eq.result (search rules))
