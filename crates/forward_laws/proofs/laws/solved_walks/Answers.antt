use Rattle.std.proofs.Common.{ℕ, ◌<◌, sym, subst}
use Rattle.forward_walk.proofs.TwoRouters.{two_at_most}
use Rattle.forward_laws.proofs.Forwarding.{are_solved, placed}
use Rattle.forward_laws.proofs.Sources.{maps_length}
use Rattle.forward_laws.proofs.laws.solved_walks.Goals as goal

pub returns-clause-two : goal.returns-clause-two
returns-clause-two c setup w address from walk ok solves lt walks =
    let there = subst (λ (n : ℕ). from.0 < n) (sym (maps_length setup w)) lt in
    two_at_most _ address (are_solved setup w solves) from there walk walks

pub returns-clause-leaves : goal.returns-clause-leaves
returns-clause-leaves c setup w address from r p x ok solves transparent lt walks =
    let there = subst (λ (n : ℕ). from.0 < n) (sym (maps_length setup w)) lt in
    let ends = (two_at_most _ address (are_solved setup w solves) from there _ walks).ends in
    (placed setup w solves ok transparent r p x ends.entry).placed
