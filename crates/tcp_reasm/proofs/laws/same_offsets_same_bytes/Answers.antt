use Rattle.std.proofs.Common.{sym, ◌∙◌, ap}
use Rattle.std.specs.Prelude.{if◌then◌else◌, Some, None}
use Rattle.tcp_reasm.proofs.Covered.{ahead, given_same}
use Rattle.tcp_reasm.proofs.laws.same_offsets_same_bytes.Goals as goal

pub returns-clause-ahead : goal.returns-clause-ahead
returns-clause-ahead c = ahead

pub returns-clause-given : goal.returns-clause-given
returns-clause-given c = λ stream next puts others a b a' b' out x y m n steps others_steps all others_all same first second.
    given_same a b a' b' out x y m n
    (λ k. ahead stream next puts a steps all k ∙ ap (λ t. if t then Some (stream k) else None) (same k)
    ∙ sym (ahead stream next others b others_steps others_all k))
    first second
