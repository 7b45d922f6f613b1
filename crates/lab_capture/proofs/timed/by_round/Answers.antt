use Rattle.std.proofs.Common.{[], ℕ, rules}
use Rattle.std.specs.List.Sorted.{IsPermutation}
use Rattle.std.proofs.lemmas.List.Sorted.{All-permutation, IsNonDecreasingBy-from_sort_by_key, answers_always}
use Rattle.lab_capture.specs.Tapping.{IsShort}
use Rattle.lab_capture.specs.declared.timed.Timed.{Timed}
use Rattle.lab_capture.proofs.Times.{of_key}
use Rattle.lab_capture.proofs.timed.by_round.Goals as goal

abbrev round_in : Timed → ℕ
round_in p = p.round

-- a packet of this round
abbrev of_round : ℕ → Timed
of_round round = record { round = round; place = 0; octets = [] }

pub returns-clause-order : goal.returns-clause-order
returns-clause-order c =
    let stable = c.sort_by_key.ensures.stable round_in (answers_always _ _ _ (λ f a r g h. search rules)) in
    record {
      rise = IsNonDecreasingBy-from_sort_by_key round_in _ c.in_ok-sort_by_key.ensures.sorted (λ a r q k. search rules);
      each = λ round. of_key round_in (of_round round) _ _ (stable (of_round round));
    }

pub returns-clause-short : goal.returns-clause-short
returns-clause-short c =
    let moved : IsPermutation c.args.packets.items c.sort_by_key.new.self.items = c.sort_by_key.ensures.permutation in
    All-permutation (λ (p : Timed). IsShort p.octets) c.args.packets.items c.sort_by_key.new.self.items moved c.requires
