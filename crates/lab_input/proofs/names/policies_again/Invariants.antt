use Rattle.std.proofs.Common.{◌≡◌, ℕ, Bor, List, [], take, drop}
use Rattle.std.specs.HashSet.{contains_by}
use Rattle.std.specs.List.{list_any}
use Rattle.std.specs.Str.{bytes_eq}
use Rattle.lab_input.specs.Names.{each_after, policy_again}
use Rattle.lab_input.proofs.names.policies_again.Given as goal

abbrev pub invariant-loop-policy : goal.invariant-loop-policy
invariant-loop-policy l = record {
  seen : (text : Bor (List ℕ)) → contains_by (λ k. bytes_eq text.now k.now) l.seen ≡ list_any (λ p. bytes_eq p.name text.now) (take l.policy-index l.policies);
  walk : each_after policy_again (take l.policy-index l.policies) (drop l.policy-index l.policies) ≡ each_after policy_again [] l.policies;
}
