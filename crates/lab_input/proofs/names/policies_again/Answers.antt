use Rattle.std.proofs.Common.{◌≡◌, ◌<◌, ◌∙◌, ℕ, Bool, List, not, cond, true, [], take, length, sym, ap, arith}
use Rattle.std.specs.HashSet.{contains_by}
use Rattle.std.specs.List.{list_any}
use Rattle.std.specs.Str.{bytes_eq}
use Rattle.lab_tables.specs.declared.input.PolicyInput.{PolicyInput}
use Rattle.lab_input.specs.Names.{each_after, policy_again, repeated_if}
use Rattle.lab_input.proofs.Afters.{plain_goes_on, plain_stops, any_here, again_is}
use Rattle.lab_input.proofs.names.policies_again.Goals as goal

pub returns-in-Some : goal.returns-in-Some
returns-in-Some c =
    let p : PolicyInput = c.policy-item.result in
    let ps = c.args.policies.now in
    let i = c.loop-policy.policy-index in
    let is : c.as_str-name.result.now ≡ p.name = c.as_str-name.ensures in
    let had : contains_by (λ k. bytes_eq c.as_str-name.result.now k.now) c.loop-policy.seen ≡ list_any (λ q. bytes_eq q.name p.name) (take i ps) =
    c.loop-policy.invariant.seen c.as_str-name.result ∙ ap (λ (x : List ℕ). list_any (λ q. bytes_eq q.name x) (take i ps)) is in
    let again : not c.in_ok-is_new.is_new ≡ list_any (λ q. bytes_eq q.name p.name) (take i ps) = again_is _ _ _ c.in_ok-is_new.ensures.added had in
    plain_stops policy_again ps i p (omega arith) c.policy-item.is c.in-Some.bad (each_after policy_again [] ps) c.loop-policy.invariant.walk
    (sym c.in-Some.is ∙ c.in_ok-found.ensures ∙ ap (repeated_if (not c.in_ok-is_new.is_new)) is ∙ ap (λ (t : Bool). repeated_if t p.name) again)

pub loop-policy-preserved : goal.loop-policy-preserved
loop-policy-preserved c =
    let p : PolicyInput = c.policy-item.result in
    let ps = c.args.policies.now in
    let i = c.loop-policy.policy-index in
    let within : i < length ps = omega arith in
    let is : c.as_str-name.result.now ≡ p.name = c.as_str-name.ensures in
    let had : contains_by (λ k. bytes_eq c.as_str-name.result.now k.now) c.loop-policy.seen ≡ list_any (λ q. bytes_eq q.name p.name) (take i ps) =
    c.loop-policy.invariant.seen c.as_str-name.result ∙ ap (λ (x : List ℕ). list_any (λ q. bytes_eq q.name x) (take i ps)) is in
    let again : not c.in_ok-is_new.is_new ≡ list_any (λ q. bytes_eq q.name p.name) (take i ps) = again_is _ _ _ c.in_ok-is_new.ensures.added had in
    record {
      seen = λ text. any_here (λ q. bytes_eq q.name text.now) ps i p within c.policy-item.is _ _
          (c.in_ok-is_new.ensures.updates.0 text
          ∙ ap (λ (x : List ℕ). cond (bytes_eq x text.now) true (contains_by (λ k. bytes_eq text.now k.now) c.loop-policy.seen)) is)
          (c.loop-policy.invariant.seen text);
      walk = plain_goes_on policy_again ps i p within c.policy-item.is (each_after policy_again [] ps) c.loop-policy.invariant.walk
          (sym c.in-None.is ∙ c.in_ok-found.ensures ∙ ap (repeated_if (not c.in_ok-is_new.is_new)) is ∙ ap (λ (t : Bool). repeated_if t p.name) again);
    }
