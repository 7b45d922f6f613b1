use Rattle.std.proofs.Common.{◌∙◌, ap, rules}
use Rattle.std.proofs.lemmas.List.Sorted.{IsNonDecreasingBy-from_sort_by_key, answers_always}
use Rattle.bgp_types.specs.Rising.{in_rising as rising}
use Rattle.bgp_types.specs.Values.{other_kind}
use Rattle.attr_codec.proofs.SortLaws.{sort_rises}
use Rattle.attr_codec.proofs.said.in_rising.Goals as goal

pub returns : goal.returns
returns c =
    let rises = IsNonDecreasingBy-from_sort_by_key other_kind _ c.in_ok-sort_by_key.ensures.sorted (λ a r q k. search rules) in
    let stable = c.sort_by_key.ensures.stable other_kind (answers_always _ _ _ (λ f a r g h. search rules)) in
    c.from_vec.ensures ∙ sort_rises other_kind _ _ rises stable ∙ ap (rising other_kind) c.into_vec-attrs.ensures
