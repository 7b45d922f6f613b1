use Rattle.std.proofs.Common.{◌≡◌, ◌+◌, ◌-◌, List, length, reverse, take, drop, ap, ◌∙◌, arith}
use Rattle.std.proofs.lemmas.List.{length-drop, length-reverse, take_all}
use Rattle.bgp_types.specs.Prefixes.{PrefixValue}
use Rattle.audit_tables.proofs.Listings.{last_are}
use Rattle.audit_tables.proofs.pending.first_of.Goals as goal

pub returns-clause-some : goal.returns-clause-some
returns-clause-some c =
    let group = c.args.group.now in
    let xs : List PrefixValue = group.prefixes.items in
    let size : c.len.result ≡ length xs = c.len.ensures ∙ group.prefixes.ok.0 in
    let long : c.in-Some.later + c.args.count ≡ length xs = omega (arith, size, c.in-Some.ensures.0, c.in-Some.ensures.1) in
    let cut : List PrefixValue = drop c.in-Some.later c.as_slice.result.now in
    let whole : take (length c.as_slice.result.now - c.in-Some.later) cut ≡ cut =
    take_all (length c.as_slice.result.now - c.in-Some.later) cut (omega (arith, length-drop c.in-Some.later c.as_slice.result.now)) in
    record {
      enough = omega (arith, length-reverse xs, long);
      attrs = c.in_ok-attrs.ensures;
      prefixes = c.from_vec.ensures ∙ (c.reverse.ensures.items
          ∙ (ap reverse (c.in_ok-prefixes.ensures.items ∙ (whole ∙ ap (drop c.in-Some.later) c.as_slice.ensures.value))
          ∙ last_are xs c.args.count c.in-Some.later long));
    }
