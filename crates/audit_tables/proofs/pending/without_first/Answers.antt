use Rattle.std.proofs.Common.{◌≡◌, ◌+◌, List, length, reverse, refl, ap, ◌∙◌, arith}
use Rattle.bgp_types.specs.Prefixes.{PrefixValue}
use Rattle.audit_tables.proofs.Listings.{rest_are}
use Rattle.audit_tables.proofs.pending.without_first.Goals as goal

pub returns-clause-some : goal.returns-clause-some
returns-clause-some c =
    let group = c.args.group in
    let xs : List PrefixValue = group.prefixes.items in
    let size : c.len.result ≡ length xs = c.len.ensures ∙ group.prefixes.ok.0 in
    let long : c.in_ok-later.later + c.args.count ≡ length xs = omega (arith, size, c.in_ok-later.ensures.0, c.in_ok-later.ensures.1) in
    (refl, ap reverse c.truncate.ensures.items ∙ rest_are xs c.args.count c.in_ok-later.later long)
