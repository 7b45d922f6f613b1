use Rattle.std.proofs.Common.{◌≡◌, ◌<◌, true, rules, sym, subst, ◌∙◌}
use Rattle.std.specs.Prelude.{◌≢◌, is_some}
use Rattle.std.specs.FinMap as map
use Rattle.bgp_types.specs.Tables.{prefix_cmp}
use Rattle.bgp_types.specs.declared.rank.From.TheVariants.{Own}
use Rattle.rib_stages.specs.Values.{Given, rib_of, table_from}
use Rattle.rib_stages.proofs.Drops.{drops_more, drops_all, then_is, least_given, none_given, fewer_left}
use Rattle.rib_stages.proofs.rib.Rib.drop_from.Goals as goal

pub loop-prefix-preserved : goal.loop-prefix-preserved
loop-prefix-preserved c =
    let not : c.args.from ≢ Own = search rules in
    drops_more (rib_of c.args.self.now) (rib_of c.loop-prefix.self) (rib_of c.take.new.self) c.args.from not c.in-Some.prefix c.loop-prefix.invariant
    (least_given (rib_of c.loop-prefix.self) c.args.from c.in-Some.prefix (sym c.next_entry.ensures ∙ c.in-Some.is)) c.in_ok-take.ensures.ok

pub loop-prefix-smaller : goal.loop-prefix-smaller
loop-prefix-smaller c =
    let not : c.args.from ≢ Own = search rules in
    let table = table_from (rib_of c.loop-prefix.self) c.args.from in
    let there : is_some (map.get table c.in-Some.prefix) ≡ true =
    least_given (rib_of c.loop-prefix.self) c.args.from c.in-Some.prefix (sym c.next_entry.ensures ∙ c.in-Some.is) in
    subst (λ (t : map.FinMap prefix_cmp (Given c.args.from)). map.len t < map.len table)
    (sym (then_is (rib_of c.args.self.now) (rib_of c.loop-prefix.self)
    (rib_of c.take.new.self) c.args.from not c.in-Some.prefix c.loop-prefix.invariant there c.in_ok-take.ensures.ok))
    (fewer_left table c.in-Some.prefix there)

pub returns-clause-ok : goal.returns-clause-ok
returns-clause-ok c =
    let not : c.args.from ≢ Own = search rules in
    drops_all (rib_of c.args.self.now) (rib_of c.loop-prefix.self) c.args.from not c.loop-prefix.invariant
    (none_given (rib_of c.loop-prefix.self) c.args.from (sym c.next_entry.ensures ∙ c.in_default.is))
