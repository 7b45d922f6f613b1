use Rattle.std.proofs.Common.{◌≡◌, ◌∙◌, sym, ap, not, true, cond, Bool, arith}
use Rattle.std.specs.List.{list_any}
use Rattle.bgp_types.specs.Prefixes.{PrefixValue, same_prefix, put_once}
use Rattle.lab_tables.proofs.Onces.{once_more, put_new, any_put}
use Rattle.lab_tables.proofs.once.each_once.Goals as goal

pub loop-prefix-preserved : goal.loop-prefix-preserved
loop-prefix-preserved c =
    let p : PrefixValue = c.prefix-item.result in
    let once = c.loop-prefix.once in
    let fresh : c.in_ok-is_new.is_new ≡ not (list_any (same_prefix p) once) = c.in_ok-is_new.ensures.added ∙ ap not (c.loop-prefix.invariant.seen p) in
    let put : c.push_if.new.list ≡ put_once once p = c.in_ok-push_if.ensures ∙ put_new once p c.in_ok-is_new.is_new fresh in
    record {
      once = put ∙ once_more c.args.prefixes.now c.loop-prefix.prefix-index p once (omega arith) c.prefix-item.is c.loop-prefix.invariant.once;
      seen = λ q.
          c.in_ok-is_new.ensures.updates.0 q
          ∙ ap (λ (t : Bool). cond (same_prefix p q) true t) (c.loop-prefix.invariant.seen q)
          ∙ any_put q p once
          ∙ ap (list_any (same_prefix q)) (sym put);
    }
