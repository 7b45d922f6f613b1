use Rattle.std.proofs.Common.{◌≡◌, sym, ◌++◌, ◌∷◌, [], length, ◌<◌, None, Some, rules}
use Rattle.bgp_types.specs.Many.{many}
use Rattle.bgp_types.specs.PathOctets.{part_at}
use Rattle.bgp_types.proofs.ManyLaws.{after_more}
use Rattle.bgp_types.proofs.PathLaws.{part_shortens}
use Rattle.attr_codec.proofs.PathLaws.{stopped, finished}
use Rattle.attr_codec.proofs.path.path_in.Goals as goal

pub returns-in_default : goal.returns-in_default
returns-in_default c =
    let e : part_at c.args.wide c.loop-rest.rest.now ≡ None = search rules in
    let lt : 0 < length c.loop-rest.rest.now = search rules in
    sym (stopped (part_at c.args.wide) c.loop-rest.path c.loop-rest.rest.now (many (part_at c.args.wide) c.args.value.now) e lt c.loop-rest.invariant)

pub loop-rest-preserved : goal.loop-rest-preserved
loop-rest-preserved c =
    let e : part_at c.args.wide c.loop-rest.rest.now ≡ Some (c.in-Some.part, c.in-Some.after.now) = search rules in
    let p : c.push.new.self ≡ c.loop-rest.path ++ c.in-Some.part ∷ [] = search rules in
    rw p (after_more (part_at c.args.wide) (part_shortens c.args.wide) c.loop-rest.path c.loop-rest.rest.now
    (c.in-Some.part, c.in-Some.after.now) (many (part_at c.args.wide) c.args.value.now) e c.loop-rest.invariant)

pub returns : goal.returns
returns c =
    let e : length c.loop-rest.rest.now ≡ 0 = search rules in
    sym (finished (part_at c.args.wide) c.loop-rest.path c.loop-rest.rest.now (many (part_at c.args.wide) c.args.value.now) e c.loop-rest.invariant)
