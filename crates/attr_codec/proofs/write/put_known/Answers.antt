use Rattle.std.proofs.Common.{◌≡◌, ◌++◌, rules}
use Rattle.std.proofs.lemmas.Result.{on_ok_weaker}
use Rattle.std.specs.List.{flat_map}
use Rattle.bgp_types.specs.Spelling.{origin_written, path_written, next_hop_written, med_written, atomic_written, aggregator_written}
use Rattle.bgp_types.specs.WireAttrs.{attr_octets}
use Rattle.attr_codec.proofs.WriteLaws.{known_put}
use Rattle.attr_codec.proofs.write.put_known.Goals as goal

pub returns : goal.returns
returns c =
    let a = c.args.attrs.now in
    let e1 : c.put_attr.new.out ≡ c.args.out.now ++ attr_octets (origin_written a.origin) = search rules in
    let e2 : c.put_attr-2.new.out ≡ c.put_attr.new.out ++ attr_octets (path_written c.args.wide a.path) = search rules in
    let e3 : c.put_attr-3.new.out ≡ c.put_attr-2.new.out ++ attr_octets (next_hop_written a.next_hop) = search rules in
    let e4 : c.put_med.new.out ≡ c.put_attr-3.new.out ++ flat_map attr_octets (med_written a.med) = search rules in
    let e5 : c.put_atomic.new.out ≡ c.put_med.new.out ++ flat_map attr_octets (atomic_written a.atomic) = search rules in
    on_ok_weaker c.put_aggregator.result (λ e6. known_put c.args.out.now c.put_attr.new.out c.put_attr-2.new.out c.put_attr-3.new.out c.put_med.new.out
    c.put_atomic.new.out c.put_aggregator.new.out (origin_written a.origin) (path_written c.args.wide a.path) (next_hop_written a.next_hop)
    (med_written a.med) (atomic_written a.atomic) (aggregator_written c.args.wide a.aggregator) e1 e2 e3 e4 e5 e6) c.put_aggregator.ensures
