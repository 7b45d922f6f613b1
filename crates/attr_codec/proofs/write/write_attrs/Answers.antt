use Rattle.std.proofs.Common.{◌≡◌, ◌<◌, ◌^◌, ◌++◌, [], List, length, map, rules, ◌∙◌, sym, subst}
use Rattle.std.specs.List.{flat_map}
use Rattle.bgp_types.specs.declared.attrs.RawAttr.{RawAttr}
use Rattle.bgp_types.specs.Spelling.{other_written}
use Rattle.bgp_types.specs.WireAttrs.{attr_octets}
use Rattle.attr_codec.specs.Writing.{known_written, as4_written, AreParts}
use Rattle.attr_codec.proofs.WriteLaws.{room_in, all_in_parts, all_put, spelled_in_parts}
use Rattle.attr_codec.proofs.write.write_attrs.Goals as goal

pub put_others-requires : goal.put_others-requires
put_others-requires c =
    (all_in_parts (λ (o : RawAttr). length o.bytes < 2 ^ 16) c.deref.result.now c.parts_of.result.0.now c.parts_of.result.1.now
    c.parts_of.result.2.now c.parts_of.ensures (rw c.deref.ensures (room_in c.args.wide c.args.attrs.now c.requires).others)).0

pub put_known-requires-clause-room : goal.put_known-requires-clause-room
put_known-requires-clause-room c = (room_in c.args.wide c.args.attrs.now c.requires).path

pub put_others-requires-2 : goal.put_others-requires-2
put_others-requires-2 c =
    (all_in_parts (λ (o : RawAttr). length o.bytes < 2 ^ 16) c.deref.result.now c.parts_of.result.0.now c.parts_of.result.1.now
    c.parts_of.result.2.now c.parts_of.ensures (rw c.deref.ensures (room_in c.args.wide c.args.attrs.now c.requires).others)).1

pub put_as4-requires-clause-room : goal.put_as4-requires-clause-room
put_as4-requires-clause-room c = (room_in c.args.wide c.args.attrs.now c.requires).long

pub put_others-requires-3 : goal.put_others-requires-3
put_others-requires-3 c =
    (all_in_parts (λ (o : RawAttr). length o.bytes < 2 ^ 16) c.deref.result.now c.parts_of.result.0.now c.parts_of.result.1.now
    c.parts_of.result.2.now c.parts_of.ensures (rw c.deref.ensures (room_in c.args.wide c.args.attrs.now c.requires).others)).2

pub returns : goal.returns
returns c =
    let a = c.args.attrs.now in
    let p = c.parts_of.result in
    let are : AreParts a.unknown p.0.now p.1.now p.2.now =
    subst (λ (us : List RawAttr). AreParts us p.0.now p.1.now p.2.now) c.deref.ensures c.parts_of.ensures in
    let e1 : c.put_others.new.out ≡ [] ++ flat_map attr_octets (map other_written p.0.now) = search rules in
    let e2 : c.put_known.new.out ≡ c.put_others.new.out ++ flat_map attr_octets (known_written c.args.wide a) = c.in_ok-put_known.ensures in
    let e3 : c.put_others-2.new.out ≡ c.put_known.new.out ++ flat_map attr_octets (map other_written p.1.now) = c.in_ok-put_others-2.ensures in
    let e4 : c.put_as4.new.out ≡ c.put_others-2.new.out ++ flat_map attr_octets (as4_written c.args.wide a) = c.in_ok-put_as4.ensures in
    let e5 : c.put_others-3.new.out ≡ c.put_as4.new.out ++ flat_map attr_octets (map other_written p.2.now) = c.in_ok-put_others-3.ensures in
    all_put c.put_others.new.out c.put_known.new.out c.put_others-2.new.out c.put_as4.new.out c.put_others-3.new.out
    (flat_map attr_octets (map other_written p.0.now)) (flat_map attr_octets (known_written c.args.wide a)) (flat_map attr_octets
    (map other_written p.1.now)) (flat_map attr_octets (as4_written c.args.wide a)) (flat_map attr_octets (map other_written p.2.now))
    e1 e2 e3 e4 e5
    ∙ sym (spelled_in_parts c.args.wide a p.0.now p.1.now p.2.now are)
