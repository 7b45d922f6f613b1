use Rattle.std.proofs.Common.{◌≡◌, ◌∙◌, arith}
use Rattle.std.proofs.lemmas.Grind.{common_steps}
use Rattle.std.specs.List.{flat_map}
use Rattle.attr_codec.specs.Writing.{part_in_width}
use Rattle.attr_codec.proofs.WriteLaws.{path_octets_are}
use Rattle.attr_codec.proofs.write.path_value.Goals as goal

pub returns : goal.returns
returns c =
    let e : c.loop-part.out ≡ flat_map (part_in_width c.args.wide) c.args.path.now = grind (arith, common_steps) in
    e ∙ path_octets_are c.args.wide c.args.path.now
