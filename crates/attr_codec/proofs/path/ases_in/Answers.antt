use Rattle.std.proofs.Common.{◌≡◌, refl, ◌-◌, length, take, drop, rules, length-drop, ◌++◌, ◌∷◌, []}
use Rattle.std.specs.Int.{byte_len, from_be_bytes}
use Rattle.bgp_types.specs.PathOctets.{as_width}
use Rattle.attr_codec.proofs.PathLaws.{room_more, numbers_step}
use Rattle.attr_codec.proofs.path.ases_in.Goals as goal

pub loop-preserved : goal.loop-preserved
loop-preserved c =
    let w = as_width c.args.wide in
    let p : c.push.new.self.items ≡ c.loop.ases.items ++ from_be_bytes w (take (byte_len w) c.loop.rest.now) ∷ [] = search rules in
    let r : c.split_at.result.1.now ≡ drop (byte_len w) c.loop.rest.now = search rules in
    let l : length c.split_at.result.1.now ≡ length c.loop.rest.now - byte_len w = rw (r, length-drop (byte_len w) c.loop.rest.now) refl in
    record {
      room = rw l (room_more c.args.count c.loop.counter (byte_len w) (length c.loop.rest.now) c.loop-test.true c.loop.invariant.room);
      so_far = rw (p, r) (numbers_step w c.args.count c.loop.counter c.loop.ases.items c.loop.rest.now _ c.loop-test.true c.loop.invariant.so_far);
    }
