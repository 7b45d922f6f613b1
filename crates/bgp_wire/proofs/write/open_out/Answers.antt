use Rattle.bgp_wire.proofs.FrameLaws.{each_below}
use Rattle.bgp_wire.proofs.write.open_out.Goals as goal

pub params_out-requires : goal.params_out-requires
params_out-requires c = rw c.deref.ensures (each_below c.args.opening.now.caps c.requires.params)
