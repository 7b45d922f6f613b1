use Rattle.std.proofs.Common.{false, sym, subst}
use Rattle.bgp_types.specs.declared.message.Message.TheVariants.{OpenMsg}
use Rattle.bgp_types.specs.declared.message.OpenMsg as open_type
use Rattle.bgp_types.specs.Writable.{IsWritable}
use Rattle.bgp_session.proofs.Begun.{first_writable}
use Rattle.bgp_session.proofs.begin.first_octets.Goals as goal

pub write_message-requires : goal.write_message-requires
write_message-requires c =
    subst (λ (o : open_type.OpenMsg). IsWritable (OpenMsg o) false) (sym c.in_ok-open.ensures) (first_writable c.args.config.now c.requires)
