use Rattle.std.proofs.Common.{refl}
use Rattle.bgp_session.proofs.Exchanged.{if_ok}
use Rattle.capsule_parts.proofs.Told.{own_told, update_spells}
use Rattle.capsule_parts.proofs.offer.tell_put.Goals as goal

pub returns-then-not-is_update-clause-told : goal.returns-then-not-is_update-clause-told
returns-then-not-is_update-clause-told c = λ story rest t. (
  refl,
  own_told c.args.session.now.session c.args.octets.now story rest (λ kind. let is = c.is_update.ensures.1 kind in cc) t,
)

pub returns-clause-told : goal.returns-clause-told
returns-clause-told c = λ story rest t.
    let spelled = update_spells c.args.session.now.session c.args.octets.now story rest (c.is_update.ensures.0 c.if-not-is_update.false) t in
    if_ok c.put_again.result (λ put done. (done.0, spelled.2 c.put_again.new.session.session done.1)) (c.put_again.ensures.puts spelled.0 spelled.1)
