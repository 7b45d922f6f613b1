use Rattle.std.proofs.Common.{◌≡◌, ◌∷◌, Option, false, subst}
use Rattle.std.specs.Prelude.{IfNone, IfSome, slice_get}
use Rattle.rib_stages.specs.declared.config.InEntry.{InEntry}
use Rattle.graft_steps.specs.declared.item.Item.TheVariants as items
use Rattle.audit_channels.specs.Channels.{parcels_in}
use Rattle.audit_tables.specs.Dues.{is_telling}
use Rattle.audit_tables.proofs.Tellings.{forgotten_hears, hear_nothing}
use Rattle.audit_tables.proofs.tables.Tables.hear.Goals as goal

pub returns-in_default-clause-decides : goal.returns-in_default-clause-decides
returns-in_default-clause-decides c =
    let none = subst (λ (o : Option InEntry). IfNone o ((is_telling (slice_get (parcels_in c.args.channel.now) 0) ≡ false)
    × (parcels_in c.take_telling.new.channel ≡ parcels_in c.args.channel.now))) c.in_default.is c.take_telling.ensures.none in
    λ places. hear_nothing c.args.self.now c.requires.sound places c.args.q.0 (parcels_in c.args.channel.now) (parcels_in c.take_telling.new.channel)
    none.0 none.1

pub returns-clause-decides : goal.returns-clause-decides
returns-clause-decides c =
    let some = subst (λ (o : Option InEntry). IfSome o (λ telling. parcels_in c.args.channel.now
    ≡ items.Told telling.prefix telling.route ∷ parcels_in c.take_telling.new.channel)) c.in-Some.is c.take_telling.ensures.some in
    λ places. forgotten_hears c.args.self.now c.forget_all.new.self c.requires.sound c.forget_all.ensures.same c.forget_all.ensures.count places c.args.q.0
    (parcels_in c.args.channel.now) (parcels_in c.take_telling.new.channel) c.in-Some.telling.prefix c.in-Some.telling.route c.set_in.new.self
    c.requires.there some c.in_ok-set_in.ensures.ok
