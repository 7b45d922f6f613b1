use Rattle.std.proofs.Common.{◌≤◌, [], ◌∷◌, sym, subst}
use Rattle.std.specs.FinMap as map
use Rattle.route_policy.specs.Telling.{out_side_of_view}
use Rattle.update_plan.specs.Plans.{octets}
use Rattle.update_plan.proofs.Fits.{fits_one}
use Rattle.update_plan.proofs.Sound.{sound_ok}
use Rattle.update_plan.proofs.updates.gather_made.Goals as goal

pub add-requires-clause-fits : goal.add-requires-clause-fits
add-requires-clause-fits c = subst (λ told. octets c.args.gathered.now.wide told (c.args.prefix ∷ []) ≤ 4096) (sym c.in_ok-attrs.ensures)
    (fits_one c.args.gathered.now.wide c.args.rib.now.config.home_as
    (out_side_of_view c.args.view.now) c.args.prefix (map.get c.args.rib.now.best c.args.prefix))

pub returns-clause-sound : goal.returns-clause-sound
returns-clause-sound c = sound_ok c.add.result c.args.gathered.now.wide c.in_ok-attrs.attrs c.args.prefix
    c.args.gathered.now.batches.items c.add.new.self.batches.items c.add.ensures.sound c.add.ensures.adds
