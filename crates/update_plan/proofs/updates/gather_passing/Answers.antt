use Rattle.route_policy.specs.Telling.{out_side_of_view}
use Rattle.rib_stages.specs.Values.{rib_of}
use Rattle.update_plan.specs.ToTell.{rib_to_tell}
use Rattle.update_plan.proofs.Sound.{sound_ok}
use Rattle.update_plan.proofs.updates.gather_passing.Goals as goal

pub returns-clause-sound : goal.returns-clause-sound
returns-clause-sound c =
    sound_ok c.add_passing.result c.args.gathered.now.wide (rib_to_tell (rib_of c.args.rib.now) (out_side_of_view c.args.view.now) c.args.prefix)
    c.args.prefix c.args.gathered.now.batches.items c.add_passing.new.self.batches.items
    c.add_passing.ensures.sound c.add_passing.ensures.adds
