use Rattle.rib_stages.proofs.Whole.{whole_tried}
use Rattle.rib_stages.proofs.rib.Rib.mark.Goals as goal

pub invariant_of-self : goal.invariant_of-self
invariant_of-self c = whole_tried c.self.inside c.self.invariant c.args.prefix c.mark.result c.mark.new.self c.mark.ensures.ok c.mark.ensures.err
