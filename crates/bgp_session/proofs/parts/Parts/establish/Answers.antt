use Rattle.std.proofs.Common.{List, rules, ap, sym, subst}
use Rattle.bgp_types.specs.Prefixes.{PrefixValue}
use Rattle.bgp_session.specs.declared.answers.ReadStep.TheVariants as steps
use Rattle.bgp_session.specs.Inner.{running}
use Rattle.bgp_session.specs.Steps.{ReadsFrame}
use Rattle.bgp_story.specs.Legal.{reply_to}
use Rattle.bgp_session.proofs.Reading.{establishes, stays_established}
use Rattle.bgp_session.proofs.parts.Parts.establish.Goals as goal

pub take_down-requires-clause-reply : goal.take_down-requires-clause-reply
take_down-requires-clause-reply c = ap (λ m. (reply_to m).0) c.requires.reading

pub returns-then-eq-clause-step : goal.returns-then-eq-clause-step
returns-then-eq-clause-step c =
    (establishes c.args.self.now c.args.bytes c.requires.front c.requires.reading c.take_down.new.self c.in_ok-take_down.ensures.ok (search rules)).0

pub returns-then-eq-clause-keeps : goal.returns-then-eq-clause-keeps
returns-then-eq-clause-keeps c =
    (establishes c.args.self.now c.args.bytes c.requires.front c.requires.reading c.take_down.new.self c.in_ok-take_down.ensures.ok (search rules)).1

pub returns-else-eq-clause-step : goal.returns-else-eq-clause-step
returns-else-eq-clause-step c =
    subst (λ (ps : List PrefixValue). ReadsFrame (steps.Changed ps) (running c.args.self.now) (running c.take_down.new.self)) (sym c.new.ensures)
    (stays_established c.args.self.now c.args.bytes c.requires.front c.requires.reading c.take_down.new.self c.in_ok-take_down.ensures.ok (search rules)).0

pub returns-else-eq-clause-keeps : goal.returns-else-eq-clause-keeps
returns-else-eq-clause-keeps c =
    (stays_established c.args.self.now c.args.bytes c.requires.front c.requires.reading c.take_down.new.self c.in_ok-take_down.ensures.ok (search rules)).1
