use Rattle.bgp_session.proofs.Exchanged.{if_ok}
use Rattle.bgp_session.proofs.Named.{part_keeps, part_refused, part_result, part_turn}
use Rattle.bgp_session.proofs.parts.Parts.emit_at.Goals as goal

pub returns-clause-emits : goal.returns-clause-emits
returns-clause-emits c = if_ok c.emit_at.result (λ a emission. emission.step)
    (part_result c.args.self.now c.emit_at.new.self c.args.from c.args.len c.emit_at.result c.requires
    c.emit_at.ensures.slice c.emit_at.ensures.after c.emit_at.ensures.none c.emit_at.ensures.step)

pub returns-clause-refused : goal.returns-clause-refused
returns-clause-refused c = part_refused c.args.self.now c.args.from c.args.len c.emit_at.result c.requires c.emit_at.ensures.refused

pub returns-clause-same_turn : goal.returns-clause-same_turn
returns-clause-same_turn c =
    part_turn c.args.self.now.end c.emit_at.new.self c.args.from c.args.len c.emit_at.result c.emit_at.ensures.after c.emit_at.ensures.none

pub returns-clause-keeps : goal.returns-clause-keeps
returns-clause-keeps c = part_keeps c.args.self.now c.emit_at.new.self c.args.from c.args.len c.emit_at.result c.requires
    (part_result c.args.self.now c.emit_at.new.self c.args.from c.args.len c.emit_at.result c.requires
    c.emit_at.ensures.slice c.emit_at.ensures.after c.emit_at.ensures.none c.emit_at.ensures.step) c.emit_at.ensures.err
