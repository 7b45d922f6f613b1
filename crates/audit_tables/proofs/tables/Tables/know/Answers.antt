use Rattle.std.proofs.Common.{◌≡◌, true, is_some, arith}
use Rattle.audit_tables.proofs.Keeping.{keeps_itself}
use Rattle.audit_tables.proofs.Known.{keeps_known, knows_found, now_known, others_known, read_some}
use Rattle.audit_tables.proofs.tables.Tables.know.Goals as goal

pub index-requires : goal.index-requires
index-requires c = omega (arith, c.requires.there, c.requires.sound.pending, c.args.self.now.pending.ok.0)

pub index_mut-requires : goal.index_mut-requires
index_mut-requires c = omega (arith, c.requires.there, c.requires.sound.pending, c.args.self.now.pending.ok.0)

pub returns-then-is_some-clause-keeps : goal.returns-then-is_some-clause-keeps
returns-then-is_some-clause-keeps c = keeps_itself c.args.self.now c.requires.sound

pub returns-then-is_some-clause-knows : goal.returns-then-is_some-clause-knows
returns-then-is_some-clause-knows c =
    let some : is_some c.index.result.now ≡ true = cc in
    λ places knows. (
      knows,
      read_some c.args.self.now c.args.p (omega (arith, c.requires.there, c.requires.sound.pending)) c.index.result.now c.index.ensures some,
    )

pub returns-clause-keeps : goal.returns-clause-keeps
returns-clause-keeps c = keeps_known c.args.self.now c.requires.sound c.args.p c.requires.there c.in_ok-pending.pending

pub returns-clause-knows : goal.returns-clause-knows
returns-clause-knows c = λ places knows. (
  knows_found c.args.self.now c.requires.sound c.args.p c.requires.there c.in_ok-pending.pending places c.args.session.now.session
      (c.in_ok-pending.ensures places),
  (c.in_ok-pending.pending, now_known c.args.self.now c.requires.sound c.args.p c.requires.there c.in_ok-pending.pending),
)

pub returns-clause-others : goal.returns-clause-others
returns-clause-others c = others_known c.args.self.now c.requires.sound c.args.p c.requires.there c.in_ok-pending.pending
