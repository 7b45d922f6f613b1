use Rattle.audit_tables.proofs.Emptied.{emptied_is}
use Rattle.audit_tables.proofs.tables.Tables.is_clean.Goals as goal

pub returns : goal.returns
returns c = emptied_is c.args.self.now.rib.dirty c.next_dirty.result c.next_dirty.ensures.next c.is_none.result c.is_none.ensures
