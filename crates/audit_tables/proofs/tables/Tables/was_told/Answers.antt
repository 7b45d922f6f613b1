use Rattle.std.proofs.Common.{length, refl, arith}
use Rattle.std.specs.Vec.{with_item}
use Rattle.std.specs.List.{list_any}
use Rattle.std.proofs.lemmas.Result.{on_ok_weaker}
use Rattle.bgp_types.specs.Prefixes.{same_prefix}
use Rattle.audit_tables.specs.declared.tables.Tables.{Tables}
use Rattle.audit_tables.proofs.Dropped.{changes_dropped, still_known}
use Rattle.audit_tables.proofs.Known.{read_at}
use Rattle.audit_tables.proofs.tables.Tables.was_told.Goals as goal

pub drop_listed-requires : goal.drop_listed-requires
drop_listed-requires c = omega (arith, c.requires.there, c.requires.sound.due_out)

pub index_mut-requires : goal.index_mut-requires
index_mut-requires c = omega (arith, c.requires.there, c.requires.sound.pending, c.args.self.now.pending.ok.0)

pub returns-clause-due : goal.returns-clause-due
returns-clause-due c = on_ok_weaker c.tell_known.result (λ loses. c.drop_listed.ensures.drops) c.tell_known.ensures

pub returns-clause-changes : goal.returns-clause-changes
returns-clause-changes c = on_ok_weaker c.tell_known.result
    (λ loses. changes_dropped c.args.self.now c.requires.sound c.args.p c.requires.there (λ x. list_any (same_prefix x) c.args.prefixes.now)
    c.drop_listed.new.due c.drop_listed.ensures _ c.tell_known.new.known refl refl)
    c.tell_known.ensures

pub returns-clause-still : goal.returns-clause-still
returns-clause-still c =
    let t = c.args.self.now in
    let known = c.tell_known.new.known in
    let after : Tables = record t { due_out = c.drop_listed.new.due; pending = with_item t.pending c.args.p known } in
    let was = read_at t c.args.p (omega (arith, c.requires.there, c.requires.sound.pending)) c.index_mut.result.now c.index_mut.ensures.value in
    λ places before then_session knows puts. on_ok_weaker c.tell_known.result
    (still_known t c.requires.sound c.args.p c.requires.there (λ x. list_any (same_prefix x) c.args.prefixes.now) c.drop_listed.new.due c.drop_listed.ensures
    after known refl refl c.index_mut.result.now was places before then_session c.args.prefixes.now knows puts (λ x. refl) (length c.args.prefixes.now) refl)
    c.tell_known.ensures
