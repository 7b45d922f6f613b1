use Rattle.std.proofs.Common.{◌++◌, ℕ, List, map, sym, ap, ◌∙◌}
use Rattle.std.specs.FinMap as table
use Rattle.rib_stages.specs.Values.{rib_of}
use Rattle.lab_report.specs.declared.lab.ToldEntry.{ToldEntry}
use Rattle.lab_seen.specs.Seen.{told_entry}
use Rattle.lab_seen.proofs.Ranges.{one_number_more}
use Rattle.lab_seen.proofs.tables.told_of.Goals as goal

-- what one router more told
pub loop-q-preserved : goal.loop-q-preserved
loop-q-preserved c =
    let told : ℕ → List ToldEntry = λ q. map (told_entry q) (table.entries ((rib_of c.args.rib.now).tellings q)) in
    c.in_ok-push_told_by.ensures
    ∙ ap (λ (xs : List ToldEntry). xs ++ told c.loop-q.q) c.loop-q.invariant
    ∙ sym (one_number_more told c.loop-q.q)
