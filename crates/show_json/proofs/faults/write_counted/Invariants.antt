use Rattle.std.proofs.Common.{◌≡◌, List, length, drop}
use Rattle.std.specs.List.{flat_map}
use Rattle.serde_json.specs.View.{items_of}
use Rattle.ring_net.specs.declared.entry.JournalEntry.{JournalEntry}
use Rattle.report_json.specs.Tokens.{with_items}
use Rattle.show_view.specs.Links.{AreCounted}
use Rattle.show_json.specs.Show.{fault_json}
use Rattle.show_json.proofs.faults.write_counted.Given as goal

-- the tokens so far, and those of the faults that are left behind them, are those of all
abbrev pub invariant-loop-fault : goal.invariant-loop-fault
invariant-loop-fault l = (journal : List JournalEntry) → AreCounted (length l.input.routers) journal l.all
    → with_items (items_of (flat_map (fault_json l.input journal) (drop l.fault-index l.faults))) l.out
    ≡ with_items (items_of (flat_map (fault_json l.input journal) l.faults)) l.initial.out
