use Rattle.std.proofs.Common.{◌≡◌, ◌++◌, List, length, take, string_bytes}
use Rattle.std.specs.List.{flat_map}
use Rattle.ring_net.specs.declared.entry.JournalEntry.{JournalEntry}
use Rattle.show_view.specs.Links.{AreCounted, fault_line}
use Rattle.show_view.proofs.links.push_counted.Given as goal

-- the lines of the faults so far
abbrev pub invariant-loop-fault : goal.invariant-loop-fault
invariant-loop-fault l = (journal : List JournalEntry) → AreCounted (length l.input.routers) journal l.all
    → string_bytes l.text ≡ string_bytes l.initial.text ++ flat_map (fault_line l.input journal) (take l.fault-index l.faults)
