use Rattle.std.proofs.Common.{◌≡◌, ◌++◌, take}
use Rattle.std.specs.List.{flat_map}
use Rattle.journal_form.specs.Journals.{entry_line}
use Rattle.journal_form.proofs.writing.push_entries.Given as goal

-- the octets so far are those of the entries so far
abbrev pub invariant-loop-entry : goal.invariant-loop-entry
invariant-loop-entry l = l.octets ≡ l.initial.octets ++ flat_map entry_line (take l.entry-index l.journal)
