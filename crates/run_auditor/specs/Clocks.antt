-- When an entry passes clocks.
use Rattle.std.specs.Prelude.{ℕ, ◌≡◌, ◌+◌, ◌↔◌, IsTrue, max, Bool, true, false, if◌then◌else◌, Option}
use Rattle.ring_net.specs.declared.entry.JournalEntry.{JournalEntry}
use Rattle.world_runs.specs.Marks.{is_go}
use Rattle.audit_clocks.specs.Clocks.{HasPassed, IsLevel, clock_of, clocks_of, stamps_of}
use Rattle.audit_clocks.specs.Stamps.{next_stamp}
use Rattle.audit_clocks.specs.declared.clocks.Clocks.{Clocks}
use Rattle.run_clocks.specs.Clocks.{greatest}

-- the clock that it must have, where its event takes an item from this sender
abbrev pub clock_due : Clocks → JournalEntry → (from : Option ℕ) → ℕ
clock_due clocks entry from = (if is_go entry then greatest (clocks_of clocks)
    else max (clock_of clocks entry.actor) (next_stamp (stamps_of clocks) from entry.actor)) + 1

-- It passes if it has this clock. Where it begins a group, all clocks are leveled then; else its event passes.
pub record PassesClocks (entry : JournalEntry) (from to : Option ℕ) (old : Clocks) (passes : Bool) (new : Clocks) : Type 0 where
  pub due : IsTrue passes ↔ (entry.clock ≡ clock_due old entry from)
  pub levels : IsTrue passes → is_go entry ≡ true → IsLevel old entry.clock new
  pub moves : IsTrue passes → is_go entry ≡ false → HasPassed old entry.actor from to entry.clock new
