-- Sources and sinks in memory.
use Rattle.std.specs.Prelude.{ℕ, ◌+◌, ◌-◌, ◌^◌, ◌==◌, Bool, if◌then◌else◌, List, nat_lt}
use Rattle.std.specs.List.{list_any}
use Rattle.graft_edge.specs.declared.calls.Calls.{Calls}

-- a source in memory: the bytes not yet read, and its calls
pub record SourceTape : Type 0 where
  pub left : List ℕ
  pub calls : Calls

-- a sink in memory: the bytes written, how many it has room for in all, and its calls
pub record SinkTape : Type 0 where
  pub written : List ℕ
  pub room : ℕ
  pub calls : Calls

-- one more in a count of 64 bits, which stops at 2^64 - 1
abbrev pub next_count : ℕ → ℕ
next_count n = if nat_lt n (2 ^ 64 - 1) then n + 1 else n

-- whether the next call is one of those that are to fail
abbrev pub fails_next : Calls → Bool
fails_next calls = list_any (λ k. k == calls.next) calls.fails

-- one more fault
abbrev pub faulted : Calls → Calls
faulted calls = record calls { faults = next_count calls.faults }

-- one more call
abbrev pub called : Calls → Calls
called calls = record calls { next = next_count calls.next }
