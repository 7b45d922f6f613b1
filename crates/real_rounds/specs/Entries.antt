-- What an actor's journal holds between two marks, and which items are taken from which channel.
use Rattle.std.specs.Prelude.{ℕ, ◌-◌, ◌==◌, if◌then◌else◌, Bool, false, List, [], ◌∷◌, map, ◌++◌, take, drop, count_by, Option, Some, None}
use Rattle.std.specs.List.{list_any}
use Rattle.ring_net.specs.declared.entry.JournalEntry.{JournalEntry}
use Rattle.journal_merge.specs.Merges.{entries_by}
use Rattle.graft_model.specs.declared.code.Code.{Code}
use Rattle.graft_model.specs.declared.event.RouterEvent.TheVariants.{Arrive, Stray, Hear, Admit, Land, TurnBack, Return, Clear, Answer, Collect}
use Rattle.graft_model.specs.declared.event.FarEvent.TheVariants.{Say, Take, Point}
use Rattle.graft_model.specs.declared.event.OperatorEvent.TheVariants.{Note}
use Rattle.graft_model.specs.Codes.{router_code, far_code, operator_code}
use Rattle.graft_actors.specs.Actors.{ActorName, Router, FarSide, Operator, same_name}
use Rattle.world_runs.specs.Marks.{before}

-- the entries of an actor after a mark and before the next one
abbrev pub between : List JournalEntry → (mark next : List ℕ) → ℕ → List JournalEntry
between journal mark next k = take (before next k - before mark k) (drop (before mark k) (entries_by k journal))

-- ---- the sender of the item that an entry's event took

-- the entry's kind is that of one of these events
abbrev pub is_of_kinds : List Code → JournalEntry → Bool
is_of_kinds these entry = list_any (λ code. code.kind == entry.kind) these

-- A router takes segments from a far side; tellings, sessions, questions and answers from other routers; and orders from the operator. A far side
-- takes outward items from a router, and steps from the operator. The operator takes reports from a router.
abbrev pub sender_of : JournalEntry → Option ActorName
sender_of entry = if is_of_kinds (map router_code (Arrive 0 ∷ Stray 0 ∷ [])) entry then Some (FarSide entry.a)
    else if is_of_kinds (map router_code (Hear 0 ∷ Land 0 ∷ TurnBack 0 ∷ Return 0 ∷ Clear 0 ∷ Answer 0 ∷ Collect 0 ∷ [])
    ++ map far_code (Take 0 ∷ Point 0 ∷ []) ++ map operator_code (Note 0 ∷ [])) entry then Some (Router entry.a)
    else if is_of_kinds (router_code (Admit 0) ∷ far_code (Say 0) ∷ []) entry then Some Operator
    else None

abbrev pub is_same_name : ActorName → Option ActorName → Bool
is_same_name x None = false
is_same_name x (Some y) = same_name x y

-- how many of the entries took an item that this actor sent
abbrev pub count_taken_from : ActorName → List JournalEntry → ℕ
count_taken_from x entries = count_by (λ entry. is_same_name x (sender_of entry)) entries
