-- Which graft a session or a word on its way belongs to. What one router sends another comes there in its order, so the n-th that was taken is the
-- n-th that was sent. `es` are entries of a journal, from its first one on.
use Rattle.std.specs.Prelude.{ℕ, ◌==◌, Bool, false, List, [], ◌∷◌, map, filter, count_by, Option, Some, None, get_or, ◌&&◌, ◌||◌, if◌then◌else◌}
use Rattle.std.specs.List.{find, flat_map, enumerate_from}
use Rattle.graft_edge.specs.declared.ids.RouterId.{RouterId}
use Rattle.ring_net.specs.declared.entry.JournalEntry.{JournalEntry}
use Rattle.graft_steps.specs.declared.log.GraftEntry.{GraftEntry}

-- ---- the log

-- the entry of a graft in the log
abbrev pub graft_in : List GraftEntry → (graft : ℕ) → Option GraftEntry
graft_in log graft = find (λ g. g.graft == graft) log

abbrev pub is_router : (router : ℕ) → Option RouterId → Bool
is_router router None = false
is_router router (Some q) = q.0 == router

-- the graft begins at a router, or goes to it
abbrev pub is_from : (source : ℕ) → Option GraftEntry → Bool
is_from source None = false
is_from source (Some g) = is_router source g.source

abbrev pub is_to : (target : ℕ) → Option GraftEntry → Bool
is_to target None = false
is_to target (Some g) = g.target.0 == target

-- ---- sessions on their way from the source to the target

-- a Leave (12) of the source for the target
abbrev pub leaves : List GraftEntry → (source target : ℕ) → JournalEntry → Bool
leaves log source target e = (e.kind == 12) && ((e.actor == source) && is_to target (graft_in log e.a))

abbrev pub grafts_left : List GraftEntry → (source target : ℕ) → List JournalEntry → List ℕ
grafts_left log source target es = map (λ e. e.a) (filter (leaves log source target) es)

-- a Land (13) or TurnBack (14) of the target
abbrev pub arrives : (source target : ℕ) → JournalEntry → Bool
arrives source target e = ((e.kind == 13) || (e.kind == 14)) && ((e.actor == target) && (e.a == source))

abbrev pub next_to_arrive : List GraftEntry → (source target : ℕ) → List JournalEntry → ℕ
next_to_arrive log source target es = get_or (grafts_left log source target es) (count_by (arrives source target) es) 0

-- ---- sessions on their way back

-- the graft of an arrival, by its number, where it is a TurnBack
abbrev pub turned_back_at : (left : List ℕ) → ℕ × JournalEntry → List ℕ
turned_back_at left x = if x.1.kind == 14 then get_or left x.0 0 ∷ [] else []

abbrev pub grafts_turned_back : List GraftEntry → (source target : ℕ) → List JournalEntry → List ℕ
grafts_turned_back log source target es =
    flat_map (turned_back_at (grafts_left log source target es)) (enumerate_from 0 (filter (arrives source target) es))

-- a Return (15) of the source
abbrev pub returns : (source target : ℕ) → JournalEntry → Bool
returns source target e = (e.kind == 15) && ((e.actor == source) && (e.a == target))

abbrev pub next_to_return : List GraftEntry → (source target : ℕ) → List JournalEntry → ℕ
next_to_return log source target es = get_or (grafts_turned_back log source target es) (count_by (returns source target) es) 0

-- ---- words that all have heard the routes of a session

-- a Confirm (33) of the target for the source
abbrev pub confirms : List GraftEntry → (source target : ℕ) → JournalEntry → Bool
confirms log source target e = (e.kind == 33) && ((e.actor == target) && is_from source (graft_in log e.a))

abbrev pub grafts_confirmed : List GraftEntry → (source target : ℕ) → List JournalEntry → List ℕ
grafts_confirmed log source target es = map (λ e. e.a) (filter (confirms log source target) es)

-- a Clear (16) of the source
abbrev pub clears : (source target : ℕ) → JournalEntry → Bool
clears source target e = (e.kind == 16) && ((e.actor == source) && (e.a == target))

abbrev pub next_to_clear : List GraftEntry → (source target : ℕ) → List JournalEntry → ℕ
next_to_clear log source target es = get_or (grafts_confirmed log source target es) (count_by (clears source target) es) 0
