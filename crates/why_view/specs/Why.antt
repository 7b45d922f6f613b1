-- Why a router has the best route to a prefix that it has, as a text: its candidates, the best one first, and what it heard and excluded.
use Rattle.std.specs.Prelude.{ℕ, ◌+◌, ◌==◌, List, [], ◌++◌, position, Option, Some, None, option_and_then, unwrap_or}
use Rattle.std.specs.Prelude.{codes, decimal, slice_get, if◌then◌else◌}
use Rattle.std.specs.List.{flat_map, enumerate_from}
use Rattle.bgp_types.specs.Prefixes.{PrefixValue}
use Rattle.bgp_types.specs.Texts.{address_text}
use Rattle.bgp_types.specs.declared.attrs.Attrs.{Attrs}
use Rattle.bgp_types.specs.declared.attrs.Route.{Route}
use Rattle.bgp_types.specs.declared.rank.From.TheVariants.{Peering}
use Rattle.bgp_types.specs.declared.rank.Rank.{Rank}
use Rattle.route_policy.specs.Candidates.{SessionRoute, Candidate, imported}
use Rattle.route_policy.specs.Rules.{holds_as, matches}
use Rattle.route_policy.specs.declared.rule.Rule.{Rule}
use Rattle.lab_tables.specs.declared.input.LabInput.{LabInput}
use Rattle.lab_tables.specs.declared.input.RouterInput.{RouterInput}
use Rattle.lab_report.specs.declared.lab.Lab.{Lab}
use Rattle.lab_report.specs.CheckText.{yes_or_no}
use Rattle.lab_report.specs.Report.{from_text, path_text, line_end}
use Rattle.why_view.specs.Rules.{in_order, goes_at, lost_words}
use Rattle.why_view.specs.Sources.{sessions_at, candidates_at}
use Rattle.why_view.specs.Winners.{ranks_of, best_index, is_index, winner}

-- ---- candidates

-- an ORIGIN by its number
abbrev pub origin_text : ℕ → List ℕ
origin_text origin = if origin == 0 then codes "igp" else if origin == 1 then codes "egp" else codes "incomplete"

-- what the first five rules compare, in their order
abbrev pub route_words : Rank → List ℕ
route_words rank = codes " own " ++ yes_or_no rank.own ++ codes " pref " ++ decimal rank.pref ++ codes " path-length " ++ decimal rank.path_len
    ++ codes " origin " ++ origin_text rank.origin ++ codes " neighbour " ++ decimal rank.neighbour ++ codes " med " ++ decimal rank.med

-- what the other four compare
abbrev pub source_words : Rank → List ℕ
source_words rank = codes " external " ++ yes_or_no rank.external ++ codes " cost " ++ decimal rank.cost
    ++ codes " identifier " ++ address_text rank.identifier ++ codes " address " ++ address_text rank.address

-- a candidate: where it comes from, what the rules compare, and its path
abbrev pub candidate_words : LabInput → Candidate → List ℕ
candidate_words input c = from_text input c.0.from ++ route_words c.1 ++ source_words c.1 ++ codes " path " ++ path_text c.0.route.attrs.path

abbrev pub best_line : LabInput → Candidate → List ℕ
best_line input c = codes "best " ++ candidate_words input c ++ line_end

-- a candidate that isn't the best, with the rule at which it went
abbrev pub lost_line : LabInput → List Rank → Candidate → List ℕ
lost_line input ranks c = codes "lost " ++ candidate_words input c ++ codes " " ++ lost_words (goes_at in_order ranks c.1) ++ line_end

abbrev pub winner_lines : LabInput → Option Candidate → List ℕ
winner_lines input None = []
winner_lines input (Some c) = best_line input c

-- a numbered candidate has a line among the others, unless it is the best
abbrev pub unless_best : LabInput → List Rank → (best : Option ℕ) → ℕ × Candidate → List ℕ
unless_best input ranks best c = if is_index best c.0 then [] else lost_line input ranks c.1

-- the best candidate, and behind it the others in their order
abbrev pub candidate_lines : LabInput → List Candidate → List ℕ
candidate_lines input found = winner_lines input (winner found) ++ flat_map (unless_best input (ranks_of found) (best_index found)) (enumerate_from 0 found)

-- ---- routes that were heard and are no candidates

-- the index of the first rule that matches what was heard
abbrev pub first_match : List Rule → PrefixValue → Attrs → Option ℕ
first_match rules prefix heard = position (λ rule. matches rule prefix (record { attrs = heard; pref = 100 })) rules

-- the same of a session's import policy
abbrev pub matching : PrefixValue → SessionRoute → Attrs → Option ℕ
matching prefix session heard = first_match (unwrap_or session.import_rules []) prefix heard

-- the number of a rule, from 1
abbrev pub number_text : Option ℕ → List ℕ
number_text None = codes "-"
number_text (Some index) = decimal (index + 1)

-- the name of a peering's import policy
abbrev pub import_name : LabInput → ℕ → List ℕ
import_name input p = unwrap_or (option_and_then (λ peering. peering.«import») (slice_get input.peerings p)) (codes "-")

-- where a route that was heard comes from, and its path
abbrev pub heard_words : LabInput → SessionRoute → Attrs → List ℕ
heard_words input session heard = from_text input (Peering session.peering) ++ codes " path " ++ path_text heard.path

-- a path with the home AS is a loop (RFC 4271, section 9.1.2)
abbrev pub looped_line : LabInput → SessionRoute → Attrs → List ℕ
looped_line input session heard = codes "looped " ++ heard_words input session heard ++ codes " own AS in the path" ++ line_end

-- the rule that denies a route, and the name of its policy
abbrev pub denial_words : LabInput → PrefixValue → SessionRoute → Attrs → List ℕ
denial_words input prefix session heard =
    codes " rule " ++ number_text (matching prefix session heard) ++ codes " of " ++ import_name input session.peering.0

-- the first rule of the import policy that matches denies it
abbrev pub denied_line : LabInput → PrefixValue → SessionRoute → Attrs → List ℕ
denied_line input prefix session heard = codes "denied " ++ heard_words input session heard ++ denial_words input prefix session heard ++ line_end

-- a route that was heard, of which this was let in
abbrev pub excluded_line : LabInput → PrefixValue → SessionRoute → Option Attrs → Option Route → List ℕ
excluded_line input prefix session None route = []
excluded_line input prefix session (Some heard) (Some route) = []
excluded_line input prefix session (Some heard) None =
    if holds_as heard.path input.home_as then looped_line input session heard else denied_line input prefix session heard

abbrev pub excluded_lines : LabInput → PrefixValue → SessionRoute → List ℕ
excluded_lines input prefix session = excluded_line input prefix session session.heard (imported input.home_as prefix session session.heard)

-- ---- the whole

-- The candidates of a router for a prefix, the best one first, and behind them what its sessions heard of it and was excluded. The router stands with
-- its number.
abbrev pub why_lines : Lab → PrefixValue → ℕ × RouterInput → List ℕ
why_lines lab prefix router = candidate_lines lab.input (candidates_at lab router prefix)
    ++ flat_map (excluded_lines lab.input prefix) (sessions_at lab router prefix)

abbrev pub lines_if_there : Lab → PrefixValue → ℕ → Option RouterInput → List ℕ
lines_if_there lab prefix r None = []
lines_if_there lab prefix r (Some router) = why_lines lab prefix (r, router)

-- nothing for a router that the input hasn't
abbrev pub why_text : Lab → (router : ℕ) → PrefixValue → List ℕ
why_text lab r prefix = lines_if_there lab prefix r (slice_get lab.input.routers r)
