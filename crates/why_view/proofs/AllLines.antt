-- The lines of candidates, the best one first, and of what was excluded.
use Rattle.std.proofs.Common.{◌≡◌, ℕ, List, ◌++◌, Option, ap, ◌∙◌, append_assoc}
use Rattle.std.specs.Prelude.{option_and_then, slice_get}
use Rattle.std.specs.List.{flat_map, enumerate_from, list_any}
use Rattle.bgp_types.specs.Prefixes.{PrefixValue, same_prefix}
use Rattle.bgp_types.specs.declared.rank.Rank.{Rank}
use Rattle.decision_core.specs.Choice.{choice, ranks_by_index}
use Rattle.route_policy.specs.Candidates.{Candidate, SessionRoute, RouterRoute, candidates}
use Rattle.lab_tables.specs.declared.input.LabInput.{LabInput}
use Rattle.lab_tables.specs.declared.input.RouterInput.{RouterInput}
use Rattle.lab_report.specs.declared.lab.Lab.{Lab}
use Rattle.why_view.specs.Sources.{candidates_at, routers_beside, sessions_at}
use Rattle.why_view.specs.Why.{candidate_lines, excluded_lines, unless_best, why_lines, winner_lines}
use Rattle.why_view.specs.Winners.{best_index, ranks_of}

pub lines_are : (input : LabInput) (found : List Candidate) (ranks : List Rank) (index : Option ℕ) (best : Option Candidate) (before middle after : List ℕ)
    → ranks ≡ ranks_of found → index ≡ choice (ranks_by_index ranks) → best ≡ option_and_then (λ i. slice_get found i) index
    → middle ≡ before ++ winner_lines input best → after ≡ middle ++ flat_map (unless_best input ranks index) (enumerate_from 0 found)
    → after ≡ before ++ candidate_lines input found
lines_are input found ranks index best before middle after ranked chosen first winner others =
    let index_is : index ≡ best_index found = chosen ∙ ap (λ (rs : List Rank). choice (ranks_by_index rs)) ranked in
    let best_is : best ≡ option_and_then (λ i. slice_get found i) (best_index found) = first ∙ ap (option_and_then (λ i. slice_get found i)) index_is in
    others ∙ ap (λ l. l ++ flat_map (unless_best input ranks index) (enumerate_from 0 found)) winner
    ∙ append_assoc before (winner_lines input best) (flat_map (unless_best input ranks index) (enumerate_from 0 found))
    ∙ ap (λ l. before ++ l) (ap (λ (b : Option Candidate). winner_lines input b ++ flat_map (unless_best input ranks index) (enumerate_from 0 found)) best_is
    ∙ ap (λ (rs : List Rank). winner_lines input (option_and_then (λ i. slice_get found i) (best_index found))
    ++ flat_map (unless_best input rs index) (enumerate_from 0 found)) ranked
    ∙ ap (λ (i : Option ℕ). winner_lines input (option_and_then (λ i. slice_get found i) (best_index found))
    ++ flat_map (unless_best input (ranks_of found) i) (enumerate_from 0 found)) index_is)

pub why_are : (lab : Lab) (prefix : PrefixValue) (router : ℕ × RouterInput) (networks : List PrefixValue) (sessions : List SessionRoute)
    (routers : List RouterRoute) (found shown : List Candidate) (before middle after : List ℕ) → networks ≡ router.1.networks
    → sessions ≡ sessions_at lab router prefix → routers ≡ routers_beside lab router.0 prefix
    → found ≡ candidates lab.input.home_as prefix (list_any (same_prefix prefix) networks) sessions routers → shown ≡ found
    → middle ≡ before ++ candidate_lines lab.input shown → after ≡ middle ++ flat_map (excluded_lines lab.input prefix) sessions
    → after ≡ before ++ why_lines lab prefix router
why_are lab prefix router networks sessions routers found shown before middle after nets held beside chosen same lines excluded =
    let among : List PrefixValue → List SessionRoute → List RouterRoute → List Candidate =
    λ ns ss qs. candidates lab.input.home_as prefix (list_any (same_prefix prefix) ns) ss qs in
    let all : shown ≡ candidates_at lab router prefix = same ∙ chosen ∙ ap (λ ns. among ns sessions routers) nets
    ∙ ap (λ ss. among router.1.networks ss routers) held ∙ ap (λ qs. among router.1.networks (sessions_at lab router prefix) qs) beside in
    let rest : List SessionRoute → List ℕ = flat_map (excluded_lines lab.input prefix) in
    excluded ∙ ap (λ l. l ++ rest sessions) lines ∙ append_assoc before (candidate_lines lab.input shown) (rest sessions)
    ∙ ap (λ l. before ++ l) (ap (λ (c : List Candidate). candidate_lines lab.input c ++ rest sessions) all
    ∙ ap (λ ss. candidate_lines lab.input (candidates_at lab router prefix) ++ rest ss) held)
