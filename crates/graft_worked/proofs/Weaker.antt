-- One field of a claim is false.
use Rattle.std.proofs.Common.{◌≡◌, ◌<◌, ℕ, ◌+◌, Bool, true, false, List, [], ◌∷◌, ◌++◌, drop, length, Option, Some, None}
use Rattle.std.proofs.Common.{is_some, refl, sym, ap, ◌∙◌, subst, inl, inr, lit<, arith, length-append}
use Rattle.std.specs.FinMap as map
use Rattle.std.specs.List.{enumerate_from, AllByRecursion}
use Rattle.std.specs.Ordering.{nat_cmp}
use Rattle.std.proofs.lemmas.Option.{same_Some}
use Rattle.bgp_types.specs.Header.{header_fault, frame_at}
use Rattle.bgp_types.specs.Tables.{prefix_cmp}
use Rattle.bgp_story.specs.Laws.{PutsNoOpen, IsGotLine}
use Rattle.bgp_story.specs.Legal.{IsGot}
use Rattle.bgp_story.specs.Readings.{IsLegal, put_bytes, got_bytes, heard, told}
use Rattle.bgp_story.specs.WorkedSessions.{ten, open_bytes, keepalive_bytes, update_bytes, sent_lines, heard_lines, attrs_over, heard_attrs}
use Rattle.bgp_story.proofs.Shapes.{allowed_of, opens_once_is}
use Rattle.bgp_story.proofs.WorkedStories.{heard_routes}
use Rattle.tcp_seq.specs.Endpoint.{received_bytes, run_from}
use Rattle.session_value.specs.Sessions.{SessionValue, peering_of, state, while_established}
use Rattle.session_value.specs.Fronts.{AreFirst}
use Rattle.graft_model.specs.Claims.{Transparent, Solves, SolvesOn}
use Rattle.graft_model.specs.Decisions.{to_tell}
use Rattle.graft_model.specs.Parts.{Live, Errand, World}
use Rattle.graft_model.specs.Quiet.{Quiet}
use Rattle.graft_model.specs.SmallWorlds.{config}
use Rattle.graft_worked.specs.Base.{base}
use Rattle.graft_worked.specs.First.{home_open_bytes}
use Rattle.graft_worked.specs.Graft.{put_all, from_zero, home_end, remote_end, at_ten, over_router, session, b_after}
use Rattle.graft_worked.specs.Weaker.{interrupted, with_empty_line, addressed, opened_twice, unhearing, telling, with_other_address}
use Rattle.graft_worked.specs.Weaker.{with_second_open, with_octet_received, with_update_unsaid, with_route_unheard, with_route_told}
use Rattle.graft_worked.specs.Weaker.{with_word_owed, with_keepalive_missing, with_keepalive_said, with_shadow_left, with_best_missing}
use Rattle.graft_worked.specs.Weaker.{with_word_on_its_way, with_segment_outward, with_segment_inward, with_order_on_its_way}
use Rattle.graft_worked.specs.Weaker.{with_report_on_its_way, with_say_on_its_way, with_segment_homeward, with_segment_remoteward}
use Rattle.graft_worked.specs.Weaker.{with_prefix_dirty, with_prefix_due_in, with_prefix_due_out, with_update_unread, with_update_missing}
use Rattle.graft_worked.specs.Weaker.{with_remote_unanswered, with_session_unanswered, with_say_unordered, with_outcome_unknown}
use Rattle.graft_worked.proofs.Tens.{empty, got_none, got_it}
use Rattle.graft_worked.proofs.GraftRows.{state_is}
use Rattle.graft_worked.proofs.GraftEnds.{nothing_begins, home_received, puts_all, none_told, nothing_told, solves_after}
use Rattle.graft_worked.proofs.Sends.{same_session}
use Rattle.graft_worked.proofs.Wrong.{only_one}

-- ---- what can't be

too_long : (first bytes : List ℕ) → AreFirst first bytes → length bytes < length first → ⊥
too_long first bytes are more =
    let all : length bytes ≡ length (first ++ are.rest) = ap length are.is in
    let both : length (first ++ are.rest) ≡ length first + length are.rest = length-append first are.rest in
    absurd (omega (arith, all, both, more))

pub other_number : (m n : ℕ) → m < n → m ≡ n → ⊥
other_number m n less e = absurd (omega (arith, less, e))

pub not_both : {A : Type 0} (v : A) → ◌≡◌ {A = Option A} None (Some v) → ⊥
not_both v e = let apart : ◌≡◌ {A = Bool} false true = ap is_some e in cc

empty_or_ten : {A : Type 0} (v : A) → ◌≡◌ {A = map.FinMap prefix_cmp A} empty (at_ten v) → ⊥
empty_or_ten {A} v e = not_both v (sym (got_none ten) ∙ (ap (λ (m : map.FinMap prefix_cmp A). map.get m ten) e ∙ got_it v))

not_empty : {A : Type 0} (x : A) (xs : List A) → x ∷ xs ≡ [] → ⊥
not_empty x xs e = cc

-- ---- not transparent

pub another_address : Transparent base with_other_address 0 → ⊥
another_address t =
    let theirs = same_Some config t.session.config t.own in
    let one = only_one addressed t.session t.one in
    other_number 0xC0000201 0xC0000203 (lit< tt) (ap (λ c. c.remote_address) theirs ∙ ap (λ (s : SessionValue). s.config.remote_address) (sym one))

opens_twice : IsLegal (peering_of config) (heard_lines 0 ++ sent_lines 0) (state opened_twice) → ⊥
opens_twice legal =
    let once = opens_once_is _ _ _ (allowed_of _ _ _ legal) in
    let others = subst (AllByRecursion PutsNoOpen) (sym (ap (drop 1) once.first)) once.others in
    others.1.1.1.1.0

pub second_open : Transparent base with_second_open 0 → ⊥
second_open t = opens_twice (subst (λ (s : SessionValue). IsLegal (peering_of s.config) s.story (state s)) (sym (only_one _ t.session t.one)) t.legal)

octet_received : length (received_bytes (record remote_end { arrived = from_zero (put_all ++ 0 ∷ []) })) ≡ 49
octet_received = ap (λ (es : List (ℕ × ℕ)). length (run_from 0 es)) (map.entries-from_sorted nat_cmp (enumerate_from 0 (put_all ++ 0 ∷ [])) tt)

pub one_octet_more : Transparent base with_octet_received 0 → ⊥
one_octet_more t =
    let puts : put_bytes (peering_of t.session.config) t.session.story ≡ put_all
    = ap (λ (s : SessionValue). put_bytes (peering_of s.config) s.story) (sym (only_one session t.session t.one)) ∙ puts_all in
    let all : length (put_bytes (peering_of t.session.config) t.session.story) ≡ 48 = ap length puts in
    too_long _ _ t.received (omega (arith, all, octet_received))

pub never_said : Transparent base with_update_unsaid 0 → ⊥
never_said t = too_long (got_bytes (heard_lines 0)) (open_bytes ++ keepalive_bytes)
    (subst (λ (s : SessionValue). AreFirst (got_bytes s.story) (open_bytes ++ keepalive_bytes)) (sym (only_one session t.session t.one)) t.got) (lit< tt)

pub unheard : Transparent base with_route_unheard 0 → ⊥
unheard t = empty_or_ten heard_attrs
    (subst (λ (s : SessionValue). s.adj_rib_in ≡ heard (peering_of s.config) s.story) (sym (only_one unhearing t.session t.one)) t.adj_rib_in ∙ heard_routes 0)

pub told_without : Transparent base with_route_told 0 → ⊥
told_without t =
    let same = only_one telling t.session t.one in
    empty_or_ten (attrs_over (65000 ∷ [])) (sym (subst (λ (s : SessionValue). s.adj_rib_out ≡ told s.story) (sym same) t.adj_rib_out ∙ none_told))

-- ---- not solved

on_it : (w : World) → Solves base w → SolvesOn base w 0
on_it w s = s.peerings 0 (lit< tt)

no_errand : (s t : SessionValue) (errand : Errand) → Live s (Some errand) ≡ Live t None → ⊥
no_errand s t errand e = cc

pub word_owed : Solves base with_word_owed → ⊥
word_owed s = let p = on_it with_word_owed s in no_errand session p.session _ p.placed

pub not_to_tell : Solves base with_route_told → ⊥
not_to_tell s =
    let p = on_it with_route_told s in
    let same : telling ≡ p.session = same_session telling p.session None None p.placed in
    let is =
    subst (λ (x : SessionValue). map.get x.adj_rib_out ten ≡ while_established (state x) (to_tell base 1 b_after x ten)) (sym same) (p.adj_rib_out ten) in
    not_both (attrs_over (65000 ∷ [])) (nothing_told ten ∙ (sym is ∙ got_it (attrs_over (65000 ∷ []))))

open_received : length (received_bytes (record remote_end { arrived = from_zero home_open_bytes })) ≡ 29
open_received = ap (λ (es : List (ℕ × ℕ)). length (run_from 0 es)) (map.entries-from_sorted nat_cmp (enumerate_from 0 home_open_bytes) tt)

pub keepalive_missing : Solves base with_keepalive_missing → ⊥
keepalive_missing s =
    let p = on_it with_keepalive_missing s in
    let same = same_session session p.session None None p.placed in
    let all = p.received ∙ (ap (λ (x : SessionValue). put_bytes (peering_of x.config) x.story) (sym same) ∙ puts_all) in
    other_number 29 48 (lit< tt) (sym open_received ∙ ap length all)

keepalive_is : IsGot keepalive_bytes
unfolding frame_at header_fault
keepalive_is = inl refl

pub keepalive_said : Solves base with_keepalive_said → ⊥
keepalive_said s =
    let p = on_it with_keepalive_said s in
    let same = same_session session p.session None None p.placed in
    let rest : keepalive_bytes ≡ p.got.rest = ap (drop 91) (p.got.is ∙ ap (λ (x : SessionValue). got_bytes x.story ++ p.got.rest) (sym same)) in
    elim p.got.end [
      | inl closed ↦ let e = sym state_is ∙ (ap state same ∙ closed) in absurd cc
      | inr nothing ↦ nothing keepalive_bytes [] (sym rest) keepalive_is
    ]

pub unsaid : Solves base with_update_unsaid → ⊥
unsaid s =
    let p = on_it with_update_unsaid s in
    let same = same_session session p.session None None p.placed in
    too_long (got_bytes (heard_lines 0)) (open_bytes ++ keepalive_bytes)
    (record { rest = p.got.rest; is = p.got.is ∙ ap (λ (x : SessionValue). got_bytes x.story ++ p.got.rest) (sym same) }) (lit< tt)

pub empty_line : Solves base with_empty_line → ⊥
empty_line s =
    let p = on_it with_empty_line s in
    let whole = subst (λ (x : SessionValue). AllByRecursion IsGotLine x.story) (sym (same_session interrupted p.session None None p.placed)) p.got.whole in
    nothing_begins [] [] refl whole.1.1.1.1.1.0

pub shadow_left : Solves base with_shadow_left → ⊥
shadow_left s = let gone = ((on_it with_shadow_left s).elsewhere 0 (lit< tt) (λ e. cc)).0 in absurd cc

pub best_missing : Solves base with_best_missing → ⊥
best_missing s = not_both (over_router 1) (sym (got_none ten) ∙ (s.best 0 ten (lit< tt) ∙ (sym (solves_after.best 0 ten (lit< tt)) ∙ got_it (over_router 1))))

-- ---- not quiet

pub word_goes : Quiet base with_word_on_its_way → ⊥
word_goes q = not_empty _ _ (q.mesh 1 0)

pub goes_outward : Quiet base with_segment_outward → ⊥
goes_outward q = not_empty _ _ (q.outward 1 0)

pub goes_inward : Quiet base with_segment_inward → ⊥
goes_inward q = not_empty _ _ (q.inward 0 0)

pub order_goes : Quiet base with_order_on_its_way → ⊥
order_goes q = not_empty _ _ (q.orders 0)

pub report_goes : Quiet base with_report_on_its_way → ⊥
report_goes q = not_empty _ _ (q.reports 0)

pub say_goes : Quiet base with_say_on_its_way → ⊥
say_goes q = not_empty _ _ (q.says 0)

pub goes_homeward : Quiet base with_segment_homeward → ⊥
goes_homeward q = not_empty _ _ (q.homeward 0)

pub goes_remoteward : Quiet base with_segment_remoteward → ⊥
goes_remoteward q = not_empty _ _ (q.remoteward 0)

pub dirty : Quiet base with_prefix_dirty → ⊥
dirty q = empty_or_ten tt (sym (q.decided 1))

pub due_in : Quiet base with_prefix_due_in → ⊥
due_in q = empty_or_ten tt (sym (q.told_in 1 0))

pub due_out : Quiet base with_prefix_due_out → ⊥
due_out q = empty_or_ten tt (sym (q.told_out 1 0))

pub errand_left : Quiet base with_word_owed → ⊥
errand_left q = q.places 1 0

update_is : IsGot update_bytes
unfolding frame_at header_fault
update_is = inl refl

pub update_unread : Quiet base with_update_unread → ⊥
update_unread q = elim (q.places 1 0).0 [
  | inl closed ↦ let e = sym state_is ∙ closed in absurd cc
  | inr nothing ↦ nothing update_bytes [] (ap (drop 48) home_received) update_is
]

pub update_missing : Quiet base with_update_missing → ⊥
update_missing q =
    let two : length (received_bytes (record home_end { arrived = from_zero (open_bytes ++ keepalive_bytes) })) ≡ 48
    = ap (λ (es : List (ℕ × ℕ)). length (run_from 0 es)) (map.entries-from_sorted nat_cmp (enumerate_from 0 (open_bytes ++ keepalive_bytes)) tt) in
    other_number 48 91 (lit< tt) (sym two ∙ (q.places 1 0).2.received)

pub put_missing : Quiet base with_keepalive_missing → ⊥
put_missing q = other_number 29 48 (lit< tt) (sym open_received ∙ (q.places 1 0).1.received)

pub remote_unanswered : Quiet base with_remote_unanswered → ⊥
remote_unanswered q = other_number 0 91 (lit< tt) (q.places 1 0).2.acked

pub session_unanswered : Quiet base with_session_unanswered → ⊥
session_unanswered q = other_number 0 48 (lit< tt) (q.places 1 0).1.acked

pub say_unordered : Quiet base with_say_unordered → ⊥
say_unordered q = let apart : ◌≡◌ {A = Bool} false true = q.issued 0 0 update_bytes refl refl in absurd cc

pub outcome_unknown : Quiet base with_outcome_unknown → ⊥
outcome_unknown q = q.ended (record { graft = 1; peering = 0; step = 2 }) refl refl (λ e. cc) refl
