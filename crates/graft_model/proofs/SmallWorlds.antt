-- One field of a claim is false in a small world.
use Rattle.std.proofs.Common.{◌≡◌, ℕ, Bool, true, false, List, [], ◌∷◌, ◌++◌, take, drop, Option, Some, None, is_some, refl, sym, ap, ◌∙◌, subst, lit<}
use Rattle.std.specs.FinMap as map
use Rattle.std.specs.List.{enumerate_from, AllByRecursion}
use Rattle.bgp_story.specs.Laws.{PutsNoOpen}
use Rattle.bgp_types.proofs.TableLaws.{prefix_total}
use Rattle.bgp_types.specs.Spelling.{spell}
use Rattle.bgp_types.specs.Tables.{prefix_cmp}
use Rattle.bgp_story.specs.Readings.{Routes, IsLegal, put_bytes, heard}
use Rattle.bgp_story.specs.WorkedSessions.{ten, attrs_over}
use Rattle.bgp_story.proofs.Shapes.{allowed_of, opens_once_is}
use Rattle.route_policy.specs.Telling.{tell_in}
use Rattle.tcp_seq.specs.Endpoint.{received_bytes, run_from}
use Rattle.session_value.specs.Fronts.{AreFirst}
use Rattle.session_value.specs.Sessions.{SessionValue, peering_of, state}
use Rattle.graft_model.specs.Claims.{Transparent, Solves, SolvesOn}
use Rattle.graft_model.specs.Parts.{Live}
use Rattle.graft_model.specs.Quiet.{Quiet}
use Rattle.graft_model.specs.SmallWorlds.{pair, config, small_open_octets, remote_with, one_route, route, opened_twice, hearing}
use Rattle.graft_model.specs.SmallWorlds.{session, with_session, with_session_lost, with_octet_received, with_link_elsewhere}
use Rattle.graft_model.specs.SmallWorlds.{with_nothing_received, with_shadow_left, with_route_kept, with_word}

same : (s t : SessionValue) → ◌≡◌ {A = List SessionValue} (s ∷ []) (t ∷ []) → s ≡ t
same s t e = cc

not_both : {A : Type 0} (v : A) → ◌≡◌ {A = Option A} None (Some v) → ⊥
not_both v e = let apart : ◌≡◌ {A = Bool} false true = ap is_some e in cc

not_empty : {A : Type 0} (x : A) (xs : List A) → x ∷ xs ≡ [] → ⊥
not_empty x xs e = cc

abbrev empty : {A : Type 0} → map.FinMap prefix_cmp A
empty = map.empty

-- what a table has for 10.0.0.0/8
inserted : {A : Type 0} (v : A) → map.get (map.insert empty ten v) ten ≡ Some v
inserted v = map.get-insert prefix_total empty ten v ten

nothing : {A : Type 0} → map.get (empty {A = A}) ten ≡ None
nothing = map.get-empty prefix_cmp ten

empty_or_one : one_route ≡ map.empty → ⊥
empty_or_one e =
    not_both (attrs_over []) (sym nothing ∙ (ap (λ (routes : Routes). map.get routes ten) (sym e) ∙ inserted (attrs_over [])))

-- ---- transparent

pub lost : Transparent pair with_session_lost 0 → ⊥
lost t = not_empty t.session [] (sym t.one)

once_only : IsLegal (peering_of config) opened_twice.story (state opened_twice) → ⊥
once_only legal =
    let once = opens_once_is _ _ _ (allowed_of _ _ _ legal) in
    let others = subst (AllByRecursion PutsNoOpen) (sym (ap (drop 1) once.first)) once.others in
    others.0

pub opens_twice : Transparent pair (with_session opened_twice) 0 → ⊥
opens_twice t = once_only (subst (λ (s : SessionValue). IsLegal (peering_of s.config) s.story (state s)) (sym (same opened_twice t.session t.one)) t.legal)

-- the first octet of a marker
marked : take 1 small_open_octets ≡ 255 ∷ []
unfolding spell
marked = refl

octet_received : received_bytes (remote_with (0 ∷ [])) ≡ 0 ∷ []
octet_received = ap (run_from 0) (map.entries-from_sorted _ (enumerate_from 0 (0 ∷ [])) tt)

none_received : received_bytes (remote_with []) ≡ []
none_received = ap (run_from 0) (map.entries-from_sorted _ [] tt)

pub never_put : Transparent pair with_octet_received 0 → ⊥
never_put t =
    let is = subst (λ (s : SessionValue). AreFirst (received_bytes (remote_with (0 ∷ []))) (put_bytes (peering_of s.config) s.story))
    (sym (same session t.session t.one)) t.received in
    let first : ◌≡◌ {A = List ℕ} (255 ∷ []) (0 ∷ []) =
    sym marked ∙ (ap (take 1) is.is ∙ ap (λ (front : List ℕ). take 1 (front ++ is.rest)) octet_received) in cc

pub never_heard : Transparent pair (with_session hearing) 0 → ⊥
never_heard t =
    empty_or_one (subst (λ (s : SessionValue). s.adj_rib_in ≡ heard (peering_of s.config) s.story) (sym (same hearing t.session t.one)) t.adj_rib_in)

-- ---- solved

pub linked_elsewhere : Solves pair with_link_elsewhere → ⊥
linked_elsewhere s = let apart : ◌≡◌ {A = ℕ} 1 0 = (s.peerings 0 (lit< tt)).linked in cc

held : (s t : SessionValue) → Live s None ≡ Live t None → s ≡ t
held s t e = cc

pub nothing_received : SolvesOn pair with_nothing_received 0 → ⊥
nothing_received p =
    let all = p.received ∙ ap (λ (s : SessionValue). put_bytes (peering_of s.config) s.story) (sym (held session p.session p.placed)) in
    let none : ◌≡◌ {A = List ℕ} [] (255 ∷ []) = ap (take 1) (sym none_received ∙ all) ∙ marked in cc

pub shadow_left : SolvesOn pair with_shadow_left 0 → ⊥
shadow_left p = let gone = (p.elsewhere 1 (lit< tt) (λ e. cc)).0 in absurd cc

pub route_kept : Solves pair with_route_kept → ⊥
route_kept s = not_both route (sym (s.tellings 0 1 ten (lit< tt) (lit< tt) (λ e. cc) ∙ ap tell_in nothing) ∙ inserted route)

-- ---- quiet

pub word_goes : Quiet pair with_word → ⊥
word_goes q = not_empty _ _ (q.mesh 1 0)
