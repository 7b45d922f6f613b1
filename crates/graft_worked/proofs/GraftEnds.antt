-- The worlds before and after the worked graft are quiet, and the last one solves.
use Rattle.std.proofs.Common.{◌≡◌, ◌≢◌, ℕ, zero, suc, ◌==◌, Bool, true, false, cond, List, [], ◌∷◌, ◌++◌, drop, length}
use Rattle.std.proofs.Common.{Option, Some, None, is_some, refl, sym, ap, ◌∙◌, subst, inl, inr, lit<}
use Rattle.std.specs.Prelude.{slice_get}
use Rattle.std.specs.FinMap as map
use Rattle.std.specs.List.{enumerate_from}
use Rattle.std.specs.Ordering.{nat_cmp}
use Rattle.std.proofs.lemmas.Option.{same_Some}
use Rattle.bgp_types.specs.declared.attrs.Attrs.{Attrs}
use Rattle.bgp_types.specs.FirstFault.{body_of, message_of}
use Rattle.bgp_types.specs.Header.{header_fault, frame_at}
use Rattle.bgp_types.specs.Many.{many, many_within}
use Rattle.bgp_types.specs.OpenBody.{cap_at, caps_of, params_of, open_of}
use Rattle.bgp_types.specs.PathOctets.{path_octets}
use Rattle.bgp_types.specs.Prefixes.{PrefixValue}
use Rattle.bgp_types.specs.Spelling.{spell, spell_attrs, attrs_written}
use Rattle.bgp_types.specs.Tables.{prefix_cmp}
use Rattle.bgp_story.specs.Readings.{IsLegal, put_bytes, told}
use Rattle.bgp_story.specs.WorkedSessions.{ten, heard_lines, heard_attrs}
use Rattle.bgp_story.proofs.WorkedStories.{heard_all, heard_routes, peering_is}
use Rattle.decision_core.specs.Choice.{keep, left_of, choice}
use Rattle.route_policy.specs.declared.best.Best.{Best}
use Rattle.route_policy.specs.Candidates.{candidates}
use Rattle.route_policy.specs.Telling.{tell_in}
use Rattle.tcp_seq.specs.Endpoint.{received_bytes, run_from}
use Rattle.session_value.specs.Sessions.{peering_of, state, unread, while_established}
use Rattle.session_value.specs.Fronts.{AreFirst, BeginsNothing}
use Rattle.graft_model.specs.Points.{at}
use Rattle.graft_model.specs.Setups.{ScriptStep, SayStep, MoveStep, EvacuateStep, SettleStep, ScriptGraft, group_of}
use Rattle.graft_model.specs.Setups.{grafts_in, graft_at, identifier_of, cost_between, has_network}
use Rattle.graft_model.specs.Parts.{Vacant, Live, Entry, RouterPart, FarPart, OperatorPart}
use Rattle.graft_model.specs.Placements.{target_in}
use Rattle.graft_model.specs.Decisions.{to_tell, remote_identifier}
use Rattle.graft_model.specs.Quiet.{Quiet, IsIdle, HasRead, AllAcked}
use Rattle.graft_model.specs.Claims.{Transparent, Solves, SolvesOn, GotAll, session_routes, router_routes}
use Rattle.graft_model.specs.SmallWorlds.{config}
use Rattle.graft_worked.specs.Base.{base}
use Rattle.graft_worked.specs.Places.{idle_router, idle_far, nothing_on_the_way, world_of}
use Rattle.graft_worked.specs.Graft.{put_all, said_all, home_end, remote_end, route, entry, over_peering, over_router}
use Rattle.graft_worked.specs.Graft.{session, a_before, b_before, far_before, operator_before, a_after, b_after}
use Rattle.graft_worked.specs.Graft.{far_after, operator_after, before_graft, after_graft, with_entry_kept}
use Rattle.graft_model.proofs.Numbers.{index_of_graft}
use Rattle.graft_worked.proofs.Points.{two_all, at_all, empty_at, empty_two, empty_one}
use Rattle.graft_worked.proofs.Setup.{below_two, below_one}
use Rattle.graft_worked.proofs.Tens.{is_ten, got_none, got_ten, got_it}
use Rattle.graft_worked.proofs.GraftRows.{state_is, tells_none}

-- ---- what was received

pub home_received : received_bytes home_end ≡ said_all
home_received = ap (run_from 0) (map.entries-from_sorted nat_cmp (enumerate_from 0 said_all) tt)

pub remote_received : received_bytes remote_end ≡ put_all
remote_received = ap (run_from 0) (map.entries-from_sorted nat_cmp (enumerate_from 0 put_all) tt)

pub puts_all : put_bytes (peering_of config) (heard_lines 0) ≡ put_all
unfolding message_of header_fault frame_at body_of open_of many many_within cap_at caps_of params_of spell spell_attrs attrs_written path_octets
puts_all = refl

pub nothing_begins : BeginsNothing []
unfolding frame_at
nothing_begins [] rest e (inl f) = absurd cc
nothing_begins [] rest e (inr f) = let n : ◌≡◌ {A = ℕ} 0 19 = f.0 in absurd cc
nothing_begins (x ∷ xs) rest e got = absurd cc

all_read : unread session ≡ []
all_read = ap (drop 91) home_received

has_read : HasRead session
has_read = inr (rw all_read nothing_begins)

acked : AllAcked home_end remote_end × AllAcked remote_end home_end
acked = (record { received = ap length remote_received; acked = refl }, record { received = ap length home_received; acked = refl })

idle_place : (far : FarPart) → far.end ≡ remote_end → (t : Bool) → IsIdle (cond t far idle_far).end (cond t (Live session None) Vacant)
idle_place far e true = rw e (has_read, acked.0, acked.1)
idle_place far e false = tt

-- ---- quiet

-- a router that has nothing left to do
record Calm (far : FarPart) (part : RouterPart) : Type 0 where
  dirty : part.dirty ≡ map.empty
  due_in : (q : ℕ) → part.due_in q ≡ map.empty
  due_out : (p : ℕ) → part.due_out p ≡ map.empty
  places : (p : ℕ) → IsIdle (at (λ p. idle_far) 0 far p).end (part.places p)

abbrev Issued : OperatorPart → Type 0
Issued o = (n p : ℕ) (bytes : List ℕ) → slice_get base.steps n ≡ Some (SayStep p bytes) → group_of base n ≡ o.group → o.issued n ≡ true

abbrev Ended : OperatorPart → Type 0
Ended o = (g : ScriptGraft) → graft_at base g.graft ≡ Some g → group_of base g.step ≡ o.group → target_in base o g ≢ None → o.outcome g.graft ≢ None

calm_world : (a b : RouterPart) (far : FarPart) (o : OperatorPart) → Calm far a → Calm far b → far.homeward ≡ [] → far.remoteward ≡ [] → Issued o
    → Ended o → Quiet base (world_of a b far o nothing_on_the_way)
calm_world a b far o x y home remote issued ended = record {
  mesh = empty_two 1 0;
  outward = empty_two 0 0;
  inward = empty_one;
  orders = empty_at 0;
  reports = empty_at 0;
  says = empty_at 0;
  homeward = at_all (λ (f : FarPart). f.homeward ≡ []) idle_far 0 far refl home;
  remoteward = at_all (λ (f : FarPart). f.remoteward ≡ []) idle_far 0 far refl remote;
  decided = two_all (λ (part : RouterPart). part.dirty ≡ map.empty) idle_router a b refl x.dirty y.dirty;
  told_in = λ r q. two_all (λ (part : RouterPart). part.due_in q ≡ map.empty) idle_router a b refl (x.due_in q) (y.due_in q) r;
  told_out = λ r p. two_all (λ (part : RouterPart). part.due_out p ≡ map.empty) idle_router a b refl (x.due_out p) (y.due_out p) r;
  places = λ r p. two_all (λ (part : RouterPart). IsIdle (at (λ p. idle_far) 0 far p).end (part.places p)) idle_router a b tt (x.places p) (y.places p) r;
  issued = issued;
  ended = ended;
}

with_session : (far : FarPart) → far.end ≡ remote_end → (p : ℕ) → IsIdle (at (λ p. idle_far) 0 far p).end (at (λ p. Vacant) 0 (Live session None) p)
with_session far e p = idle_place far e (p == 0)

abbrev is_say : Option ScriptStep → Bool
is_say None = false
is_say (Some (SayStep p bytes)) = true
is_say (Some (MoveStep p target)) = false
is_say (Some (EvacuateStep router)) = false
is_say (Some SettleStep) = false

-- only the first step says something
issued : (o : OperatorPart) → o.issued 0 ≡ true → Issued o
issued o first zero p bytes e g = first
issued o first (suc zero) p bytes e g = let h : ◌≡◌ {A = Bool} false true = ap is_say e in absurd cc
issued o first (suc (suc zero)) p bytes e g = let h : ◌≡◌ {A = Bool} false true = ap is_say e in absurd cc
issued o first (suc (suc (suc zero))) p bytes e g = let h : ◌≡◌ {A = Bool} false true = ap is_say e in absurd cc
issued o first (suc (suc (suc (suc n)))) p bytes e g = let h : ◌≡◌ {A = Bool} false true = ap is_say e in absurd cc

abbrev the_graft : ScriptGraft
the_graft = record { graft = 1; peering = 0; step = 2 }

-- the script has one graft
one_graft : (i : ℕ) (g : ScriptGraft) → slice_get (grafts_in base) i ≡ Some g → the_graft ≡ g
one_graft zero g e = same_Some the_graft g e
one_graft (suc i) g e = absurd cc

the_only : (g : ScriptGraft) → graft_at base g.graft ≡ Some g → the_graft ≡ g
the_only g known = let t = index_of_graft base g.graft g known in one_graft t.0 g t.2

ended_before : Ended operator_before
ended_before g known group made = let h : ◌≡◌ {A = ℕ} 1 0 = ap (λ (z : ScriptGraft). group_of base z.step) (the_only g known) ∙ group in absurd cc

ended_after : Ended operator_after
ended_after g known group made none =
    let h : operator_after.outcome 1 ≡ None = ap (λ (z : ScriptGraft). operator_after.outcome z.graft) (the_only g known) ∙ none in
    let apart : ◌≡◌ {A = Bool} true false = ap is_some h in cc

pub quiet_before : Quiet base before_graft
quiet_before = calm_world a_before b_before far_before operator_before
    (record { dirty = refl; due_in = λ q. refl; due_out = λ p. refl; places = with_session far_before refl })
    (record { dirty = refl; due_in = λ q. refl; due_out = λ p. refl; places = λ p. tt })
    refl refl (issued operator_before refl) ended_before

pub quiet_after : Quiet base after_graft
quiet_after = calm_world a_after b_after far_after operator_after
    (record { dirty = refl; due_in = λ q. refl; due_out = λ p. refl; places = λ p. tt })
    (record { dirty = refl; due_in = λ q. refl; due_out = λ p. refl; places = with_session far_after refl })
    refl refl (issued operator_after refl) ended_after

-- ---- transparent

pub none_told : told (heard_lines 0) ≡ map.empty
unfolding header_fault
none_told = refl

pub legal_after : IsLegal (peering_of config) (heard_lines 0) (state session)
legal_after = subst (IsLegal (peering_of config) (heard_lines 0)) (sym state_is) (heard_all 0 (peering_is 0 (lit< tt) refl))

pub all_received : received_bytes remote_end ≡ put_bytes (peering_of config) (heard_lines 0)
all_received = remote_received ∙ sym puts_all

pub received_after : AreFirst (received_bytes remote_end) (put_bytes (peering_of config) (heard_lines 0))
received_after = record { rest = []; is = puts_all ∙ ap (λ (bytes : List ℕ). bytes ++ []) (sym remote_received) }

pub transparent_after : Transparent base after_graft 0
transparent_after = record {
  session = session;
  one = refl;
  own = refl;
  legal = legal_after;
  received = received_after;
  got = record { rest = []; is = refl };
  adj_rib_in = sym (heard_routes 0);
  adj_rib_out = sym none_told;
}

-- ---- solves

from_b : PrefixValue → Option Best → Option Best
from_b prefix best = choice (candidates 65000 prefix false []
    (record { router = record { 0 = 1 }; identifier = identifier_of base 1; cost = cost_between base 0 1; told = tell_in best } ∷ []))

from_both : PrefixValue → Option Attrs → Option Best → Option Best
from_both prefix heard best = choice (candidates 65000 prefix false (record {
  peering = config.peering;
  remote_as = 65001;
  identifier = remote_identifier session;
  address = 0xC0000201;
  import_rules = None;
  heard = heard;
} ∷ []) (record { router = record { 0 = 0 }; identifier = identifier_of base 0; cost = cost_between base 1 0; told = tell_in best } ∷ []))

from_b_is : (prefix : PrefixValue) (t : Bool) → from_b prefix (cond t (Some over_peering) None) ≡ cond t (Some (over_router 1)) None
unfolding from_b choice left_of keep
from_b_is prefix true = refl
from_b_is prefix false = refl

from_both_is : (prefix : PrefixValue) (t : Bool)
    → from_both prefix (cond t (Some heard_attrs) None) (cond t (Some (over_router 1)) None) ≡ cond t (Some over_peering) None
unfolding from_both choice left_of keep message_of header_fault frame_at body_of open_of many many_within cap_at caps_of params_of
from_both_is prefix true = refl
from_both_is prefix false = refl

routes_at_a : (prefix : PrefixValue)
    → choice (candidates 65000 prefix (has_network base 0 prefix) (session_routes base after_graft 0 prefix) (router_routes base after_graft 0 prefix))
    ≡ from_b prefix (map.get b_after.best prefix)
unfolding from_b
routes_at_a prefix = refl

routes_at_b : (prefix : PrefixValue)
    → choice (candidates 65000 prefix (has_network base 1 prefix) (session_routes base after_graft 1 prefix) (router_routes base after_graft 1 prefix))
    ≡ from_both prefix (map.get session.adj_rib_in prefix) (map.get a_after.best prefix)
unfolding from_both
routes_at_b prefix = refl

best_at_a : (prefix : PrefixValue) → map.get a_after.best prefix ≡ from_b prefix (map.get b_after.best prefix)
best_at_a prefix = got_ten (over_router 1) prefix ∙ sym (ap (from_b prefix) (got_ten over_peering prefix) ∙ from_b_is prefix (is_ten prefix))

best_at_b : (prefix : PrefixValue) → map.get b_after.best prefix ≡ from_both prefix (map.get session.adj_rib_in prefix) (map.get a_after.best prefix)
best_at_b prefix = got_ten over_peering prefix
    ∙ sym ((λ i. from_both prefix (got_ten heard_attrs prefix i) (got_ten (over_router 1) prefix i)) ∙ from_both_is prefix (is_ten prefix))

pub told_to_b : (t : Bool) → None ≡ tell_in (cond t (Some (over_router 1)) None)
told_to_b true = refl
told_to_b false = refl

told_to_a : (t : Bool) → cond t (Some route) None ≡ tell_in (cond t (Some over_peering) None)
told_to_a true = refl
told_to_a false = refl

pub nothing_told : (prefix : PrefixValue) → None ≡ while_established (state session) (to_tell base 1 b_after session prefix)
nothing_told prefix = sym (ap (λ s. while_established s (to_tell base 1 b_after session prefix)) state_is ∙ tells_none prefix)

pub got_all : GotAll session said_all
unfolding frame_at header_fault
got_all = record { rest = []; is = refl; whole = (tt, (inl refl, (tt, (inl refl, (inl refl, tt))))); end = inr nothing_begins }

peering_solves : SolvesOn base after_graft 0
peering_solves = record {
  session = session;
  placed = refl;
  linked = refl;
  adj_rib_out = λ prefix. got_none prefix ∙ nothing_told prefix;
  received = all_received;
  got = got_all;
  elsewhere = below_two (λ r. r ≢ 1 → ((after_graft.router r).places 0 ≡ Vacant) × ((after_graft.router r).entries 0 ≡ map.empty))
      (λ other. (refl, refl)) (λ other. absurd (other refl));
}

pub solves_after : Solves base after_graft
solves_after = record {
  best = λ r prefix lt. below_two (λ r. map.get (after_graft.router r).best prefix
      ≡ choice (candidates 65000 prefix (has_network base r prefix) (session_routes base after_graft r prefix) (router_routes base after_graft r prefix)))
      (best_at_a prefix ∙ sym (routes_at_a prefix)) (best_at_b prefix ∙ sym (routes_at_b prefix)) r lt;
  tellings = λ r q prefix lr lq.
      below_two (λ r. r ≢ q → map.get ((after_graft.router q).tellings r) prefix ≡ tell_in (map.get (after_graft.router r).best prefix))
      (below_two (λ q. 0 ≢ q → map.get ((after_graft.router q).tellings 0) prefix ≡ tell_in (map.get (after_graft.router 0).best prefix))
      (λ other. absurd (other refl)) (λ other. got_none prefix ∙ (told_to_b (is_ten prefix) ∙ ap tell_in (sym (got_ten (over_router 1) prefix)))) q lq)
      (below_two (λ q. 1 ≢ q → map.get ((after_graft.router q).tellings 1) prefix ≡ tell_in (map.get (after_graft.router 1).best prefix))
      (λ other. got_ten route prefix ∙ (told_to_a (is_ten prefix) ∙ ap tell_in (sym (got_ten over_peering prefix)))) (λ other. absurd (other refl)) q lq)
      r lr;
  peerings = below_one (SolvesOn base after_graft) peering_solves;
}

pub entry_kept_solves_nothing : Solves base with_entry_kept → ⊥
entry_kept_solves_nothing s =
    let gone = ((s.peerings 0 (lit< tt)).elsewhere 0 (lit< tt) (λ e. cc)).1 in
    let apart : ◌≡◌ {A = Bool} true false =
    ap is_some (sym (got_it entry) ∙ (ap (λ (m : map.FinMap prefix_cmp Entry). map.get m ten) gone ∙ got_none ten)) in cc
