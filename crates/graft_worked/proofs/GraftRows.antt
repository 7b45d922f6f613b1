-- The rows of the worked graft, each computed.
use Rattle.std.proofs.Common.{◌≡◌, ◌≢◌, ◌⊎◌, ℕ, zero, suc, ◌<◌, ◌==◌, ◌&&◌, ◌||◌, Bool, true, false, cond, [], ◌∷◌}
use Rattle.std.proofs.Common.{◌++◌, Option, Some, None, is_some, refl, sym, ap, ◌∙◌, inl, inr, lit<, arith}
use Rattle.std.specs.Prelude.{option_map, slice_get}
use Rattle.std.specs.FinMap as map
use Rattle.std.specs.List.{filter_map}
use Rattle.bgp_types.specs.declared.attrs.Attrs.{Attrs}
use Rattle.bgp_types.specs.declared.attrs.Route.{Route}
use Rattle.bgp_types.specs.declared.message.SessionState.TheVariants.{Established}
use Rattle.bgp_types.specs.declared.rank.From.{From}
use Rattle.bgp_types.specs.declared.rank.From.TheVariants as from
use Rattle.bgp_types.specs.FirstFault.{body_of, message_of}
use Rattle.bgp_types.specs.Header.{header_fault, frame_at}
use Rattle.bgp_types.specs.Many.{many, many_within}
use Rattle.bgp_types.specs.OpenBody.{cap_at, caps_of, params_of, open_of}
use Rattle.bgp_types.specs.Prefixes.{PrefixValue, same_prefix}
use Rattle.decision_core.specs.Choice.{keep, left_of, choice}
use Rattle.route_policy.specs.declared.best.Best.{Best}
use Rattle.route_policy.specs.Candidates.{imported}
use Rattle.route_policy.specs.Telling.{tell_in, tell_out}
use Rattle.graft_steps.specs.declared.refusal.Outcome.TheVariants.{Accepted}
use Rattle.bgp_story.specs.WorkedSessions.{ten, heard_attrs}
use Rattle.loc_rib.specs.Values.{with_best}
use Rattle.graft_steps.specs.Refusals.{freeze_refusal, session_refusal}
use Rattle.tcp_seq.specs.Endpoint.{Endpoint}
use Rattle.session_value.specs.Sessions.{SessionValue, state, hold_time}
use Rattle.session_value.specs.Sets.{has}
use Rattle.graft_model.specs.Points.{at}
use Rattle.graft_model.specs.Setups.{Setup, ScriptGraft, routers_in, graft_at, group_of}
use Rattle.graft_model.specs.Placements.{placement}
use Rattle.graft_model.specs.Parts.{Place, Vacant, Live, Frozen, Shadow, Entry, RouterPart, OperatorPart, Told, Moved, Done, PointAt, Leaving, Owing}
use Rattle.graft_model.specs.Decisions.{entry_candidate, telling_candidate, session_route, chosen, to_tell, out_side, remote_identifier}
use Rattle.graft_model.specs.RouterRows.{OrderIn, MeshIn, MeshTo, OutwardTo, ReportOut, BringsIn, PutsNothing}
use Rattle.graft_model.specs.TableRows.{Decides, Tells, Hears, DueEverywhere, holds_established}
use Rattle.graft_model.specs.GraftRows.{Admits, Freezes, Leaves, Lands, Confirms, Clears}
use Rattle.graft_model.specs.FarRows.{OutwardIn, TurnsLink}
use Rattle.graft_model.specs.OperatorRows.{ReportIn, number_by, target_in, OrderTo, OrdersGraft, Notes, BeginsGroup}
use Rattle.graft_model.specs.SmallWorlds.{config}
use Rattle.graft_worked.specs.Base.{base}
use Rattle.graft_worked.specs.Places.{holding}
use Rattle.graft_worked.specs.Graft.{at_ten, ten_alone, route, entry, over_peering, over_router, session, b_before, far_before, operator_before}
use Rattle.graft_worked.specs.Graft.{to_b, a_left, a_cleared, a_decided, a_after, b_landed, b_decided, b_put, b_told, b_heard, b_after, far_after}
use Rattle.graft_worked.specs.Graft.{operator_begun, operator_ordered, operator_after, a_heard, a_kept, to_a, b_confirmed}
use Rattle.graft_worked.proofs.Points.{at-at, at-back, other_of_0, other_of_1}
use Rattle.graft_worked.proofs.Ungiven.{nothing_given, none_before}
use Rattle.graft_worked.proofs.First.{base_empties}
use Rattle.graft_worked.proofs.Tens.{empty, is_ten, got_none, got_ten, got_it, again, gone, some_at_ten, some_in_none}
use Rattle.graft_worked.proofs.Tens.{adds_ten, keeps_ten, keeps_none, drops_ten, marks_new, marks_old}

-- ---- the session, computed

pub state_is : state session ≡ Established
unfolding header_fault
state_is = refl

pub hold_is : hold_time session ≡ 0
unfolding message_of header_fault frame_at body_of open_of many many_within cap_at caps_of params_of
hold_is = refl

pub identifier_is : remote_identifier session ≡ 0xC0000201
unfolding message_of header_fault frame_at body_of open_of many many_within cap_at caps_of params_of
identifier_is = refl

-- ---- the operator

pub goes : BeginsGroup base operator_before None [] operator_begun
goes = record { further = lit< tt; takes = refl; sends = refl; effect = sym (nothing_given base operator_begun base_empties) }

-- the first graft of its peering is ordered
pub orders_first : (setup : Setup) (number : ℕ) (graft : ScriptGraft) (target : ℕ) (before : OperatorPart)
    → graft_at setup graft.graft ≡ Some graft → number ≡ number_by (slice_get setup.steps graft.step) graft.graft → group_of setup graft.step ≡ before.group
    → target_in setup before graft ≡ Some target → before.source graft.graft ≡ None → before.outcome graft.graft ≡ None
    → ((other : ScriptGraft) → graft_at setup other.graft ≡ Some other → other.peering ≡ graft.peering → other.graft < graft.graft → ⊥)
    → OrdersGraft setup graft.step number before None
    (OrderTo (placement setup before graft.peering) (record { graft = graft.graft; peering = graft.peering; target = target }) ∷ [])
    (record before { source = at before.source graft.graft (Some (placement setup before graft.peering)) })
orders_first setup number graft target before known named group is unordered unended first = record {
  graft = graft;
  known = known;
  by_step = refl;
  named = named;
  group = group;
  target = target;
  is = is;
  unordered = unordered;
  unended = unended;
  earlier = λ other known peering before made. absurd (first other known peering before);
  takes = refl;
  sends = refl;
  effect = refl;
}

pub orders : OrdersGraft base 2 0 operator_begun None (OrderTo 0 (record { graft = 1; peering = 0; target = 1 }) ∷ []) operator_ordered
orders = orders_first base 0 (record { graft = 1; peering = 0; step = 2 }) 1 operator_begun refl refl refl refl refl refl
    (λ other known peering before. none_before base other known before)

pub notes : Notes 0 operator_ordered (Some (ReportIn 0 (record { graft = 1; outcome = Accepted }))) [] operator_after
notes = record { report = record { graft = 1; outcome = Accepted }; takes = refl; sends = refl; ordered = λ e. cc; unended = refl; effect = refl }

-- ---- the way of the session

abbrev vacant : ℕ → Place
vacant = λ p. Vacant

pub admits : (setup : Setup) → 1 < routers_in setup → (part : RouterPart) (s : SessionValue)
    → Admits setup 1 (holding part (Live s None))
    (Some (OrderIn (record { graft = 1; peering = 0; target = 1 }))) [] (holding part (Live s (Some (Leaving to_b))))
admits setup known part s = record {
  peering = 0;
  target = 1;
  takes = refl;
  sends = refl;
  known = known;
  session = s;
  live = record { is = refl };
  effect = λ i. record part { places = sym (at-at vacant 0 (Live s None) (Live s (Some (Leaving to_b)))) i };
}

pub freezes : (r target : ℕ) (part : RouterPart) (s : SessionValue) → freeze_refusal (record { 0 = r }) (record { 0 = target }) (state s) (hold_time s) ≡ None
    → Freezes r 1 (holding part (Live s (Some (Leaving (record { graft = 1; target = target }))))) None []
    (holding part (Frozen s (record { graft = 1; target = target })))
freezes r target part s no_cause = record {
  alone = (refl, refl);
  peering = 0;
  target = target;
  session = s;
  live = record { is = refl };
  no_cause = no_cause;
  effect = λ i. record part {
    places = sym (at-at vacant 0 (Live s (Some (Leaving (record { graft = 1; target = target })))) (Frozen s (record { graft = 1; target = target }))) i;
  };
}

pub leaves : (part : RouterPart) (s : SessionValue) → at part.due_out 0 map.empty ≡ part.due_out
    → Leaves 1 (holding part (Frozen s to_b)) None (MeshTo 1 (Moved 1 0 s) ∷ []) (holding part (Shadow 1))
leaves part s nothing_due = record {
  peering = 0;
  target = 1;
  session = s;
  frozen = refl;
  takes = refl;
  sends = refl;
  effect = λ i. record part { places = sym (at-at vacant 0 (Frozen s to_b) (Shadow 1)) i; due_out = sym nothing_due i };
}

pub may_freeze : session_refusal (state session) (hold_time session) ≡ None
unfolding message_of header_fault frame_at body_of open_of many many_within cap_at caps_of params_of
may_freeze = refl

brought : (r : ℕ) → PrefixValue → Option Attrs → Option Entry
brought r x attrs = option_map (λ route. record { route = route; identifier = remote_identifier session; address = session.config.remote_address })
    (imported base.home_as x (session_route base r session x) attrs)

map_cond : {A B : Type 0} (F : Option A → Option B) (t : Bool) (v : A) (w : B) → F (Some v) ≡ Some w → F None ≡ None
    → F (cond t (Some v) None) ≡ cond t (Some w) None
map_cond F true v w e n = e
map_cond F false v w e n = n

pub brings : BringsIn base 1 session (at_ten entry)
unfolding brought message_of header_fault frame_at body_of open_of many many_within cap_at caps_of params_of
brings x = got_ten entry x ∙ sym (ap (brought 1 x) (got_ten heard_attrs x) ∙ map_cond (brought 1 x) (is_ten x) heard_attrs entry refl refl)

-- nothing was told on the session, and 10.0.0.0/8 has a best route
pub due_again : (best : Best) (x : PrefixValue) → has ten_alone x ≡ (is_some (map.get session.adj_rib_out x) || is_some (map.get (at_ten best) x))
due_again best x = some_at_ten tt x ∙ (sym (some_at_ten best x) ∙ ap (λ told. told || is_some (map.get (at_ten best) x)) (sym (some_in_none _ x)))

-- with any endpoint
pub lands : (end : Endpoint)
    → Lands base 1 0 b_before (Some (MeshIn 0 (Moved 1 0 (record session { end = end }))))
    (OutwardTo 0 (PointAt 1) ∷ []) (holding b_landed (Live (record session { end = end }) (Some (Owing to_a))))
lands end = record {
  comes = record { graft = 1; peering = 0; session = record session { end = end }; takes = refl; known = lit< tt; vacant = refl };
  admitted = refl;
  sends = refl;
  entries = brings;
  dirty = marks_new entry;
  due = record { members = due_again (over_router 0) };
  effect = refl;
}

-- there is no router beside the two
two_alone : (n : ℕ) → n < 2 → (n ≡ 0) ⊎ (n ≡ 1)
two_alone zero below = inl refl
two_alone (suc zero) below = inr refl
two_alone (suc (suc n)) below = absurd (omega arith)

pub confirms : Confirms base 1 1 b_told None (MeshTo 0 (Done 1 0) ∷ []) b_confirmed
confirms = record {
  peering = 0;
  source = 0;
  next = 0;
  session = session;
  live = record { is = refl };
  answered = λ n from below. two_alone n below;
  clean = some_in_none _;
  told = λ q. some_in_none _;
  takes = refl;
  sends = refl;
  effect = λ i. record b_confirmed { places = sym (at-at vacant 0 (Live session (Some (Owing to_a))) (Live session None)) i };
}

pub points : TurnsLink 1 far_before (Some (OutwardIn 1 (PointAt 1))) [] far_after
points = record { graft = 1; takes = refl; sends = refl; effect = refl }

pub clears : Clears 1 a_kept (Some (MeshIn 1 (Done 1 0))) (ReportOut (record { graft = 1; outcome = Accepted }) ∷ []) a_cleared
clears = record {
  graft = 1;
  peering = 0;
  takes = refl;
  shadow = refl;
  sends = refl;
  dirty = marks_old entry;
  effect = λ i. record a_cleared { places = sym (at-back Vacant (Shadow 1) 0) i; entries = sym (at-back empty (at_ten entry) 0) i };
}

-- ---- the tables

-- the choice of a router by its entry and the two tellings
unfoldable pub chosen_from : ℕ → Option Entry → Option Route → Option Route → Option Best
chosen_from r entry one two = choice (
    filter_map (λ p. entry_candidate 65000 p entry) (0 ∷ [])
    ++ filter_map (λ q. telling_candidate base r q (cond (q == 0) one two)) (0 ∷ 1 ∷ []))

pub at_a : (part : RouterPart)
    → chosen base 0 part ten ≡ chosen_from 0 (map.get (part.entries 0) ten) (map.get (part.tellings 0) ten) (map.get (part.tellings 1) ten)
unfolding chosen_from
at_a part = refl

pub at_b : (part : RouterPart)
    → chosen base 1 part ten ≡ chosen_from 1 (map.get (part.entries 0) ten) (map.get (part.tellings 0) ten) (map.get (part.tellings 1) ten)
unfolding chosen_from
at_b part = refl

pub by_parts : (r : ℕ) {e e' : Option Entry} {s s' t t' : Option Route} → e ≡ e' → s ≡ s' → t ≡ t' → chosen_from r e s t ≡ chosen_from r e' s' t'
by_parts r p q s = λ i. chosen_from r (p i) (q i) (s i)

entry_or_route : chosen_from 1 (Some entry) (Some route) None ≡ Some over_peering
unfolding chosen_from choice left_of keep
entry_or_route = refl

entry_alone : chosen_from 1 (Some entry) None None ≡ Some over_peering
unfolding chosen_from choice left_of keep
entry_alone = refl

entry_over_route : chosen_from 0 (Some entry) None (Some route) ≡ Some over_peering
unfolding chosen_from choice left_of keep
entry_over_route = refl

route_alone : chosen_from 0 None None (Some route) ≡ Some (over_router 1)
unfolding chosen_from choice left_of keep
route_alone = refl

pub b_landed_chooses : chosen base 1 b_landed ten ≡ Some over_peering
b_landed_chooses = at_b b_landed ∙ (by_parts 1 (got_it entry) (got_it route) (got_none ten) ∙ entry_or_route)

pub a_heard_chooses : chosen base 0 a_heard ten ≡ Some over_peering
a_heard_chooses = at_a a_heard ∙ (by_parts 0 (got_it entry) (got_none ten) (got_it route) ∙ entry_over_route)

pub a_cleared_chooses : chosen base 0 a_cleared ten ≡ Some (over_router 1)
a_cleared_chooses = at_a a_cleared ∙ (by_parts 0 (got_none ten) (got_none ten) (got_it route) ∙ route_alone)

pub b_heard_chooses : chosen base 1 b_heard ten ≡ Some over_peering
b_heard_chooses = at_b b_heard ∙ (by_parts 1 (got_it entry) (got_none ten) (got_none ten) ∙ entry_alone)

abbrev is_peering : From → Bool
is_peering from.Own = false
is_peering (from.Peering p) = true
is_peering (from.Router q) = false

abbrev from_peering : Option Best → Bool
from_peering None = false
from_peering (Some best) = is_peering best.from

differs : {a b : Option Best} → from_peering a ≡ true → from_peering b ≡ false → a ≢ b
differs p q e = let apart : ◌≡◌ {A = Bool} true false = sym p ∙ (ap from_peering e ∙ q) in cc

held_at_b : (t : Bool) (x : PrefixValue)
    → has (cond t ten_alone empty) x
    ≡ (has (cond t ten_alone empty) x || (same_prefix ten x && holds_established (cond t (Live session (Some (Owing to_a))) Vacant)))
unfolding header_fault
held_at_b true x = keeps_ten x
held_at_b false x = keeps_none x

due_at_b : DueEverywhere base 1 ten b_landed b_decided
due_at_b = record {
  routers = λ q. record { members = λ x. adds_ten (q == 0) x ∙ ap (λ t. has empty x || (same_prefix ten x && t)) (sym (other_of_1 q)) };
  peerings = λ p. record { members = λ x. held_at_b (p == 0) x };
}

pub b_decides : Decides base 1 ten b_landed None [] b_decided
b_decides = record {
  alone = (refl, refl);
  dirty = ap is_some (got_it tt);
  due = inr (differs (ap from_peering b_landed_chooses) (ap from_peering (got_it (over_router 0))), due_at_b);
  effect = λ i.
      record b_decided { best = sym (ap (with_best b_landed.best ten) b_landed_chooses ∙ again (over_router 0) over_peering) i; dirty = sym (gone tt) i };
}

-- the entry of the shadow is best still
pub a_keeps : Decides base 0 ten a_heard None [] a_kept
a_keeps = record {
  alone = (refl, refl);
  dirty = ap is_some (got_it tt);
  due = inl (a_heard_chooses ∙ sym (got_it over_peering), refl, refl);
  effect = λ i. record a_kept { best = sym (ap (with_best a_heard.best ten) a_heard_chooses ∙ again over_peering over_peering) i; dirty = sym (gone tt) i };
}

due_at_a : DueEverywhere base 0 ten a_cleared a_decided
due_at_a = record {
  routers = λ q. record { members = λ x. adds_ten (q == 1) x ∙ ap (λ t. has empty x || (same_prefix ten x && t)) (sym (other_of_0 q)) };
  peerings = λ p. record { members = keeps_none };
}

pub a_decides : Decides base 0 ten a_cleared None [] a_decided
a_decides = record {
  alone = (refl, refl);
  dirty = ap is_some (got_it tt);
  due = inr ((λ e. differs (ap from_peering (got_it over_peering)) (ap from_peering a_cleared_chooses) (sym e)), due_at_a);
  effect = λ i.
      record a_decided { best = sym (ap (with_best a_cleared.best ten) a_cleared_chooses ∙ again over_peering (over_router 1)) i; dirty = sym (gone tt) i };
}

pub b_decides_again : Decides base 1 ten b_heard None [] b_after
b_decides_again = record {
  alone = (refl, refl);
  dirty = ap is_some (got_it tt);
  due = inl (b_heard_chooses ∙ sym (got_it over_peering), refl, refl);
  effect = λ i. record b_after { best = sym (ap (with_best b_heard.best ten) b_heard_chooses ∙ again over_peering over_peering) i; dirty = sym (gone tt) i };
}

pub b_tells : Tells 0 ten b_decided None (MeshTo 0 (Told ten (Some route)) ∷ []) b_told
b_tells = record {
  due = ap is_some (got_it tt);
  clean = some_in_none _ ten;
  takes = refl;
  sends = λ i. MeshTo 0 (Told ten (sym (ap tell_in (got_it over_peering)) i)) ∷ [];
  effect = λ i. record b_told { due_in = sym (ap (at b_decided.due_in 0) (gone tt) ∙ at-back empty ten_alone 0) i };
}

pub a_tells : Tells 1 ten a_decided None (MeshTo 1 (Told ten None) ∷ []) a_after
a_tells = record {
  due = ap is_some (got_it tt);
  clean = some_in_none _ ten;
  takes = refl;
  sends = λ i. MeshTo 1 (Told ten (sym (ap tell_in (got_it (over_router 1))) i)) ∷ [];
  effect = λ i. record a_after { due_in = sym (ap (at a_decided.due_in 1) (gone tt) ∙ at-back empty ten_alone 1) i };
}

pub a_hears : Hears 1 a_left (Some (MeshIn 1 (Told ten (Some route)))) [] a_heard
a_hears = record {
  prefix = ten;
  route = Some route;
  takes = refl;
  sends = refl;
  dirty = inr ((λ e. let apart : ◌≡◌ {A = Bool} true false = ap is_some (e ∙ got_none ten) in cc), refl);
  effect = refl;
}

pub b_hears : Hears 0 b_put (Some (MeshIn 0 (Told ten None))) [] b_heard
b_hears = record {
  prefix = ten;
  route = None;
  takes = refl;
  sends = refl;
  dirty = inr ((λ e. let apart : ◌≡◌ {A = Bool} false true = ap is_some (e ∙ got_it route) in cc), refl);
  effect = λ i. record b_heard { tellings = sym (ap (at b_put.tellings 0) (gone route) ∙ at-back empty (at_ten route) 0) i };
}

-- ---- what b tells on the session: nothing, since the best route came from it

tell_cond : (x : PrefixValue) (t : Bool) → tell_out 65000 (out_side base 1 config) x (cond t (Some over_peering) None) ≡ None
tell_cond x true = refl
tell_cond x false = refl

pub tells_none : (x : PrefixValue) → to_tell base 1 b_confirmed session x ≡ None
tells_none x = ap (tell_out 65000 (out_side base 1 config) x) (got_ten over_peering x) ∙ tell_cond x (is_ten x)

pub b_puts_nothing : PutsNothing base 1 0 b_confirmed None [] b_put
b_puts_nothing = record {
  alone = (refl, refl);
  session = session;
  errand = None;
  live = record { is = refl };
  established = state_is;
  prefix = ten;
  waits = (ap is_some (got_it tt), some_in_none _ ten);
  nothing = λ x told. told.1 (got_none x ∙ sym (tells_none x));
  due = drops_ten;
  effect = λ i. record b_put { due_out = sym (at-back empty ten_alone 0) i };
}
