-- The rows by which the worked route is decided and told before the graft, each computed.
use Rattle.std.proofs.Common.{◌≡◌, ◌≢◌, ◌==◌, ◌&&◌, ◌||◌, Bool, true, false, cond, [], ◌∷◌, Option, Some, None, is_some, refl, sym, ap, ◌∙◌, inl, inr}
use Rattle.bgp_types.specs.Header.{header_fault}
use Rattle.bgp_types.specs.Prefixes.{PrefixValue, same_prefix}
use Rattle.decision_core.specs.Choice.{keep, left_of, choice}
use Rattle.route_policy.specs.Telling.{tell_in, tell_out}
use Rattle.loc_rib.specs.Values.{with_best}
use Rattle.bgp_story.specs.WorkedSessions.{ten}
use Rattle.session_value.specs.Sets.{has}
use Rattle.graft_model.specs.Points.{at}
use Rattle.graft_model.specs.Parts.{Vacant, Live, Told}
use Rattle.graft_model.specs.Decisions.{chosen, to_tell, out_side}
use Rattle.graft_model.specs.RouterRows.{MeshIn, MeshTo, PutsNothing}
use Rattle.graft_model.specs.TableRows.{Decides, Tells, Hears, DueEverywhere, holds_established}
use Rattle.graft_model.specs.SmallWorlds.{config}
use Rattle.graft_worked.specs.Base.{base}
use Rattle.graft_worked.specs.Places.{idle_router}
use Rattle.graft_worked.specs.Graft.{ten_alone, route, entry, over_peering, over_router, session, a_before, b_before}
use Rattle.graft_worked.specs.Start.{a_got, a_chosen, a_put, b_dirty, b_chosen}
use Rattle.graft_worked.proofs.Points.{at-same, at-back, other_of_0, other_of_1}
use Rattle.graft_worked.proofs.Tens.{empty, is_ten, got_none, got_ten, got_it, gone, still_none, some_in_none, adds_ten, keeps_none, drops_ten}
use Rattle.graft_worked.proofs.GraftRows.{state_is, chosen_from, at_a, at_b, by_parts}

entry_alone : chosen_from 0 (Some entry) None None ≡ Some over_peering
unfolding chosen_from choice left_of keep
entry_alone = refl

route_alone : chosen_from 1 None (Some route) None ≡ Some (over_router 0)
unfolding chosen_from choice left_of keep
route_alone = refl

a_chooses : chosen base 0 (a_got session) ten ≡ Some over_peering
a_chooses = at_a (a_got session) ∙ (by_parts 0 (got_it entry) (got_none ten) (got_none ten) ∙ entry_alone)

b_chooses : chosen base 1 b_dirty ten ≡ Some (over_router 0)
b_chooses = at_b b_dirty ∙ (by_parts 1 (got_none ten) (got_it route) (got_none ten) ∙ route_alone)

some_apart : {A : Type 0} {a b : Option A} → is_some a ≡ true → is_some b ≡ false → a ≢ b
some_apart p q e = let apart : ◌≡◌ {A = Bool} true false = sym p ∙ (ap is_some e ∙ q) in cc

held_at_a : (t : Bool) (x : PrefixValue)
    → has (cond t ten_alone empty) x ≡ (has empty x || (same_prefix ten x && holds_established (cond t (Live session None) Vacant)))
unfolding header_fault
held_at_a true x = adds_ten true x
held_at_a false x = adds_ten false x

due_at_a : DueEverywhere base 0 ten (a_got session) a_chosen
due_at_a = record {
  routers = λ q. record { members = λ x. adds_ten (q == 1) x ∙ ap (λ t. has empty x || (same_prefix ten x && t)) (sym (other_of_0 q)) };
  peerings = λ p. record { members = λ x. held_at_a (p == 0) x };
}

pub a_decides_first : Decides base 0 ten (a_got session) None [] a_chosen
a_decides_first = record {
  alone = (refl, refl);
  dirty = ap is_some (got_it tt);
  due = inr (some_apart (ap is_some a_chooses) (some_in_none _ ten), due_at_a);
  effect = λ i. record a_chosen { best = sym (ap (with_best (a_got session).best ten) a_chooses) i; dirty = sym (gone tt) i };
}

tell_cond : (x : PrefixValue) (t : Bool) → tell_out 65000 (out_side base 0 config) x (cond t (Some over_peering) None) ≡ None
tell_cond x true = refl
tell_cond x false = refl

tells_none_at_a : (x : PrefixValue) → to_tell base 0 a_chosen session x ≡ None
tells_none_at_a x = ap (tell_out 65000 (out_side base 0 config) x) (got_ten over_peering x) ∙ tell_cond x (is_ten x)

pub a_puts_nothing : PutsNothing base 0 0 a_chosen None [] a_put
a_puts_nothing = record {
  alone = (refl, refl);
  session = session;
  errand = None;
  live = record { is = refl };
  established = state_is;
  prefix = ten;
  waits = (ap is_some (got_it tt), some_in_none _ ten);
  nothing = λ x told. told.1 (got_none x ∙ sym (tells_none_at_a x));
  due = drops_ten;
  effect = λ i. record a_put { due_out = sym (at-back empty ten_alone 0) i };
}

pub a_tells_first : Tells 1 ten a_put None (MeshTo 1 (Told ten (Some route)) ∷ []) a_before
a_tells_first = record {
  due = ap is_some (got_it tt);
  clean = some_in_none _ ten;
  takes = refl;
  sends = λ i. MeshTo 1 (Told ten (sym (ap tell_in (got_it over_peering)) i)) ∷ [];
  effect = λ i. record a_before { due_in = sym (ap (at a_put.due_in 1) (gone tt) ∙ at-back empty ten_alone 1) i };
}

pub b_hears_first : Hears 0 idle_router (Some (MeshIn 0 (Told ten (Some route)))) [] b_dirty
b_hears_first = record {
  prefix = ten;
  route = Some route;
  takes = refl;
  sends = refl;
  dirty = inr (some_apart refl (some_in_none _ ten), refl);
  effect = refl;
}

due_at_b : DueEverywhere base 1 ten b_dirty b_chosen
due_at_b = record {
  routers = λ q. record { members = λ x. adds_ten (q == 0) x ∙ ap (λ t. has empty x || (same_prefix ten x && t)) (sym (other_of_1 q)) };
  peerings = λ p. record { members = keeps_none };
}

pub b_decides_first : Decides base 1 ten b_dirty None [] b_chosen
b_decides_first = record {
  alone = (refl, refl);
  dirty = ap is_some (got_it tt);
  due = inr (some_apart (ap is_some b_chooses) (some_in_none _ ten), due_at_b);
  effect = λ i. record b_chosen { best = sym (ap (with_best b_dirty.best ten) b_chooses) i; dirty = sym (gone tt) i };
}

pub b_tells_first : Tells 0 ten b_chosen None (MeshTo 0 (Told ten None) ∷ []) b_before
b_tells_first = record {
  due = ap is_some (got_it tt);
  clean = some_in_none _ ten;
  takes = refl;
  sends = λ i. MeshTo 0 (Told ten (sym (ap tell_in (got_it (over_router 0))) i)) ∷ [];
  effect = λ i. record b_before { due_in = sym (ap (at b_chosen.due_in 0) (gone tt) ∙ at-back empty ten_alone 0) i };
}

pub a_hears_none : Hears 1 a_before (Some (MeshIn 1 (Told ten None))) [] a_before
a_hears_none = record {
  prefix = ten;
  route = None;
  takes = refl;
  sends = refl;
  dirty = inl (sym (got_none ten), refl);
  effect = λ i. record a_before { tellings = sym (ap (at a_before.tellings 1) still_none ∙ at-same empty 1) i };
}
