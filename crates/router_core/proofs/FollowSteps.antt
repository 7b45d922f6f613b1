-- The router follows what a session read.
use Rattle.std.proofs.Common.{◌≡◌, ℕ, List, length, Result, Ok, Err, refl, sym, ap, subst, ◌∙◌}
use Rattle.std.specs.Result.{OnOk}
use Rattle.bgp_types.specs.Prefixes.{PrefixValue}
use Rattle.bgp_session.specs.Running.{RunningSession}
use Rattle.bgp_session.specs.declared.answers.ReadStep.{ReadStep}
use Rattle.bgp_session.specs.declared.answers.ReadStep.TheVariants as steps
use Rattle.session_value.specs.Sets.{Prefixes}
use Rattle.rib_stages.specs.Values.{rib_of, table_at}
use Rattle.graft_model.specs.Points.{at}
use Rattle.router_tables.specs.Entering.{EntersAll, entry_here}
use Rattle.router_tables.specs.Reads.{DueBy, prefixes_in}
use Rattle.router_core.specs.Reading.{FollowsStep, OneSet}
use Rattle.router_core.specs.declared.fields.Fields.{Fields}
use Rattle.router_tables.proofs.Points.{at_own, at_else}

pub one_set : (before : List Prefixes) (p : ℕ) (after : List Prefixes) (d : Prefixes) → length after ≡ length before
    → table_at after ≡ at (table_at before) p d → OneSet before p after
one_set before p after d len is = record { length = len; others = λ q not. ap (λ (t : ℕ → Prefixes). t q) is ∙ at_else (table_at before) p d q not }

pub set_is : (before : List Prefixes) (p : ℕ) (after : List Prefixes) (d : Prefixes) → table_at after ≡ at (table_at before) p d → table_at after p ≡ d
set_is before p after d is = ap (λ (t : ℕ → Prefixes). t p) is ∙ at_own (table_at before) p d

pub same_set : (before : List Prefixes) (p : ℕ) → OneSet before p before
same_set before p = record { length = refl; others = λ q not. refl }

-- another set is due on the peering
pub follows_due : (f g : Fields) (p : ℕ) (s : RunningSession) (step : ReadStep) (d : Prefixes) → g ≡ record f { rib = g.rib; due_out = g.due_out }
    → EntersAll (rib_of f.rib) p (entry_here f.home_as f.policies s.session) (prefixes_in step) (rib_of g.rib)
    → length g.due_out ≡ length f.due_out → table_at g.due_out ≡ at (table_at f.due_out) p d → DueBy step f.rib.best (table_at f.due_out p) d
    → FollowsStep f p s step g
follows_due f g p s step d same entered len is due = record {
  same = same;
  entered = entered;
  sets = one_set f.due_out p g.due_out d len is;
  due = subst (λ (x : Prefixes). DueBy step f.rib.best (table_at f.due_out p) x) (sym (set_is f.due_out p g.due_out d is)) due;
}

-- the set that is due stays
pub follows_same : (f g : Fields) (p : ℕ) (s : RunningSession) (prefixes : List PrefixValue) → g ≡ record f { rib = g.rib }
    → EntersAll (rib_of f.rib) p (entry_here f.home_as f.policies s.session) prefixes (rib_of g.rib) → FollowsStep f p s (steps.Changed prefixes) g
follows_same f g p s prefixes same entered = record {
  same = subst (λ (h : Fields). h ≡ record f { rib = h.rib; due_out = h.due_out }) (sym same) refl;
  entered = entered;
  sets = subst (λ (h : Fields). OneSet f.due_out p h.due_out) (sym same) (same_set f.due_out p);
  due = ap (λ (h : Fields). table_at h.due_out p) same;
}

-- two facts of a call that went well
pub both_ok : {T E P Q R : Type 0} (r : Result T E) → OnOk r P → OnOk r Q → (P → Q → R) → OnOk r R
both_ok (Ok v) a b f = f a b
both_ok (Err e) a b f = tt
