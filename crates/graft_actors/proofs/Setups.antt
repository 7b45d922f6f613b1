-- Actors that keep their setup beside their part.
use Rattle.std.proofs.Common.{ℕ, List, [], ◌∷◌, ap, ◌∙◌, subst, inl, inr}
use Rattle.ring_net.specs.declared.entry.JournalEntry.{JournalEntry}
use Rattle.ring_net.specs.Deeds.{Deed, Noted, deeds}
use Rattle.ring_net.specs.Phases.{View}
use Rattle.journal_merge.specs.Worlds as worlds
use Rattle.journal_merge.specs.Growth.{RunsTo}
use Rattle.graft_model.specs.Setups.{Setup}
use Rattle.graft_actors.specs.Actors.{Thing}
use Rattle.graft_actors.specs.Makes.{makes, PartWithSetup, makes_in_its_setup}
use Rattle.graft_actors.specs.Laws.{without_setups, HaveSetup}
use Rattle.graft_actors.proofs.Steps.{same_or_not}

module _ (setup : Setup) (net next : worlds.DeedWorld PartWithSetup Thing) (deed : Deed Thing)
    (have : HaveSetup setup net) (step : worlds.DeedStep makes_in_its_setup net deed next) where
  plain_step : worlds.DeedStep (makes setup) (without_setups net) deed (without_setups next)
  plain_step = record {
    made = subst (λ (s : Setup). makes s deed.entry.actor (net.part deed.entry.actor).part deed.entry deed.taken deed.sent
        (next.part deed.entry.actor).part) (have deed.entry.actor) step.made.1;
    others = λ k ne. ap (λ (p : PartWithSetup). p.part) (step.others k ne);
    rest = step.rest;
    takes = step.takes;
    sends = step.sends;
  }

  have_still : HaveSetup setup next
  have_still n = elim (same_or_not n deed.entry.actor) [
    | inl e ↦ ap (λ k. (next.part k).setup) e ∙ step.made.0 ∙ have deed.entry.actor
    | inr ne ↦ ap (λ (p : PartWithSetup). p.setup) (step.others n ne) ∙ have n
  ]

pub plain_run : (setup : Setup) (net last : worlds.DeedWorld PartWithSetup Thing) (deeds : List (Deed Thing)) → HaveSetup setup net
    → worlds.DeedRun makes_in_its_setup net deeds last
    → worlds.DeedRun (makes setup) (without_setups net) deeds (without_setups last) × HaveSetup setup last
plain_run setup net last [] have run = (
  record { parts = λ k. ap (λ (p : PartWithSetup). p.part) (run.parts k); channels = run.channels },
  λ n. ap (λ (p : PartWithSetup). p.setup) (run.parts n) ∙ have n,
)
plain_run setup net last (deed ∷ deeds) have run =
    let o : worlds.DeedRun (makes setup) (without_setups run.0) deeds (without_setups last) × HaveSetup setup last =
    plain_run setup run.0 last deeds (have_still setup net run.0 deed have run.1) run.2 in
    ((without_setups run.0, plain_step setup net run.0 deed have run.1, o.0), o.1)

pub plain_journal : {A : Type 0} (part : A → PartWithSetup) (setup : Setup) (u v : View A Thing) (levels : List ℕ)
    (notes : ℕ → List (Noted Thing)) (entries : List JournalEntry) (net : worlds.DeedWorld PartWithSetup Thing)
    → HaveSetup setup net
    → RunsTo part makes_in_its_setup u net levels notes entries v → RunsTo (λ a. (part a).part) (makes setup) u (without_setups net) levels notes entries v
plain_journal part setup u v levels notes entries net have runs = record {
  events = runs.events;
  same = runs.same;
  each = runs.each;
  clocks = runs.clocks;
  stamps = runs.stamps;
  last = without_setups runs.last;
  run = (plain_run setup net runs.last (deeds runs.events) have runs.run).0;
  is = record { parts = λ k d l. ap (λ (p : PartWithSetup). p.part) (runs.is.parts k d l); channels = runs.is.channels };
  dropped = runs.dropped;
}
