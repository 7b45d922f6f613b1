-- What is seen of a net that has finished tells of it.
use Rattle.std.proofs.Common.{◌≡◌, ℕ, true, List, [], length, get_or, Result, Ok, Err, sym, ◌∙◌, ap, subst}
use Rattle.std.specs.Prelude.{IfOk}
use Rattle.graft_edge.specs.declared.memory.NoMemory.{NoMemory}
use Rattle.ring_net.specs.declared.entry.JournalEntry.{JournalEntry}
use Rattle.ring_net.specs.Left.{HasJournals, items_left}
use Rattle.ring_net.specs.declared.parts.Left.{Left}
use Rattle.journal_merge.specs.Merges.{Interleaves}
use Rattle.graft_model.specs.Setups.{Setup, IsSetup}
use Rattle.graft_model.specs.Parts.{World}
use Rattle.graft_laws.specs.Emptied.{EmptyAlone}
use Rattle.graft_laws.specs.Ranges.{IsInRange}
use Rattle.silent_rounds.specs.Silence.{AreShort}
use Rattle.world_nodes.specs.declared.node.Node.{Node}
use Rattle.world_nodes.specs.Edges.{AreEdgesOf}
use Rattle.world_nodes.specs.Nodes.{Mail}
use Rattle.world_nodes.specs.Ways.{Stand}
use Rattle.lab_tables.specs.declared.input.LabInput.{LabInput}
use Rattle.lab_setup.specs.Setups.{setup_of}
use Rattle.lab_setup.proofs.InRange.{accepted_in_range}
use Rattle.sure_results.specs.Results.{IsSure}
use Rattle.sure_inputs.specs.Sure.{is_sure}
use Rattle.sure_inputs.proofs.Sound.{sure_is_sure}
use Rattle.lab_report.specs.declared.lab.Lab.{Lab}
use Rattle.lab_report.specs.declared.lab.RunEnd.{RunEnd}
use Rattle.node_configs.specs.declared.budget.Budget.{Budget}
use Rattle.node_configs.specs.Budgets.{budgets_in}
use Rattle.node_configs.proofs.Faults.{accepted_soon}
use Rattle.node_configs.specs.Accepted.{IsAccepted}
use Rattle.node_configs.proofs.Accepted.{is_setup, is_alone}
use Rattle.lab_seen.specs.Finished.{IsFinished}
use Rattle.lab_seen.specs.Seen.{Observed}
use Rattle.lab_run.specs.Stories.{RunGoes}
use Rattle.lab_run.specs.Runs.{IsNetOf, BeginsFresh, LabsTellOfRuns, RanLab}

-- the merge of a net's journals
pub merge_of : (z : Stand) (journals : List (List JournalEntry)) (merged : List JournalEntry) → HasJournals z.view journals
    → Interleaves (λ k. get_or journals k []) merged → Interleaves z.view.journal merged
merge_of z journals merged has merge = record { each = λ k. merge.each k ∙ has.each k; sorted = merge.sorted }

-- a net of a world, as it finishes
pub finished : (setup : Setup) (z : Stand) (w : World) (actors : List Node) (left : List (Left Mail)) (edges : List (ℕ × ℕ)) → IsNetOf setup z w
    → actors ≡ z.view.actors → AreEdgesOf setup edges → left ≡ items_left z.view edges → IsFinished setup w actors left
finished setup z w actors left edges net actors_are edges_are left_is = record {
  stand = z;
  world = net.world;
  channels = net.channels;
  actors_are = actors_are;
  all = ap (λ (xs : List Node). length xs) actors_are ∙ net.all;
  edges = edges;
  edges_are = edges_are;
  left_is = left_is;
}

-- ---- the lab

-- what is said of a lab of an input
record IsTold (input : LabInput) (lab : Lab) (a z : Stand) : Type 0 where
  setup : IsSetup (setup_of input)
  alone : EmptyAlone (setup_of input)
  in_range : IsInRange (setup_of input)
  soon : AreShort input.faults
  sure : is_sure input ≡ true → IsSure (setup_of input)
  begins : BeginsFresh (setup_of input) input.faults a
  goes : RunGoes (setup_of input) a (budgets_in input) lab.rounds lab.end z
  observed : (w : World) → IsNetOf (setup_of input) z w → Observed (setup_of input) w lab

module _ (tell : LabsTellOfRuns) (input : LabInput) (accepted : IsAccepted input) (a z : Stand) (budgets : List Budget) (rounds : List ℕ) (end : RunEnd)
    (begins : BeginsFresh (setup_of input) input.faults a) (budgets_are : budgets ≡ budgets_in input) (goes : RunGoes (setup_of input) a budgets rounds end z)
    (actors : List Node) (journals : List (List JournalEntry)) (marks : List (List ℕ)) (left : List (Left Mail)) (edges : List (ℕ × ℕ))
    (actors_are : actors ≡ z.view.actors) (journals_are : HasJournals z.view journals) (marks_are : marks ≡ z.marks)
    (left_is : left ≡ items_left z.view edges) (edges_are : AreEdgesOf (setup_of input) edges) where
  ran_as_told : (lab : Lab) → lab.input ≡ input → lab.end ≡ end → lab.marks ≡ marks → lab.rounds ≡ rounds → Interleaves (λ k. get_or journals k []) lab.journal
      → ((w : World) → IsFinished (setup_of input) w actors left → Observed (setup_of input) w lab) → RanLab lab
  ran_as_told lab input_is end_is marks_is rounds_are merge seen = tell lab a z told.setup told.alone told.in_range told.soon told.sure
      (record {
        begins = told.begins.begins;
        fresh = told.begins.fresh;
        goes = told.goes;
        marks = marks_is ∙ marks_are;
        merged = merge_of z journals lab.journal journals_are merge;
        observed = told.observed;
      }) where
        here : IsTold input lab a z
        here = record {
          setup = is_setup input accepted;
          alone = is_alone input accepted;
          in_range = accepted_in_range accepted.bytes input accepted.is;
          soon = accepted_soon accepted.bytes input accepted.is;
          sure = sure_is_sure input accepted;
          begins = begins;
          goes = subst (λ (e : RunEnd). RunGoes (setup_of input) a (budgets_in input) lab.rounds e z) (sym end_is)
              (subst (λ (ns : List ℕ). RunGoes (setup_of input) a (budgets_in input) ns end z) (sym rounds_are)
              (subst (λ (bs : List Budget). RunGoes (setup_of input) a bs rounds end z) budgets_are goes));
          observed = λ w net. seen w (finished (setup_of input) z w actors left edges net actors_are edges_are left_is);
        }

        told : IsTold lab.input lab a z
        told = subst (λ (i : LabInput). IsTold i lab a z) (sym input_is) here

  -- the same of a lab that there may be
  pub all_told : (result : Result Lab NoMemory) → IfOk result (λ lab. lab.input ≡ input) → IfOk result (λ lab. lab.end ≡ end)
      → IfOk result (λ lab. lab.marks ≡ marks) → IfOk result (λ lab. lab.rounds ≡ rounds)
      → IfOk result (λ lab. Interleaves (λ k. get_or journals k []) lab.journal)
      → IfOk result (λ lab. (w : World) → IsFinished (setup_of input) w actors left → Observed (setup_of input) w lab) → IfOk result RanLab
  all_told (Ok lab) input_is end_is marks_is rounds_are merge seen = ran_as_told lab input_is end_is marks_is rounds_are merge seen
  all_told (Err e) input_is end_is marks_is rounds_are merge seen = tt
