-- How a run goes, as its loops make it: rounds of a group, and groups one behind the other.
use Rattle.std.specs.Prelude.{ℕ, ◌≡◌, ◌≢◌, ◌+◌, ◌⊎◌, ◌↔◌, List, [], ◌∷◌, ◌++◌, sum, Bool, true, false, Option, Some, None, length}
use Rattle.graft_model.specs.Setups.{Setup}
use Rattle.graft_model.specs.Parts.{World}
use Rattle.operator_state.specs.Holds.{IsHeldUp}
use Rattle.world_runs.specs.Marks.{operator_number}
use Rattle.world_nodes.specs.Looks.{IsWorldAt}
use Rattle.world_nodes.specs.Ways.{Stand, Round, Pause}
use Rattle.lab_report.specs.declared.lab.RunEnd.{RunEnd}
use Rattle.lab_report.specs.declared.lab.RunEnd.TheVariants.{Settled}
use Rattle.node_configs.specs.declared.budget.Budget.{Budget}
use Rattle.lab_run.specs.declared.end.Verdict.{Verdict}
use Rattle.lab_run.specs.declared.end.Verdict.TheVariants.{GoesOn, IsQuiet, Ends}
use Rattle.lab_run.specs.Ends.{Names}

-- a round from one stand to another, whose mark names this of whatever world of a run the net is then
pub record RoundNames (setup : Setup) (budget : Budget) (step rounds : ℕ) (a b : Stand) (verdict : Verdict) : Type 0 where
  pub round : Round a b
  pub names : (w : World) → IsWorldAt setup b w → Names setup w budget (record { events = sum round.marked.mark; step = step; rounds = rounds }) verdict

-- what is decided at the last mark of a group: how the run ends, or that the group is at its end
abbrev pub verdict_of : Option RunEnd → Verdict
verdict_of None = IsQuiet
verdict_of (Some end) = Ends end

-- this many rounds of a group, at each of whose marks another round is decided on
pub data MakesRounds (setup : Setup) (budget : Budget) (step : ℕ) (a : Stand) : ℕ → Stand → Type 0 where
  NoRound : MakesRounds setup budget step a 0 a
  OneMore : (n : ℕ) {b c : Stand} → MakesRounds setup budget step a n b → RoundNames setup budget step (n + 1) b c GoesOn
      → MakesRounds setup budget step a (n + 1) c

-- the rounds of a group up to the mark that names something else
pub record GroupGoes (setup : Setup) (budget : Budget) (step : ℕ) (a : Stand) (rounds : ℕ) (verdict : Verdict) (b : Stand) : Type 0 where
  pub past : ℕ
  pub before : Stand
  pub goes : MakesRounds setup budget step a past before
  pub last : RoundNames setup budget step (past + 1) before b verdict
  pub rounds_is : rounds ≡ past + 1

-- the next group begins, or it doesn't, exactly where it may not
pub record PassesPause (setup : Setup) (a b : Stand) (answer : Bool) : Type 0 where
  pub pause : Pause (operator_number setup) a b answer
  pub held : (w : World) → IsWorldAt setup a w → (answer ≡ false) ↔ IsHeldUp setup w.operator

-- the same, as the end of a group answers it: another group begins, or the run is settled
abbrev pub PassAnswers : Setup → Stand → Stand → Option RunEnd → Type 0
PassAnswers setup a b None = PassesPause setup a b true
PassAnswers setup a b (Some end) = (end ≡ Settled) × PassesPause setup a b false

-- A group from its beginning to the beginning of the next one, or to how the run ends: by a limit or its budget, or settled.
pub record GroupAnswers (setup : Setup) (budget : Budget) (step : ℕ) (a : Stand) (rounds : ℕ) (end : Option RunEnd) (b : Stand) : Type 0 where
  pub limit : Option RunEnd
  pub marked : Stand
  pub group : GroupGoes setup budget step a rounds (verdict_of limit) marked
  pub then_is : ((limit ≡ end) × (end ≢ None) × (b ≡ marked)) ⊎ ((limit ≡ None) × PassAnswers setup marked b end)

-- groups that came to their end, each with its budget and its rounds, and behind each the next one began
pub data GroupsGo (setup : Setup) (a : Stand) : List Budget → List ℕ → Stand → Type 0 where
  NoGroup : GroupsGo setup a [] [] a
  NextGroup : (budgets : List Budget) (budget : Budget) (made : List ℕ) (rounds : ℕ) {b c d : Stand} → GroupsGo setup a budgets made b
      → GroupGoes setup budget (length budgets + 1) b rounds IsQuiet c
      → PassesPause setup c d true → GroupsGo setup a (budgets ++ budget ∷ []) (made ++ rounds ∷ []) d

-- The last group ends the run by a limit, or it comes to its end and no other one may begin. These are the budgets and rounds of all groups that have begun.
pub record RunGoes (setup : Setup) (a : Stand) (budgets : List Budget) (made : List ℕ) (end : RunEnd) (b : Stand) : Type 0 where
  pub past : List Budget
  pub rounds : List ℕ
  pub begun : Stand
  pub groups : GroupsGo setup a past rounds begun
  pub budget : Budget
  pub verdict : Verdict
  pub last : ℕ
  pub marked : Stand
  pub group : GroupGoes setup budget (length past + 1) begun last verdict marked
  pub made_is : made ≡ rounds ++ last ∷ []
  pub first : (later : List Budget) × (budgets ≡ past ++ budget ∷ later)
  pub ends : ((verdict ≡ Ends end) × (b ≡ marked)) ⊎ ((verdict ≡ IsQuiet) × (end ≡ Settled) × PassesPause setup marked b false)
