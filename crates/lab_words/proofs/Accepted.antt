-- What `clap` says of a line, beside the answer.
use Rattle.std.proofs.Common.{◌≡◌, List, [], ◌∷◌, ap, sym, ◌∙◌, refl, inl, inr, subst}
use Rattle.std.specs.Prelude.{true, Result, Ok, Err}
use Rattle.clap.specs.Words.{App, Row, Text, fault_of, matches_of, is_simple, is_simple_and_free, HasKind, IsAmong, Kinds, kind_of}
use Rattle.clap.specs.declared.error.Error.{Error}
use Rattle.clap.specs.declared.error.kind.ErrorKind.{ErrorKind}
use Rattle.clap.specs.declared.error.kind.ErrorKind.TheVariants.{OutOfMemory}
use Rattle.clap.proofs.OnLiterals.{clap_on_literals}
use Rattle.lab_words.specs.declared.job.Job.{Job}
use Rattle.lab_words.specs.declared.job.WordStop.{WordStop}
use Rattle.lab_words.specs.declared.job.WordStop.TheVariants.{Usage, NoMemory}
use Rattle.lab_words.specs.Asked.{graft_command, faults_of, rows_read, given_in, IsJob, AskInLine}
use Rattle.lab_words.specs.Reading.{Answers}

pub is_simple-graft : is_simple graft_command ≡ true
unfolding clap_on_literals
is_simple-graft = refl

pub is_free-graft : is_simple_and_free graft_command ≡ true
unfolding clap_on_literals
is_free-graft = refl

pub faults_of-none : (a : App) (line : List Text) → a ≡ graft_command → fault_of a line ≡ [] → faults_of line ≡ []
unfolding faults_of
faults_of-none a line same none = ap (λ (b : App). fault_of b line) (sym same) ∙ none

pub rows_read-is : (a : App) (line : List Text) (rows : List Row) → a ≡ graft_command → rows ≡ matches_of a line → rows ≡ rows_read line
unfolding rows_read
rows_read-is a line rows same read = read ∙ ap (λ (b : App). matches_of b line) same

-- the job of a line that `clap` accepts
pub accepted_line : (line : List Text) (rows : List Row) (r : Result Job WordStop) → faults_of line ≡ [] → rows ≡ rows_read line
    → Answers (IsJob (given_in rows)) r → Answers (AskInLine line) r
accepted_line line rows (Ok job) none same is = (none, subst (λ read. IsJob (given_in read) job) same is)
accepted_line line rows (Err Usage) none same never = λ job is. never job (subst (λ read. IsJob (given_in read) job) (sym same) is.1)
accepted_line line rows (Err NoMemory) none same is = tt

no_fault : (k : ErrorKind) (kinds : Kinds) → IsAmong k kinds → kinds ≡ [] → ⊥
no_fault k [] among none = absurd among
no_fault k (x ∷ xs) among none = let f : ⊥ = cc in f

-- a line that `clap` refuses, but for memory, has a fault
pub refused_line : (a : App) (line : List Text) (e : Error) → a ≡ graft_command → HasKind (fault_of a line) e → (kind_of e ≡ OutOfMemory → ⊥)
    → faults_of line ≡ [] → ⊥
unfolding faults_of
refused_line a line e same has other none =
    elim has [
      | inl memory ↦ other memory
      | inr among ↦ no_fault (kind_of e) (fault_of a line) among (ap (λ (b : App). fault_of b line) same ∙ none)
    ]
