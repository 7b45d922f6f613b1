-- The job that is read of the words is the one that they ask for.
use Rattle.std.proofs.Common.{◌≡◌, ℕ, List, [], ◌∷◌, length, slice_get, ap, sym, ◌∙◌, refl, arith, codes, subst}
use Rattle.std.specs.Prelude.{Option, Some, None, Result, Ok, Err, IfOk}
use Rattle.clap.specs.Words.{Text, Kinds}
use Rattle.clap.specs.declared.error.kind.ErrorKind.{ErrorKind}
use Rattle.clap.proofs.OnLiterals.{clap_on_literals}
use Rattle.bgp_types.specs.Finds.{Finds}
use Rattle.lab_words.specs.declared.job.Job.{Job}
use Rattle.lab_words.specs.declared.job.Job.TheVariants.{Run, Check, Make, Drill, Journal, Audit, Capture, Import, Timeline, Show, Story, Why, Picture, Test}
use Rattle.lab_words.specs.declared.job.Job.TheVariants.{Help, Version}
use Rattle.lab_words.specs.declared.job.WordStop.{WordStop}
use Rattle.lab_words.specs.declared.job.WordStop.TheVariants.{Usage}
use Rattle.lab_words.specs.Asked.{line_of, faults_of, name_of, several, IsSeed, IsWorkersText, IsReadAs, AskInLine, Asks, AreFew, IsSmall, HasNumbers}
use Rattle.lab_words.specs.Reading.{Answers}
use Rattle.lab_words.proofs.Values.{seed_is_small}
use Rattle.lab_words.proofs.Rows.{job_by_name, read_by_name}

-- ---- one word alone

pub one_word : (words : List Text) (word : Text) → length words ≡ 1 → slice_get words 0 ≡ Some word → words ≡ word ∷ []
one_word [] word one get = absurd (omega (arith, one))
one_word (w ∷ []) word one get = let same : w ≡ word = cc in ap (λ (v : Text). v ∷ []) same
one_word (v ∷ w ∷ more) word one get = absurd (omega (arith, one))

is_one : (words : List Text) (word : Text) → words ≡ word ∷ [] → length words ≡ 1
is_one words word is = ap length is

pub not_one : (words : List Text) → (length words ≡ 1 → ⊥) → ¬ (Asks words Help) × ¬ (Asks words Version)
not_one words never = (λ help. never (is_one words _ help), λ version. never (is_one words _ version))

head_is : (v w : Text) → v ∷ [] ≡ w ∷ [] → v ≡ w
head_is v w e = cc

pub no_word : (words : List Text) (word : Text) → words ≡ word ∷ [] → (word ≡ codes "--help" → ⊥) → (word ≡ codes "--version" → ⊥)
    → ¬ (Asks words Help) × ¬ (Asks words Version)
no_word words word is help version = (λ h. help (head_is _ _ (sym is ∙ h)), λ v. version (head_is _ _ (sym is ∙ v)))

-- ---- a line

in_line : (words : List Text) (job : Job) → AskInLine (line_of words) job → Asks words job
in_line words Help is = absurd is.1.1.2
in_line words Version is = absurd is.1.1.2
in_line words _ is = is

of_line : (words : List Text) (job : Job) → ¬ (Asks words Help) × ¬ (Asks words Version) → Asks words job → AskInLine (line_of words) job
of_line words Help none is = absurd (none.0 is)
of_line words Version none is = absurd (none.1 is)
of_line words _ none is = is

pub line_asked : (words line : List Text) (r : Result Job WordStop) → line ≡ line_of words → Answers (AskInLine line) r → IfOk r (Asks words)
line_asked words line (Err e) same is = tt
line_asked words line (Ok job) same is = in_line words job (subst (λ l. AskInLine l job) same is)

pub line_refused : (words line : List Text) (r : Result Job WordStop) → line ≡ line_of words → Answers (AskInLine line) r
    → ¬ (Asks words Help) × ¬ (Asks words Version) → r ≡ Err Usage → (job : Job) → ¬ (Asks words job)
line_refused words line r same is none refused =
    let never : Answers (AskInLine line) (Err Usage) = subst (Answers (AskInLine line)) refused is in
    λ job asks. never job (subst (λ l. AskInLine l job) (sym same) (of_line words job none asks))

-- ---- the numbers of a job

few : (text : Option Text) (workers : Option ℕ) (n : ℕ) → IsReadAs IsWorkersText text workers → n ≡ several workers → AreFew n
few text None n is same = (omega arith, omega arith)
few None (Some w) n is same = absurd is
few (Some text) (Some w) n is same = subst AreFew (sym same) (is.0, is.1)

small_by : (text : Option Text) (n : ℕ) → IsSeed text n → IsSmall n
small_by None n is = absurd is
small_by (Some text) n is = seed_is_small text n is

small : (text : Option Text) (seed : Option ℕ) (n : ℕ) → Finds (IsSeed text) seed → seed ≡ Some n → IsSmall n
small text seed n is same = small_by text n (subst (Finds (IsSeed text)) same is)

numbers_in_line : (line : List Text) (job : Job) → AskInLine line job → HasNumbers job
numbers_in_line line (Run workers form) is = few _ _ workers is.1.1.1.as_workers is.1.1.2.0.2
numbers_in_line line (Check form) is = tt
numbers_in_line line (Make seed) is = small _ _ seed is.1.1.1.as_seed is.1.1.2.0
numbers_in_line line (Drill seed workers form) is = (small _ _ seed is.1.1.1.as_seed is.1.1.2.0, few _ _ workers is.1.1.1.as_workers is.1.1.2.2)
numbers_in_line line (Journal workers) is = few _ _ workers is.1.1.1.as_workers is.1.1.2.0.2
numbers_in_line line Audit is = tt
numbers_in_line line (Capture workers) is = few _ _ workers is.1.1.1.as_workers is.1.1.2.0.2
numbers_in_line line (Import home) is = tt
numbers_in_line line (Timeline workers form) is = few _ _ workers is.1.1.1.as_workers is.1.1.2.0.2
numbers_in_line line (Show workers form) is = few _ _ workers is.1.1.1.as_workers is.1.1.2.0.2
numbers_in_line line (Story peering workers) is = few _ _ workers is.1.1.1.as_workers is.1.1.2.2
numbers_in_line line (Why router prefix workers form) is = few _ _ workers is.1.1.1.as_workers is.1.1.2.2
numbers_in_line line (Picture workers) is = few _ _ workers is.1.1.1.as_workers is.1.1.2.0.2
numbers_in_line line (Test workers form) is = few _ _ workers is.1.1.1.as_workers is.1.1.2.0.2
numbers_in_line line Help is = tt
numbers_in_line line Version is = tt

pub numbers_of : (words : List Text) (job : Job) → Asks words job → HasNumbers job
numbers_of words Help asks = tt
numbers_of words Version asks = tt
numbers_of words job asks = numbers_in_line (line_of words) job asks

pub numbers_answered : (words : List Text) (r : Result Job WordStop) → IfOk r (Asks words) → IfOk r HasNumbers
numbers_answered words (Ok job) asks = numbers_of words job asks
numbers_answered words (Err e) asks = tt

-- ---- words ask for one job

same_job : (a b : Job) → Some a ≡ Some b → a ≡ b
same_job a b e = cc

one_given : (line : List Text) (a b : Job) → AskInLine line a → AskInLine line b → a ≡ b
one_given line a b is also =
    let named = read_by_name is.1.1.0 a is.1.1.2 in
    same_job a b (sym named ∙ job_by_name (name_of a) _ _ _ _ is.1.1.0 b is.1.1.1 (sym is.1.0 ∙ also.1.0, also.1.1))

no_faults : (k : ErrorKind) (ks : Kinds) → k ∷ ks ≡ [] → ⊥
no_faults k ks e = let f : ⊥ = cc in f

help_faults : faults_of (line_of (codes "--help" ∷ [])) ≡ [] → ⊥
unfolding faults_of clap_on_literals
help_faults e = no_faults _ _ e

version_faults : faults_of (line_of (codes "--version" ∷ [])) ≡ [] → ⊥
unfolding faults_of clap_on_literals
version_faults e = no_faults _ _ e

no_help : (words : List Text) (job : Job) → words ≡ codes "--help" ∷ [] → AskInLine (line_of words) job → ⊥
no_help words job help is = help_faults (subst (λ w. faults_of (line_of w) ≡ []) help is.0)

no_version : (words : List Text) (job : Job) → words ≡ codes "--version" ∷ [] → AskInLine (line_of words) job → ⊥
no_version words job version is = version_faults (subst (λ w. faults_of (line_of w) ≡ []) version is.0)

other_word : (words : List Text) → words ≡ codes "--help" ∷ [] → words ≡ codes "--version" ∷ [] → ⊥
other_word words help version = let f : ⊥ = cc in f

only_help : (words : List Text) (job : Job) → words ≡ codes "--help" ∷ [] → Asks words job → Help ≡ job
only_help words Help help asks = refl
only_help words Version help asks = absurd (other_word words help asks)
only_help words job help asks = absurd (no_help words job help asks)

only_version : (words : List Text) (job : Job) → words ≡ codes "--version" ∷ [] → Asks words job → Version ≡ job
only_version words Help version asks = absurd (other_word words asks version)
only_version words Version version asks = refl
only_version words job version asks = absurd (no_version words job version asks)

only_in_line : (words : List Text) (a b : Job) → AskInLine (line_of words) a → Asks words b → a ≡ b
only_in_line words a Help is help = absurd (no_help words a help is)
only_in_line words a Version is version = absurd (no_version words a version is)
only_in_line words a b is asks = one_given (line_of words) a b is asks

pub one_job : (words : List Text) (a b : Job) → Asks words a → Asks words b → a ≡ b
one_job words Help b help asks = only_help words b help asks
one_job words Version b version asks = only_version words b version asks
one_job words a b is asks = only_in_line words a b is asks
