-- Words ask for one job; and what holds of each job.
use Rattle.std.proofs.Common.{◌≡◌, ℕ, List, inl, inr, refl, sym, ap, subst}
use Rattle.std.specs.Prelude.{◌⊎◌, Option, Some, None}
use Rattle.lab_words.specs.declared.job.Form.{Form}
use Rattle.lab_words.specs.declared.job.Job.{Job}
use Rattle.lab_words.specs.declared.job.Job.TheVariants as jobs
use Rattle.lab_words.specs.Asked.{Asks}
use Rattle.lab_words.proofs.Answers.{one_job}
use Rattle.lab_make.specs.Made.{made}
use Rattle.lab_report.specs.declared.lab.Lab.{Lab}
use Rattle.lab_top.specs.declared.views.ViewName.{ViewName}
use Rattle.lab_top.specs.declared.views.ViewName.TheVariants as names
use Rattle.lab_top.specs.Views.{ShowsView, viewing}
use Rattle.lab_top.specs.Ends.{AreRefused, AskToAudit, AskToCheck, AskToImport, RunsSource, AskForLab, AskToMake, AskForLine, AskUnread, TookBadInput}
use Rattle.lab_top.specs.Ends.{end_status}
use Rattle.lab_top.specs.Cases.{TookWhole, ReadsSource, RunsLab, plain_text, Gives, Refuses, Tells, job_status}

-- what holds of the job that is asked for holds of a job that the same words ask for
pub of_asked : (P : Job → Type 0) (words : List (List ℕ)) (job asked : Job) → Asks words job → Asks words asked → P job → P asked
of_asked P words job asked ask also = subst P (one_job words job asked ask also)

none_some : (a : List ℕ) → None ≡ Some a → ⊥
none_some a e = let f : ⊥ = cc in f

-- ---- kinds of jobs

pub plain_is_no_lab : (job : Job) (text : List ℕ) → plain_text job ≡ Some text → RunsLab job → ⊥
plain_is_no_lab (jobs.Make seed) text is lab = lab
plain_is_no_lab jobs.Help text is lab = lab
plain_is_no_lab jobs.Version text is lab = lab
plain_is_no_lab _ text is lab = none_some text is

pub plain_reads_none : (job : Job) (text : List ℕ) → plain_text job ≡ Some text → ReadsSource job → ⊥
plain_reads_none (jobs.Make seed) text is reads = reads
plain_reads_none jobs.Help text is reads = reads
plain_reads_none jobs.Version text is reads = reads
plain_reads_none _ text is reads = none_some text is

pub views_run : (view : ViewName) (workers : ℕ) → RunsLab (viewing view workers)
views_run (names.Timeline form) workers = tt
views_run (names.Show form) workers = tt
views_run (names.Story name) workers = tt
views_run (names.Why name prefix form) workers = tt
views_run names.Picture workers = tt

-- a job that runs what it reads
pub refuses_of : (job : Job) (before after : Option (List ℕ)) (text : List ℕ) → ReadsSource job → TookBadInput before after text
    → Refuses job before after text
refuses_of (jobs.Drill seed workers form) before after text reads took = absurd reads
refuses_of _ before after text reads took = took

pub gives_of : (job : Job) (before after : Option (List ℕ)) (bytes : List ℕ) → ReadsSource job → TookWhole before after bytes
    → Gives job before after bytes
gives_of (jobs.Drill seed workers form) before after bytes reads took = absurd reads
gives_of _ before after bytes reads took = took

pub took_of : (job : Job) (before after : Option (List ℕ)) (bytes : List ℕ) → ReadsSource job → Gives job before after bytes
    → TookWhole before after bytes
took_of (jobs.Drill seed workers form) before after bytes reads gives = absurd reads
took_of _ before after bytes reads gives = gives

pub views_read : (view : ViewName) (workers : ℕ) → ReadsSource (viewing view workers)
views_read (names.Timeline form) workers = tt
views_read (names.Show form) workers = tt
views_read (names.Story name) workers = tt
views_read (names.Why name prefix form) workers = tt
views_read names.Picture workers = tt

pub view_told : (view : ViewName) (workers : ℕ) (bytes : List ℕ) (lab : Lab) (text : List ℕ) → ShowsView lab view text
    → Tells (viewing view workers) bytes lab text
view_told (names.Timeline form) workers bytes lab text shows = shows
view_told (names.Show form) workers bytes lab text shows = shows
view_told (names.Story name) workers bytes lab text shows = shows
view_told (names.Why name prefix form) workers bytes lab text shows = shows
view_told names.Picture workers bytes lab text shows = shows

pub view_shown : (view : ViewName) (workers : ℕ) (bytes : List ℕ) (lab : Lab) (text : List ℕ) → Tells (viewing view workers) bytes lab text
    → ShowsView lab view text
view_shown (names.Timeline form) workers bytes lab text tells = tells
view_shown (names.Show form) workers bytes lab text tells = tells
view_shown (names.Story name) workers bytes lab text tells = tells
view_shown (names.Why name prefix form) workers bytes lab text tells = tells
view_shown names.Picture workers bytes lab text tells = tells

-- a view is written under the status of its run
pub view_status : (view : ViewName) (workers : ℕ) (lab : Lab) → job_status (viewing view workers) lab ≡ end_status lab.end
view_status (names.Timeline form) workers lab = refl
view_status (names.Show form) workers lab = refl
view_status (names.Story name) workers lab = refl
view_status (names.Why name prefix form) workers lab = refl
view_status names.Picture workers lab = refl

-- ---- what words ask for

-- they ask for a run where their job runs a laboratory
pub lab_asked : (words : List (List ℕ)) (job : Job) → Asks words job → RunsLab job → AskForLab words
lab_asked words (jobs.Run workers form) ask lab = inl (inl (form, (workers, ask)))
lab_asked words (jobs.Drill seed workers form) ask lab = inr (seed, (form, (workers, ask)))
lab_asked words (jobs.Journal workers) ask lab = inl (inr (inl (workers, ask)))
lab_asked words (jobs.Capture workers) ask lab = inl (inr (inr (inl (workers, ask))))
lab_asked words (jobs.Timeline workers form) ask lab = inl (inr (inr (inr (inr (names.Timeline form, (workers, ask))))))
lab_asked words (jobs.Show workers form) ask lab = inl (inr (inr (inr (inr (names.Show form, (workers, ask))))))
lab_asked words (jobs.Story name workers) ask lab = inl (inr (inr (inr (inr (names.Story name, (workers, ask))))))
lab_asked words (jobs.Why name prefix workers form) ask lab = inl (inr (inr (inr (inr (names.Why name prefix form, (workers, ask))))))
lab_asked words (jobs.Picture workers) ask lab = inl (inr (inr (inr (inr (names.Picture, (workers, ask))))))
lab_asked words (jobs.Test workers form) ask lab = inl (inr (inr (inr (inl (form, (workers, ask))))))
lab_asked words _ ask lab = absurd lab

-- the job that words ask for
abbrev Asked : List (List ℕ) → (Job → Type 0) → Type 0
Asked words Is = (job : Job) × Asks words job × Is job

abbrev Both : Job → Type 0
Both job = RunsLab job × ReadsSource job

source_job : (words : List (List ℕ)) → RunsSource words → Asked words Both
source_job words (inl run) = (jobs.Run run.1.0 run.0, run.1.1, (tt, tt))
source_job words (inr (inl journal)) = (jobs.Journal journal.0, journal.1, (tt, tt))
source_job words (inr (inr (inl capture))) = (jobs.Capture capture.0, capture.1, (tt, tt))
source_job words (inr (inr (inr (inl test)))) = (jobs.Test test.1.0 test.0, test.1.1, (tt, tt))
source_job words (inr (inr (inr (inr view)))) = (viewing view.0 view.1.0, view.1.1, (views_run view.0 view.1.0, views_read view.0 view.1.0))

lab_job : (words : List (List ℕ)) → AskForLab words → Asked words RunsLab
lab_job words (inl source) = let job = source_job words source in (job.0, job.1, job.2.0)
lab_job words (inr drill) = (jobs.Drill drill.0 drill.1.1.0 drill.1.0, drill.1.1.1, tt)

pub reads_source : (words : List (List ℕ)) (job : Job) → Asks words job → RunsSource words → ReadsSource job
reads_source words job ask source = let asked = source_job words source in of_asked ReadsSource words asked.0 job asked.1 ask asked.2.1

pub runs_lab : (words : List (List ℕ)) (job : Job) → Asks words job → AskForLab words → RunsLab job
runs_lab words job ask run = let asked = lab_job words run in of_asked RunsLab words asked.0 job asked.1 ask asked.2

pub none_run : (words : List (List ℕ)) → AreRefused words → AskForLab words → ⊥
none_run words none run = let asked = lab_job words run in none asked.0 asked.1

-- the plain text that a line is
line_job : (words : List (List ℕ)) (line : List ℕ) → AskForLine words line → Asked words (λ job. plain_text job ≡ Some line)
line_job words line (inl help) = (jobs.Help, help.0, ap Some (sym help.1))
line_job words line (inr version) = (jobs.Version, version.0, ap Some (sym version.1))

pub line_asked : (words : List (List ℕ)) (line : List ℕ) (job : Job) → AskForLine words line → Asks words job → plain_text job ≡ Some line
line_asked words line job is ask =
    let asked = line_job words line is in of_asked (λ j. plain_text j ≡ Some line) words asked.0 job asked.1 ask asked.2

pub make_asked : (words : List (List ℕ)) (seed : ℕ) (job : Job) → Asks words (jobs.Make seed) → Asks words job → plain_text job ≡ Some (made seed)
make_asked words seed job make ask = of_asked (λ j. plain_text j ≡ Some (made seed)) words (jobs.Make seed) job make ask refl

-- words that are refused, or ask for a job without a run
pub no_lab : (words : List (List ℕ)) (job : Job) → Asks words job
    → AreRefused words ⊎ AskToMake words ⊎ ((form : Form) × AskToCheck words form) ⊎ AskToAudit words ⊎ ((home : Option ℕ) × AskToImport words home)
    ⊎ ((line : List ℕ) × AskForLine words line) → RunsLab job → ⊥
no_lab words job ask (inl none) lab = none job ask
no_lab words job ask (inr (inl make)) lab = plain_is_no_lab job (made make.0) (make_asked words make.0 job make.1 ask) lab
no_lab words job ask (inr (inr (inl check))) lab = of_asked RunsLab words job (jobs.Check check.0) ask check.1 lab
no_lab words job ask (inr (inr (inr (inl audit)))) lab = of_asked RunsLab words job jobs.Audit ask audit lab
no_lab words job ask (inr (inr (inr (inr (inl imported))))) lab = of_asked RunsLab words job (jobs.Import imported.0) ask imported.1 lab
no_lab words job ask (inr (inr (inr (inr (inr line))))) lab = plain_is_no_lab job line.0 (line_asked words line.0 job line.1 ask) lab

pub unread_job : (words : List (List ℕ)) (job : Job) → Asks words job → AskUnread words → ¬ (ReadsSource job)
unread_job words job ask (inl none) = λ reads. none job ask
unread_job words job ask (inr (inl make)) = plain_reads_none job (made make.0) (make_asked words make.0 job make.1 ask)
unread_job words job ask (inr (inr (inl drill))) = of_asked ReadsSource words job (jobs.Drill drill.0 drill.1.1.0 drill.1.0) ask drill.1.1.1
unread_job words job ask (inr (inr (inr line))) = plain_reads_none job line.0 (line_asked words line.0 job line.1 ask)
