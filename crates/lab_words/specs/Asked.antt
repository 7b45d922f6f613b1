-- Which words are a command of the program, and the job that they ask for.
use Rattle.std.specs.Prelude.{◌≡◌, ℕ, ◌+◌, ◌<◌, ◌≤◌, true, List, [], ◌∷◌, ◌++◌, length, Option, Some, None, is_some, codes, if◌then◌else◌}
use Rattle.std.specs.Str.{bytes_eq}
use Rattle.std.specs.Str.Parse.{IsNumeral, digits_value}
use Rattle.clap.specs.Words.{App, Row, Rule, Text, first_of, matches_of, new_app, new_rule, with_rule, fault_of, Kinds}
use Rattle.bgp_types.specs.Finds.{Finds}
use Rattle.bgp_types.specs.Texts.{IsAddressText, IsPrefixText}
use Rattle.clap.specs.declared.builder.action.ArgAction.TheVariants.{SetTrue}
use Rattle.lab_words.specs.declared.arguments.Arguments.{Arguments}
use Rattle.lab_words.specs.declared.job.Form.{Form}
use Rattle.lab_words.specs.declared.job.Form.TheVariants.{Plain, Json}
use Rattle.lab_words.specs.declared.job.Job.{Job}
use Rattle.lab_words.specs.declared.job.Job.TheVariants.{Run, Check, Make, Drill, Journal, Audit, Capture, Import, Timeline, Show, Story, Why, Picture, Test}
use Rattle.lab_words.specs.declared.job.Job.TheVariants.{Help, Version}

-- the usage line of the program
abbrev pub usage_text : List ℕ
usage_text =
    codes "usage: graftlab run|check|make N|drill N|journal|audit|capture|import [HOME]"
    ++ codes "|show|timeline|why ROUTER PREFIX|story PEERING|picture|test [--workers W] [--json]" ++ 10 ∷ []

-- the version line of the program
abbrev pub version_text : List ℕ
version_text = codes "graftlab 0.1.0" ++ 10 ∷ []

-- ---- the command that `clap` reads: a text `job`, maybe a text `subject`, maybe a text `prefix`, an option `--workers` with a text, and a flag `--json`

abbrev pub job_rule : Rule
job_rule = record (new_rule (codes "job")) { required = true }

abbrev pub subject_rule : Rule
subject_rule = new_rule (codes "subject")

abbrev pub prefix_rule : Rule
prefix_rule = new_rule (codes "prefix")

abbrev pub workers_rule : Rule
workers_rule = record (new_rule (codes "workers")) { long = Some (codes "workers") }

abbrev pub json_rule : Rule
json_rule = record (new_rule (codes "json")) { long = Some (codes "json"); action = Some SetTrue }

-- the texts by their places, and with them the option and the flag
abbrev pub placed_command : App
placed_command = with_rule (with_rule (with_rule (new_app (codes "graftlab")) job_rule) subject_rule) prefix_rule

abbrev pub graft_command : App
graft_command = with_rule (with_rule placed_command workers_rule) json_rule

-- the words of a command after the name of the program
abbrev pub line_of : List Text → List Text
line_of words = codes "graftlab" ∷ words

-- the kinds of fault that `clap` finds in a line: none if it accepts the line
unfoldable pub faults_of : List Text → Kinds
faults_of line = fault_of graft_command line

-- what `clap` reads from a line that it accepts
unfoldable pub rows_read : List Text → List Row
rows_read line = matches_of graft_command line

-- the texts that are given for `job`, for `subject`, for `prefix`, for `--workers` and for `--json`
pub record Given : Type 0 where
  pub job : Option Text
  pub subject : Option Text
  pub prefix : Option Text
  pub workers : Option Text
  pub json : Option Text

abbrev pub given_by : (job subject prefix workers json : Option Text) → Given
given_by job subject prefix workers json = record { job = job; subject = subject; prefix = prefix; workers = workers; json = json }

abbrev pub given_in : List Row → Given
given_in rows =
    given_by (first_of (codes "job") rows) (first_of (codes "subject") rows) (first_of (codes "prefix") rows) (first_of (codes "workers") rows)
    (first_of (codes "json") rows)

-- ---- what stands beside the name of a job

-- The text writes a seed: 1 to 4 decimal digits of a value above 0.
pub record IsSeedText (text : Text) (seed : ℕ) : Type 0 where
  pub digits : IsNumeral 10 text
  pub short : length text ≤ 4
  pub value : digits_value 10 text ≡ seed
  pub above : 0 < seed

abbrev pub IsSeed : Option Text → ℕ → Type 0
IsSeed None seed = ⊥
IsSeed (Some text) seed = IsSeedText text seed

abbrev pub IsAddress : Option Text → ℕ → Type 0
IsAddress None address = ⊥
IsAddress (Some text) address = IsAddressText text address

-- The text writes a number of workers: one digit from 1 to 8.
abbrev pub IsWorkersText : Text → ℕ → Type 0
IsWorkersText text workers = (1 ≤ workers) × (workers ≤ 8) × (text ≡ (48 + workers) ∷ [])

-- What is given is read as this: nothing as nothing, and a text as the value that it writes.
abbrev pub IsReadAs : {A : Type 0} → (Text → A → Type 0) → Option Text → Option A → Type 0
IsReadAs Is None None = Unit {0}
IsReadAs Is None (Some value) = ⊥
IsReadAs Is (Some text) None = ⊥
IsReadAs Is (Some text) (Some value) = Is text value

-- the form that is asked for: `clap` gives a flag the text `true` where it stands in the line
abbrev pub form_of : Option Text → Form
form_of None = Plain
form_of (Some text) = if bytes_eq text (codes "true") then Json else Plain

-- These texts are read as these arguments: a subject is kept as it is, and is a seed or an address where it writes one.
pub record AreArguments (subject prefix workers json : Option Text) (arguments : Arguments) : Type 0 where
  pub as_subject : arguments.subject ≡ subject
  pub as_seed : Finds (IsSeed subject) arguments.seed
  pub as_address : Finds (IsAddress subject) arguments.address
  pub as_prefix : IsReadAs IsPrefixText prefix arguments.prefix
  pub as_workers : IsReadAs IsWorkersText workers arguments.workers
  pub as_form : arguments.form ≡ form_of json

-- ---- the jobs

-- the word that names a job
abbrev pub name_of : Job → Text
name_of (Run workers form) = codes "run"
name_of (Check form) = codes "check"
name_of (Make seed) = codes "make"
name_of (Drill seed workers form) = codes "drill"
name_of (Journal workers) = codes "journal"
name_of Audit = codes "audit"
name_of (Capture workers) = codes "capture"
name_of (Import home) = codes "import"
name_of (Timeline workers form) = codes "timeline"
name_of (Show workers form) = codes "show"
name_of (Story peering workers) = codes "story"
name_of (Why router prefix workers form) = codes "why"
name_of (Picture workers) = codes "picture"
name_of (Test workers form) = codes "test"
name_of Help = codes "--help"
name_of Version = codes "--version"

-- the number of workers: 2 if none is given
abbrev pub several : Option ℕ → ℕ
several None = 2
several (Some workers) = workers

-- Nothing but maybe a number of workers is given.
abbrev pub AreWorkersAlone : Arguments → ℕ → Type 0
AreWorkersAlone arguments workers = (arguments.subject ≡ None) × (arguments.prefix ≡ None) × (workers ≡ several arguments.workers)

-- Nothing is given, or an address.
abbrev pub IsHome : Arguments → Option ℕ → Type 0
IsHome arguments home = (home ≡ arguments.address) × (is_some arguments.subject ≡ is_some arguments.address)

-- What stands beside the name of a job. `--help` and `--version` are names of no line.
abbrev pub HasArguments : Arguments → Job → Type 0
HasArguments given (Run workers form) = AreWorkersAlone given workers × (form ≡ given.form)
HasArguments given (Check form) = (given.subject ≡ None) × (given.prefix ≡ None) × (given.workers ≡ None) × (form ≡ given.form)
HasArguments given (Make seed) = (given.seed ≡ Some seed) × (given.prefix ≡ None) × (given.workers ≡ None) × (given.form ≡ Plain)
HasArguments given (Drill seed workers form) =
    (given.seed ≡ Some seed) × (given.prefix ≡ None) × (workers ≡ several given.workers) × (form ≡ given.form)
HasArguments given (Journal workers) = AreWorkersAlone given workers × (given.form ≡ Plain)
HasArguments given Audit = (given.subject ≡ None) × (given.prefix ≡ None) × (given.workers ≡ None) × (given.form ≡ Plain)
HasArguments given (Capture workers) = AreWorkersAlone given workers × (given.form ≡ Plain)
HasArguments given (Import home) =
    IsHome given home × (given.prefix ≡ None) × (given.workers ≡ None) × (given.form ≡ Plain)
HasArguments given (Timeline workers form) = AreWorkersAlone given workers × (form ≡ given.form)
HasArguments given (Show workers form) = AreWorkersAlone given workers × (form ≡ given.form)
HasArguments given (Story peering workers) =
    (given.subject ≡ Some peering) × (given.prefix ≡ None) × (workers ≡ several given.workers) × (given.form ≡ Plain)
HasArguments given (Why router prefix workers form) =
    (given.subject ≡ Some router) × (given.prefix ≡ Some prefix) × (workers ≡ several given.workers) × (form ≡ given.form)
HasArguments given (Picture workers) = AreWorkersAlone given workers × (given.form ≡ Plain)
HasArguments given (Test workers form) = AreWorkersAlone given workers × (form ≡ given.form)
HasArguments given Help = ⊥
HasArguments given Version = ⊥

-- What is given beside the name is read as what the job takes.
abbrev pub TakesGiven : Given → Job → Type 0
TakesGiven given job = (arguments : Arguments) × AreArguments given.subject given.prefix given.workers given.json arguments × HasArguments arguments job

-- A job is given by its name, with what it takes beside it.
abbrev pub IsJob : Given → Job → Type 0
IsJob given job = (given.job ≡ Some (name_of job)) × TakesGiven given job

-- A line asks for the job: `clap` accepts it, and what it reads is this job.
abbrev pub AskInLine : List Text → Job → Type 0
AskInLine line job = (faults_of line ≡ []) × IsJob (given_in (rows_read line)) job

-- The words ask for the job: `--help` and `--version` alone do, and other words by the line that they are.
abbrev pub Asks : List Text → Job → Type 0
Asks words Help = words ≡ codes "--help" ∷ []
Asks words Version = words ≡ codes "--version" ∷ []
Asks words job = AskInLine (line_of words) job

-- ---- the numbers of a job

abbrev pub AreFew : ℕ → Type 0
AreFew workers = (1 ≤ workers) × (workers ≤ 8)

abbrev pub IsSmall : ℕ → Type 0
IsSmall seed = (1 ≤ seed) × (seed ≤ 9999)

-- There are 1 to 8 workers, and a seed is 1 to 9,999.
abbrev pub HasNumbers : Job → Type 0
HasNumbers (Run workers form) = AreFew workers
HasNumbers (Make seed) = IsSmall seed
HasNumbers (Drill seed workers form) = IsSmall seed × AreFew workers
HasNumbers (Journal workers) = AreFew workers
HasNumbers (Capture workers) = AreFew workers
HasNumbers (Timeline workers form) = AreFew workers
HasNumbers (Show workers form) = AreFew workers
HasNumbers (Story peering workers) = AreFew workers
HasNumbers (Why router prefix workers form) = AreFew workers
HasNumbers (Picture workers) = AreFew workers
HasNumbers (Test workers form) = AreFew workers
HasNumbers _ = Unit {0}
