-- How what is given is read, row by row. `Asked` defines which words ask for a job; that this agrees with it is a lemma.
use Rattle.std.specs.Prelude.{ℕ, ◌&&◌, ◌-◌, nat_le, if◌then◌else◌, [], ◌∷◌, Option, Some, None, option_map, Result, Ok, Err, codes}
use Rattle.std.specs.Str.{bytes_eq}
use Rattle.clap.specs.Words.{Text}
use Rattle.bgp_types.specs.Prefixes.{PrefixValue}
use Rattle.lab_words.specs.declared.arguments.Arguments.{Arguments}
use Rattle.lab_words.specs.declared.job.Form.{Form}
use Rattle.lab_words.specs.declared.job.Form.TheVariants.{Plain, Json}
use Rattle.lab_words.specs.declared.job.Job.{Job}
use Rattle.lab_words.specs.declared.job.Job.TheVariants.{Run, Check, Make, Drill, Journal, Audit, Capture, Import, Timeline, Show, Story, Why, Picture, Test}
use Rattle.lab_words.specs.declared.job.WordStop.{WordStop}
use Rattle.lab_words.specs.declared.job.WordStop.TheVariants.{Usage, NoMemory}
use Rattle.lab_words.specs.Asked.{several}

-- A value of the kind, or the usage where there is none; or memory ran out.
abbrev pub Answers : {A : Type 0} → (A → Type 0) → Result A WordStop → Type 0
Answers Is (Ok value) = Is value
Answers {A} Is (Err Usage) = (value : A) → ¬ (Is value)
Answers Is (Err NoMemory) = Unit {0}

abbrev pub workers_of : Text → Option ℕ
workers_of (d ∷ []) = if nat_le 49 d && nat_le d 56 then Some (d - 48) else None
workers_of _ = None

-- the second, where the first isn't given
abbrev pub unless : {A B : Type 0} → Option A → Option B → Option B
unless None there = there
unless (Some given) there = None

-- a job that writes text alone, if text is asked for
abbrev pub plain : Form → Option Job → Option Job
plain Plain job = job
plain Json job = None

abbrev pub workers_alone : Option Text → Option PrefixValue → Option ℕ → Option ℕ
workers_alone subject prefix workers = unless subject (unless prefix (Some (several workers)))

abbrev pub check_with : Option Text → Option PrefixValue → Option ℕ → Form → Option Job
check_with subject prefix workers form = unless subject (unless prefix (unless workers (Some (Check form))))

abbrev pub audit_with : Option Text → Option PrefixValue → Option ℕ → Option Job
audit_with subject prefix workers = unless subject (unless prefix (unless workers (Some Audit)))

-- no address, where nothing is given; or the address that is
abbrev pub home_with : Option Text → Option ℕ → Option (Option ℕ)
home_with None None = Some None
home_with (Some text) (Some address) = Some (Some address)
home_with _ _ = None

abbrev pub import_with : Option Text → Option ℕ → Option PrefixValue → Option ℕ → Option Job
import_with subject address prefix workers = unless prefix (unless workers (option_map Import (home_with subject address)))

abbrev pub make_with : Option ℕ → Option PrefixValue → Option ℕ → Option Job
make_with seed prefix workers = unless prefix (unless workers (option_map Make seed))

abbrev pub drill_with : Option ℕ → Option PrefixValue → Option ℕ → Form → Option Job
drill_with seed prefix workers form = unless prefix (option_map (λ n. Drill n (several workers) form) seed)

abbrev pub story_with : Option Text → Option PrefixValue → Option ℕ → Option Job
story_with subject prefix workers = unless prefix (option_map (λ peering. Story peering (several workers)) subject)

abbrev pub why_with : Option Text → Option PrefixValue → Option ℕ → Form → Option Job
why_with (Some router) prefix workers form = option_map (λ p. Why router p (several workers) form) prefix
why_with None prefix workers form = None

-- the job by its name
abbrev pub job_named : Text → Arguments → Option Job
job_named name given =
    if bytes_eq name (codes "run") then option_map (λ w. Run w given.form) (workers_alone given.subject given.prefix given.workers)
    else (if bytes_eq name (codes "check") then check_with given.subject given.prefix given.workers given.form
    else (if bytes_eq name (codes "make") then plain given.form (make_with given.seed given.prefix given.workers)
    else (if bytes_eq name (codes "drill") then drill_with given.seed given.prefix given.workers given.form
    else (if bytes_eq name (codes "journal") then plain given.form (option_map Journal (workers_alone given.subject given.prefix given.workers))
    else (if bytes_eq name (codes "audit") then plain given.form (audit_with given.subject given.prefix given.workers)
    else (if bytes_eq name (codes "capture") then plain given.form (option_map Capture (workers_alone given.subject given.prefix given.workers))
    else (if bytes_eq name (codes "import") then plain given.form (import_with given.subject given.address given.prefix given.workers)
    else (if bytes_eq name (codes "timeline") then option_map (λ w. Timeline w given.form) (workers_alone given.subject given.prefix given.workers)
    else (if bytes_eq name (codes "show") then option_map (λ w. Show w given.form) (workers_alone given.subject given.prefix given.workers)
    else (if bytes_eq name (codes "story") then plain given.form (story_with given.subject given.prefix given.workers)
    else (if bytes_eq name (codes "why") then why_with given.subject given.prefix given.workers given.form
    else (if bytes_eq name (codes "picture") then plain given.form (option_map Picture (workers_alone given.subject given.prefix given.workers))
    else (if bytes_eq name (codes "test") then option_map (λ w. Test w given.form) (workers_alone given.subject given.prefix given.workers)
    else None)))))))))))))
