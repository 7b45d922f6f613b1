-- The job that is read is the one that is given.
use Rattle.std.proofs.Common.{◌≡◌, ℕ, ◌+◌, [], ◌∷◌, ap, sym, ◌∙◌, refl, arith, codes, subst}
use Rattle.std.specs.Prelude.{Bool, true, false, if◌then◌else◌, Option, Some, None, is_some, option_map, IfSome, Err}
use Rattle.std.specs.Bool.{Decides}
use Rattle.std.specs.Str.{bytes_eq}
use Rattle.std.proofs.lemmas.Slice.Eq.{bytes_eq-Decides}
use Rattle.clap.specs.Words.{Text}
use Rattle.bgp_types.specs.Finds.{Finds}
use Rattle.bgp_types.specs.Prefixes.{PrefixValue}
use Rattle.bgp_types.specs.Texts.{IsPrefixText}
use Rattle.bgp_types.proofs.PrintedTexts.{IsPrefixText_unique}
use Rattle.bgp_types.proofs.TextLemmas.{IsAddressText_unique}
use Rattle.lab_words.specs.declared.arguments.Arguments.{Arguments}
use Rattle.lab_words.specs.declared.job.Form.{Form}
use Rattle.lab_words.specs.declared.job.Form.TheVariants.{Plain, Json}
use Rattle.lab_words.specs.declared.job.Job.{Job}
use Rattle.lab_words.specs.declared.job.Job.TheVariants.{Run, Check, Make, Drill, Journal, Audit, Capture, Import, Timeline, Show, Story, Why, Picture, Test}
use Rattle.lab_words.specs.declared.job.Job.TheVariants.{Help, Version}
use Rattle.lab_words.specs.declared.job.WordStop.{WordStop}
use Rattle.lab_words.specs.declared.job.WordStop.TheVariants.{Usage, NoMemory}
use Rattle.lab_words.specs.Asked.{given_by, IsSeed, IsAddress, IsWorkersText, IsReadAs, AreArguments, name_of, several, HasArguments, IsJob}
use Rattle.lab_words.specs.Reading.{Answers, unless, plain, workers_alone, check_with, audit_with, home_with, import_with}
use Rattle.lab_words.specs.Reading.{make_with, drill_with, story_with, why_with, job_named}

-- ---- what is read is what is taken, row by row

unless_so : {A B : Type 0} (P : B → Type 0) (o : Option A) (there : Option B) → (o ≡ None → IfSome there P) → IfSome (unless o there) P
unless_so P None there so = so refl
unless_so P (Some x) there so = tt

map_so : {A B : Type 0} (P : B → Type 0) (f : A → B) (o : Option A) → ((x : A) → o ≡ Some x → P (f x)) → IfSome (option_map f o) P
map_so P f None so = tt
map_so P f (Some x) so = so x refl

plain_so : (P : Job → Type 0) (form : Form) (there : Option Job) → (form ≡ Plain → IfSome there P) → IfSome (plain form there) P
plain_so P Plain there so = so refl
plain_so P Json there so = tt

-- the job has this name, and takes what stands beside it
abbrev Fits : Text → Arguments → Job → Type 0
Fits name given job = (name ≡ name_of job) × HasArguments given job

alone_fits : (name : Text) (given : Arguments) (of_workers : ℕ → Job)
    → ((given.subject ≡ None) × (given.prefix ≡ None) → Fits name given (of_workers (several given.workers)))
    → IfSome (option_map of_workers (workers_alone given.subject given.prefix given.workers)) (Fits name given)
alone_fits name given of_workers fits = alone given.subject given.prefix fits where
  alone : (subject : Option Text) (prefix : Option PrefixValue)
      → ((subject ≡ None) × (prefix ≡ None) → Fits name given (of_workers (several given.workers)))
      → IfSome (option_map of_workers (workers_alone subject prefix given.workers)) (Fits name given)
  alone None None fit = fit (refl, refl)
  alone None (Some p) fit = tt
  alone (Some s) prefix fit = tt

check_fits : (given : Arguments) → IfSome (check_with given.subject given.prefix given.workers given.form) (Fits (codes "check") given)
check_fits given =
    let P = Fits (codes "check") given in
    let check : Option Job = Some (Check given.form) in
    unless_so P given.subject (unless given.prefix (unless given.workers check))
    (λ s. unless_so P given.prefix (unless given.workers check) (λ p. unless_so P given.workers check (λ w. (refl, (s, p, w, refl)))))

audit_fits : (given : Arguments) → IfSome (plain given.form (audit_with given.subject given.prefix given.workers)) (Fits (codes "audit") given)
audit_fits given =
    let P = Fits (codes "audit") given in
    let audit : Option Job = Some Audit in
    plain_so P given.form (audit_with given.subject given.prefix given.workers)
    (λ f. unless_so P given.subject (unless given.prefix (unless given.workers audit))
    (λ s. unless_so P given.prefix (unless given.workers audit) (λ p. unless_so P given.workers audit (λ w. (refl, (s, p, w, f))))))

-- nothing is given, or an address
home_given : (subject : Option Text) (address home : Option ℕ) → home_with subject address ≡ Some home → (home ≡ address) × (is_some subject ≡ is_some address)
home_given None None home is = let e : home ≡ None = cc in (e, refl)
home_given None (Some a) home is = absurd (let e : ⊥ = cc in e)
home_given (Some text) None home is = absurd (let e : ⊥ = cc in e)
home_given (Some text) (Some a) home is = let e : home ≡ Some a = cc in (e, refl)

import_fits : (given : Arguments)
    → IfSome (plain given.form (import_with given.subject given.address given.prefix given.workers)) (Fits (codes "import") given)
import_fits given =
    let P = Fits (codes "import") given in
    let home = home_with given.subject given.address in
    plain_so P given.form (import_with given.subject given.address given.prefix given.workers)
    (λ f. unless_so P given.prefix (unless given.workers (option_map Import home))
    (λ p. unless_so P given.workers (option_map Import home)
    (λ w. map_so P Import home (λ h is. (refl, (home_given given.subject given.address h is, p, w, f))))))

make_fits : (given : Arguments) → IfSome (plain given.form (make_with given.seed given.prefix given.workers)) (Fits (codes "make") given)
make_fits given =
    let P = Fits (codes "make") given in
    plain_so P given.form (make_with given.seed given.prefix given.workers)
    (λ f. unless_so P given.prefix (unless given.workers (option_map Make given.seed))
    (λ p. unless_so P given.workers (option_map Make given.seed) (λ w. map_so P Make given.seed (λ n s. (refl, (s, p, w, f))))))

-- a job with workers that takes something, and no prefix beside it
several_fits : {A : Type 0} (name : Text) (given : Arguments) (about : Option A) (job : A → Job)
    → ((x : A) → about ≡ Some x → given.prefix ≡ None → Fits name given (job x)) → IfSome (unless given.prefix (option_map job about)) (Fits name given)
several_fits name given about job fits =
    unless_so (Fits name given) given.prefix (option_map job about) (λ p. map_so (Fits name given) job about (λ x is. fits x is p))

drill_fits : (given : Arguments) → IfSome (drill_with given.seed given.prefix given.workers given.form) (Fits (codes "drill") given)
drill_fits given =
    several_fits (codes "drill") given given.seed (λ (n : ℕ). Drill n (several given.workers) given.form) (λ n s p. (refl, (s, p, refl, refl)))

story_fits : (given : Arguments) → IfSome (plain given.form (story_with given.subject given.prefix given.workers)) (Fits (codes "story") given)
story_fits given =
    plain_so (Fits (codes "story") given) given.form (story_with given.subject given.prefix given.workers)
    (λ f. several_fits (codes "story") given given.subject (λ (peering : Text). Story peering (several given.workers))
    (λ peering s p. (refl, (s, p, refl, f))))

why_fits : (given : Arguments) → IfSome (why_with given.subject given.prefix given.workers given.form) (Fits (codes "why") given)
why_fits given = of_router given.subject refl where
  of_router : (subject : Option Text) → given.subject ≡ subject → IfSome (why_with subject given.prefix given.workers given.form) (Fits (codes "why") given)
  of_router None s = tt
  of_router (Some router) s =
      map_so (Fits (codes "why") given) (λ (prefix : PrefixValue). Why router prefix (several given.workers) given.form) given.prefix
      (λ prefix p. (refl, (s, p, refl, refl)))

-- a job with workers alone, that writes text or JSON, and one that writes text alone
formed_fits : (name : Text) (given : Arguments) (job : ℕ → Form → Job)
    → ((subject : given.subject ≡ None) → (prefix : given.prefix ≡ None) → Fits name given (job (several given.workers) given.form))
    → IfSome (option_map (λ (w : ℕ). job w given.form) (workers_alone given.subject given.prefix given.workers)) (Fits name given)
formed_fits name given job fits = alone_fits name given (λ (w : ℕ). job w given.form) (λ none. fits none.0 none.1)

plain_fits : (name : Text) (given : Arguments) (job : ℕ → Job)
    → ((subject : given.subject ≡ None) → (prefix : given.prefix ≡ None) → (form : given.form ≡ Plain) → Fits name given (job (several given.workers)))
    → IfSome (plain given.form (option_map job (workers_alone given.subject given.prefix given.workers))) (Fits name given)
plain_fits name given job fits =
    plain_so (Fits name given) given.form (option_map job (workers_alone given.subject given.prefix given.workers))
    (λ f. alone_fits name given job (λ none. fits none.0 none.1 f))

-- the row of a name, or the rows behind it
row : (name own : Text) (given : Arguments) (o others : Option Job) → IfSome o (Fits own given) → IfSome others (Fits name given)
    → IfSome (if bytes_eq name own then o else others) (Fits name given)
row name own given o others fits rest = by_test (bytes_eq name own) (bytes_eq-Decides name own) where
  by_test : (b : Bool) → Decides b (name ≡ own) → IfSome (if b then o else others) (Fits name given)
  by_test true is = subst (λ n. IfSome o (Fits n given)) (sym (is.0 refl)) fits
  by_test false is = rest

named_fits : (name : Text) (given : Arguments) → IfSome (job_named name given) (Fits name given)
named_fits name given =
    row name (codes "run") given _ _ (formed_fits (codes "run") given Run (λ s p. (refl, ((s, p, refl), refl))))
    (row name (codes "check") given _ _ (check_fits given)
    (row name (codes "make") given _ _ (make_fits given)
    (row name (codes "drill") given _ _ (drill_fits given)
    (row name (codes "journal") given _ _ (plain_fits (codes "journal") given Journal (λ s p f. (refl, ((s, p, refl), f))))
    (row name (codes "audit") given _ _ (audit_fits given)
    (row name (codes "capture") given _ _ (plain_fits (codes "capture") given Capture (λ s p f. (refl, ((s, p, refl), f))))
    (row name (codes "import") given _ _ (import_fits given)
    (row name (codes "timeline") given _ _ (formed_fits (codes "timeline") given Timeline (λ s p. (refl, ((s, p, refl), refl))))
    (row name (codes "show") given _ _ (formed_fits (codes "show") given Show (λ s p. (refl, ((s, p, refl), refl))))
    (row name (codes "story") given _ _ (story_fits given)
    (row name (codes "why") given _ _ (why_fits given)
    (row name (codes "picture") given _ _ (plain_fits (codes "picture") given Picture (λ s p f. (refl, ((s, p, refl), f))))
    (row name (codes "test") given _ None (formed_fits (codes "test") given Test (λ s p. (refl, ((s, p, refl), refl)))) tt)))))))))))))

-- ---- each job is read by its name: no row before its own has that name

home_read : (subject : Option Text) (address : Option ℕ) → is_some subject ≡ is_some address → home_with subject address ≡ Some address
home_read None None same = refl
home_read None (Some a) same = absurd (let e : ⊥ = cc in e)
home_read (Some text) None same = absurd (let e : ⊥ = cc in e)
home_read (Some text) (Some a) same = refl

pub read_by_name : (given : Arguments) (job : Job) → HasArguments given job → job_named (name_of job) given ≡ Some job
read_by_name given (Run workers form) has = rw (has.0.0, has.0.1, has.0.2, has.1) refl
read_by_name given (Check form) has = rw (has.0, has.1, has.2, has.3) refl
read_by_name given (Make seed) has = rw (has.0, has.1, has.2, has.3) refl
read_by_name given (Drill seed workers form) has = rw (has.0, has.1, has.2, has.3) refl
read_by_name given (Journal workers) has = rw (has.0.0, has.0.1, has.0.2, has.1) refl
read_by_name given Audit has = rw (has.0, has.1, has.2, has.3) refl
read_by_name given (Capture workers) has = rw (has.0.0, has.0.1, has.0.2, has.1) refl
read_by_name given (Import home) has = rw (has.1, has.2, has.3, home_read given.subject given.address has.0.1, has.0.0) refl
read_by_name given (Timeline workers form) has = rw (has.0.0, has.0.1, has.0.2, has.1) refl
read_by_name given (Show workers form) has = rw (has.0.0, has.0.1, has.0.2, has.1) refl
read_by_name given (Story peering workers) has = rw (has.0, has.1, has.2, has.3) refl
read_by_name given (Why router prefix workers form) has = rw (has.0, has.1, has.2, has.3) refl
read_by_name given (Picture workers) has = rw (has.0.0, has.0.1, has.0.2, has.1) refl
read_by_name given (Test workers form) has = rw (has.0.0, has.0.1, has.0.2, has.1) refl
read_by_name given Help has = absurd has
read_by_name given Version has = absurd has

-- ---- texts are read as one list of arguments

same_found : {A : Type 0} (Is : A → Type 0) → ((x y : A) → Is x → Is y → x ≡ y) → (a b : Option A) → Finds Is a → Finds Is b → a ≡ b
same_found Is one None None is also = refl
same_found Is one None (Some y) is also = absurd (is y also)
same_found Is one (Some x) None is also = absurd (also x is)
same_found Is one (Some x) (Some y) is also = ap Some (one x y is also)

one_seed : (text : Option Text) (x y : ℕ) → IsSeed text x → IsSeed text y → x ≡ y
one_seed None x y is also = absurd is
one_seed (Some text) x y is also = sym is.value ∙ also.value

one_address : (text : Option Text) (x y : ℕ) → IsAddress text x → IsAddress text y → x ≡ y
one_address None x y is also = absurd is
one_address (Some text) x y is also = IsAddressText_unique text x y is also

same_read : {A : Type 0} (Is : Text → A → Type 0) → ((text : Text) (x y : A) → Is text x → Is text y → x ≡ y) → (text : Option Text) (a b : Option A)
    → IsReadAs Is text a → IsReadAs Is text b → a ≡ b
same_read Is one None None None is also = refl
same_read Is one None None (Some y) is also = absurd also
same_read Is one None (Some x) b is also = absurd is
same_read Is one (Some text) None b is also = absurd is
same_read Is one (Some text) (Some x) None is also = absurd also
same_read Is one (Some text) (Some x) (Some y) is also = ap Some (one text x y is also)

head_is : (v w : ℕ) → v ∷ [] ≡ w ∷ [] → v ≡ w
head_is v w e = cc

one_number : (text : Text) (x y : ℕ) → IsWorkersText text x → IsWorkersText text y → x ≡ y
one_number text x y is also =
    let same : 48 + x ≡ 48 + y = head_is (48 + x) (48 + y) (sym is.2 ∙ also.2) in
    omega arith

abbrev arguments : Option Text → (seed address : Option ℕ) → Option PrefixValue → Option ℕ → Form → Arguments
arguments subject seed address prefix workers form =
    record { subject = subject; seed = seed; address = address; prefix = prefix; workers = workers; form = form }

same_arguments : (subject prefix workers json : Option Text) (a b : Arguments) → AreArguments subject prefix workers json a
    → AreArguments subject prefix workers json b → a ≡ b
same_arguments subject prefix workers json a b is also =
    let s : a.subject ≡ b.subject = is.as_subject ∙ sym also.as_subject in
    let n : a.seed ≡ b.seed = same_found (IsSeed subject) (one_seed subject) a.seed b.seed is.as_seed also.as_seed in
    let h : a.address ≡ b.address = same_found (IsAddress subject) (one_address subject) a.address b.address is.as_address also.as_address in
    let p : a.prefix ≡ b.prefix = same_read IsPrefixText IsPrefixText_unique prefix a.prefix b.prefix is.as_prefix also.as_prefix in
    let w : a.workers ≡ b.workers = same_read IsWorkersText one_number workers a.workers b.workers is.as_workers also.as_workers in
    let f : a.form ≡ b.form = is.as_form ∙ sym also.as_form in
    ap (λ x. arguments x a.seed a.address a.prefix a.workers a.form) s ∙ ap (λ x. arguments b.subject x a.address a.prefix a.workers a.form) n
    ∙ ap (λ x. arguments b.subject b.seed x a.prefix a.workers a.form) h ∙ ap (λ x. arguments b.subject b.seed b.address x a.workers a.form) p
    ∙ ap (λ x. arguments b.subject b.seed b.address b.prefix x a.form) w ∙ ap (λ x. arguments b.subject b.seed b.address b.prefix b.workers x) f

-- ---- the job of what is given

some_is : (a b : Text) → Some a ≡ Some b → a ≡ b
some_is a b e = cc

-- a given job is the one that its name and its arguments are read as
pub job_by_name : (name : Text) (subject prefix workers json : Option Text) (given : Arguments) (job : Job)
    → AreArguments subject prefix workers json given → IsJob (given_by (Some name) subject prefix workers json) job → job_named name given ≡ Some job
job_by_name name subject prefix workers json given job are is =
    let same = same_arguments subject prefix workers json given is.1.0 are is.1.1 in
    let named = some_is name (name_of job) is.0 in
    ap (λ n. job_named n given) named ∙ ap (job_named (name_of job)) same ∙ read_by_name is.1.0 job is.1.2

some_no_none : (job : Job) → None ≡ Some job → ⊥
some_no_none job e = let f : ⊥ = cc in f

pub job_found : (job : Option Text) (name : Text) (subject prefix workers json : Option Text) (given : Arguments) (o : Option Job)
    → AreArguments subject prefix workers json given → job ≡ Some name → o ≡ job_named name given
    → Finds (IsJob (given_by job subject prefix workers json)) o
job_found job name subject prefix workers json given None are named same =
    λ found is. some_no_none found (same ∙ job_by_name name subject prefix workers json given found are (sym named ∙ is.0, is.1))
job_found job name subject prefix workers json given (Some found) are named same =
    let fits : Fits name given found = subst (λ o. IfSome o (Fits name given)) (sym same) (named_fits name given) in
    (named ∙ ap Some fits.0, (given, are, fits.1))

-- no job is given where its arguments can't be read
pub unread_arguments : (job subject prefix workers json : Option Text) (e : WordStop) → Answers (AreArguments subject prefix workers json) (Err e)
    → Answers (IsJob (given_by job subject prefix workers json)) (Err e)
unread_arguments job subject prefix workers json Usage none = λ found is. none is.1.0 is.1.1
unread_arguments job subject prefix workers json NoMemory none = tt
