-- What is said of words that ask for no job.
use Rattle.std.specs.Prelude.{List, [], ◌∷◌, ◌++◌, map, slice_get, Option, Some, None, codes, if◌then◌else◌}
use Rattle.std.specs.Str.{bytes_eq}
use Rattle.clap.specs.Words.{Text}
use Rattle.near_names.specs.Nearness.{nearest}
use Rattle.lab_words.specs.Asked.{usage_text}

-- what a job takes that takes workers alone
abbrev pub workers_alone_form : Text
workers_alone_form = codes "this job takes --workers W, with W from 1 to 8, and nothing else; its input comes on standard input: graftlab run < lab.toml"

-- what a job takes that takes workers and a form alone
abbrev pub formed_form : Text
formed_form = codes "this job takes --workers W, with W from 1 to 8, and --json, and nothing else"
    ++ codes "; its input comes on standard input: graftlab run < lab.toml"

-- the jobs in the order of the usage line, each with what it takes
abbrev pub job_forms : List (Text × Text)
job_forms =
    (codes "run", formed_form)
    ∷ (codes "check", codes "check takes --json and nothing else; its input comes on standard input: graftlab check < lab.toml")
    ∷ (codes "make", codes "make takes a seed from 1 to 9999: graftlab make 7")
    ∷ (codes "drill", codes "drill takes a seed from 1 to 9999, and maybe --workers W, with W from 1 to 8, and --json: graftlab drill 7")
    ∷ (codes "journal", workers_alone_form)
    ∷ (codes "audit", codes "audit takes nothing else; the text of a journal comes on standard input: graftlab audit < journal.txt")
    ∷ (codes "capture", workers_alone_form)
    ∷ (codes "import", codes "import takes maybe the address of the home side; a capture comes on standard input: graftlab import 192.0.2.2 < run.pcap")
    ∷ (codes "show", formed_form)
    ∷ (codes "timeline", formed_form)
    ∷ (codes "why", codes "why takes a router and a prefix, and maybe --workers W, with W from 1 to 8, and --json: graftlab why east 10.0.0.0/8 < lab.toml")
    ∷ (codes "story", codes "story takes a peering, and maybe --workers W, with W from 1 to 8: graftlab story c1 < lab.toml")
    ∷ (codes "picture", workers_alone_form)
    ∷ (codes "test", formed_form)
    ∷ []

-- what stands behind the first of these names that is this one
abbrev pub form_at : List (Text × Text) → Text → Option Text
form_at [] name = None
form_at (row ∷ rows) name = if bytes_eq name row.0 then Some row.1 else form_at rows name

abbrev pub form_of : Text → Option Text
form_of name = form_at job_forms name

abbrev pub job_names : List Text
job_names = map (λ row. row.0) job_forms

abbrev pub jobs_words : Text
jobs_words = codes "the first word is a job: run check make drill journal audit capture import show timeline why story picture test"
    ++ codes "; an input comes on standard input: graftlab run < lab.toml"

-- the job that may be meant, or all of them
abbrev pub meant_words : Option Text → Text
meant_words None = jobs_words
meant_words (Some name) = codes "no job is called so; did you mean " ++ name ++ codes "?"

-- what is said of a first word: what the job of this name takes, or which job it may mean
abbrev pub named_words : Text → Option Text → Text
named_words word None = meant_words (nearest job_names word)
named_words word (Some form) = form

abbrev pub first_hint : Option Text → Text
first_hint None = jobs_words
first_hint (Some word) = named_words word (form_of word)

abbrev pub words_hint : List Text → Text
words_hint words = first_hint (slice_get words 0)

-- the usage line, and a hint in a line of its own
abbrev pub refused_text : List Text → Text
refused_text words = usage_text ++ codes "hint: " ++ words_hint words ++ 10 ∷ []
