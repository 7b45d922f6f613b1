-- The words of an input, and what each of them stands for.
use Rattle.std.specs.Prelude.{ℕ, List, [], ◌∷◌, map, Option, Some, None, codes, if◌then◌else◌}
use Rattle.std.specs.Str.{bytes_eq}
use Rattle.bgp_types.specs.declared.attrs.Origin.{Origin}
use Rattle.bgp_types.specs.declared.attrs.Origin.TheVariants.{Igp, Egp, Incomplete}
use Rattle.tcp_seq.specs.declared.segment.Way.{Way}
use Rattle.tcp_seq.specs.declared.segment.Way.TheVariants.{Home, Remote}
use Rattle.link_bag.specs.declared.plan.FaultKind.{FaultKind}
use Rattle.link_bag.specs.declared.plan.FaultKind.TheVariants.{Lose, Repeat, Hold, Stray}
use Rattle.lab_keys.specs.declared.words.StepWord.{StepWord}
use Rattle.lab_keys.specs.declared.words.StepWord.TheVariants.{Announces, Withdraws, SaysRaw, Grafts, Settles, Evacuates}

-- ---- vocabularies: lists of words, each with what it stands for

-- what a text stands for by the first row that has it
abbrev pub word_in : {V : Type 0} → List (List ℕ × V) → List ℕ → Option V
word_in [] text = None
word_in (row ∷ rows) text = if bytes_eq text row.0 then Some row.1 else word_in rows text

abbrev pub words_of : {V : Type 0} → List (List ℕ × V) → List (List ℕ)
words_of rows = map (λ row. row.0) rows

-- the origin of a route (RFC 4271, section 4.3)
abbrev pub origin_words : List (List ℕ × Origin)
origin_words = (codes "igp", Igp) ∷ (codes "egp", Egp) ∷ (codes "incomplete", Incomplete) ∷ []

abbrev pub origin_in : List ℕ → Option Origin
origin_in text = word_in origin_words text

-- the side that a segment goes to
abbrev pub way_words : List (List ℕ × Way)
way_words = (codes "home", Home) ∷ (codes "remote", Remote) ∷ []

abbrev pub way_in : List ℕ → Option Way
way_in text = word_in way_words text

-- what a planned fault does to its segment
abbrev pub fault_kind_words : List (List ℕ × FaultKind)
fault_kind_words = (codes "lose", Lose) ∷ (codes "repeat", Repeat) ∷ (codes "hold", Hold) ∷ (codes "stray", Stray) ∷ []

abbrev pub fault_kind_in : List ℕ → Option FaultKind
fault_kind_in text = word_in fault_kind_words text

-- what a step does
abbrev pub step_words : List (List ℕ × StepWord)
step_words =
    (codes "announce", Announces)
    ∷ (codes "withdraw", Withdraws)
    ∷ (codes "raw", SaysRaw)
    ∷ (codes "graft", Grafts)
    ∷ (codes "settle", Settles)
    ∷ (codes "evacuate", Evacuates)
    ∷ []

abbrev pub step_word_in : List ℕ → Option StepWord
step_word_in text = word_in step_words text
