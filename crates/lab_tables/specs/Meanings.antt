-- What the words and names of a table stand for. The defaults stand where a word is missing or unknown, so that the table has a flaw.
use Rattle.std.specs.Prelude.{ℕ, List, Option, option_and_then, unwrap_or, codes}
use Rattle.std.specs.List.{position}
use Rattle.std.specs.Str.{bytes_eq}
use Rattle.toml.specs.Data.{Members}
use Rattle.bgp_types.specs.declared.attrs.Origin.{Origin}
use Rattle.tcp_seq.specs.declared.segment.Way.{Way}
use Rattle.tcp_seq.specs.declared.segment.Way.TheVariants.{Home}
use Rattle.link_bag.specs.declared.plan.FaultKind.{FaultKind}
use Rattle.link_bag.specs.declared.plan.FaultKind.TheVariants.{Lose}
use Rattle.lab_keys.specs.declared.words.StepWord.{StepWord}
use Rattle.lab_keys.specs.declared.words.StepWord.TheVariants.{Announces}
use Rattle.lab_keys.specs.Words.{origin_in, way_in, fault_kind_in, step_word_in}
use Rattle.lab_keys.specs.Values.{maybe_text, text_at}

abbrev pub origin_at : List ℕ → Members → Option Origin
origin_at key t = option_and_then origin_in (maybe_text key t)

-- the side that a fault's segment goes to
abbrev pub way_at : Members → Way
way_at t = unwrap_or (way_in (text_at (codes "way") t)) Home

abbrev pub fault_kind_at : Members → FaultKind
fault_kind_at t = unwrap_or (fault_kind_in (text_at (codes "kind") t)) Lose

-- what a step does; the default neither ends a group nor evacuates
abbrev pub word_at : Members → StepWord
word_at t = unwrap_or (step_word_in (text_at (codes "do") t)) Announces

-- the index of a name among others
abbrev pub index_of_name : List (List ℕ) → List ℕ → ℕ
index_of_name names text = unwrap_or (position (bytes_eq text) names) 0
