-- What is written in a form that words ask for: lines of text, or one JSON object.
use Rattle.std.specs.Prelude.{ℕ, List}
use Rattle.bgp_types.specs.Prefixes.{PrefixValue}
use Rattle.lab_tables.specs.declared.input.LabInput.{LabInput}
use Rattle.lab_words.specs.declared.job.Form.{Form}
use Rattle.lab_words.specs.declared.job.Form.TheVariants.{Plain, Json}
use Rattle.lab_setup.specs.Setups.{setup_of}
use Rattle.even_inputs.specs.Evenness.{is_even}
use Rattle.sure_inputs.specs.Sure.{is_sure}
use Rattle.lab_report.specs.declared.lab.Lab.{Lab}
use Rattle.lab_report.specs.CheckText.{check_text}
use Rattle.lab_report.specs.Traces.{IsReport}
use Rattle.lab_report.specs.Summary.{summary_text}
use Rattle.report_json.specs.Values.{json_line}
use Rattle.report_json.specs.Check.{check_json}
use Rattle.report_json.specs.Traces.{IsReportJson}
use Rattle.report_json.specs.Summary.{summary_json}
use Rattle.timeline_view.specs.Timeline.{timeline_text}
use Rattle.view_json.specs.Timeline.{timeline_json}
use Rattle.show_view.specs.Show.{show_text}
use Rattle.show_json.specs.Show.{show_json}
use Rattle.why_view.specs.Why.{why_text}
use Rattle.view_json.specs.Why.{why_json}
use Rattle.expect_view.specs.Expect.{test_text}
use Rattle.expect_json.specs.Verdicts.{test_json}

-- what a check says of an input: whether it is even and sure
abbrev pub accepted_in : Form → LabInput → List ℕ
accepted_in Plain input = check_text input (is_even (setup_of input)) (is_sure input)
accepted_in Json input = json_line (check_json input (is_even (setup_of input)) (is_sure input))

-- The text is the report of a run.
abbrev pub IsReportIn : Form → Lab → List ℕ → Type 0
IsReportIn Plain lab text = IsReport lab text
IsReportIn Json lab text = IsReportJson lab text

abbrev pub summary_in : Form → Lab → List ℕ
summary_in Plain lab = summary_text lab
summary_in Json lab = json_line (summary_json lab)

-- which expectations of a run hold
abbrev pub test_in : Form → Lab → List ℕ
test_in Plain lab = test_text lab
test_in Json lab = json_line (test_json lab)

abbrev pub timeline_in : Form → Lab → List ℕ
timeline_in Plain lab = timeline_text lab
timeline_in Json lab = json_line (timeline_json lab)

abbrev pub show_in : Form → Lab → List ℕ
show_in Plain lab = show_text lab
show_in Json lab = json_line (show_json lab)

abbrev pub why_in : Form → Lab → (router : ℕ) → PrefixValue → List ℕ
why_in Plain lab router prefix = why_text lab router prefix
why_in Json lab router prefix = json_line (why_json lab router prefix)
