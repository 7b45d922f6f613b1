-- What stands above the lanes, and below them.
use Rattle.std.specs.Prelude.{ℕ, ◌+◌, ◌*◌, List, ◌++◌, length, filter, codes, decimal}
use Rattle.std.specs.List.{flat_map, enumerate_from}
use Rattle.graft_steps.specs.declared.log.GraftEntry.{GraftEntry}
use Rattle.lab_tables.specs.declared.input.LabInput.{LabInput}
use Rattle.lab_report.specs.declared.lab.Lab.{Lab}
use Rattle.lab_report.specs.Report.{end_line, graft_line}
use Rattle.lab_report.specs.Summary.{was_refused}
use Rattle.picture_view.specs.declared.plan.Plan.{Plan}
use Rattle.picture_view.specs.Elements.{escaped, text_start, text_at}
use Rattle.picture_view.specs.Plans.{last_round}
use Rattle.picture_view.specs.Positions.{bottom_y}

-- ---- refused grafts

-- the n-th of the refused grafts, as in the report
unfoldable pub refused_line : LabInput → Plan → ℕ × GraftEntry → List ℕ
refused_line input plan g = text_at (codes "t") 16 (bottom_y plan + 36 + 16 * g.0) (graft_line input g.1)

unfoldable pub refused_text : LabInput → Plan → List GraftEntry → List ℕ
refused_text input plan log = flat_map (refused_line input plan) (enumerate_from 0 (filter was_refused log))

-- ---- the head

unfoldable pub root_start : (width height : ℕ) → List ℕ
root_start width height = codes "<svg xmlns='http://www.w3.org/2000/svg' width='" ++ decimal width ++ codes "' height='" ++ decimal height
    ++ codes "' viewBox='0 0 " ++ decimal width ++ codes " " ++ decimal height ++ codes "'>\n"

unfoldable pub paper : (width height : ℕ) → List ℕ
paper width height = codes "<rect class='p' width='" ++ decimal width ++ codes "' height='" ++ decimal height ++ codes "'/>\n"

-- texts, the paper, lanes, and the names in front of rows
abbrev pub text_style : List ℕ
text_style = codes "text{font:11px DejaVu Sans,Verdana,sans-serif;fill:#333}path{fill:none}.p{fill:#fff}.e{fill:#f0f2f5}\n"
    ++ codes ".h{font-size:18px;font-weight:bold}.r{font-size:12px;font-weight:bold}.n{font-size:10px;text-anchor:end}\n"
    ++ codes ".l{font-size:10px;fill:#666}.a{font-size:10px;fill:#666;text-anchor:middle}.g{font-size:9px}\n"
    ++ codes ".r,.n,.g{paint-order:stroke;stroke:#f0f2f5;stroke-width:3px}\n"

-- a stay, a dot, a way, a kept place, a cross, a round, a beginning; and the colours of peerings, which colour-blind readers tell apart
abbrev pub path_style : List ℕ
path_style = codes ".s{stroke-width:3px;stroke-linecap:round}.d{stroke-width:7px;stroke-linecap:round}\n"
    ++ codes ".w{stroke-width:2px;stroke-dasharray:5 3}.k{stroke-width:1px;stroke-dasharray:2 3}\n"
    ++ codes ".x{stroke:#000;stroke-width:2px}.o{stroke:#d4d9e0}.b{stroke:#999;stroke-width:2px}\n"
    ++ codes ".c0{stroke:#332288}.c1{stroke:#cc6677}.c2{stroke:#44aa99}.c3{stroke:#882255}\n"
    ++ codes ".c4{stroke:#88ccee}.c5{stroke:#117733}.c6{stroke:#aa4499}\n"

unfoldable pub style_text : List ℕ
style_text = codes "<style>" ++ text_style ++ path_style ++ codes "</style>\n"

-- how the run ended, as in the report
unfoldable pub title_words : Lab → List ℕ
title_words lab = codes "Sessions and grafts: " ++ escaped (end_line lab.input lab.end)

unfoldable pub counts_words : Lab → List ℕ
counts_words lab = codes "routers " ++ decimal (length lab.input.routers) ++ codes ", peerings " ++ decimal (length lab.input.peerings)
    ++ codes ", grafts " ++ decimal (length lab.log) ++ codes ", rounds " ++ decimal (last_round (length lab.marks))

unfoldable pub titles : Lab → List ℕ
titles lab = text_start (codes "h") 16 30 ++ title_words lab ++ codes "</text>\n"
    ++ text_start (codes "t") 16 50 ++ counts_words lab ++ codes "</text>\n"

-- what each shape says
unfoldable pub legend : List ℕ
legend = codes "<path class='s c0' d='M16 78h32'/><text x='56' y='82'>at a router</text>\n"
    ++ codes "<path class='w c0' d='M144 84C160 84 160 72 176 72'/><text x='184' y='82'>on its way</text>\n"
    ++ codes "<path class='k c0' d='M272 78h32'/><text x='312' y='82'>its place kept at the source</text>\n"
    ++ codes "<path class='d c0' d='M500 78h0'/><text class='g' x='507' y='76'>7</text><text x='520' y='82'>landed by graft 7</text>\n"
    ++ codes "<path class='x' d='M639 73l10 10m0 -10l-10 10'/><text x='656' y='82'>refused</text>\n"
    ++ codes "<path class='b' d='M728 70v16'/><text x='736' y='82'>a group of the script begins</text>\n"

unfoldable pub head_text : Lab → (width height : ℕ) → List ℕ
head_text lab width height = root_start width height
    ++ codes "<title>" ++ title_words lab ++ codes "</title>\n" ++ style_text
    ++ paper width height ++ titles lab ++ legend
