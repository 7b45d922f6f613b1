-- The picture of a run.
use Rattle.std.specs.Prelude.{ℕ, List, ◌++◌, count_by, codes}
use Rattle.std.specs.List.{flat_map, enumerate_from}
use Rattle.lab_report.specs.declared.lab.Lab.{Lab}
use Rattle.lab_report.specs.Summary.{was_refused}
use Rattle.picture_view.specs.declared.plan.Plan.{Plan}
use Rattle.picture_view.specs.Axes.{axes_text, names_text}
use Rattle.picture_view.specs.Heads.{head_text, refused_text}
use Rattle.picture_view.specs.Plans.{plan_of}
use Rattle.picture_view.specs.Positions.{width_of, height_of}
use Rattle.picture_view.specs.Shapes.{kept_from, bow_from, first_stay, stay_from, mark_from}

-- Where sessions were: places that were kept for them, their ways, their stays, and marks. What comes later lies above.
unfoldable pub shapes_text : Lab → Plan → List ℕ
shapes_text lab plan = flat_map (kept_from plan) plan.points
    ++ flat_map (bow_from lab.input plan) plan.points
    ++ flat_map (first_stay lab.input plan) (enumerate_from 0 lab.input.peerings)
    ++ flat_map (stay_from lab.input plan) plan.points
    ++ flat_map (mark_from lab.input plan) plan.points

-- the head with its legend; lanes, rounds and groups; where sessions were; the names of routers and peerings; and the refused grafts
unfoldable pub text_of : Lab → Plan → List ℕ
text_of lab plan = head_text lab (width_of plan) (height_of plan (count_by was_refused lab.log))
    ++ axes_text plan
    ++ shapes_text lab plan
    ++ names_text lab.input plan
    ++ refused_text lab.input plan lab.log
    ++ codes "</svg>\n"

unfoldable pub picture_text : Lab → List ℕ
picture_text lab = text_of lab (plan_of lab)
