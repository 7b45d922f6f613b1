-- The lanes of routers, the rounds and groups along, and the names.
use Rattle.std.specs.Prelude.{ℕ, ◌+◌, ◌-◌, ◌*◌, List, ◌++◌, codes, decimal}
use Rattle.std.specs.List.{flat_map, enumerate_from, range_with_len}
use Rattle.lab_tables.specs.declared.input.LabInput.{LabInput}
use Rattle.lab_report.specs.Report.{router_name, peering_name}
use Rattle.picture_view.specs.declared.plan.GroupStart.{GroupStart}
use Rattle.picture_view.specs.declared.plan.Plan.{Plan}
use Rattle.picture_view.specs.Elements.{text_at, number_at, down_line}
use Rattle.picture_view.specs.Positions.{eighth, column_x, round_x, end_x, name_columns, lane_height, lane_y, bottom_y, row_y}

-- ---- lanes

unfoldable pub rectangle : (class : List ℕ) → (x y width height : ℕ) → List ℕ
rectangle class x y width height = codes "<rect class='" ++ class ++ codes "' x='" ++ decimal x ++ codes "' y='" ++ decimal y
    ++ codes "' width='" ++ decimal width ++ codes "' height='" ++ decimal height ++ codes "' rx='4'/>\n"

-- four pixels stay free between two lanes
abbrev pub lane_shape : Plan → ℕ × List ℕ → List ℕ
lane_shape plan lane = rectangle (codes "e") 8 (lane_y plan lane.0) (end_x plan - 8) (lane_height lane.1 - 4)

-- ---- rounds and groups

unfoldable pub axis_words : Plan → List ℕ
axis_words plan = text_at (codes "l") 16 112 (codes "group") ++ text_at (codes "l") 16 128 (codes "round")
    ++ text_at (codes "l") 16 (bottom_y plan + 12) (codes "round")

-- a line where a round begins, and its number above and below it
unfoldable pub round_shape : Plan → (round : ℕ) → List ℕ
round_shape plan round = down_line (codes "o") (round_x plan round) 132 (bottom_y plan)
    ++ number_at (codes "a") (round_x plan round + 4 * eighth plan) 128 round
    ++ number_at (codes "a") (round_x plan round + 4 * eighth plan) (bottom_y plan + 12) round

-- a line where a group begins, and its number above it
unfoldable pub start_shape : Plan → GroupStart → List ℕ
start_shape plan s = down_line (codes "b") (round_x plan s.round) 116 (bottom_y plan) ++ number_at (codes "a") (round_x plan s.round) 112 s.group

-- ---- names

-- the name of a peering in front of its row
unfoldable pub row_name : LabInput → Plan → (x router peering : ℕ) → List ℕ
row_name input plan x router peering = text_at (codes "n") (x - 8) (row_y plan router peering + 4) (peering_name input peering)

-- the name of a router above its rows, and those of its rows
unfoldable pub lane_names : LabInput → Plan → (x : ℕ) → ℕ × List ℕ → List ℕ
lane_names input plan x lane = text_at (codes "r") (x - 112) (lane_y plan lane.0 + 17) (router_name input lane.0)
    ++ flat_map (row_name input plan x lane.0) lane.1

-- all names, in front of a sixteen of rounds
unfoldable pub names_before : LabInput → Plan → (sixteen : ℕ) → List ℕ
names_before input plan sixteen = flat_map (lane_names input plan (column_x plan (16 * sixteen))) (enumerate_from 0 plan.lanes)

-- ---- all

unfoldable pub axes_text : Plan → List ℕ
axes_text plan = flat_map (lane_shape plan) (enumerate_from 0 plan.lanes) ++ axis_words plan
    ++ flat_map (round_shape plan) plan.shown ++ flat_map (start_shape plan) plan.starts

unfoldable pub names_text : LabInput → Plan → List ℕ
names_text input plan = flat_map (names_before input plan) (range_with_len 0 (name_columns plan))
