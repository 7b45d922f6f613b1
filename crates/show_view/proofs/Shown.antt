-- The lines of a session, by the values that the code found.
use Rattle.std.proofs.Common.{◌≡◌, ℕ, ◌++◌, Bool, List, Option, Some, None, ap, ◌∙◌}
use Rattle.std.specs.Prelude.{option_and_then, option_map, slice_get}
use Rattle.std.specs.FinMap as map
use Rattle.std.specs.List.{flat_map}
use Rattle.bgp_types.specs.Prefixes.{PrefixValue}
use Rattle.bgp_types.specs.declared.attrs.Attrs.{Attrs}
use Rattle.bgp_types.specs.declared.fault.Expected.{Expected}
use Rattle.bgp_types.specs.declared.message.SessionState.{SessionState}
use Rattle.bgp_story.specs.declared.line.Line.{Line}
use Rattle.bgp_story.specs.Legal.{Peering, expected_next, is_wide}
use Rattle.bgp_story.specs.Readings.{Routes, heard, told}
use Rattle.bgp_story.specs.States.{state_of}
use Rattle.lab_tables.specs.declared.input.LabInput.{LabInput}
use Rattle.lab_tables.specs.declared.input.PeeringInput.{PeeringInput}
use Rattle.lab_tables.specs.declared.input.RouterInput.{RouterInput}
use Rattle.lab_report.specs.declared.lab.Lab.{Lab}
use Rattle.lab_report.specs.declared.lab.Place.{Place}
use Rattle.show_view.specs.Routes.{heard_lines}
use Rattle.show_view.specs.Sessions.{before_last, closed_line, closing, closing_words, last_of, messages_line}
use Rattle.show_view.specs.Show.{holder_number, holder_of, table_lines}
use Rattle.show_view.specs.Untold.{told_line, untold_lines}

-- ---- what it came to

abbrev of_session : (start name : List ℕ) → Bool → List Line → Expected → List ℕ
of_session start name wide lines expected =
    start ++ messages_line name wide lines ++ closed_line name (closing_words expected (last_of (before_last lines)) (last_of lines))

pub session_so : (start name read_name : List ℕ) (peering : Peering) (lines read : List Line) (wide : Bool) (expected : Expected) → read_name ≡ name
    → wide ≡ is_wide peering lines → read ≡ lines → expected ≡ expected_next peering read (state_of (before_last read))
    → of_session start read_name wide read expected ≡ start ++ messages_line name (is_wide peering lines) lines ++ closed_line name (closing peering lines)
session_so start name read_name peering lines read wide expected named written same by_opens =
    ap (λ n. of_session start n wide read expected) named ∙ ap (λ w. of_session start name w read expected) written
    ∙ ap (of_session start name (is_wide peering lines) read) by_opens
    ∙ ap (λ (ls : List Line). of_session start name (is_wide peering lines) ls (expected_next peering ls (state_of (before_last ls)))) same

-- ---- its tables

module _ (lab : Lab) (holder : Option (ℕ × RouterInput)) (p : ℕ × PeeringInput) (peering : Peering) (lines : List Line) where
  abbrev of_tables : (got : List (PrefixValue × Attrs)) (name : List ℕ) (put : List (PrefixValue × Attrs)) → SessionState → Routes → List ℕ
  of_tables got name put state routes =
      flat_map (heard_lines lab.input holder p lines) got ++ flat_map (told_line name) put ++ untold_lines lab holder p state routes

  pub tables_so : (got : List (PrefixValue × Attrs)) (name : List ℕ) (put : List (PrefixValue × Attrs)) (state : SessionState) (routes : Routes)
      → got ≡ map.entries (heard peering lines) → name ≡ p.1.name → put ≡ map.entries (told lines) → state ≡ state_of lines → routes ≡ told lines
      → of_tables got name put state routes ≡ table_lines lab holder p peering lines
  tables_so got name put state routes by_heard named by_told by_state same =
      ap (λ es. of_tables es name put state routes) by_heard ∙ ap (λ n. of_tables (map.entries (heard peering lines)) n put state routes) named
      ∙ ap (λ es. of_tables (map.entries (heard peering lines)) p.1.name es state routes) by_told
      ∙ ap (λ s. of_tables (map.entries (heard peering lines)) p.1.name (map.entries (told lines)) s routes) by_state
      ∙ ap (of_tables (map.entries (heard peering lines)) p.1.name (map.entries (told lines)) (state_of lines)) same

-- ---- its place

module _ (input : LabInput) (place : Option Place) where
  pub held_nowhere : None ≡ holder_number place → None ≡ holder_of input place
  held_nowhere nowhere = ap (option_and_then (λ r. option_map (λ router. (r, router)) (slice_get input.routers r))) nowhere

  pub held_by : (number : ℕ) (router : Option RouterInput) → Some number ≡ holder_number place → router ≡ slice_get input.routers number
      → option_map (λ r. (number, r)) router ≡ holder_of input place
  held_by number router held there =
      ap (option_map (λ r. (number, r))) there
      ∙ ap (option_and_then (λ r. option_map (λ router. (r, router)) (slice_get input.routers r))) held
