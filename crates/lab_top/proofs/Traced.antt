-- A report has lines of where packets go.
use Rattle.std.proofs.Common.{◌≡◌, ℕ, List, [], ◌∷◌, ◌++◌, take, sym, ap, ◌∙◌, subst}
use Rattle.std.specs.List.{enumerate_from}
use Rattle.std.proofs.lemmas.List.{append-nil, append_cancel_left}
use Rattle.forward_walk.specs.Tables.{ForwardMap}
use Rattle.lab_tables.specs.declared.input.LabInput.{LabInput}
use Rattle.lab_tables.specs.declared.input.RouterInput.{RouterInput}
use Rattle.lab_report.specs.declared.lab.Lab.{Lab}
use Rattle.lab_report.specs.Report.{report_text}
use Rattle.lab_report.specs.Traces.{IsReport, Traces, TracesFrom, forward_maps_of, numbered_routers}

no_letter : (letter : ℕ) (text : List ℕ) → letter ∷ text ≡ [] → ⊥
no_letter letter text none = let f : ⊥ = cc in f

-- the lines of an address begin with that of the first router
some_line : (input : LabInput) (maps : List ForwardMap) (address : ℕ) (router : ℕ × RouterInput) (routers : List (ℕ × RouterInput)) (lines rest : List ℕ)
    → TracesFrom input maps address (router ∷ routers) lines → lines ++ rest ≡ [] → ⊥
some_line input maps address router routers lines rest traced none =
    no_letter _ _ (ap (λ l. l ++ rest) (sym traced.3) ∙ none)

numbered : (input : LabInput) (router : RouterInput) (routers : List RouterInput) → input.routers ≡ router ∷ routers
    → numbered_routers input ≡ (0, router) ∷ enumerate_from 1 (take 255 routers)
numbered input router routers same = ap (λ (rs : List RouterInput). enumerate_from 0 (take 256 rs)) same

some_lines : (input : LabInput) (maps : List ForwardMap) (address : ℕ) (addresses : List ℕ) (router : RouterInput) (routers : List RouterInput) (text : List ℕ)
    → input.routers ≡ router ∷ routers → Traces input maps (address ∷ addresses) text → text ≡ [] → ⊥
some_lines input maps address addresses router routers text same traced none =
    some_line input maps address (0, router) (enumerate_from 1 (take 255 routers)) traced.0 traced.2
    (subst (λ rs. TracesFrom input maps address rs traced.0) (numbered input router routers same) traced.1) (sym traced.3 ∙ none)

pub without_traces : (lab : Lab) (address : ℕ) (addresses : List ℕ) (router : RouterInput) (routers : List RouterInput)
    → lab.input.trace ≡ address ∷ addresses → lab.input.routers ≡ router ∷ routers → IsReport lab (report_text lab) → ⊥
without_traces lab address addresses router routers trace same report =
    some_lines lab.input (forward_maps_of lab) address addresses router routers report.traces same
    (subst (λ all. Traces lab.input (forward_maps_of lab) all report.traces) trace report.traced)
    (sym (append_cancel_left (report_text lab) [] report.traces (append-nil (report_text lab) ∙ report.is)))
