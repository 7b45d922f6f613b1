use Rattle.std.proofs.Common.{List, [], ◌∷◌, refl, sym, ap, false}
use Rattle.std.specs.Prelude.{None}
use Rattle.std.proofs.lemmas.List.{append-nil}
use Rattle.std.specs.Int.{w32}
use Rattle.capsule_bytes.specs.Fields.{Field, text, counted}
use Rattle.capsule_bytes.specs.Capsules.{name_fields, end_fields, line_fields, change_fields, body_fields}
use Rattle.capsule_bytes.proofs.Forms.{config_form, config, end_state, parts_of}
use Rattle.capsule_bytes.proofs.Readings.{joined, behind, passes_joined, exit}
use Rattle.capsule_bytes.proofs.read.read_body.Goals as goal

pub returns-in_err-config-clause-fields : goal.returns-in_err-config-clause-fields
returns-in_err-config-clause-fields c =
    exit body_fields _ _ _ _ c.from_residual.ensures.1 (behind config_form body_fields ([])
    (λ x. record { value = parts_of x None None (end_state 0 0 0 [] 0 0 [] [] 0 false) [] [] []; after = _; is = refl }) _ _
    refl _ c.in_err-config.ensures)

pub returns-in_err-import-clause-fields : goal.returns-in_err-import-clause-fields
returns-in_err-import-clause-fields c =
    exit body_fields _ _ _ _ c.from_residual-in_err-import.ensures.1 (behind name_fields body_fields (config_form c.in_ok-config.config ∷ [])
    (λ x. record { value = parts_of c.in_ok-config.config x None (end_state 0 0 0 [] 0 0 [] [] 0 false) [] [] []; after = _; is = refl }) _ _
    (_, c.in_ok-config.ensures, refl) _ c.in_err-import.ensures)

pub returns-in_err-export-clause-fields : goal.returns-in_err-export-clause-fields
returns-in_err-export-clause-fields c =
    exit body_fields _ _ _ _ c.from_residual-in_err-export.ensures.1 (behind name_fields body_fields (config_form c.in_ok-config.config
    ∷ name_fields c.in_ok-import.import ∷ [])
    (λ x. record {
      value = parts_of c.in_ok-config.config c.in_ok-import.import x
          (end_state 0 0 0 [] 0 0 [] [] 0 false) [] [] [];
      after = _;
      is = refl;
    }) _ _
    (_, c.in_ok-config.ensures, (_, c.in_ok-import.ensures, refl)) _ c.in_err-export.ensures)

pub returns-in_err-end-clause-fields : goal.returns-in_err-end-clause-fields
returns-in_err-end-clause-fields c =
    exit body_fields _ _ _ _ c.from_residual-in_err-end.ensures.1 (behind end_fields body_fields (config_form c.in_ok-config.config ∷ name_fields
    c.in_ok-import.import ∷ name_fields c.in_ok-export.export ∷ [])
    (λ x. record { value = parts_of c.in_ok-config.config c.in_ok-import.import c.in_ok-export.export x [] [] []; after = _; is = refl }) _ _
    (_, c.in_ok-config.ensures, (_, c.in_ok-import.ensures, (_, c.in_ok-export.ensures, refl))) _ c.in_err-end.ensures.fields)

pub returns-in_err-held-clause-fields : goal.returns-in_err-held-clause-fields
returns-in_err-held-clause-fields c =
    exit body_fields _ _ _ _ c.from_residual-in_err-held.ensures.1 (behind (text w32) body_fields (config_form c.in_ok-config.config ∷ name_fields
    c.in_ok-import.import ∷ name_fields c.in_ok-export.export ∷ end_fields c.in_ok-end.end ∷ [])
    (λ x. record { value = parts_of c.in_ok-config.config c.in_ok-import.import c.in_ok-export.export c.in_ok-end.end x [] []; after = _; is = refl }) _ _
    (_, c.in_ok-config.ensures, (_, c.in_ok-import.ensures, (_, c.in_ok-export.ensures, (_, c.in_ok-end.ensures.fields, refl)))) _ c.in_err-held.ensures)

pub returns-in_err-story-clause-fields : goal.returns-in_err-story-clause-fields
returns-in_err-story-clause-fields c =
    exit body_fields _ _ _ _ c.from_residual-in_err-story.ensures.1 (behind (counted line_fields) body_fields (config_form c.in_ok-config.config
    ∷ name_fields c.in_ok-import.import ∷ name_fields c.in_ok-export.export ∷ end_fields c.in_ok-end.end ∷ text w32 c.in_ok-held.held ∷ [])
    (λ x. record {
      value = parts_of c.in_ok-config.config c.in_ok-import.import c.in_ok-export.export c.in_ok-end.end
          c.in_ok-held.held x [];
      after = _;
      is = refl;
    }) _ _ (
      _,
      c.in_ok-config.ensures,
      (
        _,
        c.in_ok-import.ensures,
        (
          _,
          c.in_ok-export.ensures,
          (
            _,
            c.in_ok-end.ensures.fields,
            (
              _,
              c.in_ok-held.ensures,
              refl,
            ),
          ),
        ),
      ),
    ) _ c.in_err-story.ensures)

pub returns-in_err-late-clause-fields : goal.returns-in_err-late-clause-fields
returns-in_err-late-clause-fields c =
    exit body_fields _ _ _ _ c.from_residual-in_err-late.ensures.1 (behind (counted change_fields) body_fields (config_form c.in_ok-config.config
    ∷ name_fields c.in_ok-import.import ∷ name_fields c.in_ok-export.export ∷ end_fields c.in_ok-end.end ∷ text w32 c.in_ok-held.held
    ∷ counted line_fields c.in_ok-story.story ∷ [])
    (λ x. record {
      value = parts_of c.in_ok-config.config c.in_ok-import.import c.in_ok-export.export c.in_ok-end.end c.in_ok-held.held
          c.in_ok-story.story x;
      after = [];
      is = ap (λ (fs : List Field). joined (config_form c.in_ok-config.config ∷ name_fields c.in_ok-import.import
          ∷ name_fields c.in_ok-export.export ∷ end_fields c.in_ok-end.end ∷ text w32 c.in_ok-held.held ∷ counted line_fields c.in_ok-story.story ∷ []) fs)
          (sym (append-nil (counted change_fields x)));
    }) _ _ (
      _,
      c.in_ok-config.ensures,
      (
        _,
        c.in_ok-import.ensures,
        (
          _,
          c.in_ok-export.ensures,
          (
            _,
            c.in_ok-end.ensures.fields,
            (
              _,
              c.in_ok-held.ensures,
              (_, c.in_ok-story.ensures, refl),
            ),
          ),
        ),
      ),
    ) _ c.in_err-late.ensures)

pub returns-clause-fields : goal.returns-clause-fields
returns-clause-fields c =
    passes_joined (config_form c.in_ok-config.config ∷ name_fields c.in_ok-import.import ∷ name_fields c.in_ok-export.export ∷ end_fields
    c.in_ok-end.end ∷ text w32 c.in_ok-held.held ∷ counted line_fields c.in_ok-story.story ∷ []) (counted change_fields c.in_ok-late.late) _ _ _ (
      _,
      c.in_ok-config.ensures,
      (
        _,
        c.in_ok-import.ensures,
        (
          _,
          c.in_ok-export.ensures,
          (
            _,
            c.in_ok-end.ensures.fields,
            (
              _,
              c.in_ok-held.ensures,
              (_, c.in_ok-story.ensures, refl),
            ),
          ),
        ),
      ),
    ) c.in_ok-late.ensures
