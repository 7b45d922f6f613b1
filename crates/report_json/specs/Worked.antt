-- Worked values.
use Rattle.std.specs.Prelude.{ℕ, List, [], ◌∷◌, ◌++◌, codes}
use Rattle.serde_json.specs.Data.{Data}
use Rattle.bgp_types.specs.declared.path.PathPart.TheVariants.{Set, Sequence}
use Rattle.bgp_types.specs.declared.message.SessionState.TheVariants.{OpenConfirm}
use Rattle.graft_steps.specs.declared.refusal.Refusal.TheVariants.{SameRouter, NotEstablished, RouterFull, PolicyMissing}
use Rattle.report_json.specs.Run.{settled_json, unsettled_json, path_json, refusal_json}

-- Two ways in which a run ends; an empty path, and one with a set; and refusals: without a detail, with a state, with a number, and with a name that
-- has a quotation mark.
abbrev pub worked_values : List Data
worked_values = settled_json
    ∷ unsettled_json 2 100
    ∷ path_json []
    ∷ path_json (Sequence (65001 ∷ 4200000000 ∷ []) ∷ Set (65002 ∷ 65003 ∷ []) ∷ [])
    ∷ refusal_json SameRouter
    ∷ refusal_json (NotEstablished OpenConfirm)
    ∷ refusal_json (RouterFull 1)
    ∷ refusal_json (PolicyMissing (codes "a\"b"))
    ∷ []

abbrev pub worked_lines : List (List ℕ)
worked_lines = (codes "{\"end\":\"settled\"}" ++ 10 ∷ [])
    ∷ (codes "{\"end\":\"unsettled\",\"rounds\":100,\"step\":2}" ++ 10 ∷ [])
    ∷ (codes "[]" ++ 10 ∷ [])
    ∷ (codes "[65001,4200000000,[65002,65003]]" ++ 10 ∷ [])
    ∷ (codes "{\"detail\":null,\"reason\":\"SameRouter\"}" ++ 10 ∷ [])
    ∷ (codes "{\"detail\":\"OpenConfirm\",\"reason\":\"NotEstablished\"}" ++ 10 ∷ [])
    ∷ (codes "{\"detail\":1,\"reason\":\"RouterFull\"}" ++ 10 ∷ [])
    ∷ (codes "{\"detail\":\"a\\\"b\",\"reason\":\"PolicyMissing\"}" ++ 10 ∷ [])
    ∷ []
