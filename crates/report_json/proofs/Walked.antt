-- Walks as JSON, one more at a time.
use Rattle.std.proofs.Common.{ℕ, ◌≡◌, ◌+◌, ◌<◌, List, [], ◌∷◌, ◌++◌, take, length, refl, ap, sym, ◌∙◌}
use Rattle.std.proofs.Common.{subst, append_assoc, append-nil, slice_index, slice_index_or}
use Rattle.std.specs.List.{enumerate_from}
use Rattle.std.proofs.lemmas.List.{take_more}
use Rattle.serde_json.specs.Data.{Data}
use Rattle.forward_walk.specs.Tables.{ForwardMap}
use Rattle.forward_walk.specs.Walks.{WalksTo}
use Rattle.forward_walk.specs.declared.walk.Walk.{Walk}
use Rattle.lab_tables.specs.declared.input.LabInput.{LabInput}
use Rattle.lab_tables.specs.declared.input.RouterInput.{RouterInput}
use Rattle.lab_report.proofs.Walked.{numbered_more}
use Rattle.lab_report.specs.Traces.{numbered_routers}
use Rattle.report_json.specs.Traces.{trace_json, TracesFrom, Traces, Appends}

module _ (input : LabInput) (maps : List ForwardMap) where
  one_walk_more : (address : ℕ) (routers : List (ℕ × RouterInput)) (r : ℕ × RouterInput) (walk : Walk) (traces : List Data)
      → TracesFrom input maps address routers traces → WalksTo maps address [] (record { 0 = r.0 }) walk
      → TracesFrom input maps address (routers ++ r ∷ []) (traces ++ trace_json input address r.1.name walk ∷ [])
  one_walk_more address [] r walk traces none w = (walk, w, [], ap (λ t. t ++ trace_json input address r.1.name walk ∷ []) none, refl)
  one_walk_more address (q ∷ routers) r walk traces t w =
      let trace = trace_json input address r.1.name walk in
      (t.0, t.1, t.2 ++ trace ∷ [], ap (λ l. l ++ trace ∷ []) t.3, one_walk_more address routers r walk t.2 t.4 w)

  one_address_more : (addresses : List ℕ) (address : ℕ) (before more : List Data)
      → Traces input maps addresses before → TracesFrom input maps address (numbered_routers input) more
      → Traces input maps (addresses ++ address ∷ []) (before ++ more)
  one_address_more [] address before more none t = (more, t, [], ap (λ l. l ++ more) none ∙ sym (append-nil more), refl)
  one_address_more (a ∷ addresses) address before more s t =
      (s.0, s.1, s.2 ++ more, ap (λ l. l ++ more) s.3 ∙ append_assoc s.0 s.2 more, one_address_more addresses address s.2 more s.4 t)

  -- the walk from one router further
  pub walked_more : (address : ℕ) (routers : List RouterInput) (i : ℕ) (router : RouterInput) (walk : Walk) → i < length routers
      → router ≡ slice_index_or routers i router
      → WalksTo maps address [] (record { 0 = i }) walk → (before so_far after : List Data) (value : Data)
      → Appends (TracesFrom input maps address (enumerate_from 0 (take i routers))) before so_far
      → after ≡ so_far ++ value ∷ [] → value ≡ trace_json input address router.name walk
      → Appends (TracesFrom input maps address (enumerate_from 0 (take (i + 1) routers))) before after
  walked_more address routers i router walk lt at w before so_far after value a is shown =
      let trace = trace_json input address router.name walk in
      let more = one_walk_more address (enumerate_from 0 (take i routers)) (i, router) walk a.0 a.1 w in (
        a.0 ++ trace ∷ [],
        subst (λ (rs : List (ℕ × RouterInput)). TracesFrom input maps address rs (a.0 ++ trace ∷ [])) (sym (numbered_more routers i router lt at)) more,
        is ∙ (ap (λ v. so_far ++ v ∷ []) shown ∙ ap (λ t. t ++ trace ∷ []) a.2 ∙ append_assoc before a.0 (trace ∷ [])),
      )

  -- the walks to one address further
  pub traced_more : (addresses : List ℕ) (i : ℕ) → i < length addresses → (so_far after : List Data)
      → Traces input maps (take i addresses) so_far
      → Appends (TracesFrom input maps (slice_index addresses i) (numbered_routers input)) so_far after
      → Traces input maps (take (i + 1) addresses) after
  traced_more addresses i lt so_far after t b =
      let address = slice_index addresses i in
      let more = one_address_more (take i addresses) address so_far b.0 t b.1 in
      let further : take (i + 1) addresses ≡ take i addresses ++ address ∷ [] = take_more addresses i 0 lt in
      subst (λ (values : List Data). Traces input maps (take (i + 1) addresses) values) (sym b.2)
      (subst (λ (each : List ℕ). Traces input maps each (so_far ++ b.0)) (sym further) more)

  -- no walks before the first router
  pub none_walked : (address : ℕ) (before : List Data) → Appends (TracesFrom input maps address []) before before
  none_walked address before = ([], refl, sym (append-nil before))
