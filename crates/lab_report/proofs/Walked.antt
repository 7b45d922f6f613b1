-- The lines of walks, one more at a time.
use Rattle.std.proofs.Common.{ℕ, ◌≡◌, ◌+◌, ◌<◌, List, [], ◌∷◌, ◌++◌, take, length, refl, ap, sym, ◌∙◌}
use Rattle.std.proofs.Common.{subst, append_assoc, append-nil, slice_index, slice_index_or}
use Rattle.std.specs.List.{flat_map, enumerate_from}
use Rattle.std.proofs.lemmas.List.{take_more}
use Rattle.forward_walk.specs.Tables.{ForwardMap}
use Rattle.forward_walk.specs.Walks.{WalksTo}
use Rattle.forward_walk.specs.declared.walk.Walk.{Walk}
use Rattle.lab_input.proofs.Numbered.{flat_map_numbered}
use Rattle.lab_tables.specs.declared.input.LabInput.{LabInput}
use Rattle.lab_tables.specs.declared.input.RouterInput.{RouterInput}
use Rattle.lab_report.specs.Traces.{trace_line, TracesFrom, Traces, Appends, numbered_routers}

alone : {X : Type 0} (xs : List X) → flat_map (λ x. x ∷ []) xs ≡ xs
alone [] = refl
alone (x ∷ xs) = ap (λ l. x ∷ l) (alone xs)

-- the numbered elements up to one further
pub numbered_more : {X : Type 0} (xs : List X) (i : ℕ) (x : X) → i < length xs → x ≡ slice_index_or xs i x
    → enumerate_from 0 (take (i + 1) xs) ≡ enumerate_from 0 (take i xs) ++ (i, x) ∷ []
numbered_more xs i x lt at =
    sym (alone (enumerate_from 0 (take (i + 1) xs)))
    ∙ (flat_map_numbered (λ y. y ∷ []) xs i x lt at
    ∙ ap (λ l. l ++ (i, x) ∷ []) (alone (enumerate_from 0 (take i xs))))

module _ (input : LabInput) (maps : List ForwardMap) where
  one_walk_more : (address : ℕ) (routers : List (ℕ × RouterInput)) (r : ℕ × RouterInput) (walk : Walk) (text : List ℕ)
      → TracesFrom input maps address routers text → WalksTo maps address [] (record { 0 = r.0 }) walk
      → TracesFrom input maps address (routers ++ r ∷ []) (text ++ trace_line input address r.1.name walk)
  one_walk_more address [] r walk text none w =
      let line = trace_line input address r.1.name walk in
      (walk, w, [], ap (λ t. t ++ line) none ∙ sym (append-nil line), refl)
  one_walk_more address (q ∷ routers) r walk text t w =
      let line = trace_line input address r.1.name walk in (
        t.0,
        t.1,
        t.2 ++ line,
        ap (λ l. l ++ line) t.3 ∙ append_assoc (trace_line input address q.1.name t.0) t.2 line,
        one_walk_more address routers r walk t.2 t.4 w,
      )

  one_address_more : (addresses : List ℕ) (address : ℕ) (text lines : List ℕ)
      → Traces input maps addresses text → TracesFrom input maps address (numbered_routers input) lines
      → Traces input maps (addresses ++ address ∷ []) (text ++ lines)
  one_address_more [] address text lines none t = (lines, t, [], ap (λ l. l ++ lines) none ∙ sym (append-nil lines), refl)
  one_address_more (a ∷ addresses) address text lines s t =
      (s.0, s.1, s.2 ++ lines, ap (λ l. l ++ lines) s.3 ∙ append_assoc s.0 s.2 lines, one_address_more addresses address s.2 lines s.4 t)

  -- the walk from one router further
  pub walked_more : (address : ℕ) (routers : List RouterInput) (i : ℕ) (router : RouterInput) (walk : Walk) → i < length routers
      → router ≡ slice_index_or routers i router
      → WalksTo maps address [] (record { 0 = i }) walk → (before so_far after : List ℕ)
      → Appends (TracesFrom input maps address (enumerate_from 0 (take i routers))) before so_far → after ≡ so_far ++ trace_line input address router.name walk
      → Appends (TracesFrom input maps address (enumerate_from 0 (take (i + 1) routers))) before after
  walked_more address routers i router walk lt at w before so_far after a is =
      let line = trace_line input address router.name walk in
      let more = one_walk_more address (enumerate_from 0 (take i routers)) (i, router) walk a.0 a.1 w in (
        a.0 ++ line,
        subst (λ (rs : List (ℕ × RouterInput)). TracesFrom input maps address rs (a.0 ++ line)) (sym (numbered_more routers i router lt at)) more,
        is ∙ (ap (λ t. t ++ line) a.2 ∙ append_assoc before a.0 line),
      )

  -- the walks to one address further
  pub traced_more : (addresses : List ℕ) (i : ℕ) → i < length addresses → (before so_far after : List ℕ)
      → Appends (Traces input maps (take i addresses)) before so_far
      → Appends (TracesFrom input maps (slice_index addresses i) (numbered_routers input)) so_far after
      → Appends (Traces input maps (take (i + 1) addresses)) before after
  traced_more addresses i lt before so_far after a b =
      let address = slice_index addresses i in
      let more = one_address_more (take i addresses) address a.0 b.0 a.1 b.1 in
      let further : take (i + 1) addresses ≡ take i addresses ++ address ∷ [] = take_more addresses i 0 lt in (
        a.0 ++ b.0,
        subst (λ (each : List ℕ). Traces input maps each (a.0 ++ b.0)) (sym further) more,
        b.2 ∙ (ap (λ t. t ++ b.0) a.2 ∙ append_assoc before a.0 b.0),
      )

  -- no lines where there is no address
  pub none_traced : (addresses text : List ℕ) → addresses ≡ [] → Appends (Traces input maps addresses) text text
  none_traced addresses text none = ([], subst (λ (each : List ℕ). Traces input maps each []) (sym none) refl, sym (append-nil text))

  -- no lines before the first router
  pub none_walked : (address : ℕ) (text : List ℕ) → Appends (TracesFrom input maps address []) text text
  none_walked address text = ([], refl, sym (append-nil text))
