-- Prefixes of a field, read one after another, each kept once.
use Rattle.std.proofs.Common.{◌≡◌, ℕ, ◌<◌, List, [], ◌∷◌, length, map, Option, Some, None, refl, sym, ap, ◌∙◌, arith}
use Rattle.std.specs.Option.{option_map}
use Rattle.std.proofs.lemmas.Option.{same_Some}
use Rattle.bgp_types.specs.Many.{many, if_whole}
use Rattle.bgp_types.specs.Prefixes.{PrefixValue, WirePrefix, prefix_at, prefix_said, put_once, once_after, prefixes_of}
use Rattle.bgp_types.proofs.ManyLaws.{many_some, many_none}
use Rattle.bgp_types.proofs.PrefixLaws.{prefix_reads, no_prefix}
use Rattle.bgp_wire.specs.Fields.{front_said}

-- The prefixes before the rest stand in the list, each once, and those of the rest are still to be put there.
pub record Reading (field rest : List ℕ) (prefixes : List PrefixValue) : Type 0 where
  pub said : once_after prefixes (map prefix_said (many prefix_at rest).0) ≡ once_after [] (map prefix_said (many prefix_at field).0)
  pub left : (many prefix_at rest).1 ≡ (many prefix_at field).1

pub begins : (field : List ℕ) (prefixes : List PrefixValue) → prefixes ≡ [] → Reading field field prefixes
begins field prefixes e = record { said = ap (λ (ps : List PrefixValue). once_after ps (map prefix_said (many prefix_at field).0)) e; left = refl }

some_front : (o : Option (WirePrefix × List ℕ)) (p : PrefixValue) (later : List ℕ)
    → option_map (λ (x : WirePrefix × List ℕ). (let y : PrefixValue × List ℕ = (prefix_said x.0, x.1) in y)) o ≡ Some (p, later)
    → (w : WirePrefix) × (o ≡ Some (w, later)) × (prefix_said w ≡ p)
some_front None p later e = absurd cc
some_front (Some x) p later e =
    let s = same_Some (prefix_said x.0, x.1) (p, later) e in (
      x.0,
      ap (λ (b : List ℕ). (let o : Option (WirePrefix × List ℕ) = Some (x.0, b) in o)) (ap (λ (y : PrefixValue × List ℕ). y.1) s),
      ap (λ (y : PrefixValue × List ℕ). y.0) s,
    )

none_front : (o : Option (WirePrefix × List ℕ))
    → option_map (λ (x : WirePrefix × List ℕ). (let y : PrefixValue × List ℕ = (prefix_said x.0, x.1) in y)) o ≡ None → o ≡ None
none_front None e = refl
none_front (Some x) e = absurd cc

pub goes_on : (field rest : List ℕ) (prefixes : List PrefixValue) (p : PrefixValue) (later : List ℕ) (prefixes' : List PrefixValue)
    → Reading field rest prefixes → front_said rest ≡ Some (p, later) → prefixes' ≡ put_once prefixes p → Reading field later prefixes'
goes_on field rest prefixes p later prefixes' s e more =
    let f = some_front (prefix_at rest) p later e in
    let w : WirePrefix = f.0 in
    let ws : List WirePrefix = (many prefix_at later).0 in
    let cut : many prefix_at rest ≡ (w ∷ ws, (many prefix_at later).1) = many_some prefix_at prefix_reads.shortens rest (w, later) f.1 in
    record {
      said = ap (λ (ps : List PrefixValue). once_after ps (map prefix_said ws)) more
          ∙ (ap (λ (q : PrefixValue). once_after (put_once prefixes q) (map prefix_said ws)) (sym f.2)
          ∙ (sym (ap (λ (m : List WirePrefix × List ℕ). once_after prefixes (map prefix_said m.0)) cut) ∙ s.said));
      left = sym (ap (λ (m : List WirePrefix × List ℕ). m.1) cut) ∙ s.left;
    }

-- where no prefix stands at the front of a rest, the prefixes are all only if the rest is empty
abbrev all_said : List WirePrefix × List ℕ → Option (List PrefixValue)
all_said m = option_map (λ spelled. once_after [] (map prefix_said spelled)) (if_whole m.0 m.1)

not_whole : (ws : List WirePrefix) (rest : List ℕ) → 0 < length rest → all_said (ws, rest) ≡ None
not_whole ws [] lt = absurd (omega arith)
not_whole ws (b ∷ rest) lt = refl

pub stops : (field rest : List ℕ) (prefixes : List PrefixValue) → Reading field rest prefixes → front_said rest ≡ None → 0 < length rest
    → prefixes_of field ≡ None
unfolding prefixes_of
stops field rest prefixes s e lt =
    let last : rest ≡ (many prefix_at field).1 =
    sym (ap (λ (m : List WirePrefix × List ℕ). m.1) (many_none prefix_at rest (none_front (prefix_at rest) e))) ∙ s.left in
    ap (λ (y : List ℕ). all_said ((many prefix_at field).0, y)) (sym last) ∙ not_whole (many prefix_at field).0 rest lt

pub ends : (field rest : List ℕ) (prefixes : List PrefixValue) → Reading field rest prefixes → length rest ≡ 0 → prefixes_of field ≡ Some prefixes
unfolding prefixes_of
ends field (b ∷ rest) prefixes s e = absurd (omega arith)
ends field [] prefixes s e =
    let cut : many prefix_at [] ≡ ([], []) = many_none prefix_at [] no_prefix in
    let left : (many prefix_at field).1 ≡ [] = sym s.left ∙ ap (λ (m : List WirePrefix × List ℕ). m.1) cut in
    let said : once_after [] (map prefix_said (many prefix_at field).0) ≡ prefixes =
    sym s.said ∙ ap (λ (m : List WirePrefix × List ℕ). once_after prefixes (map prefix_said m.0)) cut in
    ap (λ (y : List ℕ). all_said ((many prefix_at field).0, y)) left ∙ ap (λ (ps : List PrefixValue). (let o : Option (List PrefixValue) = Some ps in o)) said
