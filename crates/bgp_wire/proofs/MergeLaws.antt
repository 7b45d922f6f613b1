-- The parts of a path that is merged with that of AS4_PATH.
use Rattle.std.proofs.Common.{◌≡◌, ℕ, ◌+◌, ◌-◌, ◌^◌, ◌<◌, List, [], ◌∷◌, ◌++◌, length, Bool, true, false}
use Rattle.std.proofs.Common.{cond, eqb, ltb, leb, refl, arith, length-append, length-take}
use Rattle.std.specs.List.{AllByRecursion}
use Rattle.std.proofs.lemmas.Bool.{leb-true}
use Rattle.std.proofs.lemmas.Bool.Decides.{nat_tests}
use Rattle.std.proofs.lemmas.List.Elements.{All-append, All-take}
use Rattle.bgp_types.specs.declared.path.PathPart.{PathPart}
use Rattle.bgp_types.specs.declared.path.PathPart.TheVariants as parts
use Rattle.bgp_types.specs.Merge.{lead_part, lead, join_parts, push_joined, meet, merged_path}
use Rattle.bgp_types.specs.Paths.{part_count, path_count}
use Rattle.bgp_types.specs.Writable.{IsPart}

-- each part has 1 to 255 ASes
abbrev pub Parts : List PathPart → Type 0
Parts path = AllByRecursion IsPart path

-- ---- the leading ASes

lead_is : (count : ℕ) (part : PathPart) → eqb count 0 ≡ false → IsPart part → IsPart (lead_part count part)
lead_is count (parts.Set ases) e p = p
lead_is count (parts.Sequence ases) e p =
    let some = p.some in
    let few = p.count in
    let positive : 0 < count = grind (arith, nat_tests) in
    record { some = omega (arith, length-take count ases); count = omega (arith, length-take count ases); each = All-take (λ n. n < 2 ^ 32) count ases p.each }

lead_parts : (count : ℕ) (path : List PathPart) → Parts path → Parts (lead count path)
lead_parts count [] p = tt
lead_parts count (part ∷ path) p = by_test (eqb count 0) refl (lead_parts (count - part_count part) path p.1) where
  by_test : (t : Bool) → eqb count 0 ≡ t → Parts (lead (count - part_count part) path)
      → Parts (cond t [] (lead_part count part ∷ lead (count - part_count part) path))
  by_test true e rest = tt
  by_test false e rest = (lead_is count part e p.0, rest)

-- ---- two sequences that meet

joined_is : (xs ys : List ℕ) → IsPart (parts.Sequence xs) → IsPart (parts.Sequence ys) → Parts (join_parts (parts.Sequence xs) (parts.Sequence ys))
joined_is xs ys p q = by_test (leb (length xs + length ys) 255) refl where
  by_test : (t : Bool) → leb (length xs + length ys) 255 ≡ t → Parts (cond t (parts.Sequence (xs ++ ys) ∷ []) (parts.Sequence xs ∷ parts.Sequence ys ∷ []))
  by_test true e =
      let few = leb-true _ _ e in
      let some = p.some in (
        record {
          some = omega (arith, length-append xs ys);
          count = omega (arith, length-append xs ys);
          each = All-append (λ n. n < 2 ^ 32) xs ys p.each q.each;
        },
        tt,
      )
  by_test false e = (p, (q, tt))

join_is : (one other : PathPart) → IsPart one → IsPart other → Parts (join_parts one other)
join_is (parts.Sequence xs) (parts.Sequence ys) p q = joined_is xs ys p q
join_is (parts.Sequence xs) (parts.Set ys) p q = (p, (q, tt))
join_is (parts.Set xs) part p q = (p, (q, tt))

push_is : (path : List PathPart) (part : PathPart) → Parts path → IsPart part → Parts (push_joined path part)
push_is [] part p q = (q, tt)
push_is (last ∷ []) part p q = join_is last part p.0 q
push_is (first ∷ second ∷ path) part p q = (p.0, push_is (second ∷ path) part p.1 q)

joined : (xs ys : List PathPart) → Parts xs → Parts ys → Parts (xs ++ ys)
joined [] ys p q = q
joined (x ∷ xs) ys p q = (p.0, joined xs ys p.1 q)

meet_is : (front path : List PathPart) → Parts front → Parts path → Parts (meet front path)
meet_is front [] p q = p
meet_is front (part ∷ path) p q = joined (push_joined front part) path (push_is front part p q.0) q.1

pub merged_is : (path as4_path : List PathPart) → Parts path → Parts as4_path → Parts (merged_path path as4_path)
unfolding merged_path
merged_is path as4_path p q = by_test (ltb (path_count path) (path_count as4_path)) where
  by_test : (t : Bool) → Parts (cond t path (meet (lead (path_count path - path_count as4_path) path) as4_path))
  by_test true = p
  by_test false = meet_is (lead (path_count path - path_count as4_path) path) as4_path (lead_parts (path_count path - path_count as4_path) path p) q
