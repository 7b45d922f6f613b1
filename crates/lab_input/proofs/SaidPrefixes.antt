-- The prefixes that a step names: each is one, each stands once, and there are few.
use Rattle.std.proofs.Common.{ℕ, ◌+◌, ◌*◌, ◌<◌, ◌≤◌, List, [], ◌∷◌, ◌++◌, length, Bool, true, false, cond, arith, length-append, length-take}
use Rattle.std.specs.Prelude.{sum_by, All, codes}
use Rattle.std.specs.List.{IsDistinct, list_any}
use Rattle.std.specs.Int.{w32, to_be_bytes}
use Rattle.std.proofs.lemmas.List.Elements.{All-from_recursion}
use Rattle.std.proofs.lemmas.List.Sums.{sum_by-cons}
use Rattle.toml.specs.Data.{Members}
use Rattle.bgp_types.specs.Lengths.{prefix_size}
use Rattle.bgp_types.specs.Prefixes.{PrefixValue, IsPrefix, octets_for, same_prefix, put_once, once_after, EachOnce}
use Rattle.bgp_types.proofs.OnceLaws.{once_each, each_once}
use Rattle.lab_keys.specs.Values.{items_at, prefixes_at}
use Rattle.lab_keys.proofs.NoFlaws.{IsWithin, prefixes_formed}
use Rattle.lab_tables.specs.Scripts.{said_prefixes}
use Rattle.std.proofs.Common.{refl}

-- ---- how many there are

record PutLengths (before after : ℕ) : Type 0 where
  no_fewer : before ≤ after
  one_more : after ≤ 1 + before

put_lengths : (seen : List PrefixValue) (p : PrefixValue) → PutLengths (length seen) (length (put_once seen p))
put_lengths seen p = by_test (list_any (same_prefix p) seen) where
  by_test : (t : Bool) → PutLengths (length seen) (length (cond t seen (seen ++ p ∷ [])))
  by_test true = record { no_fewer = omega arith; one_more = omega arith }
  by_test false = let h = length-append seen (p ∷ []) in record { no_fewer = omega arith; one_more = omega arith }

once_no_fewer : (seen ps : List PrefixValue) → length seen ≤ length (once_after seen ps)
once_no_fewer seen [] = omega arith
once_no_fewer seen (p ∷ ps) = let a = put_lengths seen p in let b = once_no_fewer (put_once seen p) ps in omega arith

once_no_more : (seen ps : List PrefixValue) → length (once_after seen ps) ≤ length seen + length ps
once_no_more seen [] = omega arith
once_no_more seen (p ∷ ps) = let a = put_lengths seen p in let b = once_no_more (put_once seen p) ps in omega arith

once_some : (ps : List PrefixValue) → 0 < length ps → 0 < length (once_after [] ps)
once_some [] some = absurd (omega arith)
once_some (p ∷ ps) some = let h : 1 ≤ length (once_after (p ∷ []) ps) = once_no_fewer (p ∷ []) ps in omega arith

-- ---- their octets

prefix_small : (p : PrefixValue) → prefix_size p ≤ 5
prefix_small p = let h = length-take (octets_for p.len) (to_be_bytes w32 p.address) in omega arith

pub prefixes_small : (ps : List PrefixValue) → sum_by prefix_size ps ≤ 5 * length ps
prefixes_small [] = omega arith
prefixes_small (p ∷ ps) =
    let h = sum_by-cons prefix_size p ps in
    let one = prefix_small p in
    let more = prefixes_small ps in
    omega arith

-- ---- what a step names

-- Prefixes that can stand in one UPDATE, of which there are some, and few.
pub record AreSaid (ps : List PrefixValue) : Type 0 where
  pub formed : All IsPrefix ps
  pub once : IsDistinct same_prefix ps
  pub some : 0 < length ps
  pub few : length ps ≤ 200

pub prefixes_said : (t : Members) → IsWithin 1 200 (length (prefixes_at (codes "prefixes") t)) → AreSaid (said_prefixes t)
prefixes_said t within =
    let written : List PrefixValue = prefixes_at (codes "prefixes") t in
    let enough : 1 ≤ length written = within.enough in
    let few : length written ≤ 200 = within.few in
    let once : EachOnce written (once_after [] written) = (each_once written (once_after [] written)).0 refl in
    record {
      formed = All-from_recursion IsPrefix (once_after [] written) (once_each [] written tt (prefixes_formed (items_at (codes "prefixes") t)));
      once = once.distinct;
      some = once_some written (omega arith);
      few = let h = once_no_more [] written in omega arith;
    }
