-- Prefixes, one after another.
use Rattle.std.proofs.Common.{◌≡◌, ℕ, ◌<◌, List, [], ◌∷◌, ◌++◌, length, take, drop, map, false, ltb, Option, Some}
use Rattle.std.proofs.Common.{None, refl, sym, ap, ◌∙◌, arith, length-drop, length-append, subst}
use Rattle.std.specs.Prelude.{◌||◌}
use Rattle.std.specs.Option.{option_map}
use Rattle.std.proofs.lemmas.Option.{same_Some}
use Rattle.std.proofs.lemmas.Bool.{le-ltb, ltb-false}
use Rattle.std.proofs.lemmas.List.{length-take-le, take_at, drop_at, take-append-drop}
use Rattle.bgp_types.specs.Many.{all_of}
use Rattle.bgp_types.specs.OctetLists.{AreOctets}
use Rattle.bgp_types.specs.Prefixes.{PrefixValue, WirePrefix, IsWirePrefix, wire_octets, prefix_said, prefix_at, octets_for, once_after, prefixes_of}
use Rattle.bgp_types.specs.Reads.{ReadsPrefixes}
use Rattle.bgp_types.proofs.AttrLaws.{AreOctets-drop}
use Rattle.bgp_types.proofs.ManyLaws.{Reads, all_again, kept_out, either_false}
use Rattle.bgp_types.proofs.TakesLaws.{TakesOne, all_taken}

pub prefix_takes : (bytes : List ℕ) (x : WirePrefix × List ℕ) → AreOctets bytes → prefix_at bytes ≡ Some x
    → TakesOne AreOctets prefix_at wire_octets IsWirePrefix bytes x
unfolding prefix_at
prefix_takes [] x b e = absurd cc
prefix_takes (len ∷ bytes) x b e =
    let n : ℕ = octets_for len in
    let w : WirePrefix = record { len = len; octets = take n bytes } in
    let h = kept_out (ltb 32 len || ltb (length bytes) n) (Some (w, drop n bytes)) x e in
    let t = either_false (ltb 32 len) (ltb (length bytes) n) h.0 in
    let here : TakesOne AreOctets prefix_at wire_octets IsWirePrefix (len ∷ bytes) (w, drop n bytes) = record {
      parts = ap (λ (y : List ℕ). len ∷ y) (sym (take-append-drop n bytes));
      fits = record { len = ltb-false _ _ t.0; octets = length-take-le n bytes (ltb-false _ _ t.1) };
      rest = AreOctets-drop n bytes (AreOctets-drop 1 (len ∷ bytes) b);
    } in
    subst (λ (y : WirePrefix × List ℕ). TakesOne AreOctets prefix_at wire_octets IsWirePrefix (len ∷ bytes) y) (same_Some _ x h.1) here

prefix_shorter : (bytes : List ℕ) (x : WirePrefix × List ℕ) → prefix_at bytes ≡ Some x → length x.1 < length bytes
unfolding prefix_at
prefix_shorter [] x e = absurd cc
prefix_shorter (len ∷ bytes) x e =
    let n : ℕ = octets_for len in
    let w : WirePrefix = record { len = len; octets = take n bytes } in
    let h = kept_out (ltb 32 len || ltb (length bytes) n) (Some (w, drop n bytes)) x e in
    let d : x.1 ≡ drop n bytes = ap (λ (y : WirePrefix × List ℕ). y.1) (sym (same_Some _ x h.1)) in
    rw (d, length-drop n bytes) (omega arith)

pub prefix_again : (w : WirePrefix) (rest : List ℕ) → IsWirePrefix w → prefix_at (wire_octets w ++ rest) ≡ Some (w, rest)
unfolding prefix_at
prefix_again w rest fits =
    let n : ℕ = octets_for w.len in
    let short : ltb 32 w.len ≡ false = le-ltb _ _ fits.len in
    let size = fits.octets in
    let long : ltb (length (w.octets ++ rest)) n ≡ false = le-ltb _ _ (omega (arith, length-append w.octets rest)) in
    rw (short, long, take_at w.octets rest n size, drop_at w.octets rest n size) refl

pub prefix_reads : Reads prefix_at wire_octets IsWirePrefix
prefix_reads = record { shortens = record { shorter = prefix_shorter }; again = prefix_again }

pub no_prefix : prefix_at [] ≡ None
unfolding prefix_at
no_prefix = refl

mapped : (o : Option (List WirePrefix)) (prefixes : List PrefixValue)
    → option_map (λ spelled. once_after [] (map prefix_said spelled)) o ≡ Some prefixes
    → (ws : List WirePrefix) × (o ≡ Some ws) × (prefixes ≡ once_after [] (map prefix_said ws))
mapped None prefixes e = absurd cc
mapped (Some ws) prefixes e = (ws, refl, sym (same_Some _ prefixes e))

pub prefixes_read : (field : List ℕ) (prefixes : List PrefixValue) → AreOctets field → prefixes_of field ≡ Some prefixes → ReadsPrefixes field prefixes
unfolding prefixes_of
prefixes_read field prefixes b e =
    let m = mapped (all_of prefix_at field) prefixes e in
    let t = all_taken AreOctets prefix_at wire_octets IsWirePrefix prefix_takes field m.0 b m.1 in
    record { spelled = m.0; octets = t.0; each = t.1; says = m.2 }

pub prefixes_are : (field : List ℕ) (prefixes : List PrefixValue) → ReadsPrefixes field prefixes → prefixes_of field ≡ Some prefixes
unfolding prefixes_of
prefixes_are field prefixes r =
    ap (λ (y : List ℕ). option_map (λ spelled. once_after [] (map prefix_said spelled)) (all_of prefix_at y)) r.octets
    ∙ (ap (option_map (λ spelled. once_after [] (map prefix_said spelled)))
    (all_again prefix_at wire_octets IsWirePrefix prefix_reads r.spelled r.each no_prefix)
    ∙ ap (λ (ps : List PrefixValue). Some ps) (sym r.says))
