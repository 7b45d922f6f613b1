-- A message that is written reads as itself.
use Rattle.std.proofs.Common.{◌≡◌, ℕ, zero, suc, ◌+◌, ◌-◌, ◌*◌, ◌/◌, ◌^◌, ◌<◌, ◌≤◌, List, [], ◌∷◌, ◌++◌, length, take, map, Bool}
use Rattle.std.proofs.Common.{false, cond, eqb, Option, Some, None, refl, sym, ap, ◌∙◌, arith, subst, append_assoc}
use Rattle.std.specs.Prelude.{◌&&◌, ◌||◌, not}
use Rattle.std.specs.List.{flat_map, AllByRecursion, list_any, IsDistinct}
use Rattle.std.specs.Int.{w32, to_be_bytes}
use Rattle.std.proofs.Math.Nat.{mul_assoc}
use Rattle.std.proofs.lemmas.Nat.{pow-add}
use Rattle.std.proofs.lemmas.Bool.Decides.{nat_tests}
use Rattle.std.proofs.lemmas.List.{length-take-le, append-nil}
use Rattle.std.proofs.lemmas.List.Elements.{recursion_from_All}
use Rattle.bgp_types.specs.declared.attrs.Attrs.{Attrs}
use Rattle.bgp_types.specs.declared.message.Cap.{Cap}
use Rattle.bgp_types.specs.declared.message.Message.{Message}
use Rattle.bgp_types.specs.declared.message.Message.TheVariants as messages
use Rattle.bgp_types.specs.declared.message.OpenMsg.{OpenMsg}
use Rattle.bgp_types.specs.declared.message.Update.{Update}
use Rattle.bgp_types.specs.declared.fault.FoundAttrs.{FoundAttrs}
use Rattle.bgp_types.specs.Found.{found_in}
use Rattle.bgp_types.specs.Prefixes.{PrefixValue, IsPrefix, cleared, octets_for, prefix_octets, address_of, WirePrefix}
use Rattle.bgp_types.specs.Prefixes.{IsWirePrefix, wire_octets, prefix_said, same_prefix, once_after}
use Rattle.bgp_types.specs.Reads.{Reads, ReadsBody, ReadsPrefixes, ReadsAttrs, ReadsUpdate, ReadsOpen, SaysAttributes}
use Rattle.bgp_types.specs.Spelling.{cap_octets, param_octets, spell_prefixes, spell_some_attrs}
use Rattle.bgp_types.specs.Spelling.{spell_update, open_octets, spell_open, spell_body, kind_of, spell}
use Rattle.bgp_types.specs.UpdateBody.{apart}
use Rattle.bgp_types.specs.Values.{is_no_host}
use Rattle.bgp_types.specs.Writable.{IsWritableOpen, HasAttrsFor, IsWritableUpdate, IsWritableBody, IsWritable}
use Rattle.bgp_types.proofs.AttrsWritten.{attrs_again, all_found}
use Rattle.bgp_types.proofs.Lengths.{framed_size, update_fields_size}

-- ---- prefixes

multiple : (len a t : ℕ) → t ≤ 32 - len → cleared len a ≡ a → (m : ℕ) × (a ≡ m * 2 ^ t)
multiple len a t le h =
    let s : ℕ = 32 - len in
    let k : s ≡ (s - t) + t = omega arith in (
      a / 2 ^ s * 2 ^ (s - t),
      sym h ∙ (ap (λ (x : ℕ). a / 2 ^ s * x) (ap (λ (y : ℕ). 2 ^ y) k ∙ pow-add 2 (s - t) t) ∙ sym (mul_assoc (a / 2 ^ s) (2 ^ (s - t)) (2 ^ t))),
    )

-- the octets that are written make up the address
same_address : (n len a : ℕ) → n ≡ octets_for len → len ≤ 32 → a < 2 ^ 32 → cleared len a ≡ a → address_of (take n (to_be_bytes w32 a)) ≡ a
same_address zero len a e le lt h = let m = multiple len a 32 (omega arith) h in let f = m.1 in omega arith
same_address (suc zero) len a e le lt h = let m = multiple len a 24 (omega arith) h in let f = m.1 in omega arith
same_address (suc (suc zero)) len a e le lt h = let m = multiple len a 16 (omega arith) h in let f = m.1 in omega arith
same_address (suc (suc (suc zero))) len a e le lt h = let m = multiple len a 8 (omega arith) h in let f = m.1 in omega arith
same_address (suc (suc (suc (suc zero)))) len a e le lt h = omega arith
same_address (suc (suc (suc (suc (suc n))))) len a e le lt h = absurd (omega arith)

abbrev wire_of : PrefixValue → WirePrefix
wire_of p = record { len = p.len; octets = take (octets_for p.len) (to_be_bytes w32 p.address) }

wire_fits : (p : PrefixValue) → IsPrefix p → IsWirePrefix (wire_of p)
wire_fits p fits = let le = fits.len in record { len = fits.len; octets = length-take-le (octets_for p.len) (to_be_bytes w32 p.address) (omega arith) }

wire_said : (p : PrefixValue) → IsPrefix p → prefix_said (wire_of p) ≡ p
wire_said p fits =
    ap (λ (a : ℕ). (let q : PrefixValue = record { address = cleared p.len a; len = p.len } in q))
    (same_address (octets_for p.len) p.len p.address refl fits.len fits.address fits.clear)
    ∙ ap (λ (a : ℕ). (let q : PrefixValue = record { address = a; len = p.len } in q)) fits.clear

wires_octets : (ps : List PrefixValue) → spell_prefixes ps ≡ flat_map wire_octets (map wire_of ps)
wires_octets [] = refl
wires_octets (p ∷ ps) = ap (λ (y : List ℕ). prefix_octets p ++ y) (wires_octets ps)

wires_fit : (ps : List PrefixValue) → AllByRecursion IsPrefix ps → AllByRecursion IsWirePrefix (map wire_of ps)
wires_fit [] all = tt
wires_fit (p ∷ ps) all = (wire_fits p all.0, wires_fit ps all.1)

wires_said : (ps : List PrefixValue) → AllByRecursion IsPrefix ps → map prefix_said (map wire_of ps) ≡ ps
wires_said [] all = refl
wires_said (p ∷ ps) all = ap (λ (q : PrefixValue). q ∷ map prefix_said (map wire_of ps)) (wire_said p all.0)
    ∙ ap (λ (qs : List PrefixValue). p ∷ qs) (wires_said ps all.1)

-- ---- no prefix twice

pub distinct_parts : (xs ys : List PrefixValue) → IsDistinct same_prefix (xs ++ ys) → IsDistinct same_prefix xs × IsDistinct same_prefix ys
unfolding IsDistinct
distinct_parts [] ys d = (tt, d)
distinct_parts (x ∷ xs) ys d = let h = distinct_parts xs ys d.1 in ((front xs ys d.0, h.0), h.1) where
  front : (xs ys : List PrefixValue) → AllByRecursion (λ y. same_prefix x y ≡ false) (xs ++ ys) → AllByRecursion (λ y. same_prefix x y ≡ false) xs
  front [] ys all = tt
  front (z ∷ zs) ys all = (all.0, front zs ys all.1)

pub same_turned : (p q : PrefixValue) → same_prefix p q ≡ same_prefix q p
same_turned p q =
    both (eqb p.address q.address) (eqb q.address p.address) (eqb p.len q.len) (eqb q.len p.len) (turned p.address q.address) (turned p.len q.len)
  where
    turned : (m n : ℕ) → eqb m n ≡ eqb n m
    turned m n = grind (arith, nat_tests)

    both : (a b c d : Bool) → a ≡ b → c ≡ d → (a && c) ≡ (b && d)
    both a b c d e f = cc

-- none of a list is the prefix
none_is : (p : PrefixValue) (ps : List PrefixValue) → AllByRecursion (λ q. same_prefix p q ≡ false) ps → list_any (same_prefix p) ps ≡ false
none_is p [] all = refl
none_is p (q ∷ ps) all = ap (λ (t : Bool). t || list_any (same_prefix p) ps) all.0 ∙ none_is p ps all.1

before_all : (p : PrefixValue) (xs ys : List PrefixValue) → IsDistinct same_prefix (xs ++ p ∷ ys) → AllByRecursion (λ q. same_prefix p q ≡ false) xs
unfolding IsDistinct
before_all p [] ys d = tt
before_all p (x ∷ xs) ys d = (same_turned p x ∙ middle xs ys d.0, before_all p xs ys d.1) where
  middle : (xs ys : List PrefixValue) → AllByRecursion (λ q. same_prefix x q ≡ false) (xs ++ p ∷ ys) → same_prefix x p ≡ false
  middle [] ys all = all.0
  middle (z ∷ zs) ys all = middle zs ys all.1

-- distinct prefixes stay as they are
pub once_same : (seen ps : List PrefixValue) → IsDistinct same_prefix (seen ++ ps) → once_after seen ps ≡ seen ++ ps
once_same seen [] d = sym (append-nil seen)
once_same seen (p ∷ ps) d =
    let fresh : list_any (same_prefix p) seen ≡ false = none_is p seen (before_all p seen ps d) in
    let joined : (seen ++ p ∷ []) ++ ps ≡ seen ++ p ∷ ps = append_assoc seen (p ∷ []) ps in
    ap (λ (t : Bool). once_after (cond t seen (seen ++ p ∷ [])) ps) fresh
    ∙ (once_same (seen ++ p ∷ []) ps (subst (λ (xs : List PrefixValue). IsDistinct same_prefix xs) (sym joined) d) ∙ joined)

prefixes_again : (ps : List PrefixValue) → AllByRecursion IsPrefix ps → IsDistinct same_prefix ps → ReadsPrefixes (spell_prefixes ps) ps
prefixes_again ps all d = record {
  spelled = map wire_of ps;
  octets = wires_octets ps;
  each = wires_fit ps all;
  says = sym (ap (once_after []) (wires_said ps all) ∙ once_same [] ps d);
}

-- no prefix of the first list stands in the second
apart_same : (xs ys : List PrefixValue) → IsDistinct same_prefix (xs ++ ys) → apart xs ys ≡ xs
unfolding IsDistinct
apart_same [] ys d = refl
apart_same (x ∷ xs) ys d =
    let fresh : list_any (same_prefix x) ys ≡ false = none_is x ys (back xs ys d.0) in
    ap (λ (t : Bool). cond (not t) (x ∷ apart xs ys) (apart xs ys)) fresh ∙ ap (λ (zs : List PrefixValue). x ∷ zs) (apart_same xs ys d.1)
  where
    back : (xs ys : List PrefixValue) → AllByRecursion (λ q. same_prefix x q ≡ false) (xs ++ ys) → AllByRecursion (λ q. same_prefix x q ≡ false) ys
    back [] ys all = all
    back (z ∷ zs) ys all = back zs ys all.1

-- ---- messages

-- what attributes or none read as
record ReadsSome (wide : Bool) (a : Option Attrs) (nlri : List PrefixValue) : Type 0 where
  found : FoundAttrs
  reads : ReadsAttrs wide (spell_some_attrs wide a) found
  says : SaysAttributes found a nlri

some_again : (wide : Bool) (a : Option Attrs) (nlri : List PrefixValue) → HasAttrsFor a nlri → length (spell_some_attrs wide a) < 65536 → ReadsSome wide a nlri
some_again wide None nlri h lt =
    record { found = found_in wide []; reads = record { attrs = []; octets = refl; each = tt; sound = tt; once = tt; says = refl }; says = h }
some_again wide (Some a) nlri h lt = record { found = all_found a; reads = attrs_again wide a h.1 lt; says = (h.0, refl) }

pub update_written : (wide : Bool) (u : Update) → IsWritableUpdate u → length (spell_update wide u) < 65536 → ReadsUpdate wide (spell_update wide u) u
update_written wide u w lt =
    let size = update_fields_size wide u in
    let parts = distinct_parts u.withdrawn u.nlri w.once in
    let some = some_again wide u.attrs u.nlri w.attrs (omega arith) in
    record {
      withdrawn = spell_prefixes u.withdrawn;
      attrs = spell_some_attrs wide u.attrs;
      nlri = spell_prefixes u.nlri;
      fields = refl;
      withdrawn_room = omega arith;
      attrs_room = omega arith;
      prefixes = u.withdrawn;
      reads_withdrawn = prefixes_again u.withdrawn (recursion_from_All IsPrefix u.withdrawn w.withdrawn) parts.0;
      found = some.found;
      reads_attrs = some.reads;
      reads_nlri = prefixes_again u.nlri (recursion_from_All IsPrefix u.nlri w.nlri) parts.1;
      announced = some.says;
      others = sym (apart_same u.withdrawn u.nlri w.once);
    }

-- each capability in a parameter of its own
abbrev alone : List Cap → List (List Cap)
alone [] = []
alone (cap ∷ caps) = (cap ∷ []) ∷ alone caps

alone_octets : (caps : List Cap) → flat_map (λ cap. param_octets (cap_octets cap)) caps ≡ flat_map (λ cs. param_octets (flat_map cap_octets cs)) (alone caps)
alone_octets [] = refl
alone_octets (cap ∷ caps) =
    ap (λ (y : List ℕ). param_octets y ++ flat_map (λ c. param_octets (cap_octets c)) caps) (sym (append-nil (cap_octets cap)))
    ∙ ap (λ (y : List ℕ). param_octets (flat_map cap_octets (cap ∷ [])) ++ y) (alone_octets caps)

alone_caps : (caps : List Cap) → caps ≡ flat_map (λ cs. cs) (alone caps)
alone_caps [] = refl
alone_caps (cap ∷ caps) = ap (λ (cs : List Cap). cap ∷ cs) (alone_caps caps)

host_small : (n : ℕ) → is_no_host n ≡ false → n < 2 ^ 32
host_small n host = grind (arith, nat_tests)

pub open_written : (o : OpenMsg) → IsWritableOpen o → ReadsOpen (spell_open o) o
open_written o w =
    let same = alone_octets o.caps in
    record {
      params = alone o.caps;
      octets = ap (λ (y : List ℕ). open_octets o.as_number o.hold o.identifier y) same;
      room = subst (λ (y : List ℕ). length y < 256) same w.params;
      caps = alone_caps o.caps;
      as_number = w.as_number;
      hold = w.hold;
      identifier = host_small o.identifier w.identifier;
      hold_time = w.hold_time;
      host = w.identifier;
    }

body_written : (m : Message) (wide : Bool) → IsWritableBody m → length (spell_body m wide) < 65536 → ReadsBody (spell_body m wide) m wide
body_written (messages.OpenMsg o) wide w lt = open_written o w
body_written (messages.UpdateMsg u) wide w lt = update_written wide u w lt
body_written (messages.NoticeMsg n) wide w lt = refl
body_written messages.KeepaliveMsg wide w lt = refl

spelled_size : (m : Message) (wide : Bool) → length (spell m wide) ≡ 19 + length (spell_body m wide)
unfolding spell
spelled_size m wide = framed_size (kind_of m) (spell_body m wide)

pub written_reads : (m : Message) (wide : Bool) → IsWritable m wide → Reads (spell m wide) m wide
unfolding spell
written_reads m wide w =
    let size : length (spell m wide) ≤ 4096 = w.size in
    let total : length (spell m wide) ≡ 19 + length (spell_body m wide) = spelled_size m wide in
    record { body = spell_body m wide; octets = refl; size = w.size; says = body_written m wide w.body (omega arith) }
