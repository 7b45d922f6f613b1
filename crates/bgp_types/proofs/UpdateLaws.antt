-- An UPDATE reads as what its octets say.
use Rattle.std.proofs.Common.{◌≡◌, ℕ, ◌^◌, ◌≤◌, ◌<◌, List, [], ◌∷◌, ◌++◌, length, take, drop, map, Bool, true, false, cond, Option}
use Rattle.std.proofs.Common.{Some, None, Result, Ok, Err, refl, sym, ap, ◌∙◌, arith, length-append, subst, append_assoc}
use Rattle.std.specs.Prelude.{◌≢◌}
use Rattle.std.specs.List.{flat_map, list_any}
use Rattle.std.specs.Int.{w16, from_be_bytes, to_be_bytes}
use Rattle.std.proofs.lemmas.Option.{same_Some}
use Rattle.std.proofs.lemmas.List.{length-take-le, take-append-drop}
use Rattle.bgp_types.specs.declared.attrs.Attrs.{Attrs}
use Rattle.bgp_types.specs.declared.attrs.Origin.{Origin}
use Rattle.bgp_types.specs.declared.fault.FoundAttrs.{FoundAttrs}
use Rattle.bgp_types.specs.declared.message.Notice.{Notice}
use Rattle.bgp_types.specs.declared.message.Update.{Update}
use Rattle.bgp_types.specs.declared.path.PathPart.{PathPart}
use Rattle.bgp_types.specs.Found.{attrs_in}
use Rattle.bgp_types.specs.Many.{number_at, told_at, many, many_within}
use Rattle.bgp_types.specs.OctetLists.{AreOctets}
use Rattle.bgp_types.specs.Prefixes.{PrefixValue, WirePrefix, wire_octets, prefix_said, same_prefix, put_once, once_after, prefix_at, prefixes_of}
use Rattle.bgp_types.specs.Reads.{ReadsPrefixes, ReadsUpdate, SaysAttributes}
use Rattle.bgp_types.specs.Spelling.{length_prefixed}
use Rattle.bgp_types.specs.UpdateBody.{Fields, with_attrs_field, with_withdrawn_field, fields_of, with_known, all_known}
use Rattle.bgp_types.specs.UpdateBody.{apart, with_nlri, with_found, with_withdrawn, with_fields, update_of}
use Rattle.bgp_types.proofs.AttrLaws.{AreOctets-drop, AreOctets-take, wide16, number_is, told_is, number_again, told_again}
use Rattle.bgp_types.proofs.AttrsReads.{attrs_read, attrs_are}
use Rattle.bgp_types.proofs.PrefixLaws.{prefixes_read, prefixes_are}

-- ---- fields behind their lengths

record TakesField (bytes : List ℕ) (v : List ℕ × List ℕ) : Type 0 where
  parts : bytes ≡ length_prefixed v.0 ++ v.1
  room : length v.0 < 2 ^ 16
  field : AreOctets v.0
  rest : AreOctets v.1

field_takes : (bytes : List ℕ) (v : List ℕ × List ℕ) → AreOctets bytes → told_at (number_at w16 bytes) ≡ Some v → TakesField bytes v
field_takes bytes v b e =
    let t = told_is (number_at w16 bytes) v e in
    let c = number_is w16 bytes t.0 t.1 in
    let n : ℕ = from_be_bytes w16 (take 2 bytes) in
    let rest : List ℕ = drop 2 bytes in
    let front = AreOctets-take 2 bytes b in
    let rest_fits : AreOctets rest = AreOctets-drop 2 bytes b in
    let long : n ≤ length rest = subst (λ (y : ℕ × List ℕ). y.0 ≤ length y.1) (sym c.1) t.2 in
    let len : length (take n rest) ≡ n = length-take-le n rest long in
    let size : to_be_bytes w16 n ≡ take 2 bytes = wide16.back (take 2 bytes) (length-take-le 2 bytes c.0) front in
    let parts : bytes ≡ length_prefixed (take n rest) ++ drop n rest =
    sym (take-append-drop 2 bytes) ∙ (ap (λ (y : List ℕ). y ++ rest) (sym size) ∙ (ap (λ (y : List ℕ). to_be_bytes w16 n ++ y) (sym (take-append-drop n rest))
    ∙ (sym (append_assoc (to_be_bytes w16 n) (take n rest) (drop n rest)) ∙ ap (λ (m : ℕ). (to_be_bytes w16 m ++ take n rest) ++ drop n rest) (sym len)))) in
    let below : n < 2 ^ 16 = wide16.below (take 2 bytes) front in
    let here : TakesField bytes (take n rest, drop n rest) =
    record { parts = parts; room = rw len below; field = AreOctets-take n rest rest_fits; rest = AreOctets-drop n rest rest_fits } in
    let value : (take n rest, drop n rest) ≡ v = ap (λ (y : ℕ × List ℕ). (take y.0 y.1, drop y.0 y.1)) c.1 ∙ t.3 in
    subst (λ (y : List ℕ × List ℕ). TakesField bytes y) value here

field_again : (value rest : List ℕ) → length value < 2 ^ 16 → told_at (number_at w16 (length_prefixed value ++ rest)) ≡ Some (value, rest)
field_again value rest lt =
    ap (λ (y : List ℕ). told_at (number_at w16 y)) (append_assoc (to_be_bytes w16 (length value)) value rest)
    ∙ (ap told_at (number_again w16 65536 wide16 (length value) (value ++ rest) lt) ∙ told_again value rest)

record TakesFields (body : List ℕ) (f : Fields) : Type 0 where
  parts : body ≡ length_prefixed f.withdrawn ++ (length_prefixed f.attrs ++ f.nlri)
  withdrawn_room : length f.withdrawn < 2 ^ 16
  attrs_room : length f.attrs < 2 ^ 16
  withdrawn_fits : AreOctets f.withdrawn
  attrs_fits : AreOctets f.attrs
  nlri_fits : AreOctets f.nlri

attrs_field_is : (withdrawn : List ℕ) (o : Option (List ℕ × List ℕ)) (f : Fields) → with_attrs_field withdrawn o ≡ Some f
    → (a : List ℕ × List ℕ) × (o ≡ Some a) × ((let g : Fields = record { withdrawn = withdrawn; attrs = a.0; nlri = a.1 } in g) ≡ f)
attrs_field_is withdrawn None f e = absurd cc
attrs_field_is withdrawn (Some a) f e = (a, refl, same_Some _ f e)

withdrawn_field_is : (o : Option (List ℕ × List ℕ)) (f : Fields) → with_withdrawn_field o ≡ Some f
    → (w : List ℕ × List ℕ) × (o ≡ Some w) × (with_attrs_field w.0 (told_at (number_at w16 w.1)) ≡ Some f)
withdrawn_field_is None f e = absurd cc
withdrawn_field_is (Some w) f e = (w, refl, e)

fields_take : (body : List ℕ) (f : Fields) → AreOctets body → fields_of body ≡ Some f → TakesFields body f
unfolding fields_of
fields_take body f b e =
    let w = withdrawn_field_is (told_at (number_at w16 body)) f e in
    let first = field_takes body w.0 b w.1 in
    let a = attrs_field_is w.0.0 (told_at (number_at w16 w.0.1)) f w.2 in
    let second = field_takes w.0.1 a.0 first.rest a.1 in
    let here : TakesFields body (record { withdrawn = w.0.0; attrs = a.0.0; nlri = a.0.1 }) = record {
      parts = first.parts ∙ ap (λ (y : List ℕ). length_prefixed w.0.0 ++ y) second.parts;
      withdrawn_room = first.room;
      attrs_room = second.room;
      withdrawn_fits = first.field;
      attrs_fits = second.field;
      nlri_fits = second.rest;
    } in
    subst (λ (g : Fields). TakesFields body g) a.2 here

fields_again : (withdrawn attrs nlri : List ℕ) → length withdrawn < 2 ^ 16 → length attrs < 2 ^ 16
    → fields_of (length_prefixed withdrawn ++ (length_prefixed attrs ++ nlri)) ≡ Some (record { withdrawn = withdrawn; attrs = attrs; nlri = nlri })
unfolding fields_of
fields_again withdrawn attrs nlri w a =
    ap with_withdrawn_field (field_again withdrawn (length_prefixed attrs ++ nlri) w) ∙ ap (with_attrs_field withdrawn) (field_again attrs nlri a)

-- ---- what is read

-- an announcement's attributes are all found
abbrev found_for : Attrs → FoundAttrs
found_for a = record {
  origin = Some a.origin;
  path = Some a.path;
  next_hop = Some a.next_hop;
  med = a.med;
  atomic = a.atomic;
  aggregator = a.aggregator;
  unknown = a.unknown;
}

known_is : (o : Option Origin) (p : Option (List PathPart)) (n : Option ℕ) (found : FoundAttrs) (a : Attrs) → found.origin ≡ o → found.path ≡ p
    → found.next_hop ≡ n → with_known o p n found ≡ Ok a → found ≡ found_for a
known_is None p n found a e1 e2 e3 e = absurd cc
known_is (Some o) None n found a e1 e2 e3 e = absurd cc
known_is (Some o) (Some p) None found a e1 e2 e3 e = absurd cc
known_is (Some o) (Some p) (Some n) found a e1 e2 e3 e = same_found o p n found a e1 e2 e3 (same_Ok _ a e) where
  same_Ok : (x y : Attrs) → (let r : Result Attrs Notice = Ok x in r) ≡ Ok y → x ≡ y
  same_Ok x y e = cc

  same_found : (o : Origin) (p : List PathPart) (n : ℕ) (found : FoundAttrs) (a : Attrs) → found.origin ≡ Some o → found.path ≡ Some p → found.next_hop ≡ Some n
      → (let b : Attrs =
      record { origin = o; path = p; next_hop = n; med = found.med; atomic = found.atomic; aggregator = found.aggregator; unknown = found.unknown } in b)
      ≡ a → found ≡ found_for a
  same_found o p n found a e1 e2 e3 e = grind arith

all_known_is : (found : FoundAttrs) (a : Attrs) → all_known found ≡ Ok a → found ≡ found_for a
unfolding all_known
all_known_is found a e = known_is found.origin found.path found.next_hop found a refl refl refl e

known_again : (a : Attrs) → all_known (found_for a) ≡ Ok a
unfolding all_known
known_again a = refl

update_fields : (wide : Bool) (o : Option Fields) (u : Update) → with_fields wide o ≡ Ok u
    → (f : Fields) × (o ≡ Some f) × (with_withdrawn wide (prefixes_of f.withdrawn) f ≡ Ok u)
update_fields wide None u e = absurd cc
update_fields wide (Some f) u e = (f, refl, e)

update_withdrawn : (wide : Bool) (o : Option (List PrefixValue)) (f : Fields) (u : Update) → with_withdrawn wide o f ≡ Ok u
    → (ps : List PrefixValue) × (o ≡ Some ps) × (with_found ps (attrs_in wide f.attrs) f.nlri ≡ Ok u)
update_withdrawn wide None f u e = absurd cc
update_withdrawn wide (Some ps) f u e = (ps, refl, e)

apart_nil : (prefixes : List PrefixValue) → apart prefixes [] ≡ prefixes
apart_nil [] = refl
apart_nil (p ∷ prefixes) = ap (λ (ps : List PrefixValue). p ∷ ps) (apart_nil prefixes)

no_prefixes : prefixes_of [] ≡ Some []
unfolding prefixes_of prefix_at many many_within
no_prefixes = refl

-- prefixes in a field that isn't empty
longer : (seen : List PrefixValue) (p : PrefixValue) → length seen ≤ length (put_once seen p)
longer seen p = by_test (list_any (same_prefix p) seen) where
  by_test : (t : Bool) → length seen ≤ length (cond t seen (seen ++ p ∷ []))
  by_test true = omega arith
  by_test false = omega (arith, length-append seen (p ∷ []))

once_longer : (seen prefixes : List PrefixValue) → length seen ≤ length (once_after seen prefixes)
once_longer seen [] = omega arith
once_longer seen (p ∷ prefixes) = let a = longer seen p in let b = once_longer (put_once seen p) prefixes in omega arith

some_prefix : (b : ℕ) (rest : List ℕ) (prefixes : List PrefixValue) → ReadsPrefixes (b ∷ rest) prefixes → prefixes ≢ []
some_prefix b rest prefixes r e = by_spelled r.spelled r.octets r.says where
  by_spelled : (ws : List WirePrefix) → b ∷ rest ≡ flat_map wire_octets ws → prefixes ≡ once_after [] (map prefix_said ws) → ⊥
  by_spelled [] f says = absurd cc
  by_spelled (w ∷ ws) f says =
      let some : 1 ≤ length (once_after (prefix_said w ∷ []) (map prefix_said ws)) = once_longer (prefix_said w ∷ []) (map prefix_said ws) in
      let none : length (once_after (prefix_said w ∷ []) (map prefix_said ws)) ≡ 0 = ap length (sym says) ∙ ap length e in
      omega arith

-- the last part: what is found, and the announced prefixes
record IsFound (prefixes : List PrefixValue) (found : FoundAttrs) (nlri : List ℕ) (u : Update) : Type 0 where
  announced : SaysAttributes found u.attrs u.nlri
  reads_nlri : ReadsPrefixes nlri u.nlri
  others : u.withdrawn ≡ apart prefixes u.nlri

nlri_is : (prefixes : List PrefixValue) (found : FoundAttrs) (known : Result Attrs Notice) (b : ℕ) (rest : List ℕ) (o : Option (List PrefixValue)) (u : Update)
    → AreOctets (b ∷ rest) → all_known found ≡ known → prefixes_of (b ∷ rest) ≡ o → with_nlri prefixes known o ≡ Ok u
    → IsFound prefixes found (b ∷ rest) u
nlri_is prefixes found (Err n) b rest o u fits k p e = absurd cc
nlri_is prefixes found (Ok a) b rest None u fits k p e = absurd cc
nlri_is prefixes found (Ok a) b rest (Some nlri) u fits k p e =
    let reads = prefixes_read (b ∷ rest) nlri fits p in
    let here : IsFound prefixes found (b ∷ rest) (record { withdrawn = apart prefixes nlri; attrs = Some a; nlri = nlri }) =
    record { announced = (some_prefix b rest nlri reads, all_known_is found a k); reads_nlri = reads; others = refl } in
    subst (λ (v : Update). IsFound prefixes found (b ∷ rest) v) (same_Ok _ u e) here
  where
    same_Ok : (x y : Update) → (let r : Result Update Notice = Ok x in r) ≡ Ok y → x ≡ y
    same_Ok x y e = cc

found_read : (prefixes : List PrefixValue) (r : Result FoundAttrs Notice) (nlri : List ℕ) (u : Update) → AreOctets nlri
    → with_found prefixes r nlri ≡ Ok u → (found : FoundAttrs) × (r ≡ Ok found) × IsFound prefixes found nlri u
found_read prefixes (Err n) nlri u fits e = absurd cc
found_read prefixes (Ok found) [] u fits e =
    let here : IsFound prefixes found [] (record { withdrawn = prefixes; attrs = None; nlri = [] }) =
    record { announced = refl; reads_nlri = prefixes_read [] [] fits no_prefixes; others = sym (apart_nil prefixes) } in
    (found, refl, subst (λ (v : Update). IsFound prefixes found [] v) (same_Ok _ u e) here)
  where
    same_Ok : (x y : Update) → (let r : Result Update Notice = Ok x in r) ≡ Ok y → x ≡ y
    same_Ok x y e = cc
found_read prefixes (Ok found) (b ∷ rest) u fits e = (found, refl, nlri_is prefixes found (all_known found) b rest (prefixes_of (b ∷ rest)) u fits refl refl e)

pub update_read : (wide : Bool) (body : List ℕ) (u : Update) → AreOctets body → update_of wide body ≡ Ok u → ReadsUpdate wide body u
unfolding update_of
update_read wide body u b e =
    let f = update_fields wide (fields_of body) u e in
    let t = fields_take body f.0 b f.1 in
    let w = update_withdrawn wide (prefixes_of f.0.withdrawn) f.0 u f.2 in
    let r = found_read w.0 (attrs_in wide f.0.attrs) f.0.nlri u t.nlri_fits w.2 in
    record {
      withdrawn = f.0.withdrawn;
      attrs = f.0.attrs;
      nlri = f.0.nlri;
      fields = t.parts;
      withdrawn_room = t.withdrawn_room;
      attrs_room = t.attrs_room;
      prefixes = w.0;
      reads_withdrawn = prefixes_read f.0.withdrawn w.0 t.withdrawn_fits w.1;
      found = r.0;
      reads_attrs = attrs_read wide f.0.attrs r.0 t.attrs_fits r.1;
      reads_nlri = r.2.reads_nlri;
      announced = r.2.announced;
      others = r.2.others;
    }

-- ---- what is spelled is read

found_are : (prefixes : List PrefixValue) (found : FoundAttrs) (nlri : List ℕ) (w : List PrefixValue) (o : Option Attrs) (ps : List PrefixValue)
    → SaysAttributes found o ps → ReadsPrefixes nlri ps → w ≡ apart prefixes ps →
    with_found prefixes (Ok found) nlri ≡ Ok (record { withdrawn = w; attrs = o; nlri = ps })
found_are prefixes found [] w None ps says reads others = same_update _ _ _ _ (sym (others ∙ (ap (apart prefixes) says ∙ apart_nil prefixes))) (sym says) where
  same_update : (w w' ps ps' : List PrefixValue) → w ≡ w' → ps ≡ ps'
      → (let r : Result Update Notice = Ok (record { withdrawn = w; attrs = None; nlri = ps }) in r) ≡ Ok (record { withdrawn = w'; attrs = None; nlri = ps' })
  same_update w w' ps ps' e f = cc
found_are prefixes found (b ∷ rest) w None ps says reads others = absurd (some_prefix b rest ps reads says)
found_are prefixes found [] w (Some a) ps says reads others = absurd (says.0 (same_Some ps [] (sym (prefixes_are [] ps reads) ∙ no_prefixes)))
found_are prefixes found (b ∷ rest) w (Some a) ps says reads others =
    ap (λ (r : Result Attrs Notice). with_nlri prefixes r (prefixes_of (b ∷ rest))) (ap all_known says.1 ∙ known_again a)
    ∙ (ap (with_nlri prefixes (Ok a)) (prefixes_are (b ∷ rest) ps reads)
    ∙ ap (λ (v : List PrefixValue). (let r : Result Update Notice = Ok (record { withdrawn = v; attrs = Some a; nlri = ps }) in r)) (sym others))

pub update_are : (wide : Bool) (body : List ℕ) (u : Update) → ReadsUpdate wide body u → update_of wide body ≡ Ok u
unfolding update_of
update_are wide body u r =
    ap (λ (y : List ℕ). with_fields wide (fields_of y)) r.fields
    ∙ (ap (with_fields wide) (fields_again r.withdrawn r.attrs r.nlri r.withdrawn_room r.attrs_room)
    ∙ (ap (λ (o : Option (List PrefixValue)). with_withdrawn wide o (record { withdrawn = r.withdrawn; attrs = r.attrs; nlri = r.nlri }))
    (prefixes_are r.withdrawn r.prefixes r.reads_withdrawn)
    ∙ (ap (λ (x : Result FoundAttrs Notice). with_found r.prefixes x r.nlri) (attrs_are wide r.attrs r.found r.reads_attrs)
    ∙ found_are r.prefixes r.found r.nlri u.withdrawn u.attrs u.nlri r.announced r.reads_nlri r.others)))
