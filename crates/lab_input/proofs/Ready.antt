-- What is known of an input that is accepted: its document has no flaw, and the UPDATEs of its steps can be written.
use Rattle.std.proofs.Common.{◌≡◌, ◌≢◌, ℕ, ◌^◌, ◌<◌, ◌≤◌, Bool, true, false, cond, List, [], ◌∷◌, ◌++◌, length, refl, sym, ap, subst, arith}
use Rattle.std.specs.Prelude.{Option, Some, None, option_map, Result, Ok, Err, sum_by, slice_get, codes, nat_lt}
use Rattle.std.specs.Option.{option_or}
use Rattle.std.specs.Result.{result_unwrap_or}
use Rattle.std.specs.List.{AllByRecursion, IsDistinct}
use Rattle.std.proofs.lemmas.Bool.{false≢true}
use Rattle.std.proofs.lemmas.List.{append-nil}
use Rattle.std.proofs.lemmas.List.Elements.{All-nil}
use Rattle.toml.specs.Data.{Members}
use Rattle.bgp_types.specs.declared.attrs.Attrs.{Attrs}
use Rattle.bgp_types.specs.declared.message.Message.TheVariants.{UpdateMsg}
use Rattle.bgp_types.specs.declared.message.Update.{Update}
use Rattle.bgp_types.specs.Lengths.{prefix_size}
use Rattle.bgp_types.specs.Prefixes.{PrefixValue, IsPrefix, same_prefix}
use Rattle.bgp_types.specs.Spelling.{spell, spell_some_attrs}
use Rattle.bgp_types.specs.Values.{is_no_host}
use Rattle.bgp_types.specs.Writable.{IsWritableUpdate, IsWritable}
use Rattle.bgp_types.proofs.Lengths.{update_size}
use Rattle.lab_keys.specs.declared.flaw.Flaw.{Flaw}
use Rattle.lab_keys.specs.declared.flaw.Flaw.TheVariants.{Shape}
use Rattle.lab_keys.specs.Spots.{spot_of}
use Rattle.lab_keys.specs.declared.key.Kind.TheVariants.{Number, Name, Host, Prefix, Origin}
use Rattle.lab_keys.specs.declared.table_at.TableAt.TheVariants as tables
use Rattle.lab_keys.specs.Kinds.{flaw_if}
use Rattle.lab_keys.specs.Keys.{required, optional, required_array, optional_array, key_flaw, keys_flaw, tables_flaw}
use Rattle.lab_keys.specs.Values.{has_member, number_or, address_or, prefixes_at, numbers_at, tables_at, items_at}
use Rattle.lab_keys.proofs.NoFlaws.{none_left, none_right, IsWithin, number_within, host_required, host_optional, prefixes_within, numbers_few, tables_all}
use Rattle.lab_tables.specs.declared.input.LabInput.{LabInput}
use Rattle.lab_tables.specs.declared.input.PeeringInput.{PeeringInput}
use Rattle.lab_tables.specs.declared.input.Step.{Step}
use Rattle.lab_tables.specs.declared.input.Step.TheVariants.{Announce, Withdraw}
use Rattle.lab_keys.specs.declared.words.StepWord.{StepWord}
use Rattle.lab_keys.specs.declared.words.StepWord.TheVariants.{Announces, Withdraws, SaysRaw, Grafts, Settles, Evacuates}
use Rattle.lab_tables.specs.Peerings.{peering_ends, peering_rest, peering_flaw}
use Rattle.lab_tables.specs.Meanings.{word_at}
use Rattle.lab_tables.specs.Scripts.{announce_keys, withdraw_keys, do_keys, is_crowded, worded_flaw, grouped_flaw}
use Rattle.lab_tables.specs.Scripts.{step_flaw, step_ases, said_prefixes, said_attrs, peering_number, worded_step, step_of}
use Rattle.lab_tables.specs.Documents.{shaped, lab_of}
use Rattle.lab_input.specs.declared.bad.BadInput.{BadInput}
use Rattle.lab_input.specs.declared.bad.BadInput.TheVariants.{NotToml}
use Rattle.lab_input.specs.Bytes.{document_of}
use Rattle.lab_input.specs.Names.{named}
use Rattle.lab_input.specs.Counts.{count_fault}
use Rattle.lab_input.specs.Labs.{bad_of, bad_in, input_unless, input_in, most_bytes, too_long, input_of}
use Rattle.lab_input.specs.Said.{step_update}
use Rattle.lab_input.proofs.SaidAttrs.{AreSaidAttrs, attrs_said}
use Rattle.lab_input.proofs.SaidPrefixes.{AreSaid, prefixes_said, prefixes_small}

-- ---- messages

-- The fields of an UPDATE have few octets.
record IsSmall (wide : Bool) (u : Update) : Type 0 where
  withdrawn : sum_by prefix_size u.withdrawn ≤ 1000
  attrs : length (spell_some_attrs wide u.attrs) ≤ 600
  nlri : sum_by prefix_size u.nlri ≤ 1000

small_spelled : (wide : Bool) (u : Update) → IsSmall wide u → length (spell (UpdateMsg u) wide) ≤ 4096
small_spelled wide u small =
    let size = update_size wide u in
    let withdrawn = small.withdrawn in
    let attrs = small.attrs in
    let nlri = small.nlri in
    omega arith

few_small : (ps : List PrefixValue) → AreSaid ps → sum_by prefix_size ps ≤ 1000
few_small ps said = let h = prefixes_small ps in let few = said.few in omega arith

-- the UPDATE of the step can be written with AS numbers of two octets and of four
abbrev pub Says : Step → Type 0
Says step = (wide : Bool) → IsWritable (UpdateMsg (step_update step)) wide

announced : (prefixes : List PrefixValue) (a : Attrs) → AreSaid prefixes → AreSaidAttrs a → (wide : Bool)
    → IsWritable (UpdateMsg (record { withdrawn = []; attrs = Some a; nlri = prefixes })) wide
announced prefixes a said attrs wide =
    let u : Update = record { withdrawn = []; attrs = Some a; nlri = prefixes } in
    let some : prefixes ≢ [] = λ (e : prefixes ≡ []). (let none : length prefixes ≡ 0 = ap length e in let h = said.some in omega arith) in
    let body : IsWritableUpdate u = record { withdrawn = All-nil IsPrefix; nlri = said.formed; once = said.once; attrs = (some, attrs.writable) } in
    record { body = body; size = small_spelled wide u (record { withdrawn = omega arith; attrs = attrs.small wide; nlri = few_small prefixes said }) }

withdrawn : (prefixes : List PrefixValue) → AreSaid prefixes → (wide : Bool)
    → IsWritable (UpdateMsg (record { withdrawn = prefixes; attrs = None; nlri = [] })) wide
withdrawn prefixes said wide =
    let u : Update = record { withdrawn = prefixes; attrs = None; nlri = [] } in
    let once : IsDistinct same_prefix (prefixes ++ []) = subst (IsDistinct same_prefix) (sym (append-nil prefixes)) said.once in
    let body : IsWritableUpdate u = record { withdrawn = said.formed; nlri = All-nil IsPrefix; once = once; attrs = refl } in
    record { body = body; size = small_spelled wide u (record { withdrawn = few_small prefixes said; attrs = omega arith; nlri = omega arith }) }

-- ---- a peering without a flaw

pub record IsRemote (t : Members) : Type 0 where
  pub remote_as : IsWithin 1 4294967295 (number_or 32 0 (codes "remote_as") t)
  pub address : is_no_host (address_or 0 (codes "remote_address") t) ≡ false

pub remote_kept : (doc : Members) (i : ℕ) (t : Members) → peering_flaw doc i t ≡ None → IsRemote t
remote_kept doc i t none =
    let at = tables.Peering i in
    let ends = none_left (keys_flaw at peering_ends t) _ none in
    let rest = none_left (keys_flaw at peering_rest t) _ (none_right (flaw_if _ _) _ (none_right (keys_flaw at peering_ends t) _ none)) in
    let remote = none_left (key_flaw at t (required (codes "remote_as") (Number 1 4294967295))) _
    (none_right (key_flaw at t (required (codes "at") Name)) _ (none_right (key_flaw at t (required (codes "name") Name)) _ ends)) in
    let address = none_left (key_flaw at t (required (codes "remote_address") Host)) _ rest in
    record {
      remote_as = number_within at t (codes "remote_as") 32 0 1 4294967295 (omega arith) remote;
      address = host_required at t (codes "remote_address") 0 address;
    }

-- ---- steps

record IsAnnounce (remote_as remote_address : ℕ) (t : Members) : Type 0 where
  prefixes : IsWithin 1 200 (length (prefixes_at (codes "prefixes") t))
  path : length (numbers_at (codes "path") t) ≤ 64
  next_hop : is_no_host remote_address ≡ false → is_no_host (address_or remote_address (codes "next_hop") t) ≡ false

announce_kept : (remote_as remote_address i : ℕ) (t : Members) → keys_flaw (tables.Step i) announce_keys t ≡ None → IsAnnounce remote_as remote_address t
announce_kept remote_as remote_address i t none =
    let at = tables.Step i in
    let a = none_right (key_flaw at t (required (codes "peering") Name)) _ none in
    let prefixes = none_left (key_flaw at t (required_array (codes "prefixes") 1 200 Prefix)) _ a in
    let b = none_right (key_flaw at t (required_array (codes "prefixes") 1 200 Prefix)) _ a in
    let path = none_left (key_flaw at t (optional_array (codes "path") 0 64 (Number 1 4294967295))) _ b in
    let c = none_right (key_flaw at t (optional_array (codes "path") 0 64 (Number 1 4294967295))) _ b in
    let d = none_right (key_flaw at t (optional (codes "origin") Origin)) _ c in
    let e = none_right (key_flaw at t (optional (codes "med") (Number 0 4294967295))) _ d in
    let hop = none_left (key_flaw at t (optional (codes "next_hop") Host)) _ e in
    record {
      prefixes = prefixes_within at t (codes "prefixes") 1 200 prefixes;
      path = numbers_few at t (codes "path") 1 64 4294967295 path;
      next_hop = host_optional at t (codes "next_hop") remote_address hop;
    }

withdraw_kept : (i : ℕ) (t : Members) → keys_flaw (tables.Step i) withdraw_keys t ≡ None → IsWithin 1 200 (length (prefixes_at (codes "prefixes") t))
withdraw_kept i t none =
    let at = tables.Step i in
    let a = none_right (key_flaw at t (required (codes "peering") Name)) _ none in
    let prefixes = none_left (key_flaw at t (required_array (codes "prefixes") 1 200 Prefix)) _ a in
    prefixes_within at t (codes "prefixes") 1 200 prefixes

ases_few : (remote_as : ℕ) (t : Members) → length (numbers_at (codes "path") t) ≤ 64 → length (step_ases remote_as t) ≤ 64
ases_few remote_as t few = by_test (has_member (codes "path") t) where
  by_test : (b : Bool) → length (cond b (numbers_at (codes "path") t) (remote_as ∷ [])) ≤ 64
  by_test true = few
  by_test false = omega arith

-- what is known of the peering that a step names, where it has to be one
abbrev pub IsRemoteOf : Option PeeringInput → Type 0
IsRemoteOf None = ⊥
IsRemoteOf (Some p) = (p.remote_as < 2 ^ 32) × (is_no_host p.remote_address ≡ false)

remote_said : (o : Option PeeringInput) (i : ℕ) (t : Members) → IsRemoteOf o → keys_flaw (tables.Step i) announce_keys t ≡ None → AreSaidAttrs (said_attrs o t)
remote_said None i t of none = absurd of
remote_said (Some p) i t of none =
    let kept = announce_kept p.remote_as p.remote_address i t none in
    attrs_said p.remote_as p.remote_address t of.0 (kept.next_hop of.1) (ases_few p.remote_as t kept.path)

-- whether a step announces or withdraws
abbrev pub says_update : Step → Bool
says_update (Announce peering prefixes a) = true
says_update (Withdraw peering prefixes) = true
says_update _ = false

-- A step without a flaw, of a peering that is known: an UPDATE of it can be written.
worded_said : (word : StepWord) (routers : List (List ℕ)) (ps : List PeeringInput) (i : ℕ) (t : Members)
    → (says_update (worded_step word routers ps t) ≡ true → IsRemoteOf (slice_get ps (peering_number ps t)))
    → worded_flaw word i t ≡ None → says_update (worded_step word routers ps t) ≡ true → Says (worded_step word routers ps t)
worded_said Announces routers ps i t of none says =
    let keys = none_left (keys_flaw (tables.Step i) announce_keys t) _ none in
    let kept = announce_kept 0 0 i t keys in
    announced (said_prefixes t) (said_attrs (slice_get ps (peering_number ps t)) t)
    (prefixes_said t kept.prefixes) (remote_said (slice_get ps (peering_number ps t)) i t (of says) keys)
worded_said Withdraws routers ps i t of none says =
    withdrawn (said_prefixes t) (prefixes_said t (withdraw_kept i t (none_left (keys_flaw (tables.Step i) withdraw_keys t) _ none)))
worded_said SaysRaw routers ps i t of none says = absurd (false≢true says)
worded_said Grafts routers ps i t of none says = absurd (false≢true says)
worded_said Settles routers ps i t of none says = absurd (false≢true says)
worded_said Evacuates routers ps i t of none says = absurd (false≢true says)

abbrev pub SaysWell : List (List ℕ) → List PeeringInput → Members → Type 0
SaysWell routers ps t = (says_update (step_of routers ps t) ≡ true → IsRemoteOf (slice_get ps (peering_number ps t)))
    → says_update (step_of routers ps t) ≡ true → Says (step_of routers ps t)

step_said : (routers : List (List ℕ)) (ps : List PeeringInput) (before whole : Bool) (i : ℕ) (t : Members) → grouped_flaw before whole i t ≡ None
    → SaysWell routers ps t
step_said routers ps before whole i t none of says =
    let crowded = flaw_if (is_crowded before whole (word_at t)) (Shape (spot_of (tables.Step i) (codes "do"))) in
    let last = option_or (worded_flaw (word_at t) i t) None in
    let behind = none_right (keys_flaw (tables.Step i) do_keys t) (option_or crowded last) none in
    let worded = none_left (worded_flaw (word_at t) i t) None (none_right crowded last behind) in
    worded_said (word_at t) routers ps i t of worded says

-- the tables of the steps of a document without a flaw
pub steps_well : (doc : Members) (routers : List (List ℕ)) (ps : List PeeringInput)
    → tables_flaw tables.Top (codes "step") false 0 4096 (step_flaw (items_at (codes "step") doc)) doc ≡ None
    → AllByRecursion (SaysWell routers ps) (tables_at (codes "step") doc)
steps_well doc routers ps none =
    tables_all tables.Top doc (codes "step") false 0 4096 (step_flaw (items_at (codes "step") doc))
    (SaysWell routers ps) (λ i t none. step_said routers ps _ _ i t none) none

-- ---- documents

not_err : (bad : BadInput) (input : LabInput) → Err bad ≡ Ok input → ⊥
not_err bad input e = let r : Result LabInput BadInput = Err bad in let same : r ≡ Ok input = e in cc

ok_of : (o : Option BadInput) (lab input : LabInput) → input_unless o lab ≡ Ok input → (o ≡ None) × (lab ≡ input)
ok_of None lab input e = let none : Option BadInput = None in let first : none ≡ None = refl in
    (first, ap (λ (r : Result LabInput BadInput). result_unwrap_or r lab) e)
ok_of (Some bad) lab input e = absurd (not_err bad input e)

none_mapped : (o : Option Flaw) → option_map bad_of o ≡ None → o ≡ None
none_mapped None e = refl
none_mapped (Some flaw) e = let r : Option BadInput = Some (bad_of flaw) in let same : r ≡ None = e in absurd (cc)

-- An accepted input is the value of a document that meets all rules.
pub record IsAccepted (input : LabInput) : Type 0 where
  pub doc : Members
  pub is : lab_of doc ≡ input
  pub no_flaw : shaped doc ≡ None
  pub no_name : named doc ≡ None
  pub no_count : count_fault (lab_of doc) ≡ None

doc_accepted : (o : Option Members) (input : LabInput) → input_in o ≡ Ok input → IsAccepted input
doc_accepted None input e = absurd (not_err NotToml input e)
doc_accepted (Some doc) input e =
    let lab : LabInput = lab_of doc in
    let found = ok_of (bad_in doc) lab input e in
    let shape = option_map bad_of (shaped doc) in
    let last = option_or (count_fault lab) None in
    let behind = none_right shape (option_or (named doc) last) found.0 in
    record {
      doc = doc;
      is = found.1;
      no_flaw = none_mapped (shaped doc) (none_left shape (option_or (named doc) last) found.0);
      no_name = none_left (named doc) last behind;
      no_count = none_left (count_fault lab) None (none_right (named doc) last behind);
    }

pub accepted : (bytes : List ℕ) (input : LabInput) → input_of bytes ≡ Ok input → IsAccepted input
unfolding input_of
accepted bytes input e = by_test (nat_lt most_bytes (length bytes)) e where
  by_test : (t : Bool) → cond t (Err too_long) (input_in (document_of bytes)) ≡ Ok input → IsAccepted input
  by_test true e = absurd (not_err too_long input e)
  by_test false e = doc_accepted (document_of bytes) input e
