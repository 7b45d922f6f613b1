-- What is known of a document whose tables have no flaw, and whose names are known.
use Rattle.std.proofs.Common.{◌≡◌, ℕ, ◌*◌, ◌/◌, ◌%◌, ◌^◌, ◌<◌, ◌≤◌, Bool, true, false, cond, ◌||◌, List, [], length, map, refl, sym, subst, arith, nat_lt}
use Rattle.std.specs.Prelude.{◌==◌, Option, Some, None, option_and_then, unwrap_or, pos, negsuc, codes, is_some, IfSome, Result, Ok, Err}
use Rattle.std.specs.Result.{result_unwrap_or}
use Rattle.hex.specs.Hex.{decode_pairs}
use Rattle.hex.specs.declared.error.FromHexError.{FromHexError}
use Rattle.hex.specs.declared.error.FromHexError.TheVariants.{OddLength}
use Rattle.hex.proofs.HexLemmas.{decode_pairs-ok}
use Rattle.std.specs.List.{AllByRecursion}
use Rattle.std.proofs.lemmas.Bool.{false≢true}
use Rattle.std.proofs.lemmas.Bool.Decides.{nat_tests}
use Rattle.toml.specs.Data.{Data, string, integer, float, boolean, datetime, array, table, as_str, Members, get_member}
use Rattle.bgp_types.specs.Values.{is_no_host, is_short_hold}
use Rattle.lab_keys.specs.declared.flaw.Flaw.TheVariants.{Shape, Limit}
use Rattle.lab_keys.specs.declared.key.Kind.TheVariants.{Number, HoldTime, Host, Hex}
use Rattle.lab_keys.specs.declared.table_at.TableAt.{TableAt}
use Rattle.lab_keys.specs.declared.table_at.TableAt.TheVariants as tables
use Rattle.lab_keys.specs.Spots.{KeySpot, spot_of}
use Rattle.lab_keys.specs.Kinds.{flaw_if, beyond, hold_time_flaw, hex_flaw, kind_flaw}
use Rattle.lab_keys.specs.Keys.{required, optional, present, key_flaw, keys_flaw, stray_flaw, tables_flaw}
use Rattle.lab_keys.specs.Texts.{is_hex, octets_in}
use Rattle.lab_keys.specs.Values.{number_in, number_or, address_or, items_at, tables_at}
use Rattle.lab_keys.proofs.NoFlaws.{none_left, none_right, IsWithin, number_within, host_required, host_optional, maybe_fits, tables_all}
use Rattle.lab_tables.specs.Routers.{router_keys, router_flaw}
use Rattle.lab_tables.specs.Peerings.{cost_flaw, fault_flaw, peering_ends, peering_rest, peering_flaw, opening_of, default_opening, remote_id_of, remote_as4_of}
use Rattle.lab_tables.specs.declared.input.PeeringInput.{PeeringInput}
use Rattle.lab_tables.specs.Scripts.{step_flaw}
use Rattle.lab_tables.specs.Documents.{home_keys, top_names, shaped}
use Rattle.lab_tables.proofs.Openings.{plain_is, wide_is}
use Rattle.lab_input.proofs.Ready.{SaysWell, steps_well}
use Rattle.lab_setup.proofs.Groups.{StepsAreTables, steps_tables}
use Rattle.lab_setup.proofs.Lists.{none_of}

none_some : {A : Type 0} (x : A) → Some x ≡ None → ⊥
none_some x e = cc

-- ---- hold times

-- a hold time of 1 or 2 is a flaw
hold_there : (at : KeySpot) (d : Data) → hold_time_flaw at d ≡ None → (default : ℕ) → is_short_hold default ≡ false
    → is_short_hold (unwrap_or (number_in 16 d) default) ≡ false
hold_there at (integer (pos n)) none default long = by_test ((n == 1) || (n == 2) || nat_lt 65535 n) refl none where
  first_two : (a b c : Bool) → (a || b || c) ≡ false → (a || b) ≡ false
  first_two false false c e = refl
  first_two false true c e = absurd (false≢true (sym e))
  first_two true b c e = absurd (false≢true (sym e))

  by_fit : (fits : Bool) → is_short_hold n ≡ false → is_short_hold (unwrap_or (cond fits (Some n) None) default) ≡ false
  by_fit true n_long = n_long
  by_fit false n_long = long

  by_test : (t : Bool) → ((n == 1) || (n == 2) || nat_lt 65535 n) ≡ t → flaw_if t (Limit at n) ≡ None
      → is_short_hold (unwrap_or (cond (nat_lt n (2 ^ 16)) (Some n) None) default) ≡ false
  by_test true e none = absurd (none_some (Limit at n) none)
  by_test false e none = by_fit (nat_lt n (2 ^ 16)) (first_two (n == 1) (n == 2) (nat_lt 65535 n) e)
hold_there at (integer (negsuc n)) none default long = absurd (none_some (Limit at 0) none)
hold_there at (string _) none default long = absurd (none_some (Shape at) none)
hold_there at (float _) none default long = absurd (none_some (Shape at) none)
hold_there at (boolean _) none default long = absurd (none_some (Shape at) none)
hold_there at (datetime _) none default long = absurd (none_some (Shape at) none)
hold_there at (array _) none default long = absurd (none_some (Shape at) none)
hold_there at (table _) none default long = absurd (none_some (Shape at) none)

hold_kept : (at : TableAt) (t : Members) (key : List ℕ) (default : ℕ) → key_flaw at t (optional key HoldTime) ≡ None → is_short_hold default ≡ false
    → is_short_hold (number_or 16 default key t) ≡ false
hold_kept at t key default none long = by_value (get_member key t) none where
  by_value : (o : Option Data) → present (spot_of at key) false (kind_flaw HoldTime (spot_of at key)) o ≡ None
      → is_short_hold (unwrap_or (option_and_then (number_in 16) o) default) ≡ false
  by_value None none = long
  by_value (Some d) none = hold_there (spot_of at key) d none default long

fits_or : (bits : ℕ) (o : Option ℕ) (default : ℕ) → IfSome o (λ n. n < 2 ^ bits) → default < 2 ^ bits → unwrap_or o default < 2 ^ bits
fits_or bits None default each fits = fits
fits_or bits (Some n) default each fits = each

pub number_below : (bits default : ℕ) (key : List ℕ) (t : Members) → default < 2 ^ bits → number_or bits default key t < 2 ^ bits
number_below bits default key t fits = fits_or bits (option_and_then (number_in bits) (get_member key t)) default (maybe_fits bits (get_member key t)) fits

-- ---- octets in hexadecimal

not_beyond : (at : KeySpot) (low high n : ℕ) → beyond at low high n ≡ None → n ≤ high
not_beyond at low high n none = by_test (nat_lt n low) (nat_lt high n) refl none where
  by_test : (a b : Bool) → nat_lt high n ≡ b → flaw_if (a || b) (Limit at n) ≡ None → n ≤ high
  by_test true b e none = absurd (none_some (Limit at n) none)
  by_test false true e none = absurd (none_some (Limit at n) none)
  by_test false false e none = no_more n high e
    where
      no_more : (a b : ℕ) → nat_lt b a ≡ false → a ≤ b
      no_more a b e = grind (arith, nat_tests)

-- octets are half as many as their digits
octets_few : (text : List ℕ) → 2 * length (octets_in text) ≤ length text
octets_few text = by_odd (length text % 2 == 1) where
  by_result : (r : Result (List ℕ) FromHexError) → decode_pairs 0 text ≡ r → 2 * length (result_unwrap_or r []) ≤ length text
  by_result (Ok bytes) e = let twice = (decode_pairs-ok 0 text bytes e).1 in omega arith
  by_result (Err stop) e = omega arith

  by_odd : (odd : Bool) → 2 * length (result_unwrap_or (cond odd (Err OddLength) (decode_pairs 0 text)) []) ≤ length text
  by_odd true = omega arith
  by_odd false = by_result (decode_pairs 0 text) refl

half : (a b : ℕ) → 2 * a ≤ b → b / 2 ≤ 4096 → a ≤ 4096
half a b twice few = omega arith

hex_there : (at : KeySpot) (d : Data) → hex_flaw at 0 4096 d ≡ None → length (octets_in (unwrap_or (as_str d) [])) ≤ 4096
hex_there at (string text) none = by_test (is_hex text) none where
  by_test : (t : Bool) → cond t (beyond at 0 4096 (length text / 2)) (Some (Shape at)) ≡ None → length (octets_in text) ≤ 4096
  by_test true none = half (length (octets_in text)) (length text) (octets_few text) (not_beyond at 0 4096 (length text / 2) none)
  by_test false none = absurd (none_some (Shape at) none)
hex_there at (integer _) none = absurd (none_some (Shape at) none)
hex_there at (float _) none = absurd (none_some (Shape at) none)
hex_there at (boolean _) none = absurd (none_some (Shape at) none)
hex_there at (datetime _) none = absurd (none_some (Shape at) none)
hex_there at (array _) none = absurd (none_some (Shape at) none)
hex_there at (table _) none = absurd (none_some (Shape at) none)

-- ---- openings

default_few : (as_number hold identifier : ℕ) (as4 : Bool) → length (default_opening as_number hold identifier as4) ≤ 4096
default_few a h i false = subst (λ (bytes : List ℕ). length bytes ≤ 4096) (plain_is a h i) (omega arith)
default_few a h i true = subst (λ (bytes : List ℕ). length bytes ≤ 4096) (wide_is a h i) (omega arith)

opening_few : (at : TableAt) (t : Members) → key_flaw at t (optional (codes "opening") (Hex 0 4096)) ≡ None → length (opening_of t) ≤ 4096
opening_few at t none = by_value (get_member (codes "opening") t) none where
  own : List ℕ
  own = default_opening (number_or 32 0 (codes "remote_as") t) (number_or 16 180 (codes "hold") t) (remote_id_of t) (remote_as4_of t)

  by_value : (o : Option Data) → present (spot_of at (codes "opening")) false (kind_flaw (Hex 0 4096) (spot_of at (codes "opening"))) o ≡ None
      → length (cond (is_some o) (octets_in (unwrap_or (option_and_then as_str o) [])) own) ≤ 4096
  by_value None none = default_few (number_or 32 0 (codes "remote_as") t) (number_or 16 180 (codes "hold") t) (remote_id_of t) (remote_as4_of t)
  by_value (Some d) none = hex_there (spot_of at (codes "opening")) d none

-- ---- tables

pub record IsPeeringTable (t : Members) : Type 0 where
  pub remote_as : IsWithin 1 4294967295 (number_or 32 0 (codes "remote_as") t)
  pub address : is_no_host (address_or 0 (codes "remote_address") t) ≡ false
  pub local : is_no_host (address_or 0 (codes "local_address") t) ≡ false
  pub home_hold : is_short_hold (number_or 16 0 (codes "home_hold") t) ≡ false
  pub remote_id : is_no_host (remote_id_of t) ≡ false
  pub hold : is_short_hold (number_or 16 180 (codes "hold") t) ≡ false
  pub opening : length (opening_of t) ≤ 4096

peering_kept : (doc : Members) (i : ℕ) (t : Members) → peering_flaw doc i t ≡ None → IsPeeringTable t
peering_kept doc i t none =
    let at : TableAt = tables.Peering i in
    let ends = none_left (keys_flaw at peering_ends t) _ none in
    let behind = none_right (keys_flaw at peering_ends t) _ none in
    let rest_on =
    none_right (flaw_if (number_or 32 0 (codes "remote_as") t == number_or 32 0 (codes "home_as") doc) (Shape (spot_of at (codes "remote_as")))) _ behind in
    let rest = none_left (keys_flaw at peering_rest t) _ rest_on in
    let address = host_required at t (codes "remote_address") 0
    (none_of (map (key_flaw at t) peering_rest) 0 (key_flaw at t (required (codes "remote_address") Host)) rest refl) in
    record {
      remote_as = number_within at t (codes "remote_as") 32 0 1 4294967295 (omega arith)
          (none_of (map (key_flaw at t) peering_ends) 2 (key_flaw at t (required (codes "remote_as") (Number 1 4294967295))) ends refl);
      address = address;
      local = host_required at t (codes "local_address") 0
          (none_of (map (key_flaw at t) peering_rest) 1 (key_flaw at t (required (codes "local_address") Host)) rest refl);
      home_hold = hold_kept at t (codes "home_hold") 0
          (none_of (map (key_flaw at t) peering_rest) 11 (key_flaw at t (optional (codes "home_hold") HoldTime)) rest refl) refl;
      remote_id = host_optional at t (codes "remote_id") (address_or 0 (codes "remote_address") t)
          (none_of (map (key_flaw at t) peering_rest) 2 (key_flaw at t (optional (codes "remote_id") Host)) rest refl) address;
      hold = hold_kept at t (codes "hold") 180 (none_of (map (key_flaw at t) peering_rest) 7 (key_flaw at t (optional (codes "hold") HoldTime)) rest refl) refl;
      opening = opening_few at t (none_of (map (key_flaw at t) peering_rest) 8 (key_flaw at t (optional (codes "opening") (Hex 0 4096))) rest refl);
    }

pub record IsRouterTable (t : Members) : Type 0 where
  pub host : is_no_host (address_or 0 (codes "id") t) ≡ false

router_kept : (i : ℕ) (t : Members) → router_flaw i t ≡ None → IsRouterTable t
router_kept i t none =
    let at : TableAt = tables.Router i in
    let keys = none_left (keys_flaw at router_keys t) _ none in
    record { host = host_required at t (codes "id") 0 (none_of (map (key_flaw at t) router_keys) 1 (key_flaw at t (required (codes "id") Host)) keys refl) }

-- what is known of a document without a flaw
pub record HasTables (doc : Members) : Type 0 where
  pub home_as : IsWithin 1 4294967295 (number_or 32 0 (codes "home_as") doc)
  pub routers : AllByRecursion IsRouterTable (tables_at (codes "router") doc)
  pub peerings : AllByRecursion IsPeeringTable (tables_at (codes "peering") doc)
  pub steps : (routers : List (List ℕ)) (ps : List PeeringInput) → AllByRecursion (SaysWell routers ps) (tables_at (codes "step") doc)
  pub grouped : StepsAreTables doc

pub tables_kept : (doc : Members) → shaped doc ≡ None → HasTables doc
tables_kept doc none =
    let home = none_left (keys_flaw tables.Top home_keys doc) _ none in
    let a = none_right (keys_flaw tables.Top home_keys doc) _ none in
    let b = none_right (stray_flaw tables.Top top_names doc) _ a in
    let routers = none_left (tables_flaw tables.Top (codes "router") true 1 8 router_flaw doc) _ b in
    let c = none_right (tables_flaw tables.Top (codes "router") true 1 8 router_flaw doc) _ b in
    let d = none_right (tables_flaw tables.Top (codes "cost") false 0 56 cost_flaw doc) _ c in
    let peerings = none_left (tables_flaw tables.Top (codes "peering") false 0 32 (peering_flaw doc) doc) _ d in
    let e = none_right (tables_flaw tables.Top (codes "peering") false 0 32 (peering_flaw doc) doc) _ d in
    let f = none_right (tables_flaw tables.Top (codes "fault") false 0 1024 fault_flaw doc) _ e in
    let steps = none_left (tables_flaw tables.Top (codes "step") false 0 4096 (step_flaw (items_at (codes "step") doc)) doc) _ f in
    record {
      home_as = number_within tables.Top doc (codes "home_as") 32 0 1 4294967295 (omega arith)
          (none_of (map (key_flaw tables.Top doc) home_keys) 0 (key_flaw tables.Top doc (required (codes "home_as") (Number 1 4294967295))) home refl);
      routers = tables_all tables.Top doc (codes "router") true 1 8 router_flaw IsRouterTable router_kept routers;
      peerings = tables_all tables.Top doc (codes "peering") false 0 32 (peering_flaw doc) IsPeeringTable (peering_kept doc) peerings;
      steps = λ routers ps. steps_well doc routers ps steps;
      grouped = steps_tables doc steps;
    }
