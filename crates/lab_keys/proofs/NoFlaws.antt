-- What is known of a table whose keys have no flaw.
use Rattle.std.proofs.Common.{◌≡◌, ℕ, ◌+◌, ◌^◌, ◌<◌, ◌≤◌, suc, Bool, true, false, cond, ◌||◌, not, List, [], ◌∷◌, length, refl, sym, ap, ◌∙◌, subst, arith}
use Rattle.std.specs.Prelude.{Option, Some, None, pos, negsuc, nat_lt, is_some, option_and_then, unwrap_or, IfSome}
use Rattle.std.specs.Option.{option_or}
use Rattle.std.specs.List.{AllByRecursion, filter_map, cons_option}
use Rattle.std.proofs.lemmas.Bool.{false≢true}
use Rattle.std.proofs.lemmas.Bool.Decides.{nat_tests}
use Rattle.toml.specs.Data.{Data, string, integer, float, boolean, datetime, array, table, as_str, as_table, Items, Members, get_member}
use Rattle.bgp_types.specs.Values.{is_no_host}
use Rattle.bgp_types.specs.Finds.{Finds}
use Rattle.bgp_types.specs.Prefixes.{PrefixValue, IsPrefix}
use Rattle.bgp_types.specs.Texts.{IsPrefixText}
use Rattle.bgp_types.proofs.OnceLaws.{IsPrefix-prefix_of}
use Rattle.lab_keys.specs.declared.flaw.Flaw.{Flaw}
use Rattle.lab_keys.specs.declared.flaw.Flaw.TheVariants.{Shape, Limit}
use Rattle.lab_keys.specs.declared.key.Kind.TheVariants.{Number, Host, Prefix}
use Rattle.lab_keys.specs.declared.table_at.TableAt.{TableAt}
use Rattle.lab_keys.specs.Spots.{KeySpot, spot_of, member_of}
use Rattle.lab_keys.specs.Texts.{host_if, address_in, prefix_in}
use Rattle.lab_keys.specs.Kinds.{each_from, flaw_if, beyond, number_flaw, kind_flaw, list_of, array_flaw, table_flaw}
use Rattle.lab_keys.specs.Keys.{required, optional, required_array, optional_array, present, key_flaw, tables_flaw}
use Rattle.lab_keys.specs.Values.{number_in, number_or, address_or, items_in, items_at, prefix_of_data, prefixes_at, numbers_at, tables_at}
use Rattle.lab_keys.proofs.TextFinds.{prefix_in-finds}

-- ---- none of several

none_some : {A : Type 0} (x : A) → Some x ≡ None → ⊥
none_some x e = cc

pub none_left : {A : Type 0} (a b : Option A) → option_or a b ≡ None → a ≡ None
none_left None b e = refl
none_left (Some x) b e = absurd (none_some x e)

pub none_right : {A : Type 0} (a b : Option A) → option_or a b ≡ None → b ≡ None
none_right None b e = e
none_right (Some x) b e = absurd (none_some x e)

if_none : (t : Bool) (flaw : Flaw) → flaw_if t flaw ≡ None → t ≡ false
if_none false flaw e = refl
if_none true flaw e = absurd (none_some flaw e)

or_left : (a b : Bool) → (a || b) ≡ false → a ≡ false
or_left false b e = refl
or_left true b e = e

or_right : (a b : Bool) → (a || b) ≡ false → b ≡ false
or_right false b e = e
or_right true b e = absurd (false≢true (sym e))

not_less : (a b : ℕ) → nat_lt a b ≡ false → b ≤ a
not_less a b e = grind (arith, nat_tests)

less : (a b : ℕ) → a < b → nat_lt a b ≡ true
less a b lt = grind (arith, nat_tests)

-- ---- numbers

pub record IsWithin (low high n : ℕ) : Type 0 where
  pub enough : low ≤ n
  pub few : n ≤ high

within : (at : KeySpot) (low high n : ℕ) → beyond at low high n ≡ None → IsWithin low high n
within at low high n none =
    let test : (nat_lt n low || nat_lt high n) ≡ false = if_none (nat_lt n low || nat_lt high n) (Limit at n) none in
    record { enough = not_less n low (or_left (nat_lt n low) (nat_lt high n) test); few = not_less high n (or_right (nat_lt n low) (nat_lt high n) test) }

record IsNumber (low high : ℕ) (d : Data) : Type 0 where
  n : ℕ
  is : d ≡ integer (pos n)
  within : IsWithin low high n

number_there : (at : KeySpot) (low high : ℕ) (d : Data) → number_flaw at low high d ≡ None → IsNumber low high d
number_there at low high (integer (pos n)) none = record { n = n; is = refl; within = within at low high n none }
number_there at low high (integer (negsuc n)) none = absurd (none_some (Limit at 0) none)
number_there at low high (string _) none = absurd (none_some (Shape at) none)
number_there at low high (float _) none = absurd (none_some (Shape at) none)
number_there at low high (boolean _) none = absurd (none_some (Shape at) none)
number_there at low high (datetime _) none = absurd (none_some (Shape at) none)
number_there at low high (array _) none = absurd (none_some (Shape at) none)
number_there at low high (table _) none = absurd (none_some (Shape at) none)

-- what is required is there
record IsThere (flaw : Data → Option Flaw) (o : Option Data) : Type 0 where
  d : Data
  is : o ≡ Some d
  none : flaw d ≡ None

there : (at : KeySpot) (flaw : Data → Option Flaw) (o : Option Data) → present at true flaw o ≡ None → IsThere flaw o
there at flaw None none = absurd (none_some (Shape at) none)
there at flaw (Some d) none = record { d = d; is = refl; none = none }

number_of : (bits default n : ℕ) (o : Option Data) → o ≡ Some (integer (pos n)) → n < 2 ^ bits → unwrap_or (option_and_then (number_in bits) o) default ≡ n
number_of bits default n o is fits =
    ap (λ x. unwrap_or (option_and_then (number_in bits) x) default) is
    ∙ ap (λ (t : Bool). unwrap_or (cond t (Some n) None) default) (less n (2 ^ bits) fits)

-- the number at a key that has to be there
pub number_within : (at : TableAt) (t : Members) (key : List ℕ) (bits default low high : ℕ) → high < 2 ^ bits
    → key_flaw at t (required key (Number low high)) ≡ None
    → IsWithin low high (number_or bits default key t)
number_within at t key bits default low high fits none =
    let here = there (spot_of at key) (kind_flaw (Number low high) (spot_of at key)) (get_member key t) none in
    let number = number_there (spot_of at key) low high here.d here.none in
    let few : number.n ≤ high = number.within.few in
    let is : number_or bits default key t ≡ number.n = number_of bits default number.n (get_member key t) (here.is ∙ ap Some number.is) (omega arith) in
    subst (IsWithin low high) (sym is) number.within

-- a number that so many bits hold is below their power
pub number_fits : (bits : ℕ) (d : Data) → IfSome (number_in bits d) (λ n. n < 2 ^ bits)
number_fits bits (integer (pos n)) = by_test (nat_lt n (2 ^ bits)) refl where
  by_test : (t : Bool) → nat_lt n (2 ^ bits) ≡ t → IfSome (cond t (Some n) None) (λ m. m < 2 ^ bits)
  by_test true e = is_less n (2 ^ bits) e
    where
      is_less : (a b : ℕ) → nat_lt a b ≡ true → a < b
      is_less a b e = grind (arith, nat_tests)
  by_test false e = tt
number_fits bits (integer (negsuc n)) = tt
number_fits bits (string _) = tt
number_fits bits (float _) = tt
number_fits bits (boolean _) = tt
number_fits bits (datetime _) = tt
number_fits bits (array _) = tt
number_fits bits (table _) = tt

pub maybe_fits : (bits : ℕ) (o : Option Data) → IfSome (option_and_then (number_in bits) o) (λ n. n < 2 ^ bits)
maybe_fits bits None = tt
maybe_fits bits (Some d) = number_fits bits d

-- ---- hosts

record IsHostText (d : Data) : Type 0 where
  text : List ℕ
  address : ℕ
  is : d ≡ string text
  reads : address_in text ≡ Some address
  host : is_no_host address ≡ false

host_of : (at : KeySpot) (text : List ℕ) (o : Option ℕ) → address_in text ≡ o
    → flaw_if (not (is_some (option_and_then host_if o))) (Shape at) ≡ None → IsHostText (string text)
host_of at text None e none = absurd (none_some (Shape at) none)
host_of at text (Some address) e none = by_test (is_no_host address) refl none where
  by_test : (t : Bool) → is_no_host address ≡ t → flaw_if (not (is_some (cond t None (Some address)))) (Shape at) ≡ None → IsHostText (string text)
  by_test true is none = absurd (none_some (Shape at) none)
  by_test false is none = record { text = text; address = address; is = refl; reads = e; host = is }

host_there : (at : KeySpot) (d : Data) → kind_flaw Host at d ≡ None → IsHostText d
host_there at (string text) none = host_of at text (address_in text) refl none
host_there at (integer _) none = absurd (none_some (Shape at) none)
host_there at (float _) none = absurd (none_some (Shape at) none)
host_there at (boolean _) none = absurd (none_some (Shape at) none)
host_there at (datetime _) none = absurd (none_some (Shape at) none)
host_there at (array _) none = absurd (none_some (Shape at) none)
host_there at (table _) none = absurd (none_some (Shape at) none)

address_of : (default : ℕ) (o : Option Data) (d : Data) → o ≡ Some d → (is : IsHostText d)
    → unwrap_or (option_and_then address_in (option_and_then as_str o)) default ≡ is.address
address_of default o d there is =
    ap (λ x. unwrap_or (option_and_then address_in (option_and_then as_str x)) default) (there ∙ ap Some is.is) ∙ ap (λ x. unwrap_or x default) is.reads

host_at : (default : ℕ) (o : Option Data) (d : Data) → o ≡ Some d → IsHostText d
    → is_no_host (unwrap_or (option_and_then address_in (option_and_then as_str o)) default) ≡ false
host_at default o d there is = ap is_no_host (address_of default o d there is) ∙ is.host

-- the address at a key that has to be there
pub host_required : (at : TableAt) (t : Members) (key : List ℕ) (default : ℕ) → key_flaw at t (required key Host) ≡ None
    → is_no_host (address_or default key t) ≡ false
host_required at t key default none =
    let here = there (spot_of at key) (kind_flaw Host (spot_of at key)) (get_member key t) none in
    host_at default (get_member key t) here.d here.is (host_there (spot_of at key) here.d here.none)

-- the address at a key that may be left out
pub host_optional : (at : TableAt) (t : Members) (key : List ℕ) (default : ℕ) → key_flaw at t (optional key Host) ≡ None → is_no_host default ≡ false
    → is_no_host (address_or default key t) ≡ false
host_optional at t key default none host = by_value (get_member key t) none where
  by_value : (o : Option Data) → present (spot_of at key) false (kind_flaw Host (spot_of at key)) o ≡ None
      → is_no_host (unwrap_or (option_and_then address_in (option_and_then as_str o)) default) ≡ false
  by_value None none = host
  by_value (Some d) none = host_at default (Some d) d refl (host_there (spot_of at key) d none)

-- ---- arrays

record IsArray (at : KeySpot) (low high : ℕ) (flaw : ℕ → Data → Option Flaw) (d : Data) : Type 0 where
  items : Items
  is : d ≡ array items
  count : IsWithin low high (length (list_of items))
  each : each_from flaw 0 (list_of items) ≡ None

array_there : (at : KeySpot) (low high : ℕ) (flaw : ℕ → Data → Option Flaw) (d : Data) → array_flaw at low high flaw d ≡ None → IsArray at low high flaw d
array_there at low high flaw (array items) none =
    let count = none_left (beyond at low high (length (list_of items))) (each_from flaw 0 (list_of items)) none in
    let each = none_right (beyond at low high (length (list_of items))) (each_from flaw 0 (list_of items)) none in
    record { items = items; is = refl; count = within at low high (length (list_of items)) count; each = each }
array_there at low high flaw (string _) none = absurd (none_some (Shape at) none)
array_there at low high flaw (integer _) none = absurd (none_some (Shape at) none)
array_there at low high flaw (float _) none = absurd (none_some (Shape at) none)
array_there at low high flaw (boolean _) none = absurd (none_some (Shape at) none)
array_there at low high flaw (datetime _) none = absurd (none_some (Shape at) none)
array_there at low high flaw (table _) none = absurd (none_some (Shape at) none)

kept_few : {A B : Type 0} (h : A → Option B) (xs : List A) → length (filter_map h xs) ≤ length xs
kept_few h [] = omega arith
kept_few h (x ∷ xs) = by_value (h x) (kept_few h xs) where
  by_value : (o : Option _) → length (filter_map h xs) ≤ length xs → length (cons_option o (filter_map h xs)) ≤ suc (length xs)
  by_value None few = omega arith
  by_value (Some y) few = omega arith

-- where an array may be left out, few of it are kept
optional_few : {B : Type 0} (h : Data → Option B) (at : KeySpot) (high : ℕ) (flaw : ℕ → Data → Option Flaw) (needed : Bool) (o : Option Data)
    → present at needed (array_flaw at 0 high flaw) o ≡ None → length (filter_map h (items_in o)) ≤ high
optional_few h at high flaw needed None none = omega arith
optional_few h at high flaw needed (Some d) none =
    let is = array_there at 0 high flaw d none in
    let kept = kept_few h (list_of is.items) in
    let few = is.count.few in
    subst (λ x. length (filter_map h (items_in (Some x))) ≤ high) (sym is.is) (omega arith)

pub numbers_few : (at : TableAt) (t : Members) (key : List ℕ) (low high high' : ℕ)
    → key_flaw at t (optional_array key 0 high (Number low high')) ≡ None → length (numbers_at key t) ≤ high
numbers_few at t key low high high' none =
    optional_few (number_in 32) (spot_of at key) high (λ i. kind_flaw (Number low high') (member_of (spot_of at key) i)) false (get_member key t) none

pub tables_few : (at : TableAt) (t : Members) (key : List ℕ) (high : ℕ) (flaw : ℕ → Members → Option Flaw)
    → tables_flaw at key false 0 high flaw t ≡ None → length (tables_at key t) ≤ high
tables_few at t key high flaw none =
    optional_few as_table (spot_of at key) high (λ i. table_flaw (member_of (spot_of at key) i) (flaw i)) false (get_member key t) none

-- ---- prefixes

prefix_there : (at : KeySpot) (d : Data) → kind_flaw Prefix at d ≡ None → (p : PrefixValue) × (prefix_of_data d ≡ Some p)
prefix_there at (string text) none = by_value (prefix_in text) none where
  by_value : (o : Option PrefixValue) → flaw_if (not (is_some o)) (Shape at) ≡ None → (p : PrefixValue) × (o ≡ Some p)
  by_value None none = absurd (none_some (Shape at) none)
  by_value (Some p) none = (p, refl)
prefix_there at (integer _) none = absurd (none_some (Shape at) none)
prefix_there at (float _) none = absurd (none_some (Shape at) none)
prefix_there at (boolean _) none = absurd (none_some (Shape at) none)
prefix_there at (datetime _) none = absurd (none_some (Shape at) none)
prefix_there at (array _) none = absurd (none_some (Shape at) none)
prefix_there at (table _) none = absurd (none_some (Shape at) none)

prefixes_kept : (at : KeySpot) (i : ℕ) (ds : List Data) → each_from (λ i. kind_flaw Prefix (member_of at i)) i ds ≡ None
    → length (filter_map prefix_of_data ds) ≡ length ds
prefixes_kept at i [] none = refl
prefixes_kept at i (d ∷ ds) none =
    let rest = each_from (λ i. kind_flaw Prefix (member_of at i)) (i + 1) ds in
    let here = prefix_there (member_of at i) d (none_left (kind_flaw Prefix (member_of at i) d) rest none) in
    ap (λ o. length (cons_option o (filter_map prefix_of_data ds))) here.1
    ∙ ap suc (prefixes_kept at (i + 1) ds (none_right (kind_flaw Prefix (member_of at i) d) rest none))

-- how many prefixes there are at a key that has to be there
pub prefixes_within : (at : TableAt) (t : Members) (key : List ℕ) (low high : ℕ) → key_flaw at t (required_array key low high Prefix) ≡ None
    → IsWithin low high (length (prefixes_at key t))
prefixes_within at t key low high none =
    let flaw : ℕ → Data → Option Flaw = λ i. kind_flaw Prefix (member_of (spot_of at key) i) in
    let here = there (spot_of at key) (array_flaw (spot_of at key) low high flaw) (get_member key t) none in
    let is = array_there (spot_of at key) low high flaw here.d here.none in
    let kept : length (filter_map prefix_of_data (list_of is.items)) ≡ length (list_of is.items) =
    prefixes_kept (spot_of at key) 0 (list_of is.items) is.each in
    let items : items_at key t ≡ list_of is.items = ap items_in (here.is ∙ ap Some is.is) in
    subst (IsWithin low high) (sym (ap (λ ds. length (filter_map prefix_of_data ds)) items ∙ kept)) is.count

formed : (o : Option PrefixValue) (text : List ℕ) → Finds (IsPrefixText text) o → (ps : List PrefixValue) → AllByRecursion IsPrefix ps
    → AllByRecursion IsPrefix (cons_option o ps)
formed None text none ps all = all
formed (Some p) text is ps all = (subst IsPrefix (sym is.prefix) (IsPrefix-prefix_of p.len is.address is.short is.fits), all)

-- whatever texts write are prefixes
pub prefixes_formed : (ds : List Data) → AllByRecursion IsPrefix (filter_map prefix_of_data ds)
prefixes_formed [] = tt
prefixes_formed (string text ∷ ds) = formed (prefix_in text) text (prefix_in-finds text) (filter_map prefix_of_data ds) (prefixes_formed ds)
prefixes_formed (integer _ ∷ ds) = prefixes_formed ds
prefixes_formed (float _ ∷ ds) = prefixes_formed ds
prefixes_formed (boolean _ ∷ ds) = prefixes_formed ds
prefixes_formed (datetime _ ∷ ds) = prefixes_formed ds
prefixes_formed (array _ ∷ ds) = prefixes_formed ds
prefixes_formed (table _ ∷ ds) = prefixes_formed ds

-- ---- tables

each_table : (at : KeySpot) (flaw : ℕ → Members → Option Flaw) (P : Members → Type 0) → ((i : ℕ) (t : Members) → flaw i t ≡ None → P t)
    → (i : ℕ) (ds : List Data)
    → each_from (λ i. table_flaw (member_of at i) (flaw i)) i ds ≡ None → AllByRecursion P (filter_map as_table ds)
each_table at flaw P kept i [] none = tt
each_table at flaw P kept i (d ∷ ds) none =
    let here : Option Flaw = table_flaw (member_of at i) (flaw i) d in
    let rest : Option Flaw = each_from (λ i. table_flaw (member_of at i) (flaw i)) (i + 1) ds in
    by_kind d (none_left here rest none) (each_table at flaw P kept (i + 1) ds (none_right here rest none))
  where
    by_kind : (d : Data) → table_flaw (member_of at i) (flaw i) d ≡ None → AllByRecursion P (filter_map as_table ds)
        → AllByRecursion P (filter_map as_table (d ∷ ds))
    by_kind (table t) none all = (kept i t none, all)
    by_kind (string _) none all = all
    by_kind (integer _) none all = all
    by_kind (float _) none all = all
    by_kind (boolean _) none all = all
    by_kind (datetime _) none all = all
    by_kind (array _) none all = all

-- P holds of each table of an array without a flaw, where it holds of each table without one
pub tables_all : (at : TableAt) (t : Members) (key : List ℕ) (needed : Bool) (low high : ℕ) (flaw : ℕ → Members → Option Flaw) (P : Members → Type 0)
    → ((i : ℕ) (t : Members) → flaw i t ≡ None → P t) → tables_flaw at key needed low high flaw t ≡ None → AllByRecursion P (tables_at key t)
tables_all at t key needed low high flaw P kept none = by_value (get_member key t) none where
  by_value : (o : Option Data)
      → present (spot_of at key) needed (array_flaw (spot_of at key) low high (λ i. table_flaw (member_of (spot_of at key) i) (flaw i))) o ≡ None
      → AllByRecursion P (filter_map as_table (items_in o))
  by_value None none = tt
  by_value (Some d) none =
      let is = array_there (spot_of at key) low high (λ i. table_flaw (member_of (spot_of at key) i) (flaw i)) d none in
      subst (λ x. AllByRecursion P (filter_map as_table (items_in (Some x)))) (sym is.is) (each_table (spot_of at key) flaw P kept 0 (list_of is.items) is.each)
