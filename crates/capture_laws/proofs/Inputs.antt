-- The ends of an accepted input's peerings.
use Rattle.std.proofs.Common.{◌≡◌, ℕ, zero, suc, ◌+◌, ◌^◌, ◌<◌, inl, inr, Bool, true, false, List, [], ◌∷◌, ◌++◌, length, map, Option, Some, None}
use Rattle.std.proofs.Common.{refl, sym, ap, ◌∙◌, subst, arith}
use Rattle.std.specs.Prelude.{◌==◌, slice_get, codes}
use Rattle.std.specs.List.{list_any}
use Rattle.std.specs.Str.{bytes_eq}
use Rattle.std.proofs.lemmas.Bool.{cases_order, eq-eqb, false≢true}
use Rattle.std.proofs.lemmas.Bool.Decides.{nat_tests}
use Rattle.std.proofs.lemmas.List.{append_assoc, length-append}
use Rattle.std.proofs.lemmas.Option.{slice_get_within, none-some}
use Rattle.toml.specs.Data.{Members}
use Rattle.bgp_types.specs.Texts.{address_text}
use Rattle.bgp_types.specs.Values.{is_no_host}
use Rattle.tcp_seq.proofs.Lookups.{get-append_left}
use Rattle.captured_streams.proofs.Positions.{any_here}
use Rattle.lab_keys.specs.Values.{tables_at, text_at, maybe_text}
use Rattle.lab_keys.specs.Kinds.{first_of}
use Rattle.lab_keys.proofs.NoFlaws.{none_left, none_right}
use Rattle.lab_tables.specs.declared.input.LabInput.{LabInput}
use Rattle.lab_tables.specs.declared.input.PeeringInput.{PeeringInput}
use Rattle.lab_tables.specs.declared.input.RouterInput.{RouterInput}
use Rattle.lab_tables.specs.Peerings.{peering_input}
use Rattle.lab_tables.specs.Documents.{routers_of, router_names_of, peering_names_of, lab_of}
use Rattle.lab_input.specs.declared.bad.BadInput.{BadInput}
use Rattle.lab_input.specs.declared.bad.BadInput.TheVariants.{Repeated}
use Rattle.lab_input.specs.Names.{each_after, repeated_if, unknown, unknown_at, router_again, cost_named, remote_address_of, policies_at, peering_named}
use Rattle.lab_input.specs.Names.{fault_named, step_named, expect_named, named}
use Rattle.lab_input.proofs.Ready.{accepted}
use Rattle.lab_setup.specs.Accepted.{IsAccepted}
use Rattle.lab_setup.proofs.Accepted.{few}
use Rattle.lab_setup.proofs.Kept.{IsPeeringTable, tables_kept, number_below}
use Rattle.lab_setup.proofs.Lists.{made_of, get_mapped, all_at, none_of}
use Rattle.capture_laws.proofs.Packets.{HasEnds}

-- ---- in their ranges

host_below : (address : ℕ) → is_no_host address ≡ false → address < 2 ^ 32
host_below address host = grind (arith, nat_tests)

module _ (input : LabInput) (accepts : IsAccepted input) where
  -- the table of a peering
  record HasTable (q : ℕ) (peering : PeeringInput) : Type 0 where
    doc : Members
    is : lab_of doc ≡ input
    table : Members
    at : slice_get (tables_at (codes "peering") doc) q ≡ Some table
    made : peering_input doc (router_names_of doc) table ≡ peering
    kept : IsPeeringTable table

  table_of : (q : ℕ) (peering : PeeringInput) → slice_get input.peerings q ≡ Some peering → HasTable q peering
  table_of q peering there =
      let a = accepted accepts.bytes input accepts.is in
      let make : Members → PeeringInput = peering_input a.doc (router_names_of a.doc) in
      let from = made_of make (slice_get (tables_at (codes "peering") a.doc) q) peering
      (sym (get_mapped make (tables_at (codes "peering") a.doc) q) ∙ ap (λ (l : LabInput). slice_get l.peerings q) a.is ∙ there) in
      record {
        doc = a.doc;
        is = a.is;
        table = from.x;
        at = from.there;
        made = from.is;
        kept = all_at IsPeeringTable (tables_at (codes "peering") a.doc) q from.x (tables_kept a.doc a.no_flaw).peerings from.there;
      }

  pub has_ends : HasEnds input
  has_ends = record {
    home = λ q peering there.
        let t = table_of q peering there in
        record {
          address = subst (λ (x : PeeringInput). x.local_address < 2 ^ 32) t.made (host_below _ t.kept.local);
          port = omega arith;
        };
    remote = λ q peering there.
        let t = table_of q peering there in
        let count = (few input accepts).peerings in
        record {
          address = subst (λ (x : PeeringInput). x.remote_address < 2 ^ 32) t.made (host_below _ t.kept.address);
          port = omega (arith, slice_get_within input.peerings q peering there, count);
        };
  }

  pub first_fits : (q : ℕ) (peering : PeeringInput) → slice_get input.peerings q ≡ Some peering → peering.remote_seq < 2 ^ 32
  first_fits q peering there =
      let t = table_of q peering there in
      subst (λ (x : PeeringInput). x.remote_seq < 2 ^ 32) t.made (number_below 32 5000 (codes "remote_seq") t.table (omega arith))

-- ---- distinct

-- each one is apart from those before it
apart_after : {A : Type 0} (bad : List A → A → Option BadInput) (same : A → A → Bool)
    → ((before : List A) (x : A) → bad before x ≡ None → list_any (λ y. same y x) before ≡ false)
    → (before xs : List A) → each_after bad before xs ≡ None → (k : ℕ) (x : A) → slice_get xs k ≡ Some x → (j : ℕ) (y : A) → j < length before + k
    → slice_get (before ++ xs) j ≡ Some y → same y x ≡ true → ⊥
apart_after bad same each before [] none k x at j y low there e = absurd (none-some x at)
apart_after bad same each before (z ∷ xs) none zero x at j y low there e =
    let is : z ≡ x = cc at in
    let here : slice_get before j ≡ Some y = sym (get-append_left before (z ∷ xs) j (omega (arith, low))) ∙ there in
    let fresh : list_any (λ w. same w z) before ≡ false = each before z (none_left (bad before z) (each_after bad (before ++ z ∷ []) xs) none) in
    false≢true (sym fresh ∙ any_here (λ w. same w z) before j y here (ap (same y) is ∙ e))
apart_after bad same each before (z ∷ xs) none (suc k) x at j y low there e =
    apart_after bad same each (before ++ z ∷ []) xs (none_right (bad before z) (each_after bad (before ++ z ∷ []) xs) none) k x at j y
    (omega (arith, low, length-append before (z ∷ []))) (ap (λ (ys : List _). slice_get ys j) (append_assoc before (z ∷ []) xs) ∙ there) e

not_repeated : (again : Bool) (text : List ℕ) → repeated_if again text ≡ None → again ≡ false
not_repeated false text none = refl
not_repeated true text none = absurd (none-some (Repeated text) (sym none))

-- no earlier peering has the address of a later one's remote
address_apart : (routers : List RouterInput) (before : List Members) (t : Members) → peering_named routers before t ≡ None
    → list_any (λ u. remote_address_of u == remote_address_of t) before ≡ false
address_apart routers before t none =
    let names = map (λ r. r.name) routers in
    let policies = policies_at routers (text_at (codes "at") t) in
    let again_name = list_any (λ u. bytes_eq (text_at (codes "name") u) (text_at (codes "name") t)) before in
    let again_remote = list_any (λ u. remote_address_of u == remote_address_of t) before in
    let flaws : List (Option BadInput) = repeated_if again_name (text_at (codes "name") t)
    ∷ unknown names (text_at (codes "at") t)
    ∷ repeated_if again_remote (address_text (remote_address_of t))
    ∷ unknown_at policies (maybe_text (codes "import") t)
    ∷ unknown_at policies (maybe_text (codes "export") t)
    ∷ [] in
    not_repeated again_remote (address_text (remote_address_of t)) (none_of flaws 2 (repeated_if again_remote (address_text (remote_address_of t))) none refl)

peerings_named : (doc : Members) → named doc ≡ None → each_after (peering_named (routers_of doc)) [] (tables_at (codes "peering") doc) ≡ None
peerings_named doc none =
    let routers = routers_of doc in
    let names = router_names_of doc in
    let remotes = peering_names_of doc in
    let peering = each_after (peering_named routers) [] (tables_at (codes "peering") doc) in
    let flaws : List (Option BadInput) = each_after router_again [] routers
    ∷ each_after (cost_named names) [] (tables_at (codes "cost") doc)
    ∷ peering
    ∷ each_after (fault_named remotes) [] (tables_at (codes "fault") doc)
    ∷ first_of (map (step_named names remotes) (tables_at (codes "step") doc))
    ∷ first_of (map (expect_named names remotes) (tables_at (codes "expect") doc))
    ∷ [] in
    none_of flaws 2 peering none refl

module _ (input : LabInput) (accepts : IsAccepted input) where
  not_later : (j k : ℕ) (one other : PeeringInput) → j < k → slice_get input.peerings j ≡ Some one → slice_get input.peerings k ≡ Some other
      → one.remote_address ≡ other.remote_address → ⊥
  not_later j k one other low at at' same =
      let a = accepted accepts.bytes input accepts.is in
      let tables = tables_at (codes "peering") a.doc in
      let make : Members → PeeringInput = peering_input a.doc (router_names_of a.doc) in
      let t = made_of make (slice_get tables j) one
      (sym (get_mapped make tables j) ∙ ap (λ (l : LabInput). slice_get l.peerings j) a.is ∙ at) in
      let u = made_of make (slice_get tables k) other
      (sym (get_mapped make tables k) ∙ ap (λ (l : LabInput). slice_get l.peerings k) a.is ∙ at') in
      let is : remote_address_of t.x ≡ remote_address_of u.x =
      ap (λ (x : PeeringInput). x.remote_address) t.is ∙ same ∙ sym (ap (λ (x : PeeringInput). x.remote_address) u.is) in
      apart_after (peering_named (routers_of a.doc)) (λ y x. remote_address_of y == remote_address_of x) (address_apart (routers_of a.doc)) [] tables
      (peerings_named a.doc a.no_name) k u.x u.there j t.x (omega (arith, low)) t.there (eq-eqb (remote_address_of t.x) (remote_address_of u.x) is)

  pub remotes_apart : (j k : ℕ) (one other : PeeringInput) → slice_get input.peerings j ≡ Some one → slice_get input.peerings k ≡ Some other
      → one.remote_address ≡ other.remote_address → j ≡ k
  remotes_apart j k one other at at' same = elim (cases_order j k) [
    | inl is ↦ is
    | inr (inl low) ↦ absurd (not_later j k one other low at at' same)
    | inr (inr high) ↦ absurd (not_later k j other one high at' at (sym same))
  ]
