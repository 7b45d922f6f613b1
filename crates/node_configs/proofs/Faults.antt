-- Each planned fault of an accepted input lets its segment go on soon.
use Rattle.std.proofs.Common.{◌≡◌, ℕ, ◌≤◌, Bool, true, false, List, [], ◌∷◌, ◌++◌, refl, sym, subst, arith}
use Rattle.std.specs.Prelude.{Option, Some, None, option_and_then, unwrap_or, codes}
use Rattle.std.specs.List.{AllByRecursion}
use Rattle.toml.specs.Data.{Data, Members, get_member}
use Rattle.link_bag.specs.declared.plan.Fault.{Fault}
use Rattle.lab_keys.specs.declared.flaw.Flaw.{Flaw}
use Rattle.lab_keys.specs.declared.flaw.Flaw.TheVariants.{Shape}
use Rattle.lab_keys.specs.declared.key.Kind.TheVariants.{Number, Misplaced}
use Rattle.lab_keys.specs.declared.table_at.TableAt.{TableAt}
use Rattle.lab_keys.specs.declared.table_at.TableAt.TheVariants as tables
use Rattle.lab_keys.specs.Spots.{KeySpot, spot_of}
use Rattle.lab_keys.specs.Kinds.{flaw_if, kind_flaw}
use Rattle.lab_keys.specs.Keys.{required, optional, present, key_flaw, keys_flaw, stray_flaw, tables_flaw, names_of}
use Rattle.lab_keys.specs.Values.{number_in, number_or, items_at, tables_at}
use Rattle.lab_keys.proofs.NoFlaws.{none_left, number_within, tables_all}
use Rattle.lab_tables.specs.declared.input.LabInput.{LabInput}
use Rattle.lab_tables.specs.Meanings.{way_at, fault_kind_at}
use Rattle.lab_tables.specs.Routers.{router_flaw}
use Rattle.lab_tables.specs.Peerings.{cost_flaw, peering_flaw, fault_keys, is_lost, after_keys, strays_out, fault_flaw, fault_of}
use Rattle.lab_tables.specs.Scripts.{step_flaw}
use Rattle.lab_tables.specs.Expects.{most_graft, expect_flaw}
use Rattle.lab_tables.specs.Documents.{home_keys, trace_keys, top_names, shaped, peering_names_of, lab_of}
use Rattle.lab_input.specs.Labs.{InputOf}
use Rattle.lab_input.proofs.Ready.{accepted}
use Rattle.lab_setup.proofs.Lists.{none_is, none_of, all_mapped}

-- ---- one fault

-- the turn at which the segment of a fault goes on, or 0 where the fault names none
abbrev after_of : Members → ℕ
after_of t = number_or 32 0 (codes "after") t

-- a value that is out of place is none
misplaced : (at : KeySpot) (o : Option Data) → present at false (kind_flaw Misplaced at) o ≡ None → unwrap_or (option_and_then (number_in 32) o) 0 ≤ 6
misplaced at None none = omega arith
misplaced at (Some d) none = absurd (none_is (Shape at) (sym none))

after_soon : (at : TableAt) (t : Members) (lost : Bool) → keys_flaw at (after_keys lost) t ≡ None → after_of t ≤ 6
after_soon at t true none =
    misplaced (spot_of at (codes "after")) (get_member (codes "after") t) (none_left (key_flaw at t (optional (codes "after") Misplaced)) None none)
after_soon at t false none =
    let within = number_within at t (codes "after") 32 0 1 6 (omega arith) (none_left (key_flaw at t (required (codes "after") (Number 1 6))) None none) in
    within.few

fault_soon : (i : ℕ) (t : Members) → fault_flaw i t ≡ None → after_of t ≤ 6
fault_soon i t none =
    let at : TableAt = tables.Fault i in
    let lost : Bool = is_lost (fault_kind_at t) in
    let after : Option Flaw = keys_flaw at (after_keys lost) t in
    let flaws : List (Option Flaw) = keys_flaw at fault_keys t
    ∷ flaw_if (strays_out (fault_kind_at t) (way_at t)) (Shape (spot_of at (codes "kind")))
    ∷ after
    ∷ stray_flaw at (names_of (fault_keys ++ after_keys true)) t
    ∷ [] in
    after_soon at t lost (none_of flaws 2 after none refl)

-- ---- the whole

abbrev AreSoon : List Fault → Type 0
AreSoon faults = AllByRecursion (λ fault. fault.after ≤ 6) faults

document_soon : (doc : Members) → shaped doc ≡ None → AreSoon (lab_of doc).faults
document_soon doc none =
    let faults : Option Flaw = tables_flaw tables.Top (codes "fault") false 0 1024 fault_flaw doc in
    let flaws : List (Option Flaw) = keys_flaw tables.Top home_keys doc
    ∷ stray_flaw tables.Top top_names doc
    ∷ tables_flaw tables.Top (codes "router") true 1 8 router_flaw doc
    ∷ tables_flaw tables.Top (codes "cost") false 0 56 cost_flaw doc
    ∷ tables_flaw tables.Top (codes "peering") false 0 32 (peering_flaw doc) doc
    ∷ faults
    ∷ tables_flaw tables.Top (codes "step") false 0 4096 (step_flaw (items_at (codes "step") doc)) doc
    ∷ keys_flaw tables.Top trace_keys doc
    ∷ tables_flaw tables.Top (codes "expect") false 0 1024 (expect_flaw (most_graft doc)) doc
    ∷ [] in
    all_mapped (fault_of (peering_names_of doc)) (λ t. after_of t ≤ 6) (λ (fault : Fault). fault.after ≤ 6) (λ t soon. soon) (tables_at (codes "fault") doc)
    (tables_all tables.Top doc (codes "fault") false 0 1024 fault_flaw (λ t. after_of t ≤ 6) fault_soon (none_of flaws 5 faults none refl))

pub accepted_soon : (bytes : List ℕ) (input : LabInput) → InputOf bytes input → AreSoon input.faults
accepted_soon bytes input e =
    let a = accepted bytes input e in
    subst (λ (i : LabInput). AreSoon i.faults) a.is (document_soon a.doc a.no_flaw)
