-- Octets are a capsule in one way at most, and have one first fault at most.
use Rattle.std.proofs.Common.{◌≡◌, ℕ, zero, suc, ◌+◌, ◌++◌, ◌∷◌, List, [], length, refl, sym, ap, ◌∙◌, subst, arith}
use Rattle.std.proofs.Common.{◌⊎◌, inl, inr}
use Rattle.std.specs.Prelude.{MatchResult, IfOk, Result, Ok, Err}
use Rattle.std.proofs.lemmas.List.{append-nil}
use Rattle.tcp_seq.specs.declared.state.EndState.{EndState}
use Rattle.capsule_bytes.specs.declared.parts.CapsuleParts.{CapsuleParts}
use Rattle.capsule_bytes.specs.declared.stop.CapsuleStop.{CapsuleStop}
use Rattle.capsule_bytes.specs.declared.stop.CapsuleStop.TheVariants as stops
use Rattle.capsule_bytes.specs.Fields.{Field}
use Rattle.capsule_bytes.specs.Capsules.{fields, spell_capsule, IsCapsule, IsCapsuleOf}
use Rattle.capsule_bytes.specs.Stops.{StopsIn, HasFault, Answers, all_unread}
use Rattle.capsule_bytes.proofs.Trees.{Verdict, Ended, CutAt, WrongAt, Walks, verdict, Reached, reached, cut, wrong, ended}
use Rattle.capsule_bytes.proofs.Walks.{at_home, capsule_tree, walks_capsule, other_magic}

-- the verdict on octets
abbrev on : List ℕ → Verdict CapsuleParts
on bytes = verdict capsule_tree bytes 0

-- the fault that it means, or `NoMemory` if there is none
abbrev stop_of : Verdict CapsuleParts → CapsuleStop
stop_of (Ended p []) = stops.NoMemory
stop_of (Ended p (x ∷ xs)) = stops.Rest (length (spell_capsule p))
stop_of (CutAt n) = stops.Cut n
stop_of (WrongAt zero) = stops.Magic
stop_of (WrongAt (suc n)) = stops.Value (suc n)

same_home : (p : CapsuleParts) → IsCapsule p → at_home p ≡ p
same_home p sound =
    ap (λ (e : EndState). record p { end = e }) (ap (λ w. record p.end { way = w; peering = p.peering }) (sym sound.way) ∙ ap
    (λ i. record p.end { peering = i }) (sym sound.peering))

-- a capsule, and what follows it
on_capsule : (bytes rest : List ℕ) (p : CapsuleParts) → IsCapsule p → bytes ≡ spell_capsule p ++ rest → on bytes ≡ Ended p rest
on_capsule bytes rest p sound is =
    let r = reached capsule_tree (at_home p) (fields p) [] bytes rest 0
    (subst (λ (fs : List Field). Walks capsule_tree (at_home p) fs) (sym (append-nil (fields p))) (walks_capsule p)) sound.right is in
    r.same ∙ ended r.left (at_home p) rest (0 + length (spell_capsule p)) r.walks ∙ ap (λ q. Ended q rest) (same_home p sound)

reached_next : (bytes : List ℕ) (stop : CapsuleStop) (at : StopsIn fields (all_unread bytes) stop)
    → Reached capsule_tree (at_home at.value) bytes at.next.octets 0 at.next.place (at.field ∷ at.after)
reached_next bytes stop at =
    subst (λ n. Reached capsule_tree (at_home at.value) bytes at.next.octets 0 n (at.field ∷ at.after)) (sym at.passes.place_is)
    (reached capsule_tree (at_home at.value) at.before (at.field ∷ at.after) bytes at.next.octets 0
    (subst (λ (fs : List Field). Walks capsule_tree (at_home at.value) fs) at.fields_are (walks_capsule at.value)) at.passes.right at.passes.octets_are)

fault_is : (bytes : List ℕ) (stop : CapsuleStop) → HasFault bytes stop → stop ≡ stop_of (on bytes)
fault_is bytes stops.Magic h = sym (ap stop_of (other_magic bytes h))
fault_is bytes (stops.Cut n) h =
    let r = reached_next bytes (stops.Cut n) h in
    sym (ap stop_of (r.same ∙ cut r.left (at_home h.value) h.field h.after h.next.octets h.next.place r.walks h.stops.1 ∙ ap CutAt (sym h.stops.0)))
fault_is bytes (stops.Value zero) h = absurd (omega (arith, h.0))
fault_is bytes (stops.Value (suc n)) h =
    let at = h.1 in
    let r = reached_next bytes (stops.Value (suc n)) at in
    sym (ap stop_of (r.same ∙ wrong r.left (at_home at.value) at.field at.after at.next.octets at.next.place r.walks at.stops.1 ∙ ap WrongAt
    (sym at.stops.0)))
fault_is bytes (stops.Rest n) h = by h.rest h.bytes_are h.some
  where
    by : (rest : List ℕ) → bytes ≡ spell_capsule h.parts ++ rest → (rest ≡ [] → ⊥) → stops.Rest n ≡ stop_of (on bytes)
    by [] is some = absurd (some refl)
    by (x ∷ xs) is some = ap stops.Rest h.place_is ∙ sym (ap stop_of (on_capsule bytes (x ∷ xs) h.parts h.capsule is))
fault_is bytes stops.NoMemory h = absurd h

on_whole : (bytes : List ℕ) (p : CapsuleParts) → IsCapsuleOf bytes p → on bytes ≡ Ended p []
on_whole bytes p it = on_capsule bytes [] p it.capsule (it.bytes_are ∙ sym (append-nil (spell_capsule p)))

pub no_fault : (bytes : List ℕ) (p : CapsuleParts) (stop : CapsuleStop) → IsCapsuleOf bytes p → ¬ HasFault bytes stop
no_fault bytes p stop it = λ fault.
    subst (λ s. HasFault bytes s) (fault_is bytes stop fault ∙ ap stop_of (on_whole bytes p it)) fault

pub one_fault : (bytes : List ℕ) (one other : CapsuleStop) → HasFault bytes one → HasFault bytes other → one ≡ other
one_fault bytes one other a b = fault_is bytes one a ∙ sym (fault_is bytes other b)

-- the value of a verdict
abbrev value_or : CapsuleParts → Verdict CapsuleParts → CapsuleParts
value_or p (Ended q rest) = q
value_or p (CutAt n) = p
value_or p (WrongAt n) = p

pub one_capsule : (bytes : List ℕ) (p q : CapsuleParts) → IsCapsuleOf bytes p → IsCapsuleOf bytes q → p ≡ q
one_capsule bytes p q a b = ap (value_or p) (sym (on_whole bytes p a) ∙ on_whole bytes q b)

pub one_spelling : (p q : CapsuleParts) → IsCapsule p → IsCapsule q → spell_capsule p ≡ spell_capsule q → p ≡ q
one_spelling p q a b same =
    one_capsule (spell_capsule p) p q (record { capsule = a; bytes_are = refl }) (record { capsule = b; bytes_are = same })

-- ---- what a reading answers

pub answers_back : (bytes : List ℕ) (result : Result CapsuleParts CapsuleStop) → Answers bytes result → (p : CapsuleParts) → IsCapsuleOf bytes p
    → MatchResult result (λ read. read ≡ p) (λ stop. stop ≡ stops.NoMemory)
answers_back bytes (Ok q) a p it = one_capsule bytes q p a it
answers_back bytes (Err stops.Magic) a p it = absurd (no_fault bytes p stops.Magic it a)
answers_back bytes (Err (stops.Cut n)) a p it = absurd (no_fault bytes p (stops.Cut n) it a)
answers_back bytes (Err (stops.Value n)) a p it = absurd (no_fault bytes p (stops.Value n) it a)
answers_back bytes (Err (stops.Rest n)) a p it = absurd (no_fault bytes p (stops.Rest n) it a)
answers_back bytes (Err stops.NoMemory) a p it = refl

-- a fault is the answer
pub answers_fault : (bytes : List ℕ) (result : Result CapsuleParts CapsuleStop) → Answers bytes result → (fault : CapsuleStop) → HasFault bytes fault
    → (result ≡ Err fault) ⊎ (result ≡ Err stops.NoMemory)
answers_fault bytes (Ok p) a fault h = absurd (no_fault bytes p fault a h)
answers_fault bytes (Err stops.Magic) a fault h = inl (ap Err (one_fault bytes stops.Magic fault a h))
answers_fault bytes (Err (stops.Cut n)) a fault h = inl (ap Err (one_fault bytes (stops.Cut n) fault a h))
answers_fault bytes (Err (stops.Value n)) a fault h = inl (ap Err (one_fault bytes (stops.Value n) fault a h))
answers_fault bytes (Err (stops.Rest n)) a fault h = inl (ap Err (one_fault bytes (stops.Rest n) fault a h))
answers_fault bytes (Err stops.NoMemory) a fault h = inr refl

pub answers_capsule : (bytes : List ℕ) (result : Result CapsuleParts CapsuleStop) → Answers bytes result → IfOk result (λ p. IsCapsuleOf bytes p)
answers_capsule bytes (Ok p) a = a
answers_capsule bytes (Err stop) a = tt
