-- What is sent at one stage of a turn, by the round that the stage makes.
use Rattle.std.proofs.Common.{◌≡◌, ℕ, zero, suc, ◌+◌, ◌<◌, ◌≤◌, List, [], ◌∷◌, ◌++◌, length, Bool, true, false, sym, ap, subst, arith, inl, inr}
use Rattle.std.specs.Prelude.{nat_lt, if◌then◌else◌}
use Rattle.std.specs.List.{AllByRecursion}
use Rattle.std.proofs.lemmas.Bool.{lt-ltb, le-ltb}
use Rattle.ring_net.specs.declared.post.Post.{Post}
use Rattle.ring_net.proofs.Replays.{all-append}
use Rattle.graft_steps.specs.declared.item.Item.{Item}
use Rattle.tcp_seq.specs.Endpoint.{Endpoint, next_length, again_length}
use Rattle.session_value.specs.Sessions.{SessionValue}
use Rattle.graft_model.specs.Setups.{Setup}
use Rattle.graft_model.specs.Parts.{FarPart}
use Rattle.graft_model.specs.declared.event.FarEvent.{FarEvent}
use Rattle.graft_model.specs.declared.event.FarEvent.TheVariants.{Send}
use Rattle.graft_actors.specs.Emissions.{zero_tally, IsOld, IsCareful, Tally, tallied}
use Rattle.remote_end.specs.Remotes.{RemoteValue}
use Rattle.far_side.specs.Links.{home_act, home_event, home_events, remote_act, remote_event, remote_events, pass_events, act_in, next_index}
use Rattle.far_side.specs.Parts.{far_part}
use Rattle.far_side.specs.Turns.{CarefulFar, far_tally, FarRound, FarRetransmits, SendsNew, SendsAnswer, SendsNone, FarGoes, DidAsFar}
use Rattle.far_side.specs.Passes.{again_events, FreshEvents, answer_events, Beats}
use Rattle.far_side.specs.declared.fields.Fields.{Fields}
use Rattle.far_side.specs.declared.link.InLink.{InLink}
use Rattle.far_side.specs.declared.link.Act.{Act}
use Rattle.far_side.specs.declared.link.Act.TheVariants.{Stays, Delivered, Copied, Lost}

-- ---- no segment

-- an event by which no part sends a segment
abbrev pub Silent : FarEvent → Type 0
Silent event = (part : FarPart) → SendsNone part event

pub silent_goes : (setup : Setup) (p : ℕ) (a b : FarPart) (t u : Tally) (es : List FarEvent) → AllByRecursion Silent es → FarRound setup p a t es b u
    → FarGoes setup p SendsNone a es b
silent_goes setup p a b t u [] none round = round.0
silent_goes setup p a b t u (e ∷ es) none (taken, sent, m, row, careful, rest) =
    (taken, sent, m, row, none.0 a, silent_goes setup p m b (far_tally a e t) u es none.1 rest)

silent_passes : (event : ℕ → InLink → List FarEvent) → ((n : ℕ) (x : InLink) → AllByRecursion Silent (event n x)) → (n : ℕ) (xs : List InLink)
    → AllByRecursion Silent (pass_events event n xs)
silent_passes event each n [] = tt
silent_passes event each n (x ∷ xs) =
    all-append Silent (event n x) (pass_events event (next_index n x) xs) (each n x) (silent_passes event each (next_index n x) xs)

silent_home : (pointer n : ℕ) (x : InLink) (act : Act) → AllByRecursion Silent (home_act pointer n x act)
silent_home pointer n x Stays = tt
silent_home pointer n x (Delivered keep) = ((λ part. tt), tt)
silent_home pointer n x Copied = ((λ part. tt), tt)
silent_home pointer n x Lost = ((λ part. tt), tt)

silent_remote : (n : ℕ) (act : Act) → AllByRecursion Silent (remote_act n act)
silent_remote n Stays = tt
silent_remote n (Delivered keep) = ((λ part. tt), tt)
silent_remote n Copied = ((λ part. tt), tt)
silent_remote n Lost = ((λ part. tt), tt)

-- deliveries send nothing
pub silent_deliveries : (pointer : ℕ) (xs ys : List InLink) → AllByRecursion Silent (home_events pointer xs ++ remote_events ys)
silent_deliveries pointer xs ys = all-append Silent (home_events pointer xs) (remote_events ys)
    (silent_passes (home_event pointer) (λ n x. silent_home pointer n x (act_in x)) 0 xs)
    (silent_passes remote_event (λ n x. silent_remote n (act_in x)) 0 ys)

-- nor does the KEEPALIVE
pub silent_beats : (f g : Fields) (es : List FarEvent) → Beats f es g → AllByRecursion Silent es
silent_beats f g es (inl (due, is, same)) = subst (AllByRecursion Silent) (sym is) ((λ part. tt), tt)
silent_beats f g es (inr (not, is, same)) = subst (AllByRecursion Silent) (sym is) tt

-- ---- an old slice

-- a slice that is counted as sent again is an old one
counted_old : (e : Endpoint) (from len : ℕ) → IsCareful e from len → 0 < (tallied e from len zero_tally).again → IsOld e from len
counted_old e from zero careful again = absurd (omega (arith, again))
counted_old e from (suc n) (inl old) again = old
counted_old e from (suc n) (inr new) again = absurd (omega (arith, none))
  where
    none : 0 < 0
    none = subst (λ (b : Bool). 0 < (let u : Tally = if b then record { again = 0 + 1; answers = 0 } else zero_tally in u).again)
        (le-ltb from e.emitted (omega (arith, new.next))) again

old_goes : (setup : Setup) (p : ℕ) (a b : FarPart) (raised some : Bool) (from len : ℕ) (u : Tally)
    → (let es : List FarEvent = if raised then [] else (if some then Send from len ∷ [] else []) in
    FarRound setup p a zero_tally es b u → u.again ≡ length es → FarGoes setup p FarRetransmits a es b)
old_goes setup p a b true some from len u round again = round.0
old_goes setup p a b false true from len u (taken, sent, m, row, careful, rest) again =
    (taken, sent, m, row, counted_old a.end from len careful (omega (arith, ap (λ (t : Tally). t.again) rest.1, again)), rest.0)
old_goes setup p a b false false from len u round again = round.0

-- the retransmission turn sends the first outstanding slice
pub again_goes : (setup : Setup) (p : ℕ) (a b : FarPart) (r : RemoteValue) (u : Tally) → FarRound setup p a zero_tally (again_events r) b u
    → u.again ≡ length (again_events r) → FarGoes setup p FarRetransmits a (again_events r) b
again_goes setup p a b r u = old_goes setup p a b (nat_lt r.at_turn r.end.acked) (nat_lt 0 (again_length r.end)) r.end.acked (again_length r.end) u

-- ---- new slices

-- A slice raises the count of those sent again, or it is a new one.
new_slice : (a : FarPart) (from len : ℕ) (t : Tally) → 0 < len → IsCareful a.end from len
    → (t.again ≤ (tallied a.end from len t).again) × ((tallied a.end from len t).again ≤ t.again → SendsNew a (Send from len))
new_slice a from zero t some careful = absurd (omega (arith, some))
new_slice a from (suc n) t some (inr new) = (
  omega (
    arith,
    ap (λ (b : Bool). (let u : Tally = if b then record t { again = t.again + 1 } else t in u).again) (le-ltb from a.end.emitted (omega (arith, new.next))),
  ),
  λ none. new,
)
new_slice a from (suc n) t some (inl old) = (omega (arith, raised), λ none. absurd (omega (arith, raised, none)))
  where
    raised : (tallied a.end from (suc n) t).again ≡ t.again + 1
    raised = ap (λ (b : Bool). (let u : Tally = if b then record t { again = t.again + 1 } else t in u).again) (lt-ltb from a.end.emitted old.out)

new_event : (a : FarPart) (event : FarEvent) (from len : ℕ) (t : Tally) → event ≡ Send from len → 0 < len → CarefulFar a event
    → (t.again ≤ (far_tally a event t).again) × ((far_tally a event t).again ≤ t.again → SendsNew a event)
new_event a event from len t is some careful =
    subst (λ (x : FarEvent). (t.again ≤ (far_tally a x t).again) × ((far_tally a x t).again ≤ t.again → SendsNew a x))
    (sym is) (new_slice a from len t some (subst (CarefulFar a) is careful))

pub fresh_goes : (setup : Setup) (p : ℕ) (e f : Endpoint) (a b : FarPart) (t u : Tally) (es : List FarEvent) → FreshEvents e es f
    → FarRound setup p a t es b u → (t.again ≤ u.again) × (u.again ≤ t.again → FarGoes setup p SendsNew a es b)
fresh_goes setup p e f a b t u [] fresh round = (omega (arith, ap (λ (w : Tally). w.again) round.1), λ none. round.0)
fresh_goes setup p e f a b t u (event ∷ es) (some, is, more) (taken, sent, m, row, careful, rest) =
    let one : (t.again ≤ (far_tally a event t).again) × ((far_tally a event t).again ≤ t.again → SendsNew a event) =
    new_event a event e.emitted (next_length e) t is some careful in
    let others : ((far_tally a event t).again ≤ u.again) × (u.again ≤ (far_tally a event t).again → FarGoes setup p SendsNew m es b)
    = fresh_goes setup p (record e { emitted = e.emitted + next_length e }) f m b (far_tally a event t) u es more rest in
    (omega (arith, one.0, others.0), λ none. (taken, sent, m, row, one.1 (omega (arith, others.0, none)), others.1 (omega (arith, one.0, none))))

-- ---- the owed answer

answer_goes_if : (setup : Setup) (p : ℕ) (a b : FarPart) (t u : Tally) (owed : Bool) (from : ℕ)
    → (let es : List FarEvent = if owed then Send from 0 ∷ [] else [] in FarRound setup p a t es b u → FarGoes setup p SendsAnswer a es b)
answer_goes_if setup p a b t u true from (taken, sent, m, row, careful, rest) = (taken, sent, m, row, careful, rest.0)
answer_goes_if setup p a b t u false from round = round.0

pub answer_goes : (setup : Setup) (p : ℕ) (a b : FarPart) (t u : Tally) (e : Endpoint) → FarRound setup p a t (answer_events e) b u
    → FarGoes setup p SendsAnswer a (answer_events e) b
answer_goes setup p a b t u e = answer_goes_if setup p a b t u e.owed e.emitted

-- ---- the pieces of one call

-- The round of a later piece is one by the setup and the peering of the first.
pub round_by : {C : Type 0} (session : C → SessionValue) (first f g : Fields) (p q : Post (Item C)) (t u : Tally) (es : List FarEvent)
    → f.known.setup ≡ first.known.setup → f.peering ≡ first.peering → DidAsFar session f p t es g q u
    → FarRound first.known.setup first.peering.0 (far_part f) t es (far_part g) u
round_by session first f g p q t u es setup peering did =
    subst (λ (s : Setup). FarRound s first.peering.0 (far_part f) t es (far_part g) u) setup
    (subst (λ (n : ℕ). FarRound f.known.setup n (far_part f) t es (far_part g) u) (ap (λ k. k.0) peering) did.round)
