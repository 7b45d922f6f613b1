-- The events of a router, one after another, through its parts.
use Rattle.std.proofs.Common.{◌≡◌, ◌∙◌, ℕ, List, [], ◌∷◌, ◌++◌, refl, ap, subst, arith}
use Rattle.std.proofs.Math.Path.{subst⁻¹}
use Rattle.std.specs.List.{AllByRecursion}
use Rattle.graft_model.specs.Parts.{RouterPart}
use Rattle.graft_model.specs.Setups.{Setup}
use Rattle.graft_model.specs.declared.event.RouterEvent.{RouterEvent}
use Rattle.graft_model.specs.declared.event.RouterEvent.TheVariants.{Emit, Tick}
use Rattle.router_core.specs.Rounds.{RouterGoes, RouterRetransmits}
use Rattle.router_core.specs.Turned.{IsRouterTake, round_on, rounds_on}
use Rattle.real_rounds.proofs.Lists.{all_front, all_back}

-- whatever a stage allows
abbrev pub Anything : RouterPart → RouterEvent → Type 0
Anything part event = Unit {0}

pub goes_anyhow : (Allowed : RouterPart → RouterEvent → Type 0) (setup : Setup) (r : ℕ) (a b : RouterPart) (es : List RouterEvent) (ms : List RouterPart)
    → RouterGoes setup r Allowed a es ms b → RouterGoes setup r Anything a es ms b
goes_anyhow Allowed setup r a b [] [] h = h
goes_anyhow Allowed setup r a b [] (m ∷ ms) h = absurd h
goes_anyhow Allowed setup r a b (e ∷ es) [] h = absurd h
goes_anyhow Allowed setup r a b (e ∷ es) (m ∷ ms) (taken, sent, row, allowed, rest) = (taken, sent, row, tt, goes_anyhow Allowed setup r m b es ms rest)

pub goes_append : (Allowed : RouterPart → RouterEvent → Type 0) (setup : Setup)
    (r : ℕ) (a b c : RouterPart) (es fs : List RouterEvent) (ms ns : List RouterPart)
    → RouterGoes setup r Allowed a es ms b → RouterGoes setup r Allowed b fs ns c
    → RouterGoes setup r Allowed a (es ++ fs) (ms ++ ns) c
goes_append Allowed setup r a b c [] fs [] ns h k = subst (λ (x : RouterPart). RouterGoes setup r Allowed x fs ns c) h k
goes_append Allowed setup r a b c [] fs (m ∷ ms) ns h k = absurd h
goes_append Allowed setup r a b c (e ∷ es) fs [] ns h k = absurd h
goes_append Allowed setup r a b c (e ∷ es) fs (m ∷ ms) ns (taken, sent, row, allowed, rest) k =
    (taken, sent, row, allowed, goes_append Allowed setup r m b c es fs ms ns rest k)

-- ---- what holds of each part

holds_last : (P : RouterPart → Type 0) (Allowed : RouterPart → RouterEvent → Type 0)
    (setup : Setup) (r : ℕ) (a b : RouterPart) (es : List RouterEvent) (ms : List RouterPart)
    → RouterGoes setup r Allowed a es ms b → AllByRecursion P (a ∷ ms) → P b
holds_last P Allowed setup r a b [] [] h all = subst⁻¹ P h all.0
holds_last P Allowed setup r a b [] (m ∷ ms) h all = absurd h
holds_last P Allowed setup r a b (e ∷ es) [] h all = absurd h
holds_last P Allowed setup r a b (e ∷ es) (m ∷ ms) h all = holds_last P Allowed setup r m b es ms h.4 all.1

-- of two pieces, each has it throughout
pub through_both : (P : RouterPart → Type 0) (Allowed : RouterPart → RouterEvent → Type 0)
    (setup : Setup) (r : ℕ) (a b : RouterPart) (es : List RouterEvent) (ms ns : List RouterPart)
    → RouterGoes setup r Allowed a es ms b
    → AllByRecursion P (a ∷ (ms ++ ns)) → AllByRecursion P (a ∷ ms) × AllByRecursion P (b ∷ ns)
through_both P Allowed setup r a b es ms ns h all =
    let first : AllByRecursion P (a ∷ ms) = (all.0, all_front P ms ns all.1) in
    (first, (holds_last P Allowed setup r a b es ms h first, all_back P ms ns all.1))

-- ---- where no round passes

taking_quiet : (part : RouterPart) (event : RouterEvent) → IsRouterTake part event → (p : ℕ) → round_on p event ≡ []
taking_quiet part (Tick q round) takes p = absurd (omega (arith, takes))
taking_quiet part _ takes p = refl

sending_quiet : (part : RouterPart) (event : RouterEvent) → RouterRetransmits part event → (p : ℕ) → round_on p event ≡ []
sending_quiet part (Emit q from len) sends p = refl
sending_quiet part _ sends p = absurd sends

none_pass : (Allowed : RouterPart → RouterEvent → Type 0)
    → ((part : RouterPart) (event : RouterEvent) → Allowed part event → (p : ℕ) → round_on p event ≡ [])
    → (setup : Setup) (r : ℕ) (a b : RouterPart) (es : List RouterEvent) (ms : List RouterPart)
    → RouterGoes setup r Allowed a es ms b → (p : ℕ) → rounds_on p es ≡ []
none_pass Allowed quiet setup r a b [] ms h p = refl
none_pass Allowed quiet setup r a b (e ∷ es) [] h p = absurd h
none_pass Allowed quiet setup r a b (e ∷ es) (m ∷ ms) (taken, sent, row, allowed, rest) p = ap (λ (xs : List ℕ). xs ++ rounds_on p es) (quiet a e allowed p)
    ∙ none_pass Allowed quiet setup r m b es ms rest p

-- while items are taken
pub none_taking : (setup : Setup) (r : ℕ) (a b : RouterPart) (es : List RouterEvent) (ms : List RouterPart)
    → RouterGoes setup r IsRouterTake a es ms b → (p : ℕ) → rounds_on p es ≡ []
none_taking = none_pass IsRouterTake taking_quiet

-- while old slices are sent again
pub none_sending : (setup : Setup) (r : ℕ) (a b : RouterPart) (es : List RouterEvent) (ms : List RouterPart)
    → RouterGoes setup r RouterRetransmits a es ms b → (p : ℕ) → rounds_on p es ≡ []
none_sending = none_pass RouterRetransmits sending_quiet
