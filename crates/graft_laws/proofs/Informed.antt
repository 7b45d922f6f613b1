-- What a router has of another is what that one tells, but for what is due or on its way.
use Rattle.std.proofs.Common.{◌≡◌, ◌≢◌, ◌==◌, cond, ℕ, ◌<◌, Bool, true, false, List, [], ◌∷◌, ◌++◌, Option}
use Rattle.std.proofs.Common.{Some, None, refl, sym, ap, ◌∙◌, subst, arith, ◌⊎◌, inl, inr}
use Rattle.std.specs.Prelude.{◌||◌, ◌&&◌, not, nat_lt, if◌then◌else◌}
use Rattle.std.specs.FinMap as map
use Rattle.std.proofs.lemmas.Bool.{cases_eq}
use Rattle.std.proofs.lemmas.Bool.Decides.{nat_tests}
use Rattle.std.proofs.lemmas.List.{append-nil}
use Rattle.bgp_types.specs.declared.attrs.Route.{Route}
use Rattle.bgp_types.specs.Prefixes.{PrefixValue, same_prefix}
use Rattle.bgp_types.specs.Tables.{prefix_cmp}
use Rattle.bgp_types.proofs.OnceLaws.{same_itself}
use Rattle.route_policy.specs.Telling.{tell_in}
use Rattle.session_value.specs.Sets.{BestRoutes, Prefixes, has}
use Rattle.graft_model.specs.Decisions.{chosen}
use Rattle.graft_model.specs.First.{first_world}
use Rattle.graft_model.specs.Parts.{RouterPart, Tellings, Mesh, Told, Moved, Back, Asked, Answered, Done, World}
use Rattle.graft_model.specs.Points.{at}
use Rattle.graft_model.specs.RouterRows.{RouterTaken, OrderIn, SegmentIn, MeshIn, RouterSent, MeshTo, OutwardTo, ReportOut}
use Rattle.graft_model.specs.Setups.{Setup, routers_in}
use Rattle.graft_model.specs.declared.event.RouterEvent.{RouterEvent}
use Rattle.graft_model.proofs.Footprints.{TakesNoTelling, SendsNoTelling, Deciding, Telling, Hearing, Staying, Changing, Footprint, footprint}
use Rattle.graft_model.specs.Steps.{Event, ByRouter, ByFar, ByOperator, Step, router_row}
use Rattle.graft_model.specs.TableRows.{Decides, DueEverywhere, Tells, Hears, with_telling}
use Rattle.graft_laws.specs.Keeps.{Reached}
use Rattle.graft_laws.specs.Moves.{mesh_taken, mesh_sent, RouterMoves}
use Rattle.graft_laws.specs.Phases.{only2}
use Rattle.graft_laws.specs.Tables.{last_told, heard_then, Informed}
use Rattle.graft_laws.proofs.Decided.{best_stays}
use Rattle.graft_laws.proofs.Moves.{router_moves, far_moves, operator_moves}
use Rattle.graft_laws.proofs.PrefixTables.{same, same_self, one_or_not, has_none, has_removed, get_telling, none_of}
use Rattle.graft_laws.proofs.Routers.{at_same, at_apart}
use Rattle.graft_laws.proofs.Runs.{carried}

-- ---- the last that is told

last_append : (x : PrefixValue) (xs ys : List Mesh) (d : Option Route) → last_told x (xs ++ ys) d ≡ last_told x ys (last_told x xs d)
last_append x [] ys d = refl
last_append x (Told y route ∷ xs) ys d = last_append x xs ys (if same_prefix x y then route else d)
last_append x (Moved k p s ∷ xs) ys d = last_append x xs ys d
last_append x (Back k p s refusal ∷ xs) ys d = last_append x xs ys d
last_append x (Asked k p ∷ xs) ys d = last_append x xs ys d
last_append x (Answered k p ∷ xs) ys d = last_append x xs ys d
last_append x (Done k p ∷ xs) ys d = last_append x xs ys d

-- an item that tells nothing
abbrev Skips : Mesh → Type 0
Skips item = (x : PrefixValue) (ys : List Mesh) (d : Option Route) → last_told x (item ∷ ys) d ≡ last_told x ys d

skip : (item : Mesh) → Skips item → (j k a b : ℕ) (x : PrefixValue) (ys : List Mesh) (d : Option Route)
    → last_told x (only2 j k item a b ++ ys) d ≡ last_told x ys d
skip item skips j k a b x ys d = by_tests (a == j) (b == k) where
  by_tests : (t u : Bool) → last_told x ((if t then (if u then item ∷ [] else []) else []) ++ ys) d ≡ last_told x ys d
  by_tests true true = skips x ys d
  by_tests true false = refl
  by_tests false u = refl

not_it : (t : Bool) → (t && true) ≡ false → t ≡ false
not_it true e = e
not_it false e = refl

no_more : (s t : Bool) → (s || (t && false)) ≡ s
no_more true t = refl
no_more false true = refl
no_more false false = refl

-- ---- what a row of the router r sends and takes

-- It sends no telling.
abbrev Mute : ℕ → List RouterSent → Type 0
Mute r sent = (b : ℕ) (x : PrefixValue) (d : Option Route) → last_told x (mesh_sent r sent r b) d ≡ d

-- It takes no telling.
abbrev Deaf : ℕ → Option RouterTaken → Type 0
Deaf r taken = (a : ℕ) (x : PrefixValue) (rest was : List Mesh) (d : Option Route) → mesh_taken r taken a r ++ rest ≡ was
    → last_told x rest d ≡ last_told x was d

mute_none : (r : ℕ) (sent : List RouterSent) → sent ≡ [] → Mute r sent
mute_none r sent is b x d = ap (λ (s : List RouterSent). last_told x (mesh_sent r s r b) d) is

mute : (setup : Setup) (event : RouterEvent) (before : RouterPart) (taken : Option RouterTaken) (after : RouterPart) (r : ℕ) (sent : List RouterSent)
    → SendsNoTelling setup r event before taken after sent → Mute r sent
mute setup event before taken after r [] none b x d = refl
mute setup event before taken after r (MeshTo q (Told y route) ∷ []) none b x d = absurd none
mute setup event before taken after r (MeshTo q (Moved k p s) ∷ []) none b x d = skip (Moved k p s) (λ y ys e. refl) r q r b x [] d
mute setup event before taken after r (MeshTo q (Back k p s refusal) ∷ []) none b x d = skip (Back k p s refusal) (λ y ys e. refl) r q r b x [] d
mute setup event before taken after r (MeshTo q (Asked k p) ∷ []) none b x d = skip (Asked k p) (λ y ys e. refl) r q r b x [] d
mute setup event before taken after r (MeshTo q (Answered k p) ∷ []) none b x d = skip (Answered k p) (λ y ys e. refl) r q r b x [] d
mute setup event before taken after r (MeshTo q (Done k p) ∷ []) none b x d = skip (Done k p) (λ y ys e. refl) r q r b x [] d
mute setup event before taken after r (OutwardTo p item ∷ []) none b x d = refl
mute setup event before taken after r (ReportOut report ∷ []) none b x d = refl
mute setup event before taken after r (item ∷ more ∷ items) none b x d = absurd none

deaf_item : (r q : ℕ) (item : Mesh) → Skips item → Deaf r (Some (MeshIn q item))
deaf_item r q item skips a x rest was d e = sym (skip item skips q r a r x rest d) ∙ ap (λ (xs : List Mesh). last_told x xs d) e

deaf : (setup : Setup) (before : RouterPart) (r : ℕ) (taken : Option RouterTaken) → TakesNoTelling setup before taken → Deaf r taken
deaf setup before r None none a x rest was d e = ap (λ (xs : List Mesh). last_told x xs d) e
deaf setup before r (Some (OrderIn order)) none a x rest was d e = ap (λ (xs : List Mesh). last_told x xs d) e
deaf setup before r (Some (SegmentIn p segment)) none a x rest was d e = ap (λ (xs : List Mesh). last_told x xs d) e
deaf setup before r (Some (MeshIn q (Told y route))) none a x rest was d e = absurd none
deaf setup before r (Some (MeshIn q (Moved k p s))) none a x rest was d e = deaf_item r q (Moved k p s) (λ y ys o. refl) a x rest was d e
deaf setup before r (Some (MeshIn q (Back k p s refusal))) none a x rest was d e = deaf_item r q (Back k p s refusal) (λ y ys o. refl) a x rest was d e
deaf setup before r (Some (MeshIn q (Asked k p))) none a x rest was d e = deaf_item r q (Asked k p) (λ y ys o. refl) a x rest was d e
deaf setup before r (Some (MeshIn q (Answered k p))) none a x rest was d e = deaf_item r q (Answered k p) (λ y ys o. refl) a x rest was d e
deaf setup before r (Some (MeshIn q (Done k p))) none a x rest was d e = deaf_item r q (Done k p) (λ y ys o. refl) a x rest was d e

pub record Says (setup : Setup) (r : ℕ) (before : RouterPart) (taken : Option RouterTaken) (sent : List RouterSent) (after : RouterPart) : Type 0 where
  pub sends : (b : ℕ) → b ≢ r → b < routers_in setup → (x : PrefixValue) → has (after.due_in b) x ≡ false → (d : Option Route)
      → (has (before.due_in b) x ≡ false → d ≡ tell_in (map.get before.best x)) → last_told x (mesh_sent r sent r b) d ≡ tell_in (map.get after.best x)
  pub hears : (a : ℕ) (x : PrefixValue) (rest was : List Mesh) → mesh_taken r taken a r ++ rest ≡ was
      → last_told x rest (map.get (after.tellings a) x) ≡ last_told x was (map.get (before.tellings a) x)
  pub itself : ((x : PrefixValue) → has (before.due_in r) x ≡ false) → (x : PrefixValue)
      → (has (after.due_in r) x ≡ false) × (last_told x (mesh_sent r sent r r) None ≡ None)

module _ (setup : Setup) (r : ℕ) (before : RouterPart) (taken : Option RouterTaken) (sent : List RouterSent) (after : RouterPart) where
  -- neither tells nor hears, and nothing of this changes
  quiet : Mute r sent → Deaf r taken → after.due_in ≡ before.due_in → after.best ≡ before.best → after.tellings ≡ before.tellings
      → Says setup r before taken sent after
  quiet no_sent no_heard due best tellings = record {
    sends = λ b other below x clean d is.
        no_sent b x d ∙ is (ap (λ (f : ℕ → Prefixes). has (f b) x) (sym due) ∙ clean) ∙ ap (λ (t : BestRoutes). tell_in (map.get t x)) (sym best);
    hears = λ a x rest was e. ap (λ (f : ℕ → Tellings). last_told x rest (map.get (f a) x)) tellings ∙ no_heard a x rest was (map.get (before.tellings a) x) e;
    itself = λ none x. (ap (λ (f : ℕ → Prefixes). has (f r) x) due ∙ none x, no_sent r x None);
  }

  no_taken : taken ≡ None → Deaf r taken
  no_taken e = subst (Deaf r) (sym e) (deaf setup before r None tt)

  -- a prefix is decided
  decides : (prefix : PrefixValue) → Decides setup r prefix before taken sent after → Says setup r before taken sent after
  decides prefix row = record {
    sends = λ b other below x clean d is. mute_none r sent row.alone.1 b x d ∙ by_due b other below x clean d is row.due;
    hears = λ a x rest was e. ap (λ (u : RouterPart). last_told x rest (map.get (u.tellings a) x)) row.effect
        ∙ no_taken row.alone.0 a x rest was (map.get (before.tellings a) x) e;
    itself = λ none x. (
      itself_due x row.due ∙ none x,
      mute_none r sent row.alone.1 r x None,
    );
  } where
    -- nothing becomes due to the router itself
    itself_due : (x : PrefixValue)
        → ((chosen setup r before prefix ≡ map.get before.best prefix) × (after.due_in ≡ before.due_in) × (after.due_out ≡ before.due_out))
        ⊎ ((chosen setup r before prefix ≢ map.get before.best prefix) × DueEverywhere setup r prefix before after)
        → has (after.due_in r) x ≡ has (before.due_in r) x
    itself_due x (inl stays) = ap (λ (f : ℕ → Prefixes). has (f r) x) stays.1
    itself_due x (inr due) =
        let test : (nat_lt r (routers_in setup) && not (r == r)) ≡ false = grind (arith, nat_tests) in
        (due.1.routers r).members x ∙ ap (λ (t : Bool). has (before.due_in r) x || (same_prefix prefix x && t)) test
        ∙ no_more (has (before.due_in r) x) (same_prefix prefix x)

    by_due : (b : ℕ) → b ≢ r → b < routers_in setup → (x : PrefixValue) → has (after.due_in b) x ≡ false → (d : Option Route)
        → (has (before.due_in b) x ≡ false → d ≡ tell_in (map.get before.best x))
        → ((chosen setup r before prefix ≡ map.get before.best prefix) × (after.due_in ≡ before.due_in) × (after.due_out ≡ before.due_out))
        ⊎ ((chosen setup r before prefix ≢ map.get before.best prefix) × DueEverywhere setup r prefix before after)
        → d ≡ tell_in (map.get after.best x)
    by_due b other below x clean d is (inl stays) =
        is (ap (λ (f : ℕ → Prefixes). has (f b) x) (sym stays.1) ∙ clean)
        ∙ ap tell_in (sym (best_stays setup r prefix before after taken sent row x (inr stays.0)))
    by_due b other below x clean d is (inr due) =
        let tests : (nat_lt b (routers_in setup) && not (b == r)) ≡ true = grind (arith, nat_tests) in
        let member : has (after.due_in b) x ≡ (has (before.due_in b) x || (same_prefix prefix x && true)) =
        (due.1.routers b).members x ∙ ap (λ (t : Bool). has (before.due_in b) x || (same_prefix prefix x && t)) tests in
        let both = none_of (has (before.due_in b) x) (same_prefix prefix x && true) (sym member ∙ clean) in
        is both.0 ∙ ap tell_in (sym (best_stays setup r prefix before after taken sent row x (inl (not_it (same_prefix prefix x) both.1))))

  -- a router is told
  tells : (q : ℕ) (prefix : PrefixValue) → Tells q prefix before taken sent after → Says setup r before taken sent after
  tells q prefix row = record {
    sends = λ b other below x clean d is. ap (λ (s : List RouterSent). last_told x (mesh_sent r s r b) d) row.sends
        ∙ by_number b x clean d is (cases_eq b q) ∙ ap (λ (u : RouterPart). tell_in (map.get u.best x)) (sym row.effect);
    hears = λ a x rest was e. ap (λ (u : RouterPart). last_told x rest (map.get (u.tellings a) x)) row.effect
        ∙ no_taken row.takes a x rest was (map.get (before.tellings a) x) e;
    itself = λ none x.
        let apart : r ≢ q = λ e. (let f : has (before.due_in r) prefix ≡ true = ap (λ (n : ℕ). has (before.due_in n) prefix) e ∙ row.due in
        let g : true ≡ false = sym f ∙ none prefix in cc) in (
          ap (λ (u : RouterPart). has (u.due_in r) x) row.effect
              ∙ ap (λ (s : Prefixes). has s x) (at_apart before.due_in q r (map.remove (before.due_in q) prefix) apart) ∙ none x,
          ap (λ (s : List RouterSent). last_told x (mesh_sent r s r r) None) row.sends
              ∙ ap (λ (t : Bool). last_told x ((if (r == r) then (if t then item ∷ [] else []) else []) ++ []) None)
              (let f : (r == q) ≡ false = grind (arith, nat_tests) in f)
              ∙ empty_if (r == r) x,
        );
  } where
    item : Mesh
    item = Told prefix (tell_in (map.get before.best prefix))

    empty_if : (t : Bool) (x : PrefixValue) → last_told x ((if t then [] else []) ++ []) None ≡ None
    empty_if true x = refl
    empty_if false x = refl

    one : only2 r q item r q ≡ item ∷ []
    one = grind (arith, nat_tests)

    none_else : (b : ℕ) → b ≢ q → only2 r q item r b ≡ []
    none_else b other = grind (arith, nat_tests)

    by_prefix : (x : PrefixValue) (d : Option Route) → (same_prefix x prefix ≡ false → d ≡ tell_in (map.get before.best x))
        → (x ≡ prefix) ⊎ ((same x prefix ≡ false) × (same_prefix x prefix ≡ false))
        → (if same_prefix x prefix then tell_in (map.get before.best prefix) else d) ≡ tell_in (map.get before.best x)
    by_prefix x d is (inl e) =
        ap (λ (t : Bool). if t then tell_in (map.get before.best prefix) else d) (ap (λ (y : PrefixValue). same_prefix y prefix) e ∙ same_itself prefix)
        ∙ ap (λ (y : PrefixValue). tell_in (map.get before.best y)) (sym e)
    by_prefix x d is (inr apart) = ap (λ (t : Bool). if t then tell_in (map.get before.best prefix) else d) apart.1 ∙ is apart.1

    by_number : (b : ℕ) (x : PrefixValue) → has (after.due_in b) x ≡ false → (d : Option Route)
        → (has (before.due_in b) x ≡ false → d ≡ tell_in (map.get before.best x)) → (b ≡ q) ⊎ (b ≢ q)
        → last_told x (only2 r q item r b ++ []) d ≡ tell_in (map.get before.best x)
    by_number b x clean d is (inl e) =
        let removed : has (after.due_in b) x ≡ cond (same x prefix) false (has (before.due_in q) x) =
        ap (λ (u : RouterPart). has (u.due_in b) x) row.effect ∙ ap (λ (n : ℕ). has (at before.due_in q (map.remove (before.due_in q) prefix) n) x) e
        ∙ ap (λ (s : Prefixes). has s x) (at_same before.due_in q (map.remove (before.due_in q) prefix)) ∙ has_removed (before.due_in q) prefix x in
        ap (λ (n : ℕ). last_told x (only2 r q item r n ++ []) d) e ∙ ap (λ (xs : List Mesh). last_told x (xs ++ []) d) one
        ∙ by_prefix x d (λ apart. is (ap (λ (n : ℕ). has (before.due_in n) x) e ∙ still x apart (sym removed ∙ clean) (one_or_not x prefix)))
        (one_or_not x prefix)
      where
        still : (x : PrefixValue) → same_prefix x prefix ≡ false → cond (same x prefix) false (has (before.due_in q) x) ≡ false
            → (x ≡ prefix) ⊎ ((same x prefix ≡ false) × (same_prefix x prefix ≡ false)) → has (before.due_in q) x ≡ false
        still x apart e (inl is) = let t : same_prefix x prefix ≡ true = ap (λ (y : PrefixValue). same_prefix y prefix) is ∙ same_itself prefix in
            let f : true ≡ false = sym t ∙ apart in absurd cc
        still x apart e (inr other) = sym (ap (λ (t : Bool). cond t false (has (before.due_in q) x)) other.0) ∙ e
    by_number b x clean d is (inr other) =
        ap (λ (xs : List Mesh). last_told x (xs ++ []) d) (none_else b other)
        ∙ is (sym (ap (λ (u : RouterPart). has (u.due_in b) x) row.effect
        ∙ ap (λ (s : Prefixes). has s x) (at_apart before.due_in q b (map.remove (before.due_in q) prefix) other)) ∙ clean)

  -- what is told is heard
  hears : (q : ℕ) → Hears q before taken sent after → Says setup r before taken sent after
  hears q row = record {
    sends = λ b other below x clean d is.
        mute_none r sent row.sends b x d ∙ is (ap (λ (u : RouterPart). has (u.due_in b) x) (sym row.effect) ∙ clean)
        ∙ ap (λ (u : RouterPart). tell_in (map.get u.best x)) (sym row.effect);
    hears = λ a x rest was e.
        ap (λ (u : RouterPart). last_told x rest (map.get (u.tellings a) x)) row.effect
        ∙ by_number a x rest was (ap (λ (t : Option RouterTaken). mesh_taken r t a r ++ rest) (sym row.takes) ∙ e) (cases_eq a q);
    itself = λ none x. (ap (λ (u : RouterPart). has (u.due_in r) x) row.effect ∙ none x, mute_none r sent row.sends r x None);
  } where
    item : Mesh
    item = Told row.prefix row.route

    one : only2 q r item q r ≡ item ∷ []
    one = grind (arith, nat_tests)

    none_else : (a : ℕ) → a ≢ q → only2 q r item a r ≡ []
    none_else a other = grind (arith, nat_tests)

    new : Tellings
    new = with_telling (before.tellings q) row.prefix row.route

    by_prefix : (x : PrefixValue) → (x ≡ row.prefix) ⊎ ((same x row.prefix ≡ false) × (same_prefix x row.prefix ≡ false))
        → cond (same x row.prefix) row.route (map.get (before.tellings q) x) ≡ (if same_prefix x row.prefix then row.route else map.get (before.tellings q) x)
    by_prefix x (inl e) =
        ap (λ (t : Bool). cond t row.route (map.get (before.tellings q) x)) (ap (λ (y : PrefixValue). same y row.prefix) e ∙ same_self row.prefix)
        ∙ sym (ap (λ (t : Bool). if t then row.route else map.get (before.tellings q) x)
        (ap (λ (y : PrefixValue). same_prefix y row.prefix) e ∙ same_itself row.prefix))
    by_prefix x (inr apart) =
        ap (λ (t : Bool). cond t row.route (map.get (before.tellings q) x)) apart.0
        ∙ sym (ap (λ (t : Bool). if t then row.route else map.get (before.tellings q) x) apart.1)

    by_number : (a : ℕ) (x : PrefixValue) (rest was : List Mesh) → only2 q r item a r ++ rest ≡ was → (a ≡ q) ⊎ (a ≢ q)
        → last_told x rest (map.get (at before.tellings q new a) x) ≡ last_told x was (map.get (before.tellings a) x)
    by_number a x rest was e (inl is) =
        ap (λ (n : ℕ). last_told x rest (map.get (at before.tellings q new n) x)) is
        ∙ ap (λ (t : Tellings). last_told x rest (map.get t x)) (at_same before.tellings q new)
        ∙ ap (last_told x rest) (get_telling (before.tellings q) row.prefix row.route x ∙ by_prefix x (one_or_not x row.prefix))
        ∙ ap (λ (xs : List Mesh). last_told x (xs ++ rest) (map.get (before.tellings q) x)) (sym one)
        ∙ ap (λ (n : ℕ). last_told x (only2 q r item n r ++ rest) (map.get (before.tellings n) x)) (sym is)
        ∙ ap (λ (xs : List Mesh). last_told x xs (map.get (before.tellings a) x)) e
    by_number a x rest was e (inr other) =
        ap (λ (t : Tellings). last_told x rest (map.get t x)) (at_apart before.tellings q a new other)
        ∙ ap (λ (xs : List Mesh). last_told x xs (map.get (before.tellings a) x)) (ap (λ (xs : List Mesh). xs ++ rest) (sym (none_else a other)) ∙ e)

  pub says_row : (event : RouterEvent) → router_row setup r event before taken sent after → Says setup r before taken sent after
  says_row event row = by_print (footprint setup r before after taken sent event row) where
    by_print : Footprint setup r event before taken sent after → Says setup r before taken sent after
    by_print (Deciding prefix row) = decides prefix row
    by_print (Telling q prefix row) = tells q prefix row
    by_print (Hearing q row) = hears q row
    by_print (Staying silent is) =
        quiet (mute setup event before taken after r sent silent.sends) (deaf setup before r taken silent.takes)
        (ap (λ (u : RouterPart). u.due_in) is) (ap (λ (u : RouterPart). u.best) is) (ap (λ (u : RouterPart). u.tellings) is)
    by_print (Changing p silent one change) =
        quiet (mute setup event before taken after r sent silent.sends) (deaf setup before r taken silent.takes) one.due_in one.best one.tellings

-- ---- the world

pub taken_apart : (r : ℕ) (taken : Option RouterTaken) (a b : ℕ) → b ≢ r → mesh_taken r taken a b ≡ []
taken_apart r None a b other = refl
taken_apart r (Some (OrderIn order)) a b other = refl
taken_apart r (Some (SegmentIn p segment)) a b other = refl
taken_apart r (Some (MeshIn q item)) a b other = grind (arith, nat_tests)

sent_apart : (r : ℕ) (sent : List RouterSent) (a b : ℕ) → a ≢ r → mesh_sent r sent a b ≡ []
sent_apart r [] a b other = refl
sent_apart r (MeshTo q item ∷ sent) a b other = let none : only2 r q item a b ≡ [] = grind (arith, nat_tests) in
    ap (λ (xs : List Mesh). xs ++ mesh_sent r sent a b) none ∙ sent_apart r sent a b other
sent_apart r (OutwardTo p item ∷ sent) a b other = sent_apart r sent a b other
sent_apart r (ReportOut report ∷ sent) a b other = sent_apart r sent a b other

module _ (setup : Setup) (w v : World) (r : ℕ) (taken : Option RouterTaken) (sent : List RouterSent) (part : RouterPart)
    (m : RouterMoves r taken sent part w v) (says : Says setup r (w.router r) taken sent part) where
  here : v.router r ≡ part
  here = ap (λ (f : ℕ → RouterPart). f r) m.router ∙ at_same w.router r part

  there : (n : ℕ) → n ≢ r → v.router n ≡ w.router n
  there n other = ap (λ (f : ℕ → RouterPart). f n) m.router ∙ at_apart w.router r n part other

  -- what b hears of a, where b is the router that acts
  heard_here : (a : ℕ) (x : PrefixValue) → heard_then v a r x ≡ last_told x (w.mesh a r ++ mesh_sent r sent a r) (map.get ((w.router r).tellings a) x)
  heard_here a x =
      ap (λ (u : RouterPart). last_told x (v.mesh a r) (map.get (u.tellings a) x)) here
      ∙ says.hears a x (v.mesh a r) (w.mesh a r ++ mesh_sent r sent a r) (m.mesh a r)

  heard_there : (a b : ℕ) (x : PrefixValue) → b ≢ r → heard_then v a b x ≡ last_told x (mesh_sent r sent a b) (heard_then w a b x)
  heard_there a b x other =
      ap (λ (u : RouterPart). last_told x (v.mesh a b) (map.get (u.tellings a) x)) (there b other)
      ∙ ap (λ (xs : List Mesh). last_told x xs (map.get ((w.router b).tellings a) x))
      (ap (λ (xs : List Mesh). xs ++ v.mesh a b) (sym (taken_apart r taken a b other)) ∙ m.mesh a b)
      ∙ last_append x (w.mesh a b) (mesh_sent r sent a b) (map.get ((w.router b).tellings a) x)

  heard_not_sent : (a b : ℕ) (x : PrefixValue) → a ≢ r → (b ≡ r) ⊎ (b ≢ r) → heard_then v a b x ≡ heard_then w a b x
  heard_not_sent a b x other (inl is) =
      ap (λ (n : ℕ). heard_then v a n x) is ∙ heard_here a x
      ∙ ap (λ (xs : List Mesh). last_told x xs (map.get ((w.router r).tellings a) x))
      (ap (λ (xs : List Mesh). w.mesh a r ++ xs) (sent_apart r sent a r other) ∙ append-nil (w.mesh a r))
      ∙ ap (λ (n : ℕ). heard_then w a n x) (sym is)
  heard_not_sent a b x other (inr apart) = heard_there a b x apart ∙ ap (λ (xs : List Mesh). last_told x xs (heard_then w a b x)) (sent_apart r sent a b other)

  by_sender : (a b : ℕ) → (a ≡ r) ⊎ (a ≢ r) → Informed setup a b w → Informed setup a b v
  by_sender a b (inr other) is = record {
    others = λ apart below x clean.
        heard_not_sent a b x other (cases_eq b r)
        ∙ is.others apart below x (ap (λ (u : RouterPart). has (u.due_in b) x) (sym (there a other)) ∙ clean)
        ∙ ap (λ (u : RouterPart). tell_in (map.get u.best x)) (sym (there a other));
    itself = λ same_one x. (
      ap (λ (u : RouterPart). has (u.due_in a) x) (there a other) ∙ (is.itself same_one x).0,
      heard_not_sent a a x other (inr other) ∙ (is.itself same_one x).1,
    );
  }
  by_sender a b (inl e) is = subst (λ (n : ℕ). Informed setup n b v) (sym e) (mine b (subst (λ (n : ℕ). Informed setup n b w) e is)) where
    mine : (b : ℕ) → Informed setup r b w → Informed setup r b v
    mine b is = record {
      others = λ apart below x clean.
          let other : b ≢ r = λ e. apart (sym e) in
          heard_there r b x other
          ∙ says.sends b other below x (ap (λ (u : RouterPart). has (u.due_in b) x) (sym here) ∙ clean) (heard_then w r b x) (is.others apart below x)
          ∙ ap (λ (u : RouterPart). tell_in (map.get u.best x)) (sym here);
      itself = λ same_one x.
          let mine = says.itself (λ y. (is.itself same_one y).0) x in (
            ap (λ (u : RouterPart). has (u.due_in r) x) here ∙ mine.0,
            heard_here r x ∙ last_append x (w.mesh r r) (mesh_sent r sent r r) (map.get ((w.router r).tellings r) x)
                ∙ ap (last_told x (mesh_sent r sent r r)) (is.itself same_one x).1 ∙ mine.1,
          );
    }

-- the same routers and channels
unmoved : (setup : Setup) (a b : ℕ) (w v : World) → v.router ≡ w.router → v.mesh ≡ w.mesh → Informed setup a b w → Informed setup a b v
unmoved setup a b w v routers mesh is = record {
  others = λ apart below x clean.
      ap (λ (f : ℕ → ℕ → List Mesh). last_told x (f a b) (map.get ((v.router b).tellings a) x)) mesh
      ∙ ap (λ (f : ℕ → RouterPart). last_told x (w.mesh a b) (map.get ((f b).tellings a) x)) routers
      ∙ is.others apart below x (ap (λ (f : ℕ → RouterPart). has ((f a).due_in b) x) (sym routers) ∙ clean)
      ∙ ap (λ (f : ℕ → RouterPart). tell_in (map.get (f a).best x)) (sym routers);
  itself = λ same_one x. (
    ap (λ (f : ℕ → RouterPart). has ((f a).due_in a) x) routers ∙ (is.itself same_one x).0,
    ap (λ (f : ℕ → ℕ → List Mesh). last_told x (f a a) (map.get ((v.router a).tellings a) x)) mesh
        ∙ ap (λ (f : ℕ → RouterPart). last_told x (w.mesh a a) (map.get ((f a).tellings a) x)) routers ∙ (is.itself same_one x).1,
  );
}

step_informed : (setup : Setup) (a b : ℕ) (event : Event) (w v : World) → Step setup event w v → Informed setup a b w → Informed setup a b v
step_informed setup a b (ByRouter r event) w v x is =
    by_sender setup w v r x.taken x.sent x.part (router_moves setup r event w v x)
    (says_row setup r (w.router r) x.taken x.sent x.part event x.row) a b (cases_eq a r) is
step_informed setup a b (ByFar p event) w v x is = let m = far_moves setup p event w v x in unmoved setup a b w v m.router m.mesh is
step_informed setup a b (ByOperator event) w v x is = let m = operator_moves setup event w v x in unmoved setup a b w v m.router m.mesh is

first_informed : (setup : Setup) (a b : ℕ) → Informed setup a b (first_world setup)
first_informed setup a b = record {
  others = λ apart below x clean. map.get-empty prefix_cmp x ∙ sym (ap tell_in (map.get-empty prefix_cmp x));
  itself = λ same_one x. (has_none x, map.get-empty prefix_cmp x);
}

pub informed : (setup : Setup) (a b : ℕ) (w : World) → Reached setup w → Informed setup a b w
informed setup a b w reached = carried setup (Informed setup a b) (first_informed setup a b)
    (λ event before after reach step is. step_informed setup a b event before after step is) w reached
