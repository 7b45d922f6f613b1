-- What a session that isn't closed got are whole messages, one after another; and the routes that it heard are among those that their UPDATEs announce.
use Rattle.std.proofs.Common.{◌≡◌, ◌≢◌, ℕ, Bool, true, false, cond, List, [], ◌∷◌, Option, Some, None, refl, sym, ap, ◌∙◌, subst, inl, inr}
use Rattle.std.specs.Prelude.{fold, IsSome, IfSome}
use Rattle.std.specs.FinMap as map
use Rattle.std.specs.List.{AllByRecursion}
use Rattle.std.specs.Ordering.{eq_by_cmp}
use Rattle.std.proofs.lemmas.Bool.{false≢true}
use Rattle.std.proofs.lemmas.Option.{same_Some}
use Rattle.bgp_types.specs.declared.attrs.Attrs.{Attrs}
use Rattle.bgp_types.specs.declared.fault.Expected.{Expected}
use Rattle.bgp_types.specs.declared.fault.HeaderFault.{HeaderFault}
use Rattle.bgp_types.specs.declared.message.Message.TheVariants.{UpdateMsg}
use Rattle.bgp_types.specs.declared.message.SessionState.{SessionState}
use Rattle.bgp_types.specs.declared.message.SessionState.TheVariants.{Established, Closed}
use Rattle.bgp_types.specs.declared.message.Update.{Update}
use Rattle.bgp_types.specs.FirstFault.{message_of, with_header}
use Rattle.bgp_types.specs.Header.{header_fault}
use Rattle.bgp_types.specs.Prefixes.{PrefixValue}
use Rattle.bgp_types.specs.Tables.{prefix_cmp}
use Rattle.bgp_types.proofs.FrameLaws.{IsFrame, front_frame}
use Rattle.bgp_types.proofs.TableLaws.{prefix_total, tied}
use Rattle.bgp_story.specs.declared.line.Line.{Line}
use Rattle.bgp_story.specs.declared.line.Line.TheVariants.{Put, Got, Tick}
use Rattle.bgp_story.specs.Legal.{Peering, Allowed, IsGot, opened, got, updated, passed, hold, is_up, expected_next, reply_to}
use Rattle.bgp_story.specs.Readings.{Routes, announce, apply_if, update_in, hear}
use Rattle.bgp_story.proofs.Shapes.{IsAnswer, got_answers, passed_answers}
use Rattle.graft_laws.proofs.Lists.{all_map, all_join}
use Rattle.even_inputs.specs.Announced.{with_attrs, announced_by}

-- ---- whole messages

abbrev pub IsWhole : Line → Type 0
IsWhole (Put _) = Unit {0}
IsWhole (Got bytes) = IsFrame bytes
IsWhole (Tick _) = Unit {0}

answer_whole : (line : Line) → IsAnswer line → IsWhole line
answer_whole (Put m) h = tt
answer_whole (Got b) h = absurd h
answer_whole (Tick r) h = tt

-- what answers a faulty header ends the session
header_closes : (o : Option HeaderFault) (expected : Expected) (bytes : List ℕ) → IsSome o → (reply_to (with_header o expected bytes)).1 ≡ Closed
header_closes None expected bytes some = absurd (false≢true some)
header_closes (Some fault) expected bytes some = refl

faulty_closes : (expected : Expected) (bytes : List ℕ) (answer : List Line) (next : SessionState) → IsSome (header_fault bytes)
    → reply_to (message_of expected bytes) ≡ (answer, next) → next ≡ Closed
unfolding message_of
faulty_closes expected bytes answer next some e =
    ap (λ (x : List Line × SessionState). x.1) (sym e) ∙ header_closes (header_fault bytes) expected bytes some

pub whole_lines : (p : Peering) (lines : List Line) (state : SessionState) → Allowed p lines state → state ≢ Closed → AllByRecursion IsWhole lines
whole_lines p _ _ (opened lines h e) live = subst (AllByRecursion IsWhole) (sym e) (tt, tt)
whole_lines p _ _ (got before state bytes answer next lines l o w r e) live =
    subst (AllByRecursion IsWhole) (sym e) (all_join IsWhole before (Got bytes ∷ answer) (whole_lines p before state l o)
    (whole w, all_map IsAnswer IsWhole answer answer_whole (got_answers p before state bytes answer next r)))
  where
    whole : IsGot bytes → IsFrame bytes
    whole (inl f) = (front_frame bytes (bytes, []) f).1
    whole (inr g) = absurd (live (faulty_closes (expected_next p before state) bytes answer next g.1 r))
whole_lines p _ _ (updated before u lines l w c e) live =
    subst (AllByRecursion IsWhole) (sym e) (all_join IsWhole before (Put (UpdateMsg u) ∷ []) (whole_lines p before Established l (λ f. absurd cc)) (tt, tt))
whole_lines p _ _ (passed before state round answer next lines l up h a r e) live =
    subst (AllByRecursion IsWhole) (sym e) (all_join IsWhole before (Tick round ∷ answer) (whole_lines p before state l (is_open state up))
    (tt, all_map IsAnswer IsWhole answer answer_whole (passed_answers (hold p before) _ round state answer next r)))
  where
    is_open : (s : SessionState) → is_up s ≡ true → s ≢ Closed
    is_open s up f = absurd cc

-- ---- what was got

abbrev pub gots : List Line → List (List ℕ)
gots [] = []
gots (Put _ ∷ lines) = gots lines
gots (Got bytes ∷ lines) = bytes ∷ gots lines
gots (Tick _ ∷ lines) = gots lines

pub gots_whole : (lines : List Line) → AllByRecursion IsWhole lines → AllByRecursion IsFrame (gots lines)
gots_whole [] all = tt
gots_whole (Put _ ∷ lines) all = gots_whole lines all.1
gots_whole (Got bytes ∷ lines) all = (all.0, gots_whole lines all.1)
gots_whole (Tick _ ∷ lines) all = gots_whole lines all.1

-- ---- tables

module _ (Q : PrefixValue × Attrs → Type 0) where
  -- each route of the table has it
  abbrev pub HasIn : Routes → Type 0
  HasIn routes = (prefix : PrefixValue) (attrs : Attrs) → map.get routes prefix ≡ Some attrs → Q (prefix, attrs)

  none_in : HasIn map.empty
  none_in prefix attrs e = let f : ◌≡◌ {A = Option Attrs} None (Some attrs) = sym (map.get-empty prefix_cmp prefix) ∙ e in absurd cc

  insert_in : (routes : Routes) (p : PrefixValue) (a : Attrs) → HasIn routes → Q (p, a) → HasIn (map.insert routes p a)
  insert_in routes p a all here prefix attrs e =
      by_test (eq_by_cmp prefix_cmp prefix p) refl (sym (map.get-insert prefix_total routes p a prefix) ∙ e)
    where
      by_test : (b : Bool) → eq_by_cmp prefix_cmp prefix p ≡ b → cond b (Some a) (map.get routes prefix) ≡ Some attrs → Q (prefix, attrs)
      by_test true same f =
          subst (λ (y : Attrs). Q (prefix, y)) (same_Some a attrs f) (subst (λ (x : PrefixValue). Q (x, a)) (sym (tied prefix p same)) here)
      by_test false other f = all prefix attrs f

  remove_in : (routes : Routes) (p : PrefixValue) → HasIn routes → HasIn (map.remove routes p)
  remove_in routes p all prefix attrs e =
      by_test (eq_by_cmp prefix_cmp prefix p) (sym (map.get-remove prefix_total routes p prefix) ∙ e)
    where
      by_test : (b : Bool) → cond b None (map.get routes prefix) ≡ Some attrs → Q (prefix, attrs)
      by_test true f = absurd cc
      by_test false f = all prefix attrs f

  all_removed : (routes : Routes) (prefixes : List PrefixValue) → HasIn routes → HasIn (fold map.remove routes prefixes)
  all_removed routes [] all = all
  all_removed routes (p ∷ ps) all = all_removed (map.remove routes p) ps (remove_in routes p all)

  all_announced : (o : Option Attrs) (routes : Routes) (prefixes : List PrefixValue) → HasIn routes → AllByRecursion Q (with_attrs prefixes o)
      → HasIn (fold (announce o) routes prefixes)
  all_announced None routes [] all new = all
  all_announced None routes (p ∷ ps) all new = all_announced None routes ps all tt
  all_announced (Some a) routes [] all new = all
  all_announced (Some a) routes (p ∷ ps) all new = all_announced (Some a) (map.insert routes p a) ps (insert_in routes p a all new.0) new.1

  apply_in : (routes : Routes) (o : Option Update) → HasIn routes → IfSome o (λ u. AllByRecursion Q (announced_by u)) → HasIn (apply_if routes o)
  apply_in routes None all new = all
  apply_in routes (Some u) all new = all_announced u.attrs (fold map.remove routes u.withdrawn) u.nlri (all_removed routes u.withdrawn all) new

  -- all that a message announces has it, where it is read so
  abbrev pub Announces : Expected → List ℕ → Type 0
  Announces e frame = IfSome (update_in (message_of e frame)) (λ u. AllByRecursion Q (announced_by u))

  hears_in : (e : Expected) (routes : Routes) (lines : List Line) → HasIn routes → AllByRecursion (Announces e) (gots lines)
      → HasIn (fold (hear e) routes lines)
  hears_in e routes [] all new = all
  hears_in e routes (Put _ ∷ lines) all new = hears_in e routes lines all new
  hears_in e routes (Got bytes ∷ lines) all new =
      hears_in e (apply_if routes (update_in (message_of e bytes))) lines (apply_in routes (update_in (message_of e bytes)) all new.0) new.1
  hears_in e routes (Tick _ ∷ lines) all new = hears_in e routes lines all new

  pub heard_in : (e : Expected) (lines : List Line) → AllByRecursion (Announces e) (gots lines) → HasIn (fold (hear e) map.empty lines)
  heard_in e lines new = hears_in e map.empty lines none_in new
