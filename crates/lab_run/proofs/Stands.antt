-- What stands of a net have of those that come after them.
use Rattle.std.proofs.Common.{◌≡◌, ◌≢◌, ℕ, ◌<◌, ◌≤◌, ◌+◌, Bool, true, false, List, [], ◌∷◌, ◌++◌, length, get_or, map, filter}
use Rattle.std.proofs.Common.{Option, refl, sym, ap, ◌∙◌, subst, inl, inr, arith, append-nil, append_assoc}
use Rattle.std.specs.Prelude.{◌↔◌, ◌⊎◌}
use Rattle.std.specs.List.{AllByRecursion}
use Rattle.std.proofs.lemmas.Bool.Decides.{nat_tests}
use Rattle.std.proofs.lemmas.List.{get_or_past, length-append}
use Rattle.std.proofs.lemmas.List.Elements.{filter-append}
use Rattle.ring_net.specs.declared.entry.JournalEntry.{JournalEntry}
use Rattle.ring_net.specs.declared.entry.Stamped.{Stamped}
use Rattle.ring_net.specs.Deeds.{Deed, Noted, Replay, TakesNone, deeds, entries_of, sent_by}
use Rattle.ring_net.specs.Phases.{View, Marked}
use Rattle.journal_merge.specs.Merges.{Interleaves}
use Rattle.journal_merge.proofs.Orders.{equal_or_not}
use Rattle.graft_model.specs.Setups.{Setup}
use Rattle.graft_model.specs.Parts.{World}
use Rattle.settled_check.specs.Left.{HasUnissued}
use Rattle.graft_actors.specs.Actors.{ActorPart, OperatorIs, ActorName, Operator}
use Rattle.graft_actors.specs.Laws.{IsGo}
use Rattle.graft_actors.proofs.Numbers.{at_operator}
use Rattle.graft_actors.specs.Acts.{OwnPart, ActsAs, acts}
use Rattle.bgp_session.specs.Running.{carried}
use Rattle.world_runs.specs.Labs.{actors_in}
use Rattle.world_runs.specs.Runs.{IsSeenAs}
use Rattle.world_runs.specs.Laws.{IsNoGo}
use Rattle.world_runs.specs.Marks.{before, IsMarkOf, operator_number, is_go, BeginsNone, BeginsWithGo, GoFollows, NoGoFollows}
use Rattle.world_runs.proofs.Seen.{group_seen, act_goes}
use Rattle.world_nodes.specs.Edges.{has_channel}
use Rattle.world_nodes.specs.Nodes.{Mail, own}
use Rattle.world_nodes.specs.Ways.{Stand, IsFirstStand, Round, Pause}
use Rattle.world_nodes.specs.declared.node.Node.{Node}
use Rattle.world_nodes.proofs.WayRuns.{round_no_go, pause_few}

-- ---- journals

-- the journals of a later view go on from those of this one
abbrev pub GoesOnTo : View Node Mail → View Node Mail → Type 0
GoesOnTo u v = (k : ℕ) → (more : List JournalEntry) × (v.journal k ≡ u.journal k ++ more)

pub stays : (u v : View Node Mail) → ((k : ℕ) → v.journal k ≡ u.journal k) → GoesOnTo u v
stays u v same k = ([], same k ∙ sym (append-nil (u.journal k)))

pub then_on : (u v t : View Node Mail) → GoesOnTo u v → GoesOnTo v t → GoesOnTo u t
then_on u v t first second k = (
  (first k).0 ++ (second k).0,
  (second k).1 ∙ ap (λ (xs : List JournalEntry). xs ++ (second k).0) (first k).1 ∙ append_assoc (u.journal k) (first k).0 (second k).0,
)

pub round_on : (b c : Stand) → Round b c → GoesOnTo b.view c.view
round_on b c round k = (entries_of (round.phase.notes k), round.phase.journals k)

pub pause_journal : (n : ℕ) (b c : Stand) (answer : Bool) (pause : Pause n b c answer)
    → c.view.journal n ≡ b.view.journal n ++ map (λ (d : Deed Mail). d.entry) pause.between.deeds
pause_journal n b c answer pause = pause.between.journal
    ∙ ap (λ (xs : List JournalEntry). xs ++ map (λ (d : Deed Mail). d.entry) pause.between.deeds) (pause.levelled.only.journals n)

pub pause_others : (n : ℕ) (b c : Stand) (answer : Bool) → Pause n b c answer → (k : ℕ) → k ≢ n → c.view.journal k ≡ b.view.journal k
pause_others n b c answer pause k other = pause.between.journals k other ∙ pause.levelled.only.journals k

pub pause_on : (n : ℕ) (b c : Stand) (answer : Bool) → Pause n b c answer → GoesOnTo b.view c.view
pause_on n b c answer pause k = elim (equal_or_not k n) [
  | inl e ↦ subst (λ (m : ℕ). (more : List JournalEntry) × (c.view.journal m ≡ b.view.journal m ++ more))
      (sym e) (map (λ (d : Deed Mail). d.entry) pause.between.deeds, pause_journal n b c answer pause)
  | inr ne ↦ ([], pause_others n b c answer pause k ne ∙ sym (append-nil (b.view.journal k)))
]

-- ---- sizes

-- all actors and channels of the laboratory are there, and no other journal has an entry
pub record IsWhole (setup : Setup) (c : Stand) : Type 0 where
  pub size : length c.view.actors ≡ actors_in setup
  pub none : (k : ℕ) → length c.view.actors ≤ k → c.view.journal k ≡ []
  pub edges : (m n : ℕ) → c.view.edge m n ≡ has_channel setup m n

pub whole_first : (setup : Setup) (a : Stand) → IsFirstStand setup a → IsWhole setup a
whole_first setup a begins = record {
  size = ap (λ (xs : List Node). length xs) begins.new.all ∙ begins.first.all;
  none = λ k past. begins.new.journals k;
  edges = λ m n. begins.new.edge m n ∙ begins.are_edges.each m n;
}

pub whole_round : (setup : Setup) (b c : Stand) → IsWhole setup b → Round b c → IsWhole setup c
whole_round setup b c is round = record {
  size = round.phase.size ∙ is.size;
  none = λ k past. (let far : length b.view.actors ≤ k = omega (arith, past, round.phase.size) in
      round.phase.journals k ∙ ap (λ (xs : List JournalEntry). xs ++ entries_of (round.phase.notes k)) (is.none k far)
      ∙ ap (λ (ns : List (Noted Mail)). entries_of ns) (round.phase.none k far));
  edges = λ m n. round.phase.edges m n ∙ is.edges m n;
}

operator_within : (setup : Setup) (b : Stand) → IsWhole setup b → operator_number setup < length b.view.actors
operator_within setup b is = omega (arith, is.size)

pause_size : (n : ℕ) (b c : Stand) (answer : Bool) → Pause n b c answer → length c.view.actors ≡ length b.view.actors
pause_size n b c answer pause = pause.between.size ∙ ap (λ (xs : List Node). length xs) pause.levelled.only.actors

pub whole_pause : (setup : Setup) (b c : Stand) (answer : Bool) → IsWhole setup b → Pause (operator_number setup) b c answer → IsWhole setup c
whole_pause setup b c answer is pause = record {
  size = pause_size (operator_number setup) b c answer pause ∙ is.size;
  none = λ k past. (let far : length b.view.actors ≤ k = omega (arith, past, pause_size (operator_number setup) b c answer pause) in
      pause_others (operator_number setup) b c answer pause k (λ e. absurd (omega (arith, e, far, operator_within setup b is))) ∙ is.none k far);
  edges = λ m n. pause.between.edges m n ∙ pause.levelled.only.edges m n ∙ is.edges m n;
}

-- the mark that a stand got has the length of each journal
pub mark_of : (setup : Setup) (c z : Stand) (old : List (List ℕ)) (marked : Marked c.view old c.marks) → IsWhole setup c → GoesOnTo c.view z.view
    → IsMarkOf c.view z.view marked.mark
mark_of setup c z old marked is on = record { lengths = λ k. by_number k (below_or_past k (length c.view.actors)); later = on } where
  below_or_past : (m n : ℕ) → (m < n) ⊎ (n ≤ m)
  below_or_past m n = grind arith

  by_number : (k : ℕ) → (k < length c.view.actors) ⊎ (length c.view.actors ≤ k) → before marked.mark k ≡ length (c.view.journal k)
  by_number k (inl below) = marked.lengths k below
  by_number k (inr past) = get_or_past marked.mark k 0 (omega (arith, past, marked.size)) ∙ sym (ap (λ (xs : List JournalEntry). length xs) (is.none k past))

-- ---- groups

pub without_go : (notes : List (Noted Mail)) → AllByRecursion IsNoGo (deeds notes) → BeginsNone (entries_of notes)
without_go [] none = tt
without_go (n ∷ notes) none = (none.0, without_go notes none.1)

-- in a round the operator begins no group
pub no_go_in : (k : ℕ) (b c : Stand) (d : Node) (round : Round b c) → k < length b.view.actors → AllByRecursion IsNoGo (deeds (round.phase.notes k))
no_go_in k b c d round there = round_no_go k (get_or b.view.actors k d) (get_or c.view.actors k d)
    (b.view.clock k) (c.view.clock k) (round.phase.notes k) (round.phase.actors k d there)

some_node : (xs : List Node) (k : ℕ) → k < length xs → Node
some_node [] k there = absurd (omega arith)
some_node (x ∷ xs) k there = x

pub round_without_go : (setup : Setup) (b c : Stand) → IsWhole setup b → (round : Round b c)
    → AllByRecursion IsNoGo (deeds (round.phase.notes (operator_number setup)))
round_without_go setup b c is round = no_go_in (operator_number setup) b c
    (some_node b.view.actors (operator_number setup) (operator_within setup b is)) round (operator_within setup b is)

-- what is seen of groups between two marks is so of what the operator notes between them
pub between_marks : (setup : Setup) (z b c : Stand) (journal : List JournalEntry) (mark next : List ℕ) (new : List JournalEntry)
    → Interleaves z.view.journal journal → IsMarkOf b.view z.view mark → IsMarkOf c.view z.view next
    → c.view.journal (operator_number setup) ≡ b.view.journal (operator_number setup) ++ new
    → (GoFollows setup journal mark next ↔ BeginsWithGo new) × (NoGoFollows setup journal mark next ↔ BeginsNone new)
between_marks setup z b c journal mark next new merge at_b at_c grew =
    let op : ℕ = operator_number setup in
    group_seen setup journal mark next (b.view.journal op) new (at_c.later op).0
    (merge.each op ∙ (at_c.later op).1 ∙ ap (λ (xs : List JournalEntry). xs ++ (at_c.later op).0) grew)
    (at_b.lengths op) (at_c.lengths op ∙ ap (λ (xs : List JournalEntry). length xs) grew)

own_path : (part : OwnPart) (setup : Setup) (name : ActorName) (actor : ActorPart) → part.setup ≡ setup → part.name ≡ name → part.part ≡ actor
    → part ≡ record { setup = setup; name = name; part = actor }
own_path part setup name actor a b c = λ i. record { setup = a i; name = b i; part = c i }

-- the operator as it is in the world as which a stand is seen
pub operator_is : (setup : Setup) (b : Stand) (w : World) (d : Node) → IsWhole setup b → IsSeenAs own carried setup b.view w
    → own (get_or b.view.actors (operator_number setup) d) ≡ record { setup = setup; name = Operator; part = OperatorIs w.operator }
operator_is setup b w d is seen =
    let op : ℕ = operator_number setup in
    sym (seen.is.parts op d (operator_within setup b is))
    ∙ own_path (seen.lab.part op) setup Operator (OperatorIs w.operator) (seen.sees.setups op Operator (at_operator setup))
    (seen.sees.names op Operator (at_operator setup)) (seen.sees.sees.parts op Operator (at_operator setup))

-- what it does at a mark, where no step is left, begins a group, and is one event
pub pause_goes : (setup : Setup) (b c : Stand) (w : World) → IsWhole setup b → IsSeenAs own carried setup b.view w → ¬ HasUnissued setup w.operator
    → (pause : Pause (operator_number setup) b c true)
    → BeginsWithGo (map (λ (d : Deed Mail). d.entry) pause.between.deeds)
pause_goes setup b c w is seen none pause = by_deeds pause.between.deeds refl where
  op : ℕ
  op = operator_number setup

  node : Node
  node = some_node b.view.actors (operator_number setup) (operator_within setup b is)

  was : own (get_or pause.level.actors (operator_number setup) node) ≡ record { setup = setup; name = Operator; part = OperatorIs w.operator }
  was = ap (λ (xs : List Node). own (get_or xs (operator_number setup) node)) pause.levelled.only.actors ∙ operator_is setup b w node is seen

  by_deeds : (ds : List (Deed Mail)) → pause.between.deeds ≡ ds → BeginsWithGo (map (λ (d : Deed Mail). d.entry) ds)
  by_deeds [] e = let f : true ≡ false = pause.between.answer.1 e in absurd cc
  by_deeds (d ∷ more ∷ ds) e =
      let few = pause_few (get_or pause.level.actors (operator_number setup) node)
      (get_or c.view.actors (operator_number setup) node) pause.between.deeds (pause.between.paused node) in
      absurd (omega (arith, few, ap (λ (xs : List (Deed Mail)). length xs) e))
  by_deeds (d ∷ []) e =
      let replay =
      subst (λ (xs : List (Deed Mail)). Replay (acts carried) (operator_number setup) (own (get_or pause.level.actors (operator_number setup) node)) xs
      (own (get_or c.view.actors (operator_number setup) node))) e (pause.between.replay node) in
      let none_taken = subst (λ (xs : List (Deed Mail)). AllByRecursion TakesNone xs) e pause.between.none in (
        act_goes carried setup w.operator d.entry d.sent replay.0 none
            (subst (λ (taken : Option (ℕ × Mail)).
            ActsAs carried (record { setup = setup; name = Operator; part = OperatorIs w.operator }) d.entry taken d.sent replay.0) none_taken.0
            (subst (λ (part : OwnPart). ActsAs carried part d.entry d.taken d.sent replay.0) was replay.1)),
        tt,
      )

-- ---- how many groups have begun

abbrev pub groups_at : Setup → Stand → ℕ
groups_at setup c = length (filter is_go (c.view.journal (operator_number setup)))

counted_behind : (had new : List JournalEntry) → length (filter is_go (had ++ new)) ≡ length (filter is_go had) + length (filter is_go new)
counted_behind had new = ap (λ (xs : List JournalEntry). length xs) (filter-append is_go had new) ∙ length-append (filter is_go had) (filter is_go new)

none_counted : (entries : List JournalEntry) → BeginsNone entries → length (filter is_go entries) ≡ 0
none_counted [] none = refl
none_counted (e ∷ es) none = left_out e es none.0 (none_counted es none.1) where
  left_out : (e : JournalEntry) (es : List JournalEntry) → (IsGo e → ⊥) → length (filter is_go es) ≡ 0 → length (filter is_go (e ∷ es)) ≡ 0
  left_out e es other zero = grind (arith, nat_tests)

pub groups_stay : (setup : Setup) (b c : Stand) → IsWhole setup b → Round b c → groups_at setup c ≡ groups_at setup b
groups_stay setup b c is round =
    let op : ℕ = operator_number setup in
    let more = counted_behind (b.view.journal op) (entries_of (round.phase.notes op)) in
    let none = none_counted (entries_of (round.phase.notes op)) (without_go (round.phase.notes op) (round_without_go setup b c is round)) in
    ap (λ (xs : List JournalEntry). length (filter is_go xs)) (round.phase.journals op) ∙ omega (arith, more, none)

one_counted : (entries : List JournalEntry) → BeginsWithGo entries → length (filter is_go entries) ≡ 1
one_counted [] go = absurd go
one_counted (e ∷ es) go = put_in e es go.0 (none_counted es go.1) where
  put_in : (e : JournalEntry) (es : List JournalEntry) → IsGo e → length (filter is_go es) ≡ 0 → length (filter is_go (e ∷ es)) ≡ 1
  put_in e es go zero = grind (arith, nat_tests)

pub groups_more : (setup : Setup) (b c : Stand) (w : World) → IsWhole setup b → IsSeenAs own carried setup b.view w → ¬ HasUnissued setup w.operator
    → (pause : Pause (operator_number setup) b c true) → groups_at setup c ≡ groups_at setup b + 1
groups_more setup b c w is seen none pause =
    let op : ℕ = operator_number setup in
    let more = counted_behind (b.view.journal op) (map (λ (d : Deed Mail). d.entry) pause.between.deeds) in
    let one = one_counted (map (λ (d : Deed Mail). d.entry) pause.between.deeds) (pause_goes setup b c w is seen none pause) in
    ap (λ (xs : List JournalEntry). length (filter is_go xs)) (pause_journal op b c true pause) ∙ omega (arith, more, one)

-- ---- where nothing was done

-- the same actors as their parts, and the same on its way
pub record IsSameNet (b c : Stand) : Type 0 where
  pub size : length c.view.actors ≡ length b.view.actors
  pub parts : (k : ℕ) (d : Node) → own (get_or c.view.actors k d) ≡ own (get_or b.view.actors k d)
  pub edges : (m n : ℕ) → c.view.edge m n ≡ b.view.edge m n
  pub channels : (m n : ℕ) → b.view.edge m n ≡ true → c.view.channel m n ≡ b.view.channel m n

pub same_back : (b c : Stand) → IsSameNet b c → IsSameNet c b
same_back b c same = record {
  size = sym same.size;
  parts = λ k d. sym (same.parts k d);
  edges = λ m n. sym (same.edges m n);
  channels = λ m n there. sym (same.channels m n (sym (same.edges m n) ∙ there));
}

-- what one is seen as, the other is too
pub same_seen : (setup : Setup) (b c : Stand) (w : World) → IsSameNet b c → IsSeenAs own carried setup b.view w → IsSeenAs own carried setup c.view w
same_seen setup b c w same seen = record {
  lab = seen.lab;
  is = record {
    parts = λ k d there. seen.is.parts k d (omega (arith, there, same.size)) ∙ sym (same.parts k d);
    channels = λ m n there. (let edge : b.view.edge m n ≡ true = sym (same.edges m n) ∙ there in
        seen.is.channels m n edge ∙ ap (map (λ (x : Stamped Mail). x.item)) (sym (same.channels m n edge)));
  };
  sees = seen.sees;
}

-- at a mark at which nothing is done, the net stays
pub pause_same : (k : ℕ) (b c : Stand) → Pause k b c false → IsSameNet b c
pause_same k b c pause = record {
  size = pause_size k b c false pause;
  parts = parts;
  edges = λ m n. pause.between.edges m n ∙ pause.levelled.only.edges m n;
  channels = channels;
}
  where
    none : pause.between.deeds ≡ []
    none = pause.between.answer.0 refl

    parts : (j : ℕ) (d : Node) → own (get_or c.view.actors j d) ≡ own (get_or b.view.actors j d)
    parts j d = elim (equal_or_not j k) [
      | inl e ↦ subst (λ (n : ℕ). own (get_or c.view.actors n d) ≡ own (get_or b.view.actors n d)) (sym e)
          (subst (λ (ds : List (Deed Mail)). Replay (acts carried) k (own (get_or pause.level.actors k d)) ds (own (get_or c.view.actors k d))) none
          (pause.between.replay d)
          ∙ ap (λ (xs : List Node). own (get_or xs k d)) pause.levelled.only.actors)
      | inr ne ↦ ap own (pause.between.others j d ne) ∙ ap (λ (xs : List Node). own (get_or xs j d)) pause.levelled.only.actors
    ]

    channels : (m n : ℕ) → b.view.edge m n ≡ true → c.view.channel m n ≡ b.view.channel m n
    channels m n there = elim (equal_or_not m k) [
      | inl e ↦ (let edge : pause.level.edge k n ≡ true = ap (λ (x : ℕ). pause.level.edge x n) (sym e) ∙ pause.levelled.only.edges m n ∙ there in
          ap (λ (x : ℕ). c.view.channel x n) e ∙ pause.between.channel n edge
          ∙ ap (λ (ds : List (Deed Mail)). pause.level.channel k n ++ sent_by n ds) none ∙ append-nil (pause.level.channel k n)
          ∙ pause.levelled.only.channels k n ∙ ap (λ (x : ℕ). b.view.channel x n) (sym e))
      | inr ne ↦ pause.between.channels m n ne ∙ pause.levelled.only.channels m n
    ]
