-- Where a group begins.
use Rattle.std.proofs.Common.{◌≡◌, ◌≢◌, ℕ, ◌-◌, List, ◌++◌, length, take, drop, Option, Some, None}
use Rattle.std.proofs.Common.{option_map, sym, ap, ◌∙◌, subst, inl, inr, arith, append_assoc}
use Rattle.std.specs.Prelude.{◌↔◌}
use Rattle.std.proofs.lemmas.List.{length-append}
use Rattle.std.proofs.Math.Seq.{take-append_seam, drop-append_seam}
use Rattle.ring_net.specs.declared.entry.JournalEntry.{JournalEntry}
use Rattle.journal_merge.specs.Merges.{entries_by}
use Rattle.graft_steps.specs.declared.item.Item.{Item}
use Rattle.session_value.specs.Sessions.{SessionValue}
use Rattle.graft_model.specs.Codes.{operator_code}
use Rattle.graft_model.specs.Setups.{Setup, ScriptGraft, group_of}
use Rattle.graft_model.specs.Parts.{OperatorPart, World}
use Rattle.graft_model.specs.Quiet.{Quiet}
use Rattle.graft_model.specs.Placements.{target_in}
use Rattle.graft_model.specs.OperatorRows.{OperatorTaken, OperatorSent}
use Rattle.graft_model.specs.declared.event.OperatorEvent.{OperatorEvent}
use Rattle.graft_model.specs.declared.event.OperatorEvent.TheVariants.{Order, Note, Go}
use Rattle.graft_model.specs.Steps.{operator_row}
use Rattle.settled_check.specs.Left.{IsUnsaid, IsUnended, HasUnissued, IsOpen}
use Rattle.graft_actors.specs.Actors.{ActorPart, RouterIs, FarIs, OperatorIs, Thing, Operator}
use Rattle.graft_actors.specs.Makes.{HasCode, makes_as, numbered, taken_by_operator}
use Rattle.graft_actors.specs.Laws.{IsGo}
use Rattle.graft_actors.specs.Acts.{OwnPart, ActsAs, things}
use Rattle.world_runs.specs.Marks.{before, operator_number, noted_between, BeginsNone, BeginsWithGo, GoFollows, NoGoFollows}

-- ---- in the journal

noted_is : (setup : Setup) (journal : List JournalEntry) (mark next : List ℕ) (had new more : List JournalEntry)
    → entries_by (operator_number setup) journal ≡ (had ++ new) ++ more
    → before mark (operator_number setup) ≡ length had → before next (operator_number setup) ≡ length (had ++ new) → noted_between setup journal mark next ≡ new
noted_is setup journal mark next had new more is at_mark at_next =
    let op : ℕ = operator_number setup in
    let all : List JournalEntry = entries_by op journal in
    let rest : drop (before mark op) all ≡ new ++ more = ap (λ (n : ℕ). drop n all) at_mark
    ∙ ap (λ (xs : List JournalEntry). drop (length had) xs) (is ∙ append_assoc had new more) ∙ drop-append_seam had (new ++ more) in
    let many : before next op - before mark op ≡ length new = omega (arith, at_mark, at_next, length-append had new) in
    ap (λ (n : ℕ). take n (drop (before mark op) all)) many ∙ ap (λ (xs : List JournalEntry). take (length new) xs) rest ∙ take-append_seam new more

pub group_seen : (setup : Setup) (journal : List JournalEntry) (mark next : List ℕ) (had new more : List JournalEntry)
    → entries_by (operator_number setup) journal ≡ (had ++ new) ++ more
    → before mark (operator_number setup) ≡ length had → before next (operator_number setup) ≡ length (had ++ new)
    → (GoFollows setup journal mark next ↔ BeginsWithGo new) × (NoGoFollows setup journal mark next ↔ BeginsNone new)
group_seen setup journal mark next had new more is at_mark at_next =
    ((subst BeginsWithGo noted, subst BeginsWithGo (sym noted)), (subst BeginsNone noted, subst BeginsNone (sym noted)))
  where
    noted : noted_between setup journal mark next ≡ new
    noted = noted_is setup journal mark next had new more is at_mark at_next

-- ---- in a quiet world

pub nothing_open : (setup : Setup) (w : World) → Quiet setup w → (¬ HasUnissued setup w.operator) × ((k : ℕ) → ¬ IsOpen setup w.operator k)
nothing_open setup w quiet = (
  (λ some. elim some [ inl say ↦ unsaid say.0 say.1 | inr graft ↦ unended graft.0 graft.1.0 ]),
  λ k open_one. unended open_one.0 open_one.2,
)
  where
    unsaid : (n : ℕ) → IsUnsaid setup w.operator n → ⊥
    unsaid n say = let e = quiet.issued n say.peering say.bytes say.is say.group in let f = say.unissued in cc

    unended : (graft : ScriptGraft) → IsUnended setup w.operator graft → ⊥
    unended graft left = quiet.ended graft left.known left.group left.made left.unended

module _ (setup : Setup) (part : OperatorPart) (none : ¬ HasUnissued setup part) where
  no_order : (step number : ℕ) (taken : Option OperatorTaken) (sent : List OperatorSent) (after : OperatorPart)
      → operator_row setup (Order step number) part taken sent after → ⊥
  no_order step number taken sent after (inl row) =
      none (inl (step, record { peering = row.peering; bytes = row.bytes; is = row.is; group = row.group; unissued = row.unissued }))
  no_order step number taken sent after (inr row) =
      let made : target_in setup part row.graft ≢ None = λ e. (let h = row.is in cc) in
      none (inr (
        row.graft,
        (record { known = row.known; group = ap (group_of setup) row.by_step ∙ row.group; made = made; unended = row.unended }, row.unordered),
      ))

  goes : (event : OperatorEvent) (entry : JournalEntry) (taken : Option OperatorTaken) (sent : List OperatorSent) (after : OperatorPart)
      → operator_row setup event part taken sent after → HasCode (operator_code event) entry
      → None ≡ option_map (λ t. numbered setup (taken_by_operator t)) taken → IsGo entry
  goes (Order step number) entry taken sent after row coded untaken = absurd (no_order step number taken sent after row)
  goes (Note router) entry taken sent after row coded untaken =
      let some = untaken ∙ ap (option_map (λ (t : OperatorTaken). numbered setup (taken_by_operator t))) row.takes in absurd cc
  goes Go entry taken sent after row coded untaken = coded.kind

  row_goes : (entry : JournalEntry) (sent : List (ℕ × Thing)) (after : ActorPart)
      → makes_as setup (Some Operator) (OperatorIs part) entry None sent after → IsGo entry
  row_goes entry sent (RouterIs after) row = absurd row
  row_goes entry sent (FarIs after) row = absurd row
  row_goes entry sent (OperatorIs after) row = goes row.event entry row.took row.gave after row.holds row.coded row.is_taken

pub act_goes : {C : Type 0} (session : C → SessionValue) (setup : Setup)
    (part : OperatorPart) (entry : JournalEntry) (sent : List (ℕ × Item C)) (after : OwnPart)
    → ¬ HasUnissued setup part
    → ActsAs session (record { setup = setup; name = Operator; part = OperatorIs part }) entry None sent after → IsGo entry
act_goes session setup part entry sent after none act = elim act.does [
  | inl event ↦ row_goes setup part none entry (things session setup sent) after.part event.row
  | inr drop ↦ (let some = drop.takes in absurd cc)
]
