use Rattle.std.proofs.Common.{◌<◌, ◌++◌, ◌∷◌, [], List, ℕ, length, map, take, get_or, ap, sym, ◌∙◌, arith}
use Rattle.std.specs.List.{enumerate_from}
use Rattle.std.proofs.lemmas.List.{length-set}
use Rattle.ring_net.specs.declared.entry.JournalEntry.{JournalEntry}
use Rattle.entry_rounds.specs.Rounds.{round_at}
use Rattle.entry_rounds.proofs.Walks.{map_numbered, element, round_found, passed_more}
use Rattle.entry_rounds.proofs.rounds.rounds_along.Goals as goal

-- one entry more
pub loop-entry-preserved : goal.loop-entry-preserved
loop-entry-preserved c =
    let marks = c.args.marks.now in
    let journal = c.args.journal.now in
    let i = c.loop-entry.entry-index in
    let entry : JournalEntry = get_or journal i (record { clock = 0; actor = 0; kind = 0; a = 0; b = 0; c = 0 }) in
    let f = round_at marks journal in
    let below : i < length journal = omega (arith, c.loop-entry-test.true) in
    let at = element journal i (record { clock = 0; actor = 0; kind = 0; a = 0; b = 0; c = 0 }) below in
    let was = c.loop-entry.invariant in
    let round = c.pass-round.result in
    let passes = c.pass-round.ensures in
    let found = round_found marks journal i entry c.loop-entry.passed c.loop-entry.known round passes.round (was.each entry.actor) in
    record {
      found = c.in_ok-push.ensures.ok ∙ ap (λ (rs : List ℕ). rs ++ round ∷ []) was.found
          ∙ ap (λ (r : ℕ). map f (enumerate_from 0 (take i journal)) ++ r ∷ []) found ∙ sym (map_numbered f journal i entry below at);
      all_passed = ap length passes.passed ∙ length-set _ _ _ ∙ was.all_passed;
      all_known = ap length passes.known ∙ length-set _ _ _ ∙ was.all_known;
      each = λ actor. passed_more marks journal i entry c.loop-entry.passed c.loop-entry.known _ _ round below at passes.place.0 passes.place.1
          passes.round passes.passed passes.known actor (was.each actor);
    }
