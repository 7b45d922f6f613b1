-- An answer that a landed session waits for.
use Rattle.std.proofs.Common.{◌≡◌, ℕ, suc, List, Some, sym, ap, ◌∙◌, inl, inr}
use Rattle.std.specs.Prelude.{◌⊎◌}
use Rattle.session_value.specs.Sessions.{SessionValue}
use Rattle.graft_model.specs.Points.{at}
use Rattle.graft_model.specs.Parts.{Word, Place, Live, Owing, Asking, RouterPart, Answered}
use Rattle.graft_model.specs.RouterRows.{MeshIn, RouterSent}
use Rattle.graft_model.specs.GraftRows.{Counts, Ignores}
use Rattle.graft_model.proofs.Footprints.{at_same}
use Rattle.graft_model.proofs.Items.{answered_is}

abbrev word_then : ℕ → Word → Word
word_then q word = record word { next = suc q }

abbrev place_then : ℕ → Place → Place
place_then q (Live session (Some (Asking word))) = Live session (Some (Owing (word_then q word)))
place_then q place = place

pub counted : (q p : ℕ) (session : SessionValue) (word : Word) (before after : RouterPart) (sent : List RouterSent)
    → before.places p ≡ Live session (Some (Asking word)) → word.next ≡ q
    → Counts q before (Some (MeshIn q (Answered word.graft p))) sent after ⊎ Ignores q before (Some (MeshIn q (Answered word.graft p))) sent after
    → after.places p ≡ Live session (Some (Owing (word_then q word)))
counted q p session word before after sent is next (inl row) =
    let t = answered_is q word.graft row.graft p row.peering row.takes in
    let there : Place = Live row.session (Some (Owing (record { graft = row.graft; source = row.source; next = suc q }))) in
    ap (λ (v : RouterPart). v.places p) row.effect
    ∙ (ap (λ (n : ℕ). at before.places row.peering there n) t.1 ∙ (at_same before.places row.peering there
    ∙ ap (place_then q) (sym row.live.is ∙ (sym (ap before.places t.1) ∙ is))))
counted q p session word before after sent is next (inr row) =
    let t = answered_is q word.graft row.graft p row.peering row.takes in
    absurd (row.unawaited word.source session (record {
      is = sym (ap before.places t.1) ∙ (is
          ∙ (ap (λ (k : ℕ). Live session (Some (Asking (record { graft = k; source = word.source; next = word.next })))) t.0
          ∙ ap (λ (n : ℕ). Live session (Some (Asking (record { graft = row.graft; source = word.source; next = n })))) next));
    }))
