-- The target of a graft asks the third of three routers.
use Rattle.std.proofs.Common.{◌≡◌, ℕ, zero, suc, [], ◌∷◌, List, Option, Some, None, refl, sym, ap, ◌∙◌, inl, inr, arith}
use Rattle.graft_steps.specs.Landings.{AreAllAsked}
use Rattle.session_value.specs.Sessions.{SessionValue}
use Rattle.graft_model.specs.Parts.{Place, Vacant, Live, Errand, Owing, Asking, RouterPart, Asked, Answered, Done}
use Rattle.graft_model.specs.RouterRows.{RouterTaken, MeshIn, RouterSent, MeshTo}
use Rattle.graft_model.specs.GraftRows.{Asks, Answers, Counts, Ignores, Confirms}
use Rattle.graft_model.proofs.Footprints.{at_apart}
use Rattle.graft_worked.specs.Asked.{three, word_to, landed, asking, b_asked, confirmed}
use Rattle.graft_worked.specs.Graft.{session}
use Rattle.graft_worked.specs.Places.{idle_router}
use Rattle.graft_worked.proofs.Points.{at-at}
use Rattle.graft_worked.proofs.Tens.{some_in_none}

abbrev vacant : ℕ → Place
vacant p = Vacant

-- the routers before the third are source and target
first_two : AreAllAsked 0 1 2 0
first_two zero from below = inl refl
first_two (suc zero) from below = inr refl
first_two (suc (suc m)) from below = absurd (omega arith)

pub asks : Asks three 1 1 2 landed None (MeshTo 2 (Asked 1 0) ∷ []) asking
asks = record {
  peering = 0;
  source = 0;
  next = 0;
  session = session;
  live = record { is = refl };
  asked = record { from = omega arith; known = omega arith; not_source = λ e. absurd (omega arith); not_target = λ e. absurd (omega arith); first = first_two };
  clean = some_in_none _;
  told = some_in_none _;
  takes = refl;
  sends = refl;
  effect = λ i. record asking { places = sym (at-at vacant 0 (Live session (Some (Owing (word_to 0)))) (Live session (Some (Asking (word_to 2))))) i };
}

pub answers : Answers 1 idle_router (Some (MeshIn 1 (Asked 1 0))) (MeshTo 1 (Answered 1 0) ∷ []) idle_router
answers = record { graft = 1; peering = 0; takes = refl; sends = refl; stays = refl }

pub counts : Counts 2 asking (Some (MeshIn 2 (Answered 1 0))) [] b_asked
counts = record {
  graft = 1;
  peering = 0;
  takes = refl;
  sends = refl;
  source = 0;
  session = session;
  live = record { is = refl };
  effect = λ i. record b_asked { places = sym (at-at vacant 0 (Live session (Some (Asking (word_to 2)))) (Live session (Some (Owing (word_to 3))))) i };
}

not_awaited : (source : ℕ) (s : SessionValue)
    → Live session (Some (Owing (word_to 3))) ≡ Live s (Some (Asking (record { graft = 1; source = source; next = 2 }))) → ⊥
not_awaited source s e = absurd cc

pub ignores : Ignores 2 b_asked (Some (MeshIn 2 (Answered 1 0))) [] b_asked
ignores = record { graft = 1; peering = 0; takes = refl; sends = refl; unawaited = λ source s live. not_awaited source s live.is; stays = refl }

pub confirms : Confirms three 1 1 b_asked None (MeshTo 0 (Done 1 0) ∷ []) confirmed
confirms = record {
  peering = 0;
  source = 0;
  next = 3;
  session = session;
  live = record { is = refl };
  answered = λ m from below. absurd (omega arith);
  clean = some_in_none _;
  told = λ q. some_in_none _;
  takes = refl;
  sends = refl;
  effect = λ i. record confirmed { places = sym (at-at vacant 0 (Live session (Some (Owing (word_to 3)))) (Live session None)) i };
}

-- ---- word isn't given before the third has answered

abbrev owed_at : Place → ℕ
owed_at (Live s (Some (Owing word))) = word.next
owed_at place = 0

abbrev source_at : Place → ℕ
source_at (Live s (Some (Owing word))) = word.source
source_at place = 0

unasked : (source next : ℕ) → 0 ≡ next → 0 ≡ source → AreAllAsked source 1 3 next → ⊥
unasked source next first of all = elim (all 2 (omega arith) (omega arith)) [ inl e ↦ absurd (omega arith) | inr e ↦ absurd (omega arith) ]

vacant_is_none : (s : SessionValue) (errand : Option Errand) → Vacant ≡ Live s errand → ⊥
vacant_is_none s errand e = cc

only_there : (p : ℕ) (s : SessionValue) (source next : ℕ)
    → landed.places p ≡ Live s (Some (Owing (record { graft = 1; source = source; next = next }))) → (0 ≡ next) × (0 ≡ source)
only_there zero s source next e = (ap owed_at e, ap source_at e)
only_there (suc p) s source next e = absurd (vacant_is_none s (Some (Owing (record { graft = 1; source = source; next = next })))
    (sym (at_apart vacant 0 (suc p) (Live session (Some (Owing (word_to 0)))) (λ same. absurd (omega arith))) ∙ e))

pub not_yet : (taken : Option RouterTaken) (sent : List RouterSent) (after : RouterPart) → ¬ Confirms three 1 1 landed taken sent after
not_yet taken sent after row =
    let there = only_there row.peering row.session row.source row.next row.live.is in
    unasked row.source row.next there.0 there.1 row.answered
