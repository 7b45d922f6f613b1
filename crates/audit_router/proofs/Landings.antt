-- Which router is asked next.
use Rattle.std.proofs.Common.{◌≡◌, ◌≢◌, ◌⊎◌, ℕ, Bool, true, Option, Some, None, inl, inr, refl, ap, sym, ◌∙◌, subst, arith, nat_eq}
use Rattle.std.specs.Prelude.{◌↔◌, IfNone, IfSome, IsTrue}
use Rattle.std.specs.Option.{option_eq}
use Rattle.std.proofs.lemmas.Bool.{cases_lt, eq-eqb, eqb-true, false≢true}
use Rattle.std.proofs.lemmas.Option.{same_Some}
use Rattle.bgp_session.specs.Running.{RunningSession}
use Rattle.graft_steps.specs.Landings.{AreAllAsked, IsNextToAsk, Landing}
use Rattle.audit_router.specs.Places.{AsksNext, IsOwedAt, MayConfirm}
use Rattle.audit_router.specs.declared.place.Errand.TheVariants.{Owing}
use Rattle.audit_router.specs.declared.place.Place.{Place}
use Rattle.audit_router.specs.declared.place.Place.TheVariants.{Live}

neither : {m source target : ℕ} → (m ≡ source) ⊎ (m ≡ target) → m ≢ source → m ≢ target → ⊥
neither (inl e) source target = source e
neither (inr e) source target = target e

one_next : (source target routers start m n : ℕ) → IsNextToAsk source target routers start m → IsNextToAsk source target routers start n → m ≡ n
one_next source target routers start m n a b = elim (cases_lt m n) [
  | inl below ↦ absurd (neither (b.first m a.from below) a.not_source a.not_target)
  | inr from ↦ elim (cases_lt n m) [
    | inl above ↦ absurd (neither (a.first n b.from above) b.not_source b.not_target)
    | inr to ↦ omega (arith, from, to)
  ]
]

-- the answer that says who is next says so of no other
pub next_is : (source target routers start : ℕ) (next : Option ℕ) → IfSome next (λ q. IsNextToAsk source target routers start q)
    → IfNone next (AreAllAsked source target routers start) → (q : ℕ) → IsNextToAsk source target routers start q → next ≡ Some q
next_is source target routers start None some none q asks = absurd (neither (none q asks.from asks.known) asks.not_source asks.not_target)
next_is source target routers start (Some own) some none q asks = ap Some (one_next source target routers start own q some asks)

-- and that nobody is, only where all were asked
pub nobody_next : (source target routers start : ℕ) (next : Option ℕ) (own : ℕ) → next ≡ Some own → IfSome next (λ q. IsNextToAsk source target routers start q)
    → ¬ AreAllAsked source target routers start
nobody_next source target routers start None own e some all = absurd (let no : ⊥ = cc in no)
nobody_next source target routers start (Some q) own e some all = neither (all q some.from some.known) some.not_source some.not_target

-- ---- what is found at a place where word is owed

same_router : (o : Option ℕ) (q : ℕ) → option_eq nat_eq o (Some q) ≡ true → o ≡ Some q
same_router None q e = absurd (false≢true e)
same_router (Some own) q e = ap Some (eqb-true own q e)

router_same : (o : Option ℕ) (q : ℕ) → o ≡ Some q → option_eq nat_eq o (Some q) ≡ true
router_same o q is = ap (λ (x : Option ℕ). option_eq nat_eq x (Some q)) is ∙ eq-eqb q q refl

-- the landing that is found is the one of which word is owed
pub owed_with : (graft : ℕ) (place : Place) (s : RunningSession) (landing : Landing) → place ≡ Live s (Some (Owing landing)) → landing.ids.graft ≡ graft
    → (x : Landing) → (Some landing ≡ Some x) ↔ IsOwedAt graft place x
owed_with graft place s landing is graft_is x = (
  λ same.
      let one : landing ≡ x = same_Some landing x same in record {
        session = s;
        is = is ∙ ap (λ (l : Landing). Live s (Some (Owing l))) one;
        graft = ap (λ (l : Landing). l.ids.graft) (sym one) ∙ graft_is;
      },
  λ owed.
      let both : Live s (Some (Owing landing)) ≡ Live owed.session (Some (Owing x)) = sym is ∙ owed.is in
      let one : landing ≡ x = cc in ap Some one,
)

module _ (graft : ℕ) (place : Place) (routers : ℕ) (landing : Landing) (exact : (x : Landing) → (Some landing ≡ Some x) ↔ IsOwedAt graft place x)
    (next : Option ℕ) (some : IfSome next (λ q. IsNextToAsk landing.ids.source.0 landing.ids.target.0 routers landing.next q))
    (none : IfNone next (AreAllAsked landing.ids.source.0 landing.ids.target.0 routers landing.next)) where
  same_landing : (other : Landing) → IsOwedAt graft place other → landing ≡ other
  same_landing other owed = same_Some landing other ((exact other).1 owed)

  pub asks_as : (q : ℕ) (test : Bool) → test ≡ option_eq nat_eq next (Some q) → IsTrue test ↔ AsksNext graft place routers q
  asks_as q test is = (
    λ yes. record {
      landing = landing;
      owed = (exact landing).0 refl;
      next = subst (λ (o : Option ℕ). IfSome o (λ n. IsNextToAsk landing.ids.source.0 landing.ids.target.0 routers landing.next n))
          (same_router next q (sym is ∙ yes)) some;
    },
    λ may. is ∙ router_same next q (next_is landing.ids.source.0 landing.ids.target.0 routers landing.next next some none q
        (subst (λ (l : Landing). IsNextToAsk l.ids.source.0 l.ids.target.0 routers l.next q) (sym (same_landing may.landing may.owed)) may.next)),
  )

  pub confirms_not : (own : ℕ) → next ≡ Some own → (source : ℕ) → ¬ MayConfirm graft place routers source
  confirms_not own is source may = nobody_next landing.ids.source.0 landing.ids.target.0 routers landing.next next own is some
      (subst (λ (l : Landing). AreAllAsked l.ids.source.0 l.ids.target.0 routers l.next) (sym (same_landing may.landing may.owed)) may.all)

  pub confirms_as : next ≡ None → MayConfirm graft place routers landing.ids.source.0
  confirms_as is = record {
    landing = landing;
    owed = (exact landing).0 refl;
    all = subst (λ (o : Option ℕ). IfNone o (AreAllAsked landing.ids.source.0 landing.ids.target.0 routers landing.next)) is none;
    from = refl;
  }
