use Rattle.std.proofs.Common.{◌≡◌, Bool, true, false, List, [], ◌∷◌, refl}
use Rattle.std.specs.Prelude.{◌&&◌}
use Rattle.std.specs.List.{list_all}
use Rattle.std.proofs.lemmas.Bool.{false≢true}
use Rattle.capsule_bytes.specs.Fields.{Field, AreRight}
use Rattle.capsule_bytes.specs.Capsules.{fields}
use Rattle.capsule_bytes.specs.Worked.{worked}
use Rattle.capsule_bytes.proofs.laws.a_capsule_worked_by_hand.Goals as goal

both : (a b : Bool) → (a && b) ≡ true → (a ≡ true) × (b ≡ true)
both true b e = (refl, e)
both false b e = absurd (false≢true e)

-- fields that are right by a test
right_by_test : (fs : List Field) → list_all (λ (f : Field). f.fits && f.allowed f.octets) fs ≡ true → AreRight fs
right_by_test [] e = tt
right_by_test (f ∷ fs) e =
    let h = both (f.fits && f.allowed f.octets) (list_all (λ (g : Field). g.fits && g.allowed g.octets) fs) e in
    (both f.fits (f.allowed f.octets) h.0, right_by_test fs h.1)

pub returns-clause-capsule : goal.returns-clause-capsule
returns-clause-capsule c = record { right = right_by_test (fields worked) refl; peering = refl; way = refl }

pub returns-clause-octets : goal.returns-clause-octets
returns-clause-octets c = refl
