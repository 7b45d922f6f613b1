-- What holds after an answer, and of what was tested.
use Rattle.std.proofs.Common.{◌≡◌, true, false, refl, sym, ◌∙◌}
use Rattle.std.specs.Prelude.{Result, Ok, Err, OnOk, OnErr, IfOk, Bool, not}

pub on_ok : {T E P Q : Type 0} (r : Result T E) → (P → Q) → OnOk r P → OnOk r Q
on_ok (Ok x) f p = f p
on_ok (Err e) f p = tt

-- a fact that holds after either answer
pub either : {T E P Q R : Type 0} (r : Result T E) → (P → R) → (Q → R) → OnOk r P → OnErr r Q → R
either (Ok x) f g p q = f p
either (Err e) f g p q = g q

pub either_if : {T E Q R : Type 0} {P : T → Type 0} (r : Result T E) → ((x : T) → P x → R) → (Q → R) → IfOk r P → OnErr r Q → R
either_if (Ok x) f g p q = f x p
either_if (Err e) f g p q = g q

pub if_ok : {T E : Type 0} {P Q : T → Type 0} (r : Result T E) → ((x : T) → P x → Q x) → IfOk r P → IfOk r Q
if_ok (Ok x) f p = f x p
if_ok (Err e) f p = tt

pub differ : (b : Bool) → b ≡ true → b ≡ false → ⊥
differ b e f = let g : true ≡ false = sym e ∙ f in cc

pub not_issued : (b : Bool) → not b ≡ true → b ≡ false
not_issued true e = absurd cc
not_issued false e = refl

pub issued_then : (b : Bool) → not b ≡ false → b ≡ true
issued_then true e = refl
issued_then false e = absurd cc
