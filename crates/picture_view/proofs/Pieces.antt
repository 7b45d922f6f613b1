-- Texts that are written in many pieces at once.
use Rattle.std.proofs.Common.{◌≡◌, ℕ, ◌+◌, ◌/◌, List, ◌++◌, ap, ◌∙◌, append_assoc}
use Rattle.std.specs.Prelude.{codes, decimal}
use Rattle.picture_view.specs.Elements.{colour, path_start, titled_end}
use Rattle.picture_view.specs.Shapes.{bow}

pub nine : {X : Type 0} (start a b c d e f g h i : List X)
    → start ++ (a ++ (b ++ (c ++ (d ++ (e ++ (f ++ (g ++ (h ++ i)))))))) ≡ start ++ (a ++ b ++ c ++ d ++ e ++ f ++ g ++ h ++ i)
nine start a b c d e f g h i = simp append_assoc

pub eleven : {X : Type 0} (start a b c d e f g h i j k : List X)
    → start ++ (a ++ (b ++ (c ++ (d ++ (e ++ (f ++ (g ++ (h ++ (i ++ (j ++ k)))))))))) ≡ start ++ (a ++ b ++ c ++ d ++ e ++ f ++ g ++ h ++ i ++ j ++ k)
eleven start a b c d e f g h i j k = simp append_assoc

thirteen : {X : Type 0} (start a b c d e f g h i j k l m : List X)
    → start ++ a ++ (b ++ (c ++ (d ++ (e ++ (f ++ (g ++ (h ++ (i ++ (j ++ (k ++ (l ++ m)))))))))))
    ≡ start ++ (a ++ b ++ c ++ d ++ e ++ f ++ g ++ h ++ i ++ j ++ k ++ l ++ m)
thirteen start a b c d e f g h i j k l m = simp append_assoc

-- a bow, whose middle was computed before
pub bow_behind : (peering x y to_x to_y sum : ℕ) (start now next : List ℕ) → sum ≡ x + to_x
    → now ≡ start ++ path_start (codes "w" ++ colour peering) x y
    → next ≡ now ++ (codes "C" ++ (decimal (sum / 2) ++ (codes " " ++ (decimal y ++ (codes " " ++ (decimal (sum / 2) ++ (codes " " ++ (decimal to_y
    ++ (codes " " ++ (decimal to_x ++ (codes " " ++ decimal to_y)))))))))))
    → next ≡ start ++ bow peering x y to_x to_y
unfolding bow
bow_behind peering x y to_x to_y sum start now next added begun written =
    let rest : ℕ → List ℕ = λ n. codes "C" ++ (decimal (n / 2) ++ (codes " " ++ (decimal y ++ (codes " " ++ (decimal (n / 2) ++ (codes " " ++ (decimal to_y
    ++ (codes " " ++ (decimal to_x ++ (codes " " ++ decimal to_y)))))))))) in
    let middle = decimal ((x + to_x) / 2) in
    written ∙ ap (λ (n : ℕ). now ++ rest n) added ∙ ap (λ (t : List ℕ). t ++ rest (x + to_x)) begun
    ∙ thirteen start (path_start (codes "w" ++ colour peering) x y) (codes "C") middle (codes " ") (decimal y) (codes " ") middle (codes " ") (decimal to_y)
    (codes " ") (decimal to_x) (codes " ") (decimal to_y)

three : {X : Type 0} (start a b c : List X) → start ++ a ++ b ++ c ≡ start ++ (a ++ b ++ c)
three start a b c = simp append_assoc

-- the end of a path, with its title
pub titled_behind : (title start one two next : List ℕ) → one ≡ start ++ codes "'><title>" → two ≡ one ++ title
    → next ≡ two ++ codes "</title></path>\n" → next ≡ start ++ titled_end title
unfolding titled_end
titled_behind title start one two next first second third =
    third ∙ ap (λ (t : List ℕ). t ++ codes "</title></path>\n") (second ∙ ap (λ (t : List ℕ). t ++ title) first)
    ∙ three start (codes "'><title>") title (codes "</title></path>\n")
