-- Items of lists, and texts put together.
use Rattle.std.proofs.Common.{◌≡◌, ℕ, zero, suc, ◌+◌, ◌<◌, List, [], ◌∷◌, ◌++◌, length, get_or, sym, refl, ap, ◌∙◌, append_assoc, add-one, arith}
use Rattle.std.proofs.lemmas.List.{append-nil}
use Rattle.tablet.specs.Telling.{lines_below}

-- what stands at a place within a list, whatever the default
pub item_at : {X : Type 0} (xs : List X) (k : ℕ) → k < length xs → (x : X) × ((d : X) → get_or xs k d ≡ x)
item_at [] k h = absurd (omega arith)
item_at (x ∷ xs) zero h = (x, λ d. refl)
item_at (x ∷ xs) (suc k) h = item_at xs k (omega arith)

-- one line more
pub lines_more : (front text more : List ℕ) (n : ℕ) (line : ℕ → List ℕ) → text ≡ front ++ lines_below n line → more ≡ text ++ line n → more ≡ front ++ lines_below (n + 1) line
unfolding lines_below
lines_more front text more n line before here =
    here ∙ ap (λ (xs : List ℕ). xs ++ line n) before ∙ append_assoc front (lines_below n line) (line n) ∙ ap (λ (k : ℕ). front ++ lines_below k line) (sym (add-one n))

-- the same lines, by another name for how many
pub lines_to : (front text : List ℕ) (n m : ℕ) (line : ℕ → List ℕ) → text ≡ front ++ lines_below n line → n ≡ m → text ≡ front ++ lines_below m line
lines_to front text n m line so_far same = so_far ∙ ap (λ (k : ℕ). front ++ lines_below k line) same

-- no lines yet
pub no_lines : (front text : List ℕ) (line : ℕ → List ℕ) → text ≡ front → text ≡ front ++ lines_below 0 line
unfolding lines_below
no_lines front text line e = e ∙ sym (append-nil front)
