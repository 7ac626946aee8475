-- A part put into the order.
use Rattle.std.proofs.Common.{◌≡◌, ℕ, suc, ◌+◌, ◌-◌, ◌<◌, ◌≤◌, Bool, true, false, cond, not, List, [], ◌∷◌, ◌++◌, length, take, drop, set, sym, refl, ap, ap₂, ◌∙◌, arith}
use borrow.Rule.Slice.PartMut.{put_mid}
use Rattle.std.specs.List.{insert, position, position_or_len}
use Rattle.std.specs.Option.{unwrap_or}
use Rattle.std.proofs.lemmas.List.Sums.{prefix_len-le-length}
use Rattle.std.proofs.lemmas.List.{drop-append-le, drop-take, length-drop, length-set, length-take-le, length_push, take-set-le, take-take, take_more_set}
use Rattle.std.proofs.Math.Seq.{drop-append_seam, take-append_seam}
use Rattle.std.proofs.lemmas.Slice.{take-put_mid}
use Rattle.std.proofs.lemmas.Grind.{common_steps}
use Rattle.rewriting.specs.Order.{put}

-- the part stands at the first place that is named, or last
put_first : (named : ℕ → Bool) (p : ℕ) (xs : List ℕ) → put named p xs ≡ insert xs (position_or_len named xs) p
put_first named p [] = refl
put_first named p (x ∷ xs) = go (named x) (put_first named p xs)
  where
    go : (b : Bool) → put named p xs ≡ insert xs (position_or_len named xs) p
        → cond b (p ∷ x ∷ xs) (x ∷ put named p xs) ≡ insert (x ∷ xs) (cond (not b) (1 + position_or_len named xs) 0) p
    go true h = refl
    go false h =
        let next : suc (position_or_len named xs) ≡ 1 + position_or_len named xs = omega arith in
        ap (λ (ys : List ℕ). x ∷ ys) h ∙ ap (λ (k : ℕ). insert (x ∷ xs) k p) next

first_or_last : (named : ℕ → Bool) (xs : List ℕ) → unwrap_or (position named xs) (length xs) ≡ position_or_len named xs
first_or_last named xs = grind (arith, common_steps, prefix_len-le-length (λ x. not (named x)) xs)

pub put_at : (named : ℕ → Bool) (p n : ℕ) (xs : List ℕ) → n ≡ length xs → insert xs (unwrap_or (position named xs) n) p ≡ put named p xs
put_at named p n xs h = grind (arith, put_first named p xs, first_or_last named xs)

pub place_within : (named : ℕ → Bool) (n : ℕ) (xs : List ℕ) → n ≡ length xs → unwrap_or (position named xs) n ≤ length xs
place_within named n xs h = grind (arith, first_or_last named xs, prefix_len-le-length (λ x. not (named x)) xs)

-- the last of some items, turned to the front
turned : (ws ys : List ℕ) (p : ℕ) → ys ≡ ws ++ p ∷ [] → drop (length ys - 1) ys ++ take (length ys - 1) ys ≡ p ∷ ws
turned ws ys p e =
    let n : length ys - 1 ≡ length ws = omega (arith, ap length e, length_push ws p) in
    ap₂ (λ (k : ℕ) (zs : List ℕ). drop k zs ++ take k zs) n e ∙ ap₂ ◌++◌ (drop-append_seam ws (p ∷ [])) (take-append_seam ws (p ∷ []))

-- a number written behind the first n, and then the part from a place up to it turned
module _ (xs : List ℕ) (n at p : ℕ) (h : at ≤ n) (l : n < length xs) where
  front : length (take n xs) ≡ n
  front = length-take-le n xs (omega arith)

  part : take (n + 1 - at) (drop at (set xs n p)) ≡ drop at (take n xs) ++ p ∷ []
  part =
      let e : at + (n + 1 - at) ≡ n + 1 = omega arith in
      sym (drop-take at (n + 1 - at) (set xs n p)) ∙ ap (λ (k : ℕ). drop at (take k (set xs n p))) e ∙ ap (drop at) (take_more_set xs n p l)
      ∙ drop-append-le at (take n xs) (p ∷ []) (omega (arith, front))

  pub part_turned : (m zs : List ℕ) → m ≡ take (n + 1 - at) (drop at (set xs n p)) → zs ≡ drop (length m - 1) m ++ take (length m - 1) m
      → take (n + 1) (put_mid at (n + 1 - at) (set xs n p) zs) ≡ insert (take n xs) at p
  part_turned m zs is after =
      let e = after ∙ turned (drop at (take n xs)) m p (is ∙ part) in
      let long : n + 1 ≡ at + length zs = omega (arith, ap length e, length-drop at (take n xs), front) in
      take-put_mid at (n + 1 - at) (set xs n p) zs (n + 1) long (omega (arith, length-set xs n p))
      ∙ ap₂ ◌++◌ (take-set-le at xs n p h ∙ sym (take-take at n xs h)) e
