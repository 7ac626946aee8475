-- One write after another.
use Rattle.std.proofs.Common.{◌≡◌, ℕ, zero, suc, ◌+◌, ◌-◌, ◌<◌, ◌≤◌, List, [], ◌∷◌, ◌++◌, length, get_or, take, drop, sym, refl, ap, ◌∙◌, subst, append_assoc, arith}
use borrow.Rule.Slice.PartMut.{put_mid}
use Rattle.std.specs.List.{flat_map}
use Rattle.std.proofs.lemmas.List.{length-append, drop-drop, take_more, flat_map_more}
use Rattle.std.proofs.lemmas.Slice.{take-put_mid, drop-put_mid}
use Rattle.sheet_file.specs.Writing.{Puts}

pub puts_one : (out ys bytes : List ℕ) (at : ℕ) → at + length bytes ≤ length out → ys ≡ bytes → Puts out at bytes (at + length bytes) (put_mid at (at + length bytes - at) out ys)
puts_one out ys bytes at room same =
    let long : length ys ≡ length bytes = ap length same in
    let inside : at ≤ length out = omega arith in
    let ends : at + length bytes ≡ at + length ys = omega arith in
    let up : at + (at + length bytes - at) ≤ at + length bytes = omega arith in
    let part : length ys ≡ at + length bytes - at = omega arith in
    record {
      place = refl;
      front = take-put_mid at (at + length bytes - at) out ys (at + length bytes) ends inside ∙ ap (λ (zs : List ℕ). take at out ++ zs) same;
      behind = drop-put_mid at (at + length bytes - at) out ys (at + length bytes) up inside part;
    }

pub puts_then : {out mid last : List ℕ} {at m e : ℕ} {xs ys : List ℕ} → Puts out at xs m mid → Puts mid m ys e last → Puts out at (xs ++ ys) e last
puts_then {out} {mid} {last} {at} {m} {e} {xs} {ys} p q =
    let whole : length (xs ++ ys) ≡ length xs + length ys = length-append xs ys in
    let a = p.place in
    let b = q.place in
    record {
      place = omega arith;
      front = q.front ∙ ap (λ (zs : List ℕ). zs ++ ys) p.front ∙ append_assoc (take at out) xs ys;
      behind = q.behind ∙ ap (λ (n : ℕ). drop n mid) b ∙ sym (drop-drop (length ys) m mid) ∙ ap (drop (length ys)) p.behind ∙ drop-drop (length ys) m out ∙ ap (λ (n : ℕ). drop n out) (sym b);
    }

-- one item more of a row
pub puts_more : {X : Type 0} (f : X → List ℕ) (items : List X) (n : ℕ) (d : X) {out mid last : List ℕ} {at m e : ℕ} → n < length items → Puts out at (flat_map f (take n items)) m mid → Puts mid m (f (get_or items n d)) e last → Puts out at (flat_map f (take (n + 1) items)) e last
puts_more {X} f items n d {out} {mid} {last} {at} {m} {e} within p q =
    let all : flat_map f (take n items) ++ f (get_or items n d) ≡ flat_map f (take (n + 1) items) = flat_map_more f [] (take n items) (get_or items n d) ∙ ap (flat_map f) (sym (take_more items n d within)) in
    subst (λ (bs : List ℕ). Puts out at bs e last) all (puts_then p q)

pub puts_same : {out last : List ℕ} {at e : ℕ} (xs ys : List ℕ) → xs ≡ ys → Puts out at xs e last → Puts out at ys e last
puts_same {out} {last} {at} {e} xs ys same p = subst (λ (bs : List ℕ). Puts out at bs e last) same p

-- what stands before an item and its own bytes are no longer than the row
pub row_part : {X : Type 0} (f : X → List ℕ) (items : List X) (n : ℕ) (d : X) → n < length items → length (flat_map f (take n items)) + length (f (get_or items n d)) ≤ length (flat_map f items)
row_part f [] n d h = absurd (omega arith)
row_part f (x ∷ xs) zero d h = let whole = length-append (f x) (flat_map f xs) in omega arith
row_part f (x ∷ xs) (suc n) d h =
    let front = length-append (f x) (flat_map f (take n xs)) in
    let whole = length-append (f x) (flat_map f xs) in
    let rest = row_part f xs n d (omega arith) in
    omega arith
