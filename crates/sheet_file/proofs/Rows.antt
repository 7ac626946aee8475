-- Sections as rows of entries of one width.
use Rattle.std.proofs.Common.{◌≡◌, ℕ, zero, suc, ◌+◌, ◌-◌, ◌*◌, ◌/◌, ◌%◌, ◌<◌, ◌≤◌, ltb, ◌≢◌, List, [], ◌∷◌, ◌++◌, length, get_or, take, drop, set, Ok, Err, sym, refl, ap, ◌∙◌, subst, ⊎_elim, append_assoc, add_comm, mul-zero, mul-suc, arith}
use native.Mathlib.Nat.{lt_of_mul-lt-mul_left}
use Rattle.std.specs.List.{flat_map}
use Rattle.std.specs.Simd.{first_chunks}
use Rattle.std.proofs.lemmas.Bool.{cases_lt, lt-ltb, le-ltb, cond-true, cond-false}
use Rattle.std.proofs.lemmas.List.{take_more_set, flat_map_more, get_or-set_same, get_or-set_other, drop-set-lt, drop-drop, take-append-drop, drop_at, take_at, length-append, append-nil, nil_from_length}
use Rattle.sheet.specs.declared.refusal.Refusal.{Refusal}
use Rattle.sheet.specs.Numerals.{push_answer}
use Rattle.sheet_file.specs.Bytes.{word_bytes}
use Rattle.sheet_file.specs.Reading.{entry, FirstBad, AllGood, NumeralEntry}

-- five bytes and the rest
pub five_first : (xs : List ℕ) → 5 ≤ length xs → xs ≡ get_or xs 0 0 ∷ get_or xs 1 0 ∷ get_or xs 2 0 ∷ get_or xs 3 0 ∷ get_or xs 4 0 ∷ drop 5 xs
five_first [] h = absurd (omega arith)
five_first (a ∷ []) h = absurd (omega arith)
five_first (a ∷ b ∷ []) h = absurd (omega arith)
five_first (a ∷ b ∷ d ∷ []) h = absurd (omega arith)
five_first (a ∷ b ∷ d ∷ e ∷ []) h = absurd (omega arith)
five_first (a ∷ b ∷ d ∷ e ∷ f ∷ xs) h = refl

module _ {X : Type 0} (f : X → List ℕ) (w : ℕ) (wide : (x : X) → length (f x) ≡ w) where
  pub length_row : (xs : List X) → length (flat_map f xs) ≡ w * length xs
  length_row [] = sym (mul-zero w)
  length_row (x ∷ xs) =
      length-append (f x) (flat_map f xs) ∙ ap (λ (n : ℕ). n + length (flat_map f xs)) (wide x) ∙ ap (λ (n : ℕ). w + n) (length_row xs) ∙ add_comm w (w * length xs) ∙ sym (mul-suc w (length xs))

  -- the k-th entry of a row is the bytes of the k-th item
  pub entry_row : (xs : List X) (rest : List ℕ) (k : ℕ) (d : X) → k < length xs → entry w (flat_map f xs ++ rest) k ≡ f (get_or xs k d)
  entry_row [] rest k d h = absurd (omega arith)
  entry_row (x ∷ xs) rest zero d h =
      ap (λ (n : ℕ). take w (drop n ((f x ++ flat_map f xs) ++ rest))) (mul-zero w) ∙ ap (take w) (append_assoc (f x) (flat_map f xs) rest) ∙ take_at (f x) (flat_map f xs ++ rest) w (wide x)
  entry_row (x ∷ xs) rest (suc k) d h =
      ap (λ (n : ℕ). take w (drop n ((f x ++ flat_map f xs) ++ rest))) (mul-suc w k ∙ add_comm (w * k) w)
      ∙ ap (take w) (sym (drop-drop (w * k) w ((f x ++ flat_map f xs) ++ rest)) ∙ ap (λ (ys : List ℕ). drop (w * k) (drop w ys)) (append_assoc (f x) (flat_map f xs) rest) ∙ ap (drop (w * k)) (drop_at (f x) (flat_map f xs ++ rest) w (wide x)))
      ∙ entry_row xs rest k d (omega arith)

  -- a section that is a row and what is left of it: the entry behind the row, the place and the length
  pub entry_here : (xs : List X) (left section : List ℕ) → flat_map f xs ++ left ≡ section → entry w section (length xs) ≡ take w left
  entry_here xs left section whole =
      ap (λ (ys : List ℕ). entry w ys (length xs)) (sym whole) ∙ ap (take w) (drop_at (flat_map f xs) left (w * length xs) (length_row xs))

  pub place_here : (xs : List X) (left section : List ℕ) → flat_map f xs ++ left ≡ section → length section - length left ≡ w * length xs
  place_here xs left section whole =
      let a : length section ≡ length (flat_map f xs ++ left) = ap length (sym whole) in
      let b = length-append (flat_map f xs) left in
      let e = length_row xs in
      omega arith

  -- the first bad entry stands behind a row of good items
  pub bad_behind : (Good : ℕ → List ℕ → Type 0) (xs : List X) (left section : List ℕ) → flat_map f xs ++ left ≡ section → 0 < length left → ((k : ℕ) (d : X) → k < length xs → Good k (f (get_or xs k d))) → (d : X) → (Good (length xs) (take w left) → ⊥) → FirstBad w Good section (length section - length left)
  bad_behind Good xs left section whole more good d bad =
      record {
        number = length xs;
        place = place_here xs left section whole;
        within = (let b = length-append (flat_map f xs) left in let a : length section ≡ length (flat_map f xs ++ left) = ap length (sym whole) in omega arith);
        before = λ k h. subst (Good k) (sym (entry_row xs left k d h) ∙ ap (λ (ys : List ℕ). entry w ys k) whole) (good k d h);
        bad = λ g. bad (subst (Good (length xs)) (entry_here xs left section whole) g);
      }

  -- every entry of a row of good items is good
  pub all_good : (Good : ℕ → List ℕ → Type 0) (xs : List X) (section : List ℕ) → flat_map f xs ≡ section → 0 < w → ((k : ℕ) (d : X) → k < length xs → Good k (f (get_or xs k d))) → (d : X) → AllGood w Good section
  all_good Good xs section whole pos good d k h =
      let long : length section ≡ w * length xs = ap length (sym whole) ∙ length_row xs in
      let within : k < length xs = lt_of_mul-lt-mul_left w (subst (λ (n : ℕ). w * k < n) long h) in
      subst (Good k) (sym (entry_row xs [] k d within) ∙ ap (λ (ys : List ℕ). entry w ys k) (append-nil (flat_map f xs) ∙ whole)) (good k d within)

-- one entry more of a row
pub row_more : {X : Type 0} (f : X → List ℕ) (xs : List X) (x : X) (left rest section : List ℕ) → flat_map f xs ++ left ≡ section → left ≡ f x ++ rest → flat_map f (xs ++ x ∷ []) ++ rest ≡ section
row_more {X} f xs x left rest section whole split =
    ap (λ (bs : List ℕ). bs ++ rest) (sym (flat_map_more f [] xs x))
    ∙ append_assoc (flat_map f xs) (f x) rest
    ∙ ap (λ (bs : List ℕ). flat_map f xs ++ bs) (sym split)
    ∙ whole

-- the same, where the items stand at the front of a buffer
pub row_more_set : {X : Type 0} (f : X → List ℕ) (n : ℕ) (items : List X) (x : X) (left rest section : List ℕ) → n < length items → flat_map f (take n items) ++ left ≡ section → left ≡ f x ++ rest → flat_map f (take (n + 1) (set items n x)) ++ rest ≡ section
row_more_set {X} f n items x left rest section within whole split =
    ap (λ (xs : List X). flat_map f xs ++ rest) (take_more_set items n x within) ∙ row_more f (take n items) x left rest section whole split

-- a row with nothing left is its section
pub row_all : {X : Type 0} (f : X → List ℕ) (xs : List X) (left section : List ℕ) → flat_map f xs ++ left ≡ section → length left ≡ 0 → flat_map f xs ≡ section
row_all f xs left section whole none = sym (append-nil (flat_map f xs)) ∙ ap (λ (ys : List ℕ). flat_map f xs ++ ys) (sym (nil_from_length left none)) ∙ whole

-- a fact of each place below n, and of an item put at n
pub below_set : {X : Type 0} (P : ℕ → X → Type 0) (xs : List X) (n : ℕ) (x : X) → n < length xs → ((k : ℕ) (d : X) → k < n → P k (get_or xs k d)) → P n x → (k : ℕ) (d : X) → k < n + 1 → P k (get_or (set xs n x) k d)
below_set {X} P xs n x within below here k d h =
    ⊎_elim
    (λ l. let ne : k ≢ n = omega arith in subst (P k) (sym (get_or-set_other xs n k x d ne)) (below k d l))
    (λ l. let e : n ≡ k = omega arith in subst (λ (j : ℕ). P j (get_or (set xs n x) j d)) e (subst (P n) (sym (get_or-set_same xs n x d within)) here))
    (cases_lt k n)

-- what stands behind is as it was
pub behind_more : {X : Type 0} (n : ℕ) (buffer start : List X) (x : X) → drop n buffer ≡ drop n start → drop (n + 1) (set buffer n x) ≡ drop (n + 1) start
behind_more n buffer start x same =
    let lt : n < n + 1 = omega arith in
    drop-set-lt (n + 1) buffer n x lt ∙ sym (drop-drop 1 n buffer) ∙ ap (drop 1) same ∙ drop-drop 1 n start

-- no numeral has the bytes of a number below 2
pub no_numeral : (bytes : List ℕ) (n : ℕ) → n ≡ get_or bytes 0 0 + 256 * get_or bytes 1 0 → n < 2 → NumeralEntry 0 bytes → ⊥
no_numeral bytes n q small (m, large, same) =
    let a : m % 256 ≡ get_or bytes 0 0 = ap (λ (ys : List ℕ). get_or ys 0 0) same in
    let b : m / 256 ≡ get_or bytes 1 0 = ap (λ (ys : List ℕ). get_or ys 1 0) same in
    omega arith

-- a numeral that is refused where one more finds a place is below 2
pub push_refused : (held n : ℕ) (e : Refusal) → Err e ≡ push_answer held n → held < 8 → n < 2
push_refused held n e refused free =
    ⊎_elim (λ l. l)
    (λ l. let taken : push_answer held n ≡ Ok tt = cond-true (ltb held 8) _ _ (lt-ltb held 8 free) ∙ cond-false (ltb n 2) _ _ (le-ltb n 2 l) in
    let z : ◌≡◌ {A = ℕ} 0 1 = cc (refused ∙ taken) in omega arith)
    (cases_lt n 2)

-- a section cut into entries of w bytes
pub chunk_at : (w n : ℕ) (xs : List ℕ) (k : ℕ) (d : List ℕ) → k < n → get_or (first_chunks w n xs) k d ≡ entry w xs k
chunk_at w zero xs k d h = absurd (omega arith)
chunk_at w (suc n) xs zero d h = ap (λ (m : ℕ). take w (drop m xs)) (sym (mul-zero w))
chunk_at w (suc n) xs (suc k) d h =
    chunk_at w n (drop w xs) k d (omega arith) ∙ ap (take w) (drop-drop (w * k) w xs) ∙ ap (λ (m : ℕ). take w (drop m xs)) (sym (mul-suc w k ∙ add_comm (w * k) w))

-- the k-th of the entries of two bytes, and the section from there on
pub two_at : (section : List ℕ) (chunks : List (List ℕ)) (k : ℕ) → chunks ≡ first_chunks 2 (length section / 2) section → length chunks ≡ length section / 2 → k < length chunks → (get_or chunks k [] ≡ entry 2 section k) × (drop (2 * k) section ≡ get_or chunks k [] ++ drop (2 * (k + 1)) section)
two_at section chunks k front long h =
    let within : k < length section / 2 = omega arith in
    let left = drop (2 * k) section in
    let next : 2 * k + 2 ≡ 2 * (k + 1) = omega arith in
    let here : get_or chunks k [] ≡ entry 2 section k = ap (λ (xs : List (List ℕ)). get_or xs k []) front ∙ chunk_at 2 (length section / 2) section k [] within in
    (here, sym (take-append-drop 2 left) ∙ ap (λ (bs : List ℕ). bs ++ drop 2 left) (sym here) ∙ ap (λ (ys : List ℕ). get_or chunks k [] ++ ys) (drop-drop 2 (2 * k) section ∙ ap (λ (n : ℕ). drop n section) next))

-- two bytes are those of the number that they make
pub word_back : (bytes : List ℕ) (n : ℕ) → length bytes ≡ 2 → get_or bytes 0 0 < 256 → n ≡ get_or bytes 0 0 + get_or bytes 1 0 * 256 → bytes ≡ word_bytes n
word_back [] n long low e = absurd (omega arith)
word_back (a ∷ []) n long low e = absurd (omega arith)
word_back (a ∷ b ∷ []) n long low e =
    let x : a ≡ n % 256 = omega arith in
    let y : b ≡ n / 256 = omega arith in
    λ i. x i ∷ y i ∷ []
word_back (a ∷ b ∷ d ∷ xs) n long low e = absurd (omega arith)
