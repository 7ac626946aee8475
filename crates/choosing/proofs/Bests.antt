-- The best of those met so far.
use Rattle.std.proofs.Common.{◌≡◌, ℕ, ◌+◌, ◌*◌, ◌%◌, ◌^◌, ◌<◌, ◌≤◌, ◌⊎◌, List, [], length, Some, None, filter, Option, sym, refl, ap, ◌∙◌, subst, subst₂, inl, inr, slice_get, arith}
use Rattle.std.proofs.lemmas.Nat.{one_shl}
use Rattle.std.proofs.lemmas.List.{get_or-map}
use Rattle.std.proofs.lemmas.Option.{get_or_from_slice_get, slice_get_within}
use Rattle.std.proofs.lemmas.Bool.{cases_lt, cases_eq}
use Rattle.choosing.specs.declared.card.Card.{Card}
use Rattle.choosing.specs.declared.choice.Choice.{Choice}
use Rattle.choosing.specs.declared.column.Column.{Column}
use Rattle.few.specs.Listed.{listed}
use Rattle.choosing.specs.Sets.{chosen}
use Rattle.choosing.specs.Near.{near_to}
use Rattle.choosing.specs.Taken.{taken, none}
use Rattle.choosing.proofs.Nears.{taken_near}
use Rattle.choosing.specs.Savings.{saved_muls, saved_adds}
use Rattle.choosing.specs.Best.{columns_at, set_at, taken_at, Candidate, value, Earlier, Tells}
use Rattle.choosing.specs.Progress.{Weighed, worth_of, least, Leads, SoFar}

-- card is kernel p, and n how many columns it has
module _ (xs : List Card) (p : ℕ) (card : Card) (n : ℕ) (at : slice_get xs p ≡ Some card) (many : n ≡ length (listed card.columns)) (few : n ≤ 8) where
  within : p < length xs
  within = slice_get_within xs p card at

  columns_is : listed card.columns ≡ columns_at xs p
  columns_is =
      sym (get_or-map (λ y. listed y.columns) xs p card [] within ∙ ap (λ y. listed y.columns) (get_or_from_slice_get xs p card card at))

  pub end_is : (1 * 2 ^ n) % 2 ^ 64 ≡ 2 ^ length (columns_at xs p)
  end_is = one_shl n 64 (omega arith) ∙ ap (λ k. 2 ^ k) (many ∙ ap length columns_is)

  -- ds are those that s names
  module _ (s : ℕ) (ds : List Column) (picked : ds ≡ chosen s (listed card.columns)) where
    set_is : ds ≡ set_at xs p s
    set_is = picked ∙ ap (chosen s) columns_is

    pub candidate_not : length ds < 2 → Candidate xs p s → ⊥
    candidate_not lt c = omega (arith, ap length set_is, c.two)

    -- the kernels taken among the near ones are those taken among all
    pub near_taken : 2 ≤ length ds → (ns : List Card) → ns ≡ filter (near_to (listed card.columns)) xs → taken ds none ns ≡ taken_at xs p s
    near_taken two ns near =
        ap (taken ds none) near
        ∙ ap (λ l. taken l none (filter (near_to (listed card.columns)) xs)) picked
        ∙ taken_near (listed card.columns) s xs (omega (arith, ap length picked))
        ∙ ap (λ l. taken (chosen s l) none xs) columns_is

    -- so what is weighed among them is told of all
    pub tells_from : s < (1 * 2 ^ n) % 2 ^ 64 → 2 ≤ length ds → (ns : List Card) → taken ds none ns ≡ taken_at xs p s
        → (x : Choice) → (x.kernel ≡ p) × (x.set ≡ s) → Weighed ns ds x → Tells xs x
    tells_from lt two ns all x is weighed =
        let Told : List Column → List Card → Type 0 = λ set ts.
        (x.rows ≡ length ts) × (x.columns ≡ length set) × (x.multiplications ≡ saved_muls set ts) × (x.additions ≡ saved_adds set ts) in
        let told : Told (set_at xs p s) (taken_at xs p s) =
        subst (Told (set_at xs p s)) all
        (
        subst (λ l. Told l (taken ds none ns)) set_is
        (weighed.rows, weighed.columns, weighed.multiplications, weighed.additions)
        ) in
        let here : Told (set_at xs x.kernel x.set) (taken_at xs x.kernel x.set) =
        subst₂ (λ q t. Told (set_at xs q t) (taken_at xs q t)) (sym is.0) (sym is.1) told in
        record {
          candidate =
              subst₂ (Candidate xs) (sym is.0) (sym is.1)
              (record { kernel = within; number = omega (arith, end_is); two = omega (arith, ap length set_is) });
          rows = here.0;
          columns = here.1;
          multiplications = here.2;
          additions = here.3;
        }

earlier_more : (q t p s : ℕ) → Earlier q t p (s + 1) → Earlier q t p s ⊎ ((q ≡ p) × (t ≡ s))
earlier_more q t p s (inl h) = inl (inl h)
earlier_more q t p s (inr (e, h)) =
    elim (cases_lt t s) [ inl g ↦ inl (inr (e, g)) | inr g ↦ inr (e, (omega arith)) ]

earlier_on : (q t p s : ℕ) → Earlier q t p s → Earlier q t p (s + 1)
earlier_on q t p s (inl h) = inl h
earlier_on q t p s (inr (e, h)) = inr (e, (omega arith))

module _ (w : ℕ) (xs : List Card) where
  pub worth_is : (x : Choice) → Tells xs x → worth_of w x ≡ value w xs x.kernel x.set
  worth_is x t =
      ap (λ m. w * m + x.additions) t.multiplications
      ∙ ap (λ a. w * saved_muls (set_at xs x.kernel x.set) (taken_at xs x.kernel x.set) + a) t.additions

  so_far_map : (p s p' s' : ℕ) → ((q t : ℕ) → Candidate xs q t → Earlier q t p' s' → Earlier q t p s)
      → ((q t : ℕ) → Earlier q t p s → Earlier q t p' s') → (b : Option Choice) → SoFar w xs p s b → SoFar w xs p' s' b
  so_far_map p s p' s' back on None f = λ q t c e. f q t c (back q t c e)
  so_far_map p s p' s' back on (Some x) f = record {
    tells = f.tells;
    gains = f.gains;
    met = on x.kernel x.set f.met;
    most = λ q t c e. f.most q t c (back q t c e);
    first = f.first;
  }

  pub so_far_skip : (p s : ℕ) → (Candidate xs p s → ⊥) → (b : Option Choice) → SoFar w xs p s b → SoFar w xs p (s + 1) b
  so_far_skip p s out =
      so_far_map p s p (s + 1)
      (λ q t c e.
      elim (earlier_more q t p s e) [
        | inl f ↦ f
        | inr g ↦ absurd (out (subst (λ n. Candidate xs p n) g.1 (subst (λ n. Candidate xs n t) g.0 c)))
      ])
      (λ q t e. earlier_on q t p s e)

  -- all candidates up to (p, s) keep to a bound, if those before do and it does
  up_to : (p s : ℕ) (P : ℕ → Type 0) → ((q t : ℕ) → Candidate xs q t → Earlier q t p s → P (value w xs q t)) → P (value w xs p s)
      → (q t : ℕ) → Candidate xs q t → Earlier q t p (s + 1) → P (value w xs q t)
  up_to p s P before here q t c e =
      elim (earlier_more q t p s e) [
        | inl f ↦ before q t c f
        | inr g ↦ subst (λ n. P (value w xs n t)) (sym g.0) (subst (λ n. P (value w xs p n)) (sym g.1) here)
      ]

  so_far_keep : (p s : ℕ) (b : Option Choice) → value w xs p s ≤ least w b → SoFar w xs p s b → SoFar w xs p (s + 1) b
  so_far_keep p s None h f = up_to p s (λ n. n ≡ 0) f (omega arith)
  so_far_keep p s (Some y) h f = record {
    tells = f.tells;
    gains = f.gains;
    met = earlier_on y.kernel y.set p s f.met;
    most = up_to p s (λ n. n ≤ value w xs y.kernel y.set) f.most (omega (arith, worth_is y f.tells));
    first = f.first;
  }

  so_far_below : (p s : ℕ) (b : Option Choice) → SoFar w xs p s b → (q t : ℕ) → Candidate xs q t → Earlier q t p s → value w xs q t ≤ least w b
  so_far_below p s None f q t c e = omega (arith, f q t c e)
  so_far_below p s (Some y) f q t c e = omega (arith, f.most q t c e, worth_is y f.tells)

  so_far_take : (x : Choice) (b : Option Choice) → Tells xs x → least w b < value w xs x.kernel x.set → SoFar w xs x.kernel x.set b
      → Leads w xs x.kernel (x.set + 1) x
  so_far_take x b tells h f = record {
    tells = tells;
    gains = omega arith;
    met = inr (refl, (omega arith));
    most =
        up_to x.kernel x.set (λ n. n ≤ value w xs x.kernel x.set)
        (λ q t c e. omega (arith, so_far_below x.kernel x.set b f q t c e))
        (omega arith);
    first = λ q t c e. omega (arith, so_far_below x.kernel x.set b f q t c e);
  }

  better_here : (x : Choice) (b r : Option Choice) → Tells xs x → (least w b < worth_of w x → r ≡ Some x) → (worth_of w x ≤ least w b → r ≡ b)
      → SoFar w xs x.kernel x.set b → SoFar w xs x.kernel (x.set + 1) r
  better_here x b r tells takes keeps f =
      elim (cases_lt (least w b) (worth_of w x)) [
        | inl h ↦
            subst (λ o. SoFar w xs x.kernel (x.set + 1) o) (sym (takes h))
            (so_far_take x b tells (omega (arith, worth_is x tells)) f)
        | inr h ↦
            subst (λ o. SoFar w xs x.kernel (x.set + 1) o) (sym (keeps h))
            (so_far_keep x.kernel x.set b (omega (arith, worth_is x tells)) f)
      ]

  pub so_far_better : (p s : ℕ) (x : Choice) (b r : Option Choice) → Tells xs x → (x.kernel ≡ p) × (x.set ≡ s)
      → (least w b < worth_of w x → r ≡ Some x) → (worth_of w x ≤ least w b → r ≡ b) → SoFar w xs p s b → SoFar w xs p (s + 1) r
  so_far_better p s x b r tells at takes keeps f =
      subst (λ n. SoFar w xs n (s + 1) r) at.0
      (
      subst (λ n. SoFar w xs x.kernel (n + 1) r) at.1
      (
      better_here x b r tells takes keeps
      (subst (λ n. SoFar w xs n x.set b) (sym at.0) (subst (λ n. SoFar w xs p n b) (sym at.1) f))
      )
      )

  pub so_far_next : (p end : ℕ) → 2 ^ length (columns_at xs p) ≤ end → (b : Option Choice) → SoFar w xs p end b → SoFar w xs (p + 1) 0 b
  so_far_next p end h = so_far_map p end (p + 1) 0 back (λ q t e. on q t e)
    where
      back : (q t : ℕ) → Candidate xs q t → Earlier q t (p + 1) 0 → Earlier q t p end
      back q t c (inl g) =
          elim (cases_eq q p) [
            | inl e ↦ inr (e, (omega (arith, c.number, ap (λ n. 2 ^ length (columns_at xs n)) e)))
            | inr n ↦ inl (omega arith)
          ]
      back q t c (inr g) = absurd (omega (arith, g.1))

      on : (q t : ℕ) → Earlier q t p end → Earlier q t (p + 1) 0
      on q t (inl g) = inl (omega arith)
      on q t (inr g) = inl (omega (arith, g.0))
