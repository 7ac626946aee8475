-- The making order stays in order.
use Rattle.std.proofs.Common.{◌≡◌, ℕ, zero, suc, ◌+◌, ◌<◌, ◌≤◌, Bool, true, false, cond, ◌||◌, ◌⊎◌, List, [], ◌∷◌, map, length, sym, refl, ap, ◌∙◌, subst, inl, inr, ⊎_elim, arith}
use Rattle.std.specs.List.{AllByRecursion}
use Rattle.std.proofs.ByRecursion.{All-append, All-map, All-get_or, All-weaker}
use Rattle.std.proofs.lemmas.Bool.{cases_eq, or_parts, or_from, or_left, or_right, or_cases, both_ways}
use Rattle.algebra.specs.Cubes.{Powers, letter, letters, product, quotient}
use Rattle.algebra.specs.Rows.{Row, divides_test, row_in}
use Rattle.algebra.proofs.Degrees.{letter_other}
use Rattle.rewriting.specs.Book.{accepted, written}
use Rattle.rewriting.specs.Closed.{Below}
use Rattle.rewriting.specs.Factor.{Apart, Behind, Taken, Takes, covered, factored, has, part_rows, rewritten, stand_in, taken_in, without}
use Rattle.rewriting.specs.Order.{Backwards, MadeOf, Ordered, any_divided, count_from, factored_from, first_order, put, shared_from}
use Rattle.rewriting.specs.Presses.{Like, Press, Presses, by_factor, by_share, none, more}
use Rattle.rewriting.proofs.Reached.{all_alike}
use Rattle.rewriting.specs.Promises.{PressesStayOrdered, FactorStaysOrdered, FirstOrdered, ShareStaysOrdered, WrittenOrdered}
use Rattle.rewriting.specs.Share.{Shares, cube_part, divided, shared, shared_row}
use Rattle.rewriting.specs.Styles.{Style, equal, standing, with_part}
use Rattle.rewriting.proofs.Factors.{behind_of}
use Rattle.rewriting.proofs.Firsts.{written_closed}
use Rattle.rewriting.proofs.Parts.{at_new, at_old, equal_apart, equal_refl, equal_true}
use Rattle.rewriting.proofs.Places.{nothing}
use Rattle.rewriting.proofs.Shares.{quotient_times}
use Rattle.rewriting.proofs.Tidies.{all_without, behind_each, divided_some, part_all, up_to_some}

-- what a new order has
or_swap : (x y z : Bool) → (x || (y || z)) ≡ (y || (x || z))
or_swap true true z = refl
or_swap true false z = refl
or_swap false true z = refl
or_swap false false z = refl

has_put : (named : ℕ → Bool) (p : ℕ) (es : List ℕ) (k : ℕ) → has (put named p es) k ≡ (equal k p || has es k)
has_put named p [] k = refl
has_put named p (e ∷ es) k = go (named e) (has_put named p es k)
  where
    go : (b : Bool) → has (put named p es) k ≡ (equal k p || has es k) → has (cond b (p ∷ e ∷ es) (e ∷ put named p es)) k ≡ (equal k p || (equal k e || has es k))
    go true h = refl
    go false h = ap (λ (v : Bool). equal k e || v) h ∙ or_swap (equal k e) (equal k p) (has es k)

apart_put : (named : ℕ → Bool) (p : ℕ) (es : List ℕ) → AllByRecursion (λ (e : ℕ). e < p) es → Apart es → Apart (put named p es)
apart_put named p [] l a = (refl, tt)
apart_put named p (e ∷ es) l a = go (named e) (apart_put named p es l.1 a.1)
  where
    none : (xs : List ℕ) → AllByRecursion (λ (x : ℕ). x < p) xs → has xs p ≡ false
    none [] h = refl
    none (x ∷ xs) h = or_from _ _ (equal_apart p x (λ q. omega (arith, h.0))) (none xs h.1)

    go : (b : Bool) → Apart (put named p es) → Apart (cond b (p ∷ e ∷ es) (e ∷ put named p es))
    go true r = (none (e ∷ es) l, a)
    go false r = (has_put named p es e ∙ or_from _ _ (equal_apart e p (λ q. omega (arith, l.0))) a.0, r)

all_put : (P : ℕ → Type 0) (named : ℕ → Bool) (p : ℕ) (es : List ℕ) → P p → AllByRecursion P es → AllByRecursion P (put named p es)
all_put P named p [] h a = (h, tt)
all_put P named p (e ∷ es) h a = go (named e) (all_put P named p es h a.1)
  where
    go : (b : Bool) → AllByRecursion P (put named p es) → AllByRecursion P (cond b (p ∷ e ∷ es) (e ∷ put named p es))
    go true r = (h, a)
    go false r = (a.0, r)

abbrev Within : List ℕ → List ℕ → Type 0
Within seen seen' = (l : ℕ) → has seen l ≡ true → has seen' l ≡ true

made_more : (seen seen' : List ℕ) → Within seen seen' → (r : Row) → MadeOf seen r → MadeOf seen' r
made_more seen seen' w r m l h k = ⊎_elim (λ e. inl e) (λ e. inr (w l e)) (m l h k)

within_more : (seen seen' : List ℕ) (e : ℕ) → Within seen seen' → Within (e ∷ seen) (e ∷ seen')
within_more seen seen' e w l h = ⊎_elim (λ q. or_left (equal l e) _ q) (λ q. or_right (equal l e) _ (w l q)) (or_cases (equal l e) (has seen l) h)

-- a style with one part more, its part put before the first expression that it was taken from
module _ (s : Style) (next : ℕ → List Row) (part : List Row) (named : ℕ → Bool)
    (apart : (e : ℕ) (seen : List ℕ) → e < standing s → named e ≡ false → AllByRecursion (MadeOf seen) (s.expression e) → AllByRecursion (MadeOf seen) (next e))
    (with : (e : ℕ) (seen : List ℕ) → e < standing s → has seen (standing s) ≡ true → AllByRecursion (MadeOf seen) (s.expression e) → AllByRecursion (MadeOf seen) (next e))
    (here : (e : ℕ) (seen : List ℕ) → e < standing s → named e ≡ true → AllByRecursion (MadeOf seen) (s.expression e) → AllByRecursion (MadeOf seen) part) where
  abbrev p : ℕ
  p = standing s

  abbrev new : ℕ → List Row
  new = (with_part s next part).expression

  old_is : (e : ℕ) (seen : List ℕ) → e < standing s → AllByRecursion (MadeOf seen) (next e) → AllByRecursion (MadeOf seen) (new e)
  old_is e seen l = subst (AllByRecursion (MadeOf seen)) (sym (at_old s next part (λ x. x) e l))

  -- past the part
  past : (es seen seen' : List ℕ) → AllByRecursion (λ (e : ℕ). e < p) es → Within seen seen' → has seen' p ≡ true → Backwards s.expression seen es → Backwards new seen' es
  past [] seen seen' l w h b = tt
  past (e ∷ es) seen seen' l w h b = (
    old_is e seen' l.0 (with e seen' l.0 h (All-weaker _ _ (made_more seen seen' w) (s.expression e) b.0)),
    past es (e ∷ seen) (e ∷ seen') l.1 (within_more seen seen' e w) (or_right (equal p e) _ h) b.1,
  )

  -- up to it
  upto : (es seen : List ℕ) → AllByRecursion (λ (e : ℕ). e < p) es → (k : ℕ) → has es k ≡ true → named k ≡ true → Backwards s.expression seen es → Backwards new seen (put named p es)
  upto [] seen l k h n b = absurd (cc)
  upto (e ∷ es) seen l k h n b = go (named e) refl (λ q. upto es (e ∷ seen) l.1 k q n b.1)
    where
      go : (v : Bool) → named e ≡ v → (has es k ≡ true → Backwards new (e ∷ seen) (put named p es)) → Backwards new seen (cond v (p ∷ e ∷ es) (e ∷ put named p es))
      go true q r = (
        subst (AllByRecursion (MadeOf seen)) (sym (at_new s next part (λ x. x))) (here e seen l.0 q b.0),
        past (e ∷ es) seen (p ∷ seen) l (λ m t. or_right (equal m p) _ t) (or_left (equal p p) _ (equal_refl p)) b,
      )
      go false q r = (
        old_is e seen l.0 (apart e seen l.0 q b.0),
        r (⊎_elim (λ t. absurd (both_ways (named k) (ap named (equal_true k e t) ∙ q) n)) (λ t. t) (or_cases (equal k e) (has es k) h)),
      )

  ordered_with : (order : List ℕ) → Ordered s order → (k : ℕ) → k < p → named k ≡ true → Ordered (with_part s next part) (put named p order)
  ordered_with order o k l n = record {
    once = apart_put named p order o.stand o.once;
    there = λ e m. has_put named p order e ∙ ⊎_elim (λ q. or_left _ (has order e) (ap (λ (x : ℕ). equal x p) q ∙ equal_refl p)) (λ q. or_right (equal e p) _ (o.there e (omega arith))) (cases_eq e p);
    stand = all_put _ named p order (omega arith) (All-weaker _ _ (λ e m. omega arith) order o.stand);
    backwards = upto order [] o.stand k (o.there k l) n o.backwards;
  }

-- factor
module _ (s : Style) (columns : List Row) (taken : List Taken) (k : Takes s columns taken) where
  abbrev next : ℕ → List Row
  next e = rewritten (standing s) columns (taken_in e taken) (s.expression e)

  -- co-kernel and column have only letters of the row behind
  behind_made : (e : ℕ) (seen : List ℕ) → AllByRecursion (MadeOf seen) (s.expression e) → (c : Powers) (ks : List ℕ) → Behind (s.expression e) c ks columns
      → AllByRecursion (λ (col : Row). (l : ℕ) → 16 ≤ l → l < letters → (c l + col.cube l ≡ 0) ⊎ (has seen l ≡ true)) columns
  behind_made e seen m c ks b =
      behind_each (s.expression e) c _ (λ n h col a l g q. ⊎_elim (λ z. inl (sym (a.cubes l q) ∙ z)) (λ z. inr z) (All-get_or (MadeOf seen) (s.expression e) n nothing h m l g q)) ks columns b

  factor_apart : (e : ℕ) (seen : List ℕ) → e < standing s → factored_from taken e ≡ false → AllByRecursion (MadeOf seen) (s.expression e) → AllByRecursion (MadeOf seen) (next e)
  factor_apart e seen l n m =
      All-append (MadeOf seen) (without (has (covered (taken_in e taken))) (s.expression e)) _ (all_without _ _ (s.expression e) m)
      (subst (λ (ts : List Taken). AllByRecursion (MadeOf seen) (map (stand_in (standing s) columns) ts)) (sym (none taken n)) tt)
    where
      none : (ts : List Taken) → factored_from ts e ≡ false → taken_in e ts ≡ []
      none [] h = refl
      none (t ∷ ts) h =
          let q = or_parts (equal e t.expression) (factored_from ts e) h in
          ap (λ (b : Bool). cond b (t ∷ taken_in e ts) (taken_in e ts)) q.0 ∙ none ts q.1

  factor_with : (e : ℕ) (seen : List ℕ) → e < standing s → has seen (standing s) ≡ true → AllByRecursion (MadeOf seen) (s.expression e) → AllByRecursion (MadeOf seen) (next e)
  factor_with e seen l h m =
      All-append (MadeOf seen) (without (has (covered (taken_in e taken))) (s.expression e)) _ (all_without _ _ (s.expression e) m)
      (All-map (MadeOf seen) (stand_in (standing s) columns) (taken_in e taken) (All-weaker _ _ (λ t b. made t (behind_made e seen m t.co_kernel t.places b)) (taken_in e taken) (behind_of s columns e taken k.behind)))
    where
      made : (t : Taken) → AllByRecursion (λ (col : Row). (l : ℕ) → 16 ≤ l → l < letters → (t.co_kernel l + col.cube l ≡ 0) ⊎ (has seen l ≡ true)) columns → MadeOf seen (stand_in (standing s) columns t)
      made t a j g q = go columns k.two a
        where
          go : (cols : List Row) → 2 ≤ length cols → AllByRecursion (λ (col : Row). (l : ℕ) → 16 ≤ l → l < letters → (t.co_kernel l + col.cube l ≡ 0) ⊎ (has seen l ≡ true)) cols
              → (t.co_kernel j + letter (standing s) j ≡ 0) ⊎ (has seen j ≡ true)
          go [] o b = absurd (omega arith)
          go (x ∷ xs) o b =
              ⊎_elim (λ r. inr (ap (has seen) r ∙ h))
              (λ r. ⊎_elim (λ z. inl (omega (arith, letter_other (standing s) j r))) (λ z. inr z) (b.0 j g q))
              (cases_eq j (standing s))

  factor_here : (e : ℕ) (seen : List ℕ) → e < standing s → factored_from taken e ≡ true → AllByRecursion (MadeOf seen) (s.expression e) → AllByRecursion (MadeOf seen) (part_rows columns)
  factor_here e seen l n m = part_all (MadeOf seen) (λ _ w. w) columns (go taken n k.behind)
    where
      go : (ts : List Taken) → factored_from ts e ≡ true → AllByRecursion (λ (t : Taken). Behind (s.expression t.expression) t.co_kernel t.places columns) ts → AllByRecursion (MadeOf seen) columns
      go [] h b = absurd (cc)
      go (t ∷ ts) h b =
          ⊎_elim
          (λ q. All-weaker _ _ (λ col w j g r. ⊎_elim (λ z. inl (omega arith)) (λ z. inr z) (w j g r)) columns
          (behind_made e seen m t.co_kernel t.places (subst (λ (n : ℕ). Behind (s.expression n) t.co_kernel t.places columns) (sym (equal_true e t.expression q)) b.0)))
          (λ q. go ts q b.1)
          (or_cases (equal e t.expression) (factored_from ts e) h)

  pub factor_ordered : (order : List ℕ) → Ordered s order → Ordered (factored s columns taken) (put (factored_from taken) (standing s) order)
  factor_ordered order o =
      let f = first taken k.some k.stands in
      ordered_with s next (part_rows columns) (factored_from taken) factor_apart factor_with factor_here order o f.0 f.1 f.2
    where
      first : (ts : List Taken) → 1 ≤ length ts → AllByRecursion (λ (t : Taken). t.expression < standing s) ts → (e : ℕ) × (e < standing s) × (factored_from ts e ≡ true)
      first [] h a = absurd (omega arith)
      first (t ∷ ts) h a = (t.expression, a.0, or_left _ _ (equal_refl t.expression))

pub factor_stays_ordered : FactorStaysOrdered
factor_stays_ordered s columns taken k order o = factor_ordered s columns taken k order o

-- share
module _ (s : Style) (cube : Powers) (k : Shares s cube) where
  share_row : (seen : List ℕ) (r : Row) → (divides_test cube r.cube ≡ false) ⊎ (has seen (standing s) ≡ true) → MadeOf seen r → MadeOf seen (shared_row (standing s) cube r)
  share_row seen r w m l g q = go (divides_test cube r.cube) refl
    where
      go : (b : Bool) → divides_test cube r.cube ≡ b → (cond b (product (quotient r.cube cube) (letter (standing s))) r.cube l ≡ 0) ⊎ (has seen l ≡ true)
      go true e =
          ⊎_elim (λ z. inr (ap (has seen) z ∙ ⊎_elim (λ v. absurd (both_ways (divides_test cube r.cube) v e)) (λ v. v) w))
          (λ z. ⊎_elim (λ v. inl (omega (arith, letter_other (standing s) l z))) (λ v. inr v) (m l g q))
          (cases_eq l (standing s))
      go false e = m l g q

  share_apart : (rows : List Row) (seen : List ℕ) → any_divided cube rows ≡ false → AllByRecursion (MadeOf seen) rows → AllByRecursion (MadeOf seen) (map (shared_row (standing s) cube) rows)
  share_apart [] seen n m = tt
  share_apart (r ∷ rs) seen n m = let q = or_parts (divides_test cube r.cube) (any_divided cube rs) n in (share_row seen r (inl q.0) m.0, share_apart rs seen q.1 m.1)

  share_here : (rows : List Row) (seen : List ℕ) → any_divided cube rows ≡ true → AllByRecursion (MadeOf seen) rows → AllByRecursion (MadeOf seen) (cube_part cube)
  share_here [] seen n m = absurd (cc)
  share_here (r ∷ rs) seen n m =
      ⊎_elim
      (λ q. ((λ l g h. ⊎_elim (λ z. inl (omega (arith, quotient_times r.cube cube q l h))) (λ z. inr z) (m.0 l g h)), tt))
      (λ q. share_here rs seen q m.1)
      (or_cases (divides_test cube r.cube) (any_divided cube rs) n)

  any_from : (rows : List Row) (i : ℕ) → i < length rows → divides_test cube (row_in rows i).cube ≡ true → any_divided cube rows ≡ true
  any_from [] i h d = absurd (omega arith)
  any_from (r ∷ rs) zero h d = or_left _ _ d
  any_from (r ∷ rs) (suc i) h d = or_right (divides_test cube r.cube) _ (any_from rs i (omega arith) d)

  pub share_ordered : (order : List ℕ) → Ordered s order → Ordered (shared s cube) (put (shared_from s cube) (standing s) order)
  share_ordered order o =
      let a = up_to_some (λ e. divided cube (s.expression e)) (standing s) (omega (arith, k.rows)) in
      let i = divided_some cube (s.expression a.0) a.2 in
      ordered_with s (λ e. map (shared_row (standing s) cube) (s.expression e)) (cube_part cube) (shared_from s cube)
      (λ e seen l n m. share_apart (s.expression e) seen n m)
      (λ e seen l h m. All-map (MadeOf seen) (shared_row (standing s) cube) (s.expression e) (All-weaker _ _ (λ r w. share_row seen r (inr h) w) (s.expression e) m))
      (λ e seen l n m. share_here (s.expression e) seen n m)
      order o a.0 a.1 (any_from (s.expression a.0) i.0 i.1 i.2)

pub share_stays_ordered : ShareStaysOrdered
share_stays_ordered s cube k order o = share_ordered s cube k order o

-- the formulas, at first
all_count : (n m b : ℕ) → n + m ≤ b → AllByRecursion (λ (e : ℕ). (n ≤ e) × (e < b)) (count_from n m)
all_count n zero b h = tt
all_count n (suc m) b h = ((omega arith, omega arith), All-weaker _ _ (λ e q. (omega arith, q.1)) (count_from (suc n) m) (all_count (suc n) m b (omega arith)))

apart_count : (n m : ℕ) → Apart (count_from n m)
apart_count n zero = tt
apart_count n (suc m) = (none (count_from (suc n) m) (all_count (suc n) m (suc n + m) (omega arith)), apart_count (suc n) m)
  where
    none : (xs : List ℕ) → AllByRecursion (λ (e : ℕ). (suc n ≤ e) × (e < suc n + m)) xs → has xs n ≡ false
    none [] a = refl
    none (x ∷ xs) a = or_from _ _ (equal_apart n x (λ q. omega (arith, a.0.0))) (none xs a.1)

has_count : (n m e : ℕ) → n ≤ e → e < n + m → has (count_from n m) e ≡ true
has_count n zero e h l = absurd (omega arith)
has_count n (suc m) e h l = ⊎_elim (λ q. or_left _ _ (ap (λ (x : ℕ). equal x n) q ∙ equal_refl n)) (λ q. or_right (equal e n) _ (has_count (suc n) m e (omega arith) (omega arith))) (cases_eq e n)

pub first_ordered : FirstOrdered
first_ordered s bare z = record {
  once = apart_count 0 16;
  there = λ e l. has_count 0 16 e (omega arith) (omega arith);
  stand = All-weaker (λ (e : ℕ). (0 ≤ e) × (e < 16)) (λ (e : ℕ). e < standing s) (λ e q. omega (arith, q.1)) first_order (all_count 0 16 16 (omega arith));
  backwards = go first_order [] (All-weaker (λ (e : ℕ). (0 ≤ e) × (e < 16)) (λ (e : ℕ). e < standing s) (λ e q. omega (arith, q.1)) first_order (all_count 0 16 16 (omega arith)));
}
  where
    go : (es seen : List ℕ) → AllByRecursion (λ (e : ℕ). e < standing s) es → Backwards s.expression seen es
    go [] seen a = tt
    go (e ∷ es) seen a = (All-weaker (Below (standing s)) (MadeOf seen) (λ r b l h q. inl (b l (omega arith) q)) (s.expression e) (z.tidy e a.0).known, go es (e ∷ seen) a.1)

pub written_ordered : WrittenOrdered
written_ordered offered = first_ordered (written (accepted offered)) refl (written_closed offered)

-- along presses
pub ordered_like : (s s' : Style) → Like s s' → (order : List ℕ) → Ordered s order → Ordered s' order
ordered_like s s' k order o = record {
  once = o.once;
  there = λ e l. o.there e (omega (arith, k.parts));
  stand = All-weaker (λ (e : ℕ). e < standing s) (λ (e : ℕ). e < standing s') (λ e l. omega (arith, k.parts)) order o.stand;
  backwards = go order [] o.stand o.backwards;
}
  where
    go : (es seen : List ℕ) → AllByRecursion (λ (e : ℕ). e < standing s) es → Backwards s.expression seen es → Backwards s'.expression seen es
    go [] seen a b = tt
    go (e ∷ es) seen a b = (
      all_alike (MadeOf seen) (λ r x h m l g q. ⊎_elim (λ z. inl (sym (h.cubes l q) ∙ z)) (λ z. inr z) (m l g q)) (s.expression e) (s'.expression e) (k.rows e a.0) b.0,
      go es (e ∷ seen) a.1 b.1,
    )

press_ordered : {s s' : Style} {m a : ℕ} → Press s s' m a → (order : List ℕ) → Ordered s order → (order' : List ℕ) × Ordered s' order'
press_ordered {s} {s'} (by_factor columns taken k d l) order o = (_, ordered_like (factored s columns taken) s' l _ (factor_ordered s columns taken k order o))
press_ordered {s} {s'} (by_share cube k l) order o = (_, ordered_like (shared s cube) s' l _ (share_ordered s cube k order o))

presses_ordered : {s s' : Style} {m a : ℕ} → Presses s s' m a → (order : List ℕ) → Ordered s order → (order' : List ℕ) × Ordered s' order'
presses_ordered none order o = (order, o)
presses_ordered (more p ps) order o = let q = press_ordered p order o in presses_ordered ps q.0 q.1

pub presses_stay_ordered : PressesStayOrdered
presses_stay_ordered s s' m a p order o = presses_ordered p order o
