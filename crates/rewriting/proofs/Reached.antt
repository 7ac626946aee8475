-- Every style that presses reach is closed.
use Rattle.std.proofs.Common.{◌≡◌, ℕ, ◌+◌, ◌<◌, ◌≤◌, Bool, false, cond, List, [], ◌∷◌, ◌++◌, length, sym, ap, ◌∙◌, subst, subst₂, arith}
use Rattle.std.specs.List.{AllZip, AllByRecursion}
use Rattle.std.proofs.lemmas.List.Elements.{length_all_zip}
use Rattle.std.proofs.lemmas.Bool.{or_parts, both_ways}
use Rattle.algebra.specs.Cubes.{Powers}
use Rattle.algebra.specs.Rows.{Alike, Distinct, Row}
use Rattle.algebra.specs.Sums.{counting}
use Rattle.algebra.proofs.Degrees.{degree_same}
use Rattle.algebra.proofs.Sums.{total_each}
use Rattle.rewriting.specs.Closed.{Below, Closed, Held, Low, Tidy}
use Rattle.rewriting.specs.Factor.{Apart, Behind, Taken, covered, factored, has, taken_in}
use Rattle.rewriting.specs.Presses.{Like, Press, Presses, by_factor, by_share, none, more}
use Rattle.rewriting.specs.Promises.{PressesStayClosed, TakesDistinct}
use Rattle.rewriting.specs.Share.{shared}
use Rattle.rewriting.specs.Styles.{Style, equal, standing}
use Rattle.rewriting.proofs.Parts.{equal_refl}
use Rattle.rewriting.proofs.Places.{Other}
use Rattle.rewriting.proofs.Tidies.{factor_stays_closed, has_parts, one_place, share_stays_closed}

apart_left : (xs ys : List ℕ) → Apart (xs ++ ys) → Apart xs
apart_left [] ys a = tt
apart_left (x ∷ xs) ys a = ((has_parts xs ys x a.0).0, apart_left xs ys a.1)

behind_distinct : (rows : List Row) → Distinct rows → (c : Powers) (ks : List ℕ) (cols : List Row) → Behind rows c ks cols → Apart ks → Distinct cols
behind_distinct rows d c [] [] b a = tt
behind_distinct rows d c [] (col ∷ cols) b a = absurd b
behind_distinct rows d c (k ∷ ks) [] b a = absurd b
behind_distinct rows d c (k ∷ ks) (col ∷ cols) b a = (other ks cols b.1 a.0, behind_distinct rows d c ks cols b.1 a.1)
  where
    other : (js : List ℕ) (xs : List Row) → Behind rows c js xs → has js k ≡ false → AllByRecursion (Other col) xs
    other [] [] e h = tt
    other [] (x ∷ xs) e h = absurd e
    other (j ∷ js) [] e h = absurd e
    other (j ∷ js) (x ∷ xs) e h =
        let t = or_parts (equal k j) (has js k) h in (
          (λ q. both_ways (equal k j) t.0 (ap (equal k) (sym (one_place rows d k j b.0.0 e.0.0 (λ l z. omega (arith, b.0.1.cubes l z, e.0.1.cubes l z, q l z)))) ∙ equal_refl k)),
          other js xs e.1 t.1,
        )

pub takes_distinct : TakesDistinct
takes_distinct s columns taken z k = go taken k.some k.stands k.behind k.once
  where
    go : (ts : List Taken) → 1 ≤ length ts → AllByRecursion (λ (t : Taken). t.expression < standing s) ts
        → AllByRecursion (λ (t : Taken). Behind (s.expression t.expression) t.co_kernel t.places columns) ts
        → ((e : ℕ) → e < standing s → Apart (covered (taken_in e ts))) → Distinct columns
    go [] o st b a = absurd (omega arith)
    go (t ∷ ts) o st b a =
        let e = t.expression in
        let first : taken_in e (t ∷ ts) ≡ t ∷ taken_in e ts = ap (λ (v : Bool). cond v (t ∷ taken_in e ts) (taken_in e ts)) (equal_refl e) in
        behind_distinct (s.expression e) (z.tidy e st.0).apart t.co_kernel t.places columns b.0
        (apart_left t.places (covered (taken_in e ts)) (subst (λ (us : List Taken). Apart (covered us)) first (a e st.0)))

-- likeness
pub all_alike : (P : Row → Type 0) → ((r x : Row) → Alike r x → P r → P x) → (d e : List Row) → AllZip Alike d e → AllByRecursion P d → AllByRecursion P e
all_alike P f [] [] k a = tt
all_alike P f [] (y ∷ ys) k a = absurd k
all_alike P f (x ∷ xs) [] k a = absurd k
all_alike P f (x ∷ xs) (y ∷ ys) k a = (f x y k.0 a.0, all_alike P f xs ys k.1 a.1)

distinct_alike : (d e : List Row) → AllZip Alike d e → Distinct d → Distinct e
distinct_alike [] [] k a = tt
distinct_alike [] (y ∷ ys) k a = absurd k
distinct_alike (x ∷ xs) [] k a = absurd k
distinct_alike (x ∷ xs) (y ∷ ys) k a = (go xs ys k.1 a.0, distinct_alike xs ys k.1 a.1)
  where
    go : (us vs : List Row) → AllZip Alike us vs → AllByRecursion (Other x) us → AllByRecursion (Other y) vs
    go [] [] j b = tt
    go [] (v ∷ vs) j b = absurd j
    go (u ∷ us) [] j b = absurd j
    go (u ∷ us) (v ∷ vs) j b = ((λ q. b.0 (λ l z. k.0.cubes l z ∙ q l z ∙ sym (j.0.cubes l z))), go us vs j.1 b.1)

pub closed_like : (s s' : Style) → Like s s' → Closed s → Closed s'
closed_like s s' k z = record {
  few_parts = omega (arith, k.parts, z.few_parts);
  tidy = λ e l. subst₂ (λ (ns : List ℕ) (n : ℕ). Tidy (length ns) (16 + n) (s'.expression e)) k.numerals k.parts (tidy e (omega (arith, k.parts)));
  positive_parts = λ n l.
      subst (λ (x : ℕ). 1 ≤ x)
      (total_each counting Alike (λ (r : Row). cond r.negative 0 1) (λ r x h. ap (λ (b : Bool). cond b 0 1) h.sign)
      (s.expression (16 + n)) (s'.expression (16 + n)) (k.rows (16 + n) (omega (arith, k.parts))))
      (z.positive_parts n (omega (arith, k.parts)));
}
  where
    tidy : (e : ℕ) → e < standing s → Tidy (length s.numerals) (standing s) (s'.expression e)
    tidy e l =
        let t = z.tidy e l in
        let d = s.expression e in
        let d' = s'.expression e in
        let j = k.rows e l in
        record {
          few = subst (λ (n : ℕ). n ≤ 8) (length_all_zip Alike d d' j) t.few;
          apart = distinct_alike d d' j t.apart;
          known = all_alike (Below (standing s)) (λ r x h b n m q. sym (h.cubes n q) ∙ b n m q) d d' j t.known;
          low = all_alike Low (λ r x h b. subst (λ (n : ℕ). n ≤ 25) (degree_same r.cube x.cube h.cubes) b) d d' j t.low;
          held = all_alike (Held (length s.numerals)) (λ r x h b n m q. sym (h.cubes n (omega arith)) ∙ b n m q) d d' j t.held;
        }

presses_closed : {s s' : Style} {m a : ℕ} → Presses s s' m a → Closed s → Closed s'
presses_closed none z = z
presses_closed (more {s} {s₁} p ps) z = presses_closed ps (one p z)
  where
    one : {r r' : Style} {m a : ℕ} → Press r r' m a → Closed r → Closed r'
    one {r} {r'} (by_factor columns taken k d l) y = closed_like (factored r columns taken) r' l (factor_stays_closed r columns taken k d y)
    one {r} {r'} (by_share cube k l) y = closed_like (shared r cube) r' l (share_stays_closed r cube k y)

pub presses_stay_closed : PressesStayClosed
presses_stay_closed s s' m a p z = presses_closed p z
