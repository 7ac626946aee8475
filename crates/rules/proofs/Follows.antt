-- What follows from the rules: accepted calls are presses, and lead from sound tables to sound tables.
use Rattle.std.proofs.Common.{◌≡◌, ℕ, ◌+◌, ◌<◌, List, [], ◌∷◌, length, take, sym, subst, subst₂, add-zero, arith, length-take}
use Rattle.std.specs.List.{AllByRecursion}
use Rattle.std.proofs.ByRecursion.{All-append, All-from_get_or, All-map, All-weaker}
use Rattle.algebra.specs.Cubes.{letters}
use Rattle.cubes.specs.declared.expression.Expression.{Expression}
use Rattle.cubes.specs.Powers.{power}
use Rattle.kernels.specs.declared.kernel.Kernel.{Kernel}
use Rattle.kernels.specs.Joins.{JoinedFrom}
use Rattle.kernels.specs.Kernels.{no_kernel}
use Rattle.rewriting.specs.Choosing.{column_set, factored_with, taken_with}
use Rattle.rewriting.specs.Factor.{additions_saved, multiplications_saved}
use Rattle.rewriting.specs.Order.{Ordered}
use Rattle.rewriting.specs.Presses.{Press, Presses, by_factor, by_share, more, none}
use Rattle.rewriting.specs.Share.{Shares, shared}
use Rattle.rewriting.specs.Styles.{Style, standing}
use Rattle.rewriting.specs.Taking.{Kernel as Name}
use Rattle.rewriting.proofs.Chains.{presses_lower}
use Rattle.rewriting.proofs.Chosen.{candidates_fair}
use Rattle.rewriting.proofs.Orders.{factor_stays_ordered, ordered_like, share_stays_ordered}
use Rattle.rewriting.proofs.Paired.{pair_shares}
use Rattle.rewriting.proofs.Reached.{presses_stay_closed}
use Rattle.rewriting.proofs.Savings.{factor_saves}
use Rattle.table.specs.declared.table.Table.{Table}
use Rattle.table.specs.Of.{order_of, standing_in, style_of}
use Rattle.table.specs.Sound.{Sound}
use Rattle.rules.specs.declared.answers.FactorAnswer.{FactorAnswer}
use Rattle.rules.specs.declared.answers.ShareAnswer.{ShareAnswer}
use Rattle.rules.specs.Calls.{FactorMade, KernelsOf, ShareMade, named}

-- the kernels of a list are of the expressions that it goes through
joined_stand : (n : ℕ) (es : List Expression) (xs : List Kernel) → JoinedFrom n es xs → AllByRecursion (λ (x : Kernel). x.expression < n + length es) xs
joined_stand n [] xs j = subst (AllByRecursion (λ (x : Kernel). x.expression < n + 0)) (sym j) tt
joined_stand n (e ∷ es) xs j =
    let ys = j.0 in
    let zs = j.1 in
    let first : AllByRecursion (λ (x : Kernel). x.expression < n + length (e ∷ es)) ys =
    All-from_get_or (λ (x : Kernel). x.expression < n + length (e ∷ es)) ys no_kernel (λ i l. omega (arith, (j.2.sound i l).number))
    in
    let rest : AllByRecursion (λ (x : Kernel). x.expression < n + length (e ∷ es)) zs =
    All-weaker (λ (x : Kernel). x.expression < (n + 1) + length es) (λ (x : Kernel). x.expression < n + length (e ∷ es)) (λ x h. omega arith) zs (joined_stand (n + 1) es zs j.3)
    in
    subst (AllByRecursion (λ (x : Kernel). x.expression < n + length (e ∷ es))) (sym j.4) (All-append (λ (x : Kernel). x.expression < n + length (e ∷ es)) ys zs first rest)

pub kernels_stand : (t : Table) (xs : List Kernel) → KernelsOf t xs → AllByRecursion (λ (k : Name). k.expression < standing (style_of t)) (named xs)
kernels_stand t xs j =
    All-map (λ (k : Name). k.expression < standing (style_of t)) (λ (x : Kernel). record { expression = x.expression; co_kernel = power x.cokernel }) xs
    (All-weaker _ (λ (x : Kernel). x.expression < standing (style_of t)) (λ x h. omega (arith, length-take (standing_in t) t.expressions)) xs (joined_stand 0 (take (standing_in t) t.expressions) xs j))

-- one press, as presses
one_press : {s s' : Style} {m a : ℕ} → Press s s' m a → Presses s s' m a
one_press {s} {s'} {m} {a} p = subst₂ (Presses s s') (add-zero m) (add-zero a) (more p none)

-- a press to a table whose order is a making order leads to a sound table
press_sound : (t t' : Table) (m a : ℕ) → Sound t → Press (style_of t) (style_of t') m a → Ordered (style_of t') (order_of t') → Sound t'
press_sound t t' m a z p o =
    let lower = presses_lower (style_of t) (style_of t') m a (one_press p) in
    record {
      closed = presses_stay_closed (style_of t) (style_of t') m a (one_press p) z.closed;
      ordered = o;
      cheap = omega (arith, lower.fewer_multiplications, lower.fewer_additions, lower.as_many_negations, z.cheap);
    }

-- what a call that makes a part leads to
pub record Onward (t t' : Table) (m a : ℕ) : Type 0 where
  pub press : Press (style_of t) (style_of t') m a
  pub sound : Sound t'

module _ (w : ℕ) (t t' : Table) (xs : List Kernel) (a : FactorAnswer) (z : Sound t) (left : t.parts < 16) (j : KernelsOf t xs) (f : FactorMade w t xs a t') where
  pub factor_onward : Onward t t' a.multiplications a.additions
  factor_onward =
      let s = style_of t in
      let room : standing s < letters = omega arith in
      let fair = candidates_fair s (named xs) z.closed room (kernels_stand t xs j) f.place f.set f.best.candidate in
      let saves = (factor_saves s (column_set s (named xs) f.place f.set) (taken_with s (named xs) f.place f.set) fair.takes fair.apart).lowers in
      let p : Press s (style_of t') a.multiplications a.additions =
      subst₂ (Press s (style_of t'))
      (let e : multiplications_saved (column_set s (named xs) f.place f.set) (taken_with s (named xs) f.place f.set) ≡ a.multiplications = omega (arith, saves.fewer_multiplications, f.fewer_multiplications) in e)
      (let e : additions_saved (column_set s (named xs) f.place f.set) (taken_with s (named xs) f.place f.set) ≡ a.additions = omega (arith, saves.fewer_additions, f.fewer_additions) in e)
      (by_factor (column_set s (named xs) f.place f.set) (taken_with s (named xs) f.place f.set) fair.takes fair.apart f.style)
      in
      record {
        press = p;
        sound = press_sound t t' a.multiplications a.additions z p
            (subst (Ordered (style_of t')) (sym f.order)
            (ordered_like (factored_with s (named xs) f.place f.set) (style_of t') f.style _
            (factor_stays_ordered s (column_set s (named xs) f.place f.set) (taken_with s (named xs) f.place f.set) fair.takes (order_of t) z.ordered)));
      }

module _ (t t' : Table) (a : ShareAnswer) (z : Sound t) (left : t.parts < 16) (f : ShareMade t a t') where
  pub share_onward : Onward t t' a.multiplications 0
  share_onward =
      let s = style_of t in
      let cube = f.cube in
      let room : standing s < letters = omega arith in
      let takes : Shares s cube = pair_shares s f.first f.second cube room f.best.pair f.greatest in
      let p : Press s (style_of t') a.multiplications 0 = subst (λ (m : ℕ). Press s (style_of t') m 0) (sym f.fewer_multiplications) (by_share cube takes f.style) in
      record {
        press = p;
        sound = press_sound t t' a.multiplications 0 z p
            (subst (Ordered (style_of t')) (sym f.order)
            (ordered_like (shared s cube) (style_of t') f.style _ (share_stays_ordered s cube takes (order_of t) z.ordered)));
      }
