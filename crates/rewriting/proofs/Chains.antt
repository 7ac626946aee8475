-- One press after another.
use Rattle.std.proofs.Common.{◌≡◌, ℕ, ◌+◌, ◌<◌, ◌≤◌, List, length, get_or, sym, refl, ap, ◌∙◌, subst, subst₂, add-zero, arith}
use Rattle.std.specs.List.{AllZip}
use Rattle.ring.specs.Ring.{CommRing, ones_sum}
use Rattle.algebra.specs.Counts.{additions, multiplications, negations}
use Rattle.algebra.specs.Rows.{Alike, Row}
use Rattle.algebra.specs.Sums.{counting, up_to}
use Rattle.algebra.specs.Worth.{worth}
use Rattle.algebra.proofs.Sums.{up_to_same}
use Rattle.algebra.proofs.Tallies.{additions_alike, multiplications_alike, negations_alike}
use Rattle.algebra.proofs.Worths.{worth_alike}
use Rattle.rewriting.specs.Factor.{factored}
use Rattle.rewriting.specs.Presses.{Like, Press, Presses, by_factor, by_share, none, more}
use Rattle.rewriting.specs.Promises.{PressesKeepValues, PressesKeepWorth, PressesLower}
use Rattle.rewriting.specs.Share.{shared}
use Rattle.rewriting.specs.Styles.{Fits, Kept, Lowers, Style, over, standing}
use Rattle.rewriting.proofs.Books.{written_worth}
use Rattle.rewriting.proofs.Factors.{factor_keeps_worth}
use Rattle.rewriting.proofs.Savings.{factor_saves}
use Rattle.rewriting.proofs.Shares.{share_keeps_worth, share_saves}

module _ (s s' : Style) (k : Like s s') where
  over_like : (count : List Row → ℕ) → ((d e : List Row) → AllZip Alike d e → count d ≡ count e) → over count s ≡ over count s'
  over_like count h = up_to_same counting (standing s) _ _ (λ e l. h _ _ (k.rows e l)) ∙ ap (λ (n : ℕ). up_to counting (16 + n) (λ e. count (s'.expression e))) k.parts

  pub like_lowers : Lowers s s' 0 0
  like_lowers = record {
    fewer_multiplications = over_like multiplications multiplications_alike ∙ omega arith;
    fewer_additions = over_like additions additions_alike ∙ omega arith;
    negations_stay = λ e l. negations_alike (s.expression e) (s'.expression e) (k.rows e l);
    as_many_negations = over_like negations negations_alike;
  }

  pub like_kept : {S : Type 0} (c : CommRing S) (measures value : ℕ → S) → Fits c measures value s' → Kept c measures value s s'
  like_kept c measures value f = record {
    fits = record {
      set = f.set;
      counted = subst (λ (ns : List ℕ). (n : ℕ) → n < length ns → value (8 + n) ≡ ones_sum c (get_or ns n 0)) (sym k.numerals) f.counted;
      made = λ n l. f.made n (omega (arith, k.parts)) ∙ sym (values (16 + n) (omega arith));
    };
    values = values;
  }
    where
      values : (e : ℕ) → e < standing s → worth c value (s.expression e) ≡ worth c value (s'.expression e)
      values e l = worth_alike c value (s.expression e) (s'.expression e) (k.rows e l)

-- one after the other
kept_then : {S : Type 0} (c : CommRing S) (measures value : ℕ → S) (s s₁ s₂ : Style) → standing s ≤ standing s₁ → Kept c measures value s s₁ → Kept c measures value s₁ s₂ → Kept c measures value s s₂
kept_then c measures value s s₁ s₂ h j k = record { fits = j.fits; values = λ e l. j.values e l ∙ k.values e (omega arith) }

lowers_then : (s s₁ s₂ : Style) (m a m' a' : ℕ) → standing s ≤ standing s₁ → Lowers s s₁ m a → Lowers s₁ s₂ m' a' → Lowers s s₂ (m + m') (a + a')
lowers_then s s₁ s₂ m a m' a' h j k = record {
  fewer_multiplications = omega (arith, j.fewer_multiplications, k.fewer_multiplications);
  fewer_additions = omega (arith, j.fewer_additions, k.fewer_additions);
  negations_stay = λ e l. j.negations_stay e l ∙ k.negations_stay e (omega arith);
  as_many_negations = j.as_many_negations ∙ k.as_many_negations;
}

lowers_like : (s s₁ s₂ : Style) (m a : ℕ) → standing s ≤ standing s₁ → Lowers s s₁ m a → Lowers s₁ s₂ 0 0 → Lowers s s₂ m a
lowers_like s s₁ s₂ m a h j k = subst₂ (Lowers s s₂) (add-zero m) (add-zero a) (lowers_then s s₁ s₂ m a 0 0 h j k)

press_stands : {s s' : Style} {m a : ℕ} → Press s s' m a → standing s ≤ standing s'
press_stands (by_factor columns taken k d l) = omega (arith, l.parts)
press_stands (by_share cube k l) = omega (arith, l.parts)

press_kept : {S : Type 0} (c : CommRing S) (measures value : ℕ → S) {s s' : Style} {m a : ℕ} → Press s s' m a → Fits c measures value s' → Kept c measures value s s'
press_kept c measures value {s} {s'} (by_factor columns taken k d l) f =
    let j = like_kept (factored s columns taken) s' l c measures value f in
    kept_then c measures value s (factored s columns taken) s' (omega arith) (factor_keeps_worth c s columns taken k measures value j.fits) j
press_kept c measures value {s} {s'} (by_share cube k l) f =
    let j = like_kept (shared s cube) s' l c measures value f in
    kept_then c measures value s (shared s cube) s' (omega arith) (share_keeps_worth c s cube k measures value j.fits) j

press_lowers : {s s' : Style} {m a : ℕ} → Press s s' m a → Lowers s s' m a
press_lowers {s} {s'} (by_factor columns taken k d l) =
    lowers_like s (factored s columns taken) s' _ _ (omega arith) (factor_saves s columns taken k d).lowers (like_lowers (factored s columns taken) s' l)
press_lowers {s} {s'} (by_share cube k l) =
    lowers_like s (shared s cube) s' _ _ (omega arith) (share_saves s cube k).0.lowers (like_lowers (shared s cube) s' l)

presses_kept : {S : Type 0} (c : CommRing S) (measures value : ℕ → S) {s s' : Style} {m a : ℕ} → Presses s s' m a → Fits c measures value s' → Kept c measures value s s'
presses_kept c measures value none f = record { fits = f; values = λ e l. refl }
presses_kept c measures value (more {s} {s₁} {s₂} p ps) f =
    let j = presses_kept c measures value ps f in
    kept_then c measures value s s₁ s₂ (press_stands p) (press_kept c measures value p j.fits) j

presses_lowered : {s s' : Style} {m a : ℕ} → Presses s s' m a → Lowers s s' m a
presses_lowered none = record { fewer_multiplications = omega arith; fewer_additions = omega arith; negations_stay = λ e l. refl; as_many_negations = refl }
presses_lowered (more {s} {s₁} {s₂} {m} {a} {m'} {a'} p ps) = lowers_then s s₁ s₂ m a m' a' (press_stands p) (press_lowers p) (presses_lowered ps)

pub presses_lower : PressesLower
presses_lower s s' m a p = presses_lowered p

pub presses_keep_worth : {S : Type 0} (c : CommRing S) → PressesKeepWorth c
presses_keep_worth c s s' m a p measures value f = presses_kept c measures value p f

pub presses_keep_values : {S : Type 0} (c : CommRing S) → PressesKeepValues c
presses_keep_values c offered s' m a p measures value f e l =
    let j = presses_kept c measures value p f in
    sym (j.values e (omega arith)) ∙ written_worth c offered measures value j.fits e
