-- The theorems, as the contracts name them.
use Rattle.std.specs.Prelude.{◌≡◌, ℕ, ◌+◌, ◌<◌, ◌≤◌, List, length}
use Rattle.std.specs.List.{AllByRecursion}
use Rattle.ring.specs.Ring.{CommRing}
use Rattle.algebra.specs.Counts.{additions, multiplications, negations}
use Rattle.algebra.specs.Cubes.{Powers, letters}
use Rattle.algebra.specs.Rows.{Distinct, Row}
use Rattle.algebra.specs.Worth.{worth}
use Rattle.rewriting.specs.Book.{Term, accepted, formula_value, under, written}
use Rattle.rewriting.specs.Choosing.{Candidate, column_set, factored_with, reckoned, saving, taken_with}
use Rattle.rewriting.specs.Closed.{Closed}
use Rattle.rewriting.specs.Factor.{Taken, Takes, additions_saved, factored, multiplications_saved}
use Rattle.rewriting.specs.Order.{Ordered, factored_from, first_order, put, shared_from}
use Rattle.rewriting.specs.Presses.{Presses}
use Rattle.rewriting.specs.Share.{Shares, products_saved, shared}
use Rattle.rewriting.specs.Sharing.{NoPair, NothingShared, Sharing, Spot, shared_cube}
use Rattle.rewriting.specs.Styles.{Fits, Kept, Lowers, Saves, Style, over, standing}
use Rattle.rewriting.specs.Taking.{Kernel, taken_by}

-- Values that fit the style after factor fit the style before it, and every expression that stood is worth the same in both.
abbrev pub FactorKeepsWorth : {S : Type 0} → CommRing S → Type 0
FactorKeepsWorth {S} c =
    (s : Style) (columns : List Row) (taken : List Taken) → Takes s columns taken
    → (measures value : ℕ → S) → Fits c measures value (factored s columns taken) → Kept c measures value s (factored s columns taken)

-- Factor lowers the counts by exactly the savings.
abbrev pub FactorSaves : Type 0
FactorSaves =
    (s : Style) (columns : List Row) (taken : List Taken) → Takes s columns taken → Distinct columns
    → Saves s (factored s columns taken) (multiplications_saved columns taken) (additions_saved columns taken)

-- What a column set takes through a list of kernels is what factor may take, if it takes any.
abbrev pub TakingFits : Type 0
TakingFits =
    (s : Style) (columns : List Row) (kernels : List Kernel) → standing s < letters → 2 ≤ length columns → Distinct columns
    → AllByRecursion (λ (k : Kernel). k.expression < standing s) kernels → 1 ≤ length (taken_by s columns kernels)
    → Takes s columns (taken_by s columns kernels)

-- The same of share: (R - 1)(k - 1) multiplications are saved, where the cube has degree k and divides R rows. That is at least one.
abbrev pub ShareKeepsWorth : {S : Type 0} → CommRing S → Type 0
ShareKeepsWorth {S} c =
    (s : Style) (cube : Powers) → Shares s cube
    → (measures value : ℕ → S) → Fits c measures value (shared s cube) → Kept c measures value s (shared s cube)

abbrev pub ShareSaves : Type 0
ShareSaves = (s : Style) (cube : Powers) → Shares s cube → Saves s (shared s cube) (products_saved s cube) 0 × (1 ≤ products_saved s cube)

-- Factor and share lead from a closed style to a closed style.
abbrev pub FactorStaysClosed : Type 0
FactorStaysClosed = (s : Style) (columns : List Row) (taken : List Taken) → Takes s columns taken → Distinct columns → Closed s → Closed (factored s columns taken)

abbrev pub ShareStaysClosed : Type 0
ShareStaysClosed = (s : Style) (cube : Powers) → Shares s cube → Closed s → Closed (shared s cube)

-- In a closed style the columns that factor takes are distinct.
abbrev pub TakesDistinct : Type 0
TakesDistinct = (s : Style) (columns : List Row) (taken : List Taken) → Closed s → Takes s columns taken → Distinct columns

-- The making order: the formulas while there is no part, and a new part just before the first expression that it was taken from.
abbrev pub FirstOrdered : Type 0
FirstOrdered = (s : Style) → s.parts ≡ 0 → Closed s → Ordered s first_order

abbrev pub FactorStaysOrdered : Type 0
FactorStaysOrdered =
    (s : Style) (columns : List Row) (taken : List Taken) → Takes s columns taken
    → (order : List ℕ) → Ordered s order → Ordered (factored s columns taken) (put (factored_from taken) (standing s) order)

abbrev pub ShareStaysOrdered : Type 0
ShareStaysOrdered =
    (s : Style) (cube : Powers) → Shares s cube
    → (order : List ℕ) → Ordered s order → Ordered (shared s cube) (put (shared_from s cube) (standing s) order)

-- Any number of presses lowers the counts by exactly the summed savings.
abbrev pub PressesLower : Type 0
PressesLower = (s s' : Style) (m a : ℕ) → Presses s s' m a → Lowers s s' m a

-- Values that fit what presses led to fit what they started from, and every expression that stood is worth the same.
abbrev pub PressesKeepWorth : {S : Type 0} → CommRing S → Type 0
PressesKeepWorth {S} c =
    (s s' : Style) (m a : ℕ) → Presses s s' m a → (measures value : ℕ → S) → Fits c measures value s' → Kept c measures value s s'

-- Presses lead from a closed style to closed styles only.
abbrev pub PressesStayClosed : Type 0
PressesStayClosed = (s s' : Style) (m a : ℕ) → Presses s s' m a → Closed s → Closed s'

-- Presses lead from a style with a making order to styles with one.
abbrev pub PressesStayOrdered : Type 0
PressesStayOrdered = (s s' : Style) (m a : ℕ) → Presses s s' m a → (order : List ℕ) → Ordered s order → (order' : List ℕ) × Ordered s' order'

-- The style that the accepted terms make: under values that fit it, each formula is worth the value of its accepted terms.
abbrev pub WrittenWorth : {S : Type 0} → CommRing S → Type 0
WrittenWorth {S} c =
    (offered : List Term) (measures value : ℕ → S) → Fits c measures value (written (accepted offered))
    → (e : ℕ) → worth c value ((written (accepted offered)).expression e) ≡ formula_value c measures (under e (accepted offered))

-- It is closed, and the formulas are its making order.
abbrev pub WrittenClosed : Type 0
WrittenClosed = (offered : List Term) → Closed (written (accepted offered))

abbrev pub WrittenOrdered : Type 0
WrittenOrdered = (offered : List Term) → Ordered (written (accepted offered)) first_order

-- After any number of presses on it, under values that fit what they led to, each formula is worth the value of its accepted terms.
abbrev pub PressesKeepValues : {S : Type 0} → CommRing S → Type 0
PressesKeepValues {S} c =
    (offered : List Term) (s' : Style) (m a : ℕ) → Presses (written (accepted offered)) s' m a
    → (measures value : ℕ → S) → Fits c measures value s'
    → (e : ℕ) → e < 16 → worth c value (s'.expression e) ≡ formula_value c measures (under e (accepted offered))

-- And all counts together are at most two thousand.
abbrev pub TwoThousand : Type 0
TwoThousand =
    (offered : List Term) (s' : Style) (m a : ℕ) → Presses (written (accepted offered)) s' m a
    → over multiplications s' + over additions s' + over negations s' ≤ 2000

-- In a closed style with a letter left, whatever expressions that stand the kernels are of: a column set of one of them takes what factor may
-- take, its columns are distinct, and its saving, counted before and after, is as reckoned. So it is never below zero.
pub record FairCandidate (s : Style) (kernels : List Kernel) (p n : ℕ) : Type 0 where
  pub takes : Takes s (column_set s kernels p n) (taken_with s kernels p n)
  pub apart : Distinct (column_set s kernels p n)
  pub fewer_multiplications : over multiplications (factored_with s kernels p n) ≤ over multiplications s
  pub fewer_additions : over additions (factored_with s kernels p n) ≤ over additions s
  pub reckoned_right : (w : ℕ) → saving w s kernels p n ≡ reckoned w s kernels p n

abbrev pub CandidatesFair : Type 0
CandidatesFair =
    (s : Style) (kernels : List Kernel) → Closed s → standing s < letters → AllByRecursion (λ (k : Kernel). k.expression < standing s) kernels
    → (p n : ℕ) → Candidate s kernels p n → FairCandidate s kernels p n

-- Two rows with a common cube of degree two or more are what share may take; where no two rows have one, no cube of degree two or more divides two rows.
abbrev pub PairsShare : Type 0
PairsShare = (s : Style) (x y : Spot) → standing s < letters → Sharing s x y → Shares s (shared_cube s x y)

abbrev pub NoPairNoCube : Type 0
NoPairNoCube = (s : Style) → NoPair s → NothingShared s
