-- What follows from the course of a settle.
use Rattle.std.proofs.Common.{◌≡◌, ℕ, ◌+◌, List, take, sym, subst, subst₂, add_assoc, zero-add}
use Rattle.kernels.specs.declared.kernel.Kernel.{Kernel}
use Rattle.rewriting.specs.Presses.{Presses, more, none}
use Rattle.rewriting.specs.Styles.{Style}
use Rattle.rewriting.proofs.Paired.{no_pair_no_cube}
use Rattle.table.specs.declared.table.Table.{Table}
use Rattle.table.specs.Of.{style_of}
use Rattle.table.specs.Sound.{Sound}
use Rattle.rules.specs.declared.answers.SettleAnswer.{SettleAnswer}
use Rattle.rules.specs.declared.refusals.SettleEnd.TheVariants.{NothingLeft}
use Rattle.rules.specs.Calls.{KernelsOf, NothingToFactor}
use Rattle.rules.specs.Settling.{Course, LeavesNothing, Turn, factored, factoring, full_parts, no_cube, no_gain, no_part, shared, sharing, short_list}
use Rattle.rules.proofs.Follows.{factor_onward, share_onward}

pub presses_then : {r r₁ r₂ : Style} {k b k' b' : ℕ} → Presses r r₁ k b → Presses r₁ r₂ k' b' → Presses r r₂ (k + k') (b + b')
presses_then {r} {r₂} {k'} {b'} none q = subst₂ (Presses r r₂) (sym (zero-add k')) (sym (zero-add b')) q
presses_then {r} {r₂} {k'} {b'} (more {m} {a} {m'} {a'} p ps) q = subst₂ (Presses r r₂) (sym (add_assoc m m' k')) (sym (add_assoc a a' b')) (more p (presses_then ps q))

-- a course of presses, and a sound table
pub record CoursesOnward (t t' : Table) (m a : ℕ) : Type 0 where
  pub presses : Presses (style_of t) (style_of t') m a
  pub sound : Sound t'

pub stays : (t t' : Table) → t' ≡ t → Sound t → CoursesOnward t t' 0 0
stays t t' e z = subst (λ (u : Table). CoursesOnward t u 0 0) (sym e) (record { presses = none; sound = z })

pub course_onward : (w : ℕ) {turn : Turn} {t t' : Table} {l l' : List Kernel} {r : SettleAnswer} → Course w turn t l r t' l' → Sound t
    → CoursesOnward t t' r.multiplications r.additions
course_onward w (factored {t} {t₁} {t'} {l} {l₁} {l'} {a} {r} f c) z =
    let one = factor_onward w t t₁ (take f.2.0 l₁) a z f.1 f.2.1.listed f.2.2 in
    let rest = course_onward w c one.sound in
    record { presses = more one.press rest.presses; sound = rest.sound }
course_onward w (no_gain {t} {t₁} {t'} {l} {l₁} {l'} {r} f c) z =
    let rest = course_onward w c (subst Sound (sym f.0) z) in
    record { presses = subst (λ (u : Table). Presses (style_of u) (style_of t') r.multiplications r.additions) f.0 rest.presses; sound = rest.sound }
course_onward w (short_list {t} {t₁} f) z = stays t t₁ f.0 z
course_onward w (full_parts {t} {t₁} f) z = stays t t₁ f.0 z
course_onward w (shared {t} {t₁} {t'} {l} {l'} {a} {r} f c) z =
    let one = share_onward t t₁ a z f.0 f.1 in
    let rest = course_onward w c one.sound in
    record { presses = subst (λ (n : ℕ). Presses (style_of t) (style_of t') (a.multiplications + r.multiplications) n) (zero-add r.additions) (more one.press rest.presses); sound = rest.sound }
course_onward w (no_part {t} {t₁} f) z = stays t t₁ f.0 z
course_onward w (no_cube {t} {t₁} f) z = stays t t₁ f.0 z

-- the kernels of a table, of which no set saves anything
pub record NoFactor (w : ℕ) (t : Table) : Type 0 where
  pub kernels : List Kernel
  pub are : KernelsOf t kernels
  pub no_set : NothingToFactor w t kernels

-- a turn to share follows a factor that found nothing
abbrev pub Turned : ℕ → Table → Turn → Type 0
Turned w t factoring = Unit {0}
Turned w t sharing = NoFactor w t

-- a course that ends with 12 leaves nothing to save
pub course_left : (w : ℕ) {turn : Turn} {t t' : Table} {l l' : List Kernel} {r : SettleAnswer} → Course w turn t l r t' l' → Turned w t turn → r.end ≡ NothingLeft
    → LeavesNothing w t'
course_left w (factored f c) k e = course_left w c tt e
course_left w (no_gain {t} {t₁} {t'} {l} {l₁} f c) k e =
    course_left w c (subst (NoFactor w) (sym f.0) (record { kernels = take f.1.2.0 l₁; are = f.1.2.1.listed; no_set = f.1.2.2 })) e
course_left w (short_list f) k e = absurd (cc)
course_left w (full_parts f) k e = absurd (cc)
course_left w (shared f c) k e = course_left w c tt e
course_left w (no_part f) k e = absurd (cc)
course_left w (no_cube {t} {t₁} f) k e =
    subst (LeavesNothing w) (sym f.0) (record { kernels = k.kernels; are = k.are; no_set = k.no_set; no_cube = no_pair_no_cube (style_of t) f.1.1 })
