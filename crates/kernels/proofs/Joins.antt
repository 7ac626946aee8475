-- The lists of several expressions, one behind the other.
use Rattle.std.proofs.Common.{◌≡◌, ℕ, ◌+◌, ◌-◌, ◌<◌, List, [], ◌∷◌, ◌++◌, length, get_or, take, sym, refl, ap, ◌∙◌, subst, inl, inr, arith}
use Rattle.std.proofs.lemmas.List.{append-nil, append_assoc, length-append, get_or_append_left, get_or-append_right, take_more, length-take-le}
use Rattle.std.proofs.lemmas.Bool.{cases_lt}
use Rattle.cubes.specs.declared.expression.Expression.{Expression}
use Rattle.cubes.specs.Expressions.{rows_of}
use Rattle.kernels.specs.declared.kernel.Kernel.{Kernel}
use Rattle.kernels.specs.Joins.{JoinedFrom, OneJoinedList}
use Rattle.kernels.specs.Kernels.{no_kernel, KernelList, SameKernel, Alike}
use Rattle.kernels.proofs.Uniques.{one_list}

-- the list of one expression more
pub joined_push : (n : ℕ) (es : List Expression) (e : Expression) (xs ys : List Kernel)
    → JoinedFrom n es xs → KernelList (n + length es) (rows_of e) ys → JoinedFrom n (es ++ (e ∷ [])) (xs ++ ys)
joined_push n [] e xs ys j k =
    (ys, [], subst (λ m. KernelList m (rows_of e) ys) (let z : n + 0 ≡ n = omega arith in z) k, refl, ap (λ t. t ++ ys) j ∙ sym (append-nil ys))
joined_push n (d ∷ es) e xs ys j k = (
  j.0,
  j.1 ++ ys,
  j.2,
  joined_push (n + 1) es e j.1 ys j.3
      (subst (λ m. KernelList m (rows_of e) ys) (let z : n + length (d ∷ es) ≡ n + 1 + length es = omega arith in z) k),
  ap (λ t. t ++ ys) j.4 ∙ append_assoc j.0 j.1 ys,
)

alike_join : (xs ys zs ws : List Kernel) → Alike xs ys → Alike zs ws → Alike (xs ++ zs) (ys ++ ws)
alike_join xs ys zs ws f g = (
  omega (arith, length-append xs zs, length-append ys ws, f.0, g.0),
  λ a h. elim (cases_lt a (length xs)) [
    | inl lt ↦
        let in_ys : a < length ys = omega (arith, f.0) in
        subst (λ x. SameKernel x (get_or (ys ++ ws) a no_kernel)) (sym (get_or_append_left xs zs no_kernel a lt))
        (subst (SameKernel (get_or xs a no_kernel)) (sym (get_or_append_left ys ws no_kernel a in_ys)) (f.1 a lt))
    | inr ge ↦
        subst (λ x. SameKernel x (get_or (ys ++ ws) a no_kernel)) (sym (get_or-append_right xs zs (length xs) a no_kernel refl ge))
        (subst (SameKernel (get_or zs (a - length xs) no_kernel)) (sym (get_or-append_right ys ws (length xs) a no_kernel (sym f.0) ge))
        (g.1 (a - length xs) (omega (arith, length-append xs zs))))
  ],
)

pub alike_from : (n : ℕ) (es : List Expression) (xs ys : List Kernel) → JoinedFrom n es xs → JoinedFrom n es ys → Alike xs ys
alike_from n [] xs ys f g = (ap length (f ∙ sym g), λ a h. absurd (omega (arith, ap length f)))
alike_from n (e ∷ es) xs ys f g =
    subst (λ t. Alike t ys) (sym f.4)
    (subst (Alike (f.0 ++ f.1)) (sym g.4)
    (alike_join f.0 g.0 f.1 g.1 (one_list n (rows_of e) f.0 g.0 f.2 g.2) (alike_from (n + 1) es f.1 g.1 f.3 g.3)))

pub one_joined_list : OneJoinedList
one_joined_list es xs ys f g = alike_from 0 es xs ys f g

-- the expression at the place k is next
pub joined_more : (n : ℕ) (es : List Expression) (k : ℕ) (e : Expression) (xs ys : List Kernel) → k < length es → e ≡ get_or es k e
    → JoinedFrom n (take k es) xs → KernelList (n + k) (rows_of e) ys → JoinedFrom n (take (k + 1) es) (xs ++ ys)
joined_more n es k e xs ys lt is j h =
    let more : take (k + 1) es ≡ take k es ++ (e ∷ []) = take_more es k e lt ∙ ap (λ x. take k es ++ (x ∷ [])) (sym is) in
    let number : n + k ≡ n + length (take k es) = omega (arith, length-take-le k es (omega arith)) in
    subst (λ t. JoinedFrom n t (xs ++ ys)) (sym more)
    (joined_push n (take k es) e xs ys j (subst (λ m. KernelList m (rows_of e) ys) number h))
