-- The kernels of several expressions in one list.
use Rattle.std.specs.Prelude.{◌≡◌, ℕ, ◌+◌, List, [], ◌∷◌, ◌++◌}
use Rattle.cubes.specs.declared.expression.Expression.{Expression}
use Rattle.cubes.specs.Expressions.{rows_of}
use Rattle.kernels.specs.declared.kernel.Kernel.{Kernel}
use Rattle.kernels.specs.Kernels.{KernelList, Alike}

-- xs is the list of the first expression's kernels, then the second's, and so on; the first has the number n
abbrev pub JoinedFrom : ℕ → List Expression → List Kernel → Type 0
JoinedFrom n [] xs = xs ≡ []
JoinedFrom n (e ∷ es) xs =
    (ys : List Kernel) × (zs : List Kernel) × KernelList n (rows_of e) ys × JoinedFrom (n + 1) es zs × (xs ≡ ys ++ zs)

abbrev pub Joined : List Expression → List Kernel → Type 0
Joined es xs = JoinedFrom 0 es xs

abbrev pub OneJoinedList : Type 0
OneJoinedList = (es : List Expression) (xs ys : List Kernel) → Joined es xs → Joined es ys → Alike xs ys
