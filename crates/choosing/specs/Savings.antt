-- What a set of columns saves.
use Rattle.std.specs.Prelude.{ℕ, ◌+◌, ◌-◌, ◌*◌, List, length, sum_by}
use Rattle.choosing.specs.declared.card.Card.{Card}
use Rattle.choosing.specs.declared.column.Column.{Column}
use Rattle.choosing.specs.Taken.{taken, none}

-- the multiplications of a row of degree s: s - 1, or none if s is 0 (algebra's word, which this crate does not stand on)
abbrev pub muls : ℕ → ℕ
muls s = s - 1

-- the multiplications of the rows behind the set in a kernel whose co-kernel has degree k
abbrev pub spent : ℕ → List Column → ℕ
spent k set = sum_by (λ c. muls (k + c.degree)) set

-- the multiplications of the part's rows
abbrev pub inside : List Column → ℕ
inside set = spent 0 set

-- the multiplications of the covered rows, and of what stands for them: the rows co-kernel times part, and the part's own
abbrev pub muls_before : List Column → List Card → ℕ
muls_before set ts = sum_by (λ x. spent x.degree set) ts

abbrev pub muls_after : List Column → List Card → ℕ
muls_after set ts = sum_by (λ x. x.degree) ts + inside set

abbrev pub saved_muls : List Column → List Card → ℕ
saved_muls set ts = muls_before set ts - muls_after set ts

abbrev pub saved_adds : List Column → List Card → ℕ
saved_adds set ts = (length ts - 1) * (length set - 1)

-- the saving of a set among the kernels xs
abbrev pub saving : ℕ → List Card → List Column → ℕ
saving w xs set = w * saved_muls set (taken set none xs) + saved_adds set (taken set none xs)
