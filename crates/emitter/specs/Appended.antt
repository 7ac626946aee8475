-- A draft, and the steps that are written behind those it has.
use Rattle.std.specs.Prelude.{◌≡◌, ℕ, ◌+◌, ◌≤◌, List, ◌++◌, length, take, drop, min, vec_items}
use Rattle.sheet.specs.declared.step.Step.{Step}
use Rattle.emitter.specs.declared.draft.Draft.{Draft}

-- the places that are written and those that are not yet
abbrev pub places : Draft → List Step
places d = vec_items d.steps

-- n steps more have a place in the buffer, and stand among the steps that a sheet has at most
abbrev pub HasRoom : Draft → ℕ → Type 0
HasRoom d n = d.next + n ≤ min 2000 (length (places d))

-- the steps `xs` stand behind those of `old`; the places behind are as they were
pub record Appended (old : Draft) (xs : List Step) (new : Draft) : Type 0 where
  pub next : new.next ≡ old.next + length xs
  pub front : take new.next (places new) ≡ take old.next (places old) ++ xs
  pub behind : drop new.next (places new) ≡ drop new.next (places old)
  pub long : length (places new) ≡ length (places old)
