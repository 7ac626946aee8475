-- A part at the place of its first source.
use Rattle.std.proofs.Common.{◌≡◌, ℕ, ◌<◌, Bool, ◌⊎◌, List, length, Some, None, Option, sym, ap, ◌∙◌, ⊎_elim, arith}
use Rattle.std.proofs.lemmas.List.{length-take-le}
use Rattle.std.specs.List.{insert, position}
use Rattle.std.specs.Option.{unwrap_or}
use Rattle.cubes.specs.declared.row.Row.{Row}
use Rattle.table.specs.declared.table.Table.{Table}
use Rattle.table.specs.Adding.{AddsPart, AddsPartAt}
use Rattle.table.specs.Of.{order_of, standing_in}
use Rattle.table.proofs.Puts.{place_within, put_at}

module _ (named : ℕ → Bool) (part : List Row) (t : Table) (at : ℕ) where
  standing : standing_in t ≡ length (order_of t)
  standing = sym (length-take-le (standing_in t) t.order (omega (arith, t.few, t.places)))

  -- at the first place in the order that is named, or last
  pub part_added : (r : Option Table) → at ≡ unwrap_or (position named (order_of t)) (standing_in t)
      → elim r as (λ _. Type 0) [ Some u ↦ AddsPartAt at part t u | None ↦ (t.parts ≡ 16) ⊎ (standing_in t < at) ]
      → elim r as (λ _. Type 0) [ Some u ↦ AddsPart named part t u | None ↦ t.parts ≡ 16 ]
  part_added None is h = ⊎_elim (λ e. e) (λ l. absurd (omega (arith, l, is, place_within named (standing_in t) (order_of t) standing, standing))) h
  part_added (Some u) is a = record {
    room = a.room;
    rows = a.rows;
    part_rows = a.part_rows;
    numerals = a.numerals;
    parts = a.parts;
    order = a.order ∙ ap (λ (k : ℕ). insert (order_of t) k (standing_in t)) is ∙ put_at named (standing_in t) (standing_in t) (order_of t) standing;
  }
