-- A sheet keeps the rules, as its type has them.
use Rattle.std.proofs.Common.{◌≡◌, ℕ, ◌<◌, ◌≤◌, List, length, get_or, take, sym, ap, ◌∙◌, subst, arith}
use Rattle.std.proofs.lemmas.List.{length-take, length-take-le, get_or-take, get_or_default}
use Rattle.sheet.specs.declared.operand.Operand.{Operand}
use Rattle.sheet.specs.declared.refusal.Refusal.{Refusal}
use Rattle.sheet.specs.declared.refusal.Refusal.TheVariants.{Layout, ShortBuffer, SmallNumeral, IllegalStep, IllegalOutput}
use Rattle.sheet.specs.declared.step.Step.{Step}
use Rattle.sheet.specs.declared.numerals.Numerals.{Numerals}
use Rattle.sheet.specs.declared.sheet.Sheet.{Sheet}
use Rattle.sheet.specs.Legal.{legal_step, LegalSteps, LegalOperands}
use Rattle.sheet.specs.Making.{Broken}
use Rattle.sheet.specs.Numerals.{numerals_list}
use Rattle.sheet.specs.Parts.{sheet_numerals, sheet_steps, sheet_room, sheet_outputs, Lawful}

pub few_numerals : (ns : Numerals) → length (numerals_list ns) ≤ 8
few_numerals ns = let a = ns.values.within in let b = ns.values.places in simp length-take (omega arith)

pub numerals_large : (ns : Numerals) (k d : ℕ) → k < length (numerals_list ns) → 2 ≤ get_or (numerals_list ns) k d
numerals_large ns k d h = subst (λ (n : ℕ). 2 ≤ n) (get_or_default (numerals_list ns) k 0 d h) (ns.large k h)

pub length_steps : (s : Sheet) → length (sheet_steps s) ≡ s.used
length_steps s = length-take-le s.used (sheet_room s) (let a = s.room in let b = s.buffer.ok.0 in omega arith)

-- what is legal among the first n of a list is legal in the list of those
pub legal_take : (held n : ℕ) (xs : List Step) → LegalSteps held n xs → LegalSteps held n (take n xs)
legal_take held n xs legal k d h = ap (legal_step held k) (get_or-take n xs k d h) ∙ legal k d h

-- and what is legal in the list of those is legal among the first n
pub legal_front : (held n : ℕ) (xs : List Step) → n ≤ length xs → LegalSteps held (length (take n xs)) (take n xs) → LegalSteps held n xs
legal_front held n xs few legal k d h =
    let long = length-take-le n xs few in
    ap (legal_step held k) (sym (get_or-take n xs k d h)) ∙ legal k d (omega arith)

pub sheet_lawful : (s : Sheet) → Lawful (sheet_numerals s) (sheet_steps s) (sheet_outputs s)
sheet_lawful s =
    let used : s.used ≡ length (sheet_steps s) = sym (length_steps s) in
    let few_steps : s.used ≤ 2000 = s.few in
    let held = length (sheet_numerals s) in
    record {
      few_numerals = few_numerals s.numerals;
      large = s.numerals.large;
      few_steps = omega arith;
      legal = subst (λ (n : ℕ). LegalSteps held n (sheet_steps s)) used (legal_take held s.used (sheet_room s) s.legal);
      sixteen = s.sixteen;
      exist = subst (λ (n : ℕ). LegalOperands held n 16 (sheet_outputs s)) used s.exist;
    }

-- no rule is broken where all are kept
pub none_broken : (why : Refusal) (held room used : ℕ) (buffer : List Step) (outputs : List Operand) → used ≤ 2000 → used ≤ room → LegalSteps held used buffer → LegalOperands held used 16 outputs → Broken why held room buffer used outputs → ⊥
none_broken Layout held room used buffer outputs few fits legal exist broken = omega arith
none_broken ShortBuffer held room used buffer outputs few fits legal exist broken = let a = broken.1 in omega arith
none_broken SmallNumeral held room used buffer outputs few fits legal exist broken = broken
none_broken IllegalStep held room used buffer outputs few fits legal exist broken = broken.2 legal
none_broken IllegalOutput held room used buffer outputs few fits legal exist broken = broken.3 exist
