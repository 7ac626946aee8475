use Rattle.spelling.proofs.pair_of.Goals as goal

pub returns-in_err-value : goal.returns-in_err-value
returns-in_err-value c = rw c.from_residual.ensures (λ x y p q. c.in_err-value.ensures (record { value = x }) p)

pub returns-in_err-rate : goal.returns-in_err-rate
returns-in_err-rate c = rw c.from_residual-in_err-rate.ensures (λ x y p q. c.in_err-rate.ensures (record { value = y }) q)
