use Rattle.spelling.proofs.WheelSpelled.read.Goals as goal

pub returns-in_err-x : goal.returns-in_err-x
returns-in_err-x c = rw c.from_residual.ensures (λ w. c.in_err-x.ensures w.value)
