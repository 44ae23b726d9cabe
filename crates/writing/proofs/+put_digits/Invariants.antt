-- `writing::put_digits` meets its contract.
use Rattle.writing.proofs.+put_digits.Given as goal

-- how many digits are left
abbrev pub decreases-put_digits : goal.decreases-put_digits
decreases-put_digits l = l.most
