-- As many digits as the value has (digits_none, digits_one, digits_two, digits_three).
use mathlib.Core.Path.{sym, ap}
use lib.ListN.{length}
use Rattle.sequence_spelling.proofs.Exactly.{digits_none, digits_one, digits_two, digits_three}
use native.Mathlib.Omega.{arith}
use Rattle.sequence_spelling.proofs.value_size.Goals as goal

pub returns-in-0 : goal.returns-in-0
returns-in-0 c = sym (ap length (digits_none _ (omega arith)))

pub returns-in-1-to-9 : goal.returns-in-1-to-9
returns-in-1-to-9 c = sym (ap length (digits_one _ (omega arith) (omega arith)))

pub returns-in-10-to-99 : goal.returns-in-10-to-99
returns-in-10-to-99 c = sym (ap length (digits_two _ (omega arith) (omega arith)))

pub returns-in_default : goal.returns-in_default
returns-in_default c = sym (ap length (digits_three _ (omega arith)))
