-- `spell_pair`, by the form, as it is defined.
use Rattle.spelling.proofs.spell_pair.Goals as goal

pub returns-in-Eight : goal.returns-in-Eight
returns-in-Eight c = rw c.in-Eight.is

pub returns-in-Seven : goal.returns-in-Seven
returns-in-Seven c = rw c.in-Seven.is

pub returns-in-Basic : goal.returns-in-Basic
returns-in-Basic c = rw c.in-Basic.is
