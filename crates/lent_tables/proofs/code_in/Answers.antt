-- `code_in`: an octet is below 256, so it is the entry.
use mathlib.Core.Path.{sym, ◌∙◌}
use borrow.Author.Tests.{lt-ltb}
use borrow.Author.Rules.{rules}
use Rattle.lent_tables.proofs.code_in.Goals as goal

pub returns : goal.returns
returns c = c.from.ensures ∙ sym (simp (lt-ltb c.args.octet 256 (search rules)))
