-- The reading's refusal (refused_first, which the search finds), or the other (read_accepted).
use mathlib.Core.Path.{ap}
use native.Mathlib.Omega.{arith}
use Rattle.text_loops.specs.declared.Measured.{Measured}
use Rattle.text_respelling.proofs.ReadingFirst.{read_accepted}
use Rattle.text_respelling.proofs.reading_first.Goals as goal

pub returns : goal.returns
returns c = read_accepted _ _ _ _ (ap (λ (x : Measured). x.answer) c.measure_front-read.ensures) (omega arith)
