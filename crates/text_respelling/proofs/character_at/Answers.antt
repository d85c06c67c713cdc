-- A spacing character by itself (single), a mark at the end (alone), a mark and what follows it (low_pair, high_pair).
use Rattle.squares.specs.Squares.{square_table}
use Rattle.lent_tables.specs.CodeTables.{code_table}
use Rattle.text_respelling.proofs.Characters.{single, alone, low_pair, high_pair}
use Rattle.text_respelling.proofs.character_at.Goals as goal

pub returns-then-code-lt-NO_CHARACTER : goal.returns-then-code-lt-NO_CHARACTER
returns-then-code-lt-NO_CHARACTER c =
    single (code_table c.args.reader.now) square_table _ _ _ c.requires c.code-code.ensures c.if-code-lt-NO_CHARACTER.true

pub returns-then-text-at-lt2 : goal.returns-then-text-at-lt2
returns-then-text-at-lt2 c =
    alone (code_table c.args.reader.now) square_table _ _ _ c.requires c.code-code.ensures c.if-code-lt-NO_CHARACTER.false
    c.if-text-at-lt2.true

pub returns-then-paired-lt-PAIRS_FROM : goal.returns-then-paired-lt-PAIRS_FROM
returns-then-paired-lt-PAIRS_FROM c =
    low_pair (code_table c.args.reader.now) square_table _ _ _ c.requires c.code-code.ensures c.if-code-lt-NO_CHARACTER.false
    c.if-text-at-lt2.false _ c.pair-paired.ensures c.if-paired-lt-PAIRS_FROM.true

pub returns : goal.returns
returns c =
    high_pair (code_table c.args.reader.now) square_table _ _ _ c.requires c.code-code.ensures c.if-code-lt-NO_CHARACTER.false
    c.if-text-at-lt2.false _ c.pair-paired.ensures c.if-paired-lt-PAIRS_FROM.false
