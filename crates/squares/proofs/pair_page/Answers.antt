-- The source's pages are the definition's: the check compares them, entry by entry; a page of no arm is empty (`no_pair_page`).
use mathlib.Core.Path.{ap, sym}
use Rattle.squares.specs.Squares.{pair_page}
use Rattle.squares.proofs.Pairs.{no_pair_page}
use Rattle.squares.proofs.pair_page.Goals as goal

pub returns-in-2 : goal.returns-in-2
unfolding pair_page
returns-in-2 c = ap pair_page (sym c.in-2.is)

pub returns-in-3 : goal.returns-in-3
unfolding pair_page
returns-in-3 c = ap pair_page (sym c.in-3.is)

pub returns-in-5 : goal.returns-in-5
unfolding pair_page
returns-in-5 c = ap pair_page (sym c.in-5.is)

pub returns-in-6 : goal.returns-in-6
unfolding pair_page
returns-in-6 c = ap pair_page (sym c.in-6.is)

pub returns-in-7 : goal.returns-in-7
unfolding pair_page
returns-in-7 c = ap pair_page (sym c.in-7.is)

pub returns-in-8 : goal.returns-in-8
unfolding pair_page
returns-in-8 c = ap pair_page (sym c.in-8.is)

pub returns-in-9 : goal.returns-in-9
unfolding pair_page
returns-in-9 c = ap pair_page (sym c.in-9.is)

pub returns-in-10 : goal.returns-in-10
unfolding pair_page
returns-in-10 c = ap pair_page (sym c.in-10.is)

pub returns-in-11 : goal.returns-in-11
unfolding pair_page
returns-in-11 c = ap pair_page (sym c.in-11.is)

pub returns-in-22 : goal.returns-in-22
unfolding pair_page
returns-in-22 c = ap pair_page (sym c.in-22.is)

pub returns-in_default : goal.returns-in_default
returns-in_default c = no_pair_page _ c.in_default.in_default-own.rest
