-- The source's pages are the definition's: the check compares them, entry by entry; a page of no arm is empty (`no_spacing_page`).
use mathlib.Core.Path.{ap, sym}
use Rattle.sorts.specs.Sorts.{spacing_page}
use Rattle.sorts.proofs.Spacings.{no_spacing_page}
use Rattle.sorts.proofs.spacing_page.Goals as goal

pub returns-in-5 : goal.returns-in-5
unfolding spacing_page
returns-in-5 c = ap spacing_page (sym c.in-5.is)

pub returns-in-6 : goal.returns-in-6
unfolding spacing_page
returns-in-6 c = ap spacing_page (sym c.in-6.is)

pub returns-in-7 : goal.returns-in-7
unfolding spacing_page
returns-in-7 c = ap spacing_page (sym c.in-7.is)

pub returns-in-8 : goal.returns-in-8
unfolding spacing_page
returns-in-8 c = ap spacing_page (sym c.in-8.is)

pub returns-in-9 : goal.returns-in-9
unfolding spacing_page
returns-in-9 c = ap spacing_page (sym c.in-9.is)

pub returns-in-10 : goal.returns-in-10
unfolding spacing_page
returns-in-10 c = ap spacing_page (sym c.in-10.is)

pub returns-in-11 : goal.returns-in-11
unfolding spacing_page
returns-in-11 c = ap spacing_page (sym c.in-11.is)

pub returns-in-256 : goal.returns-in-256
unfolding spacing_page
returns-in-256 c = ap spacing_page (sym c.in-256.is)

pub returns-in-265 : goal.returns-in-265
unfolding spacing_page
returns-in-265 c = ap spacing_page (sym c.in-265.is)

pub returns-in-266 : goal.returns-in-266
unfolding spacing_page
returns-in-266 c = ap spacing_page (sym c.in-266.is)

pub returns-in-268 : goal.returns-in-268
unfolding spacing_page
returns-in-268 c = ap spacing_page (sym c.in-268.is)

pub returns-in-307 : goal.returns-in-307
unfolding spacing_page
returns-in-307 c = ap spacing_page (sym c.in-307.is)

pub returns-in_default : goal.returns-in_default
returns-in_default c = no_spacing_page _ c.in_default.in_default-own.rest
