-- One, two or three octets, as the spelling has (put_one, put_two, put_three).
use mathlib.Core.Path.{sym, ap}
use native.Mathlib.Omega.{arith}
use lib.ListN.{length}
use Rattle.run.proofs.Puts.{put_as, put_one, put_two, put_three}
use Rattle.spelling.specs.declared.Spelling.{Spelling}
use Rattle.spelling.specs.CanonicalSpelling.{octets_of}
use Rattle.element_spelling.proofs.put_octets.Goals as goal

pub returns-in-One : goal.returns-in-One
returns-in-One c =
    let x = c.in-One.is in
    put_as (sym (ap octets_of x)) (put_one (omega (arith, ap (λ (x : Spelling). length (octets_of x)) x)) c.put.ensures)

pub returns-in-Shifted : goal.returns-in-Shifted
returns-in-Shifted c =
    let x = c.in-Shifted.is in
    put_as (sym (ap octets_of x))
    (put_two (omega (arith, ap (λ (x : Spelling). length (octets_of x)) x)) c.put-i.ensures c.put-in-Shifted.ensures)

pub returns-in-Pair : goal.returns-in-Pair
returns-in-Pair c =
    let x = c.in-Pair.is in
    put_as (sym (ap octets_of x))
    (put_two (omega (arith, ap (λ (x : Spelling). length (octets_of x)) x)) c.put-i-in-Pair.ensures c.put-in-Pair.ensures)

pub returns-in-ShiftedPair : goal.returns-in-ShiftedPair
returns-in-ShiftedPair c =
    let x = c.in-ShiftedPair.is in
    put_as (sym (ap octets_of x))
    (put_three (omega (arith, ap (λ (x : Spelling). length (octets_of x)) x)) c.put-i-in-ShiftedPair.ensures c.put-j.ensures
    c.put-in-ShiftedPair.ensures)
