-- `name_of`: an arm for each number, and no name for any other.
use Rattle.rows.proofs.Prelude.{arith, ne_eqb}
use Rattle.text.specs.Text.{ascii}
use Rattle.office_resources.proofs.name_of.Goals as goal

pub returns-in-0 : goal.returns-in-0
unfolding ascii
returns-in-0 c = simp c.in-0.is

pub returns-in-1 : goal.returns-in-1
unfolding ascii
returns-in-1 c = simp c.in-1.is

pub returns-in-2 : goal.returns-in-2
unfolding ascii
returns-in-2 c = simp c.in-2.is

pub returns-in-3 : goal.returns-in-3
unfolding ascii
returns-in-3 c = simp c.in-3.is

pub returns-in-4 : goal.returns-in-4
unfolding ascii
returns-in-4 c = simp c.in-4.is

pub returns-in-8 : goal.returns-in-8
unfolding ascii
returns-in-8 c = simp c.in-8.is

pub returns-in-9 : goal.returns-in-9
unfolding ascii
returns-in-9 c = simp c.in-9.is

pub returns-in-10 : goal.returns-in-10
unfolding ascii
returns-in-10 c = simp c.in-10.is

pub returns-in-11 : goal.returns-in-11
unfolding ascii
returns-in-11 c = simp c.in-11.is

pub returns-in-12 : goal.returns-in-12
unfolding ascii
returns-in-12 c = simp c.in-12.is

pub returns-in-13 : goal.returns-in-13
unfolding ascii
returns-in-13 c = simp c.in-13.is

pub returns-in-14 : goal.returns-in-14
unfolding ascii
returns-in-14 c = simp c.in-14.is

pub returns-in-16 : goal.returns-in-16
unfolding ascii
returns-in-16 c = simp c.in-16.is

pub returns-in_default : goal.returns-in_default
unfolding ascii
returns-in_default c =
    let n = c.args.n in
    simp (
      ne_eqb n 0 (omega arith),
      ne_eqb n 1 (omega arith),
      ne_eqb n 2 (omega arith),
      ne_eqb n 3 (omega arith),
      ne_eqb n 4 (omega arith),
      ne_eqb n 8 (omega arith),
      ne_eqb n 9 (omega arith),
      ne_eqb n 10 (omega arith),
      ne_eqb n 11 (omega arith),
      ne_eqb n 12 (omega arith),
      ne_eqb n 13 (omega arith),
      ne_eqb n 14 (omega arith),
      ne_eqb n 16 (omega arith),
    )
