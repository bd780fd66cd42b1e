use Rattle.shortcut.proofs.Conditions.{no_condition}
use Rattle.alu.specs.Brief.{status_in}
use Rattle.conditions.specs.Conditions.{holds}
use Rattle.shortcut.proofs.condition.holds.Goals as goal

pub returns-in-0 : goal.returns-in-0
unfolding holds
returns-in-0 c = rw (c.in-0.is, c.overflow.ensures)

pub returns-in-1 : goal.returns-in-1
unfolding holds
returns-in-1 c = rw (c.in-1.is, c.overflow-in-1.ensures)

pub returns-in-2 : goal.returns-in-2
unfolding holds
returns-in-2 c = rw (c.in-2.is, c.carry.ensures)

pub returns-in-3 : goal.returns-in-3
unfolding holds
returns-in-3 c = rw (c.in-3.is, c.carry-in-3.ensures)

pub returns-in-4 : goal.returns-in-4
unfolding holds
returns-in-4 c = rw c.in-4.is

pub returns-in-5 : goal.returns-in-5
unfolding holds
returns-in-5 c = rw c.in-5.is

pub returns-in-6 : goal.returns-in-6
unfolding holds
returns-in-6 c = rw (c.in-6.is, c.carry-in-6.ensures)

pub returns-in-7 : goal.returns-in-7
unfolding holds
returns-in-7 c = rw (c.in-7.is, c.carry-in-7.ensures)

pub returns-in-8 : goal.returns-in-8
unfolding holds
returns-in-8 c = rw c.in-8.is

pub returns-in-9 : goal.returns-in-9
unfolding holds
returns-in-9 c = rw c.in-9.is

pub returns-in-10 : goal.returns-in-10
unfolding holds
returns-in-10 c = rw (c.in-10.is, c.even.ensures)

pub returns-in-11 : goal.returns-in-11
unfolding holds
returns-in-11 c = rw (c.in-11.is, c.even-in-11.ensures)

pub returns-in-12 : goal.returns-in-12
unfolding holds
returns-in-12 c = rw (c.in-12.is, c.overflow-in-12.ensures)

pub returns-in-13 : goal.returns-in-13
unfolding holds
returns-in-13 c = rw (c.in-13.is, c.overflow-in-13.ensures)

pub returns-in-14 : goal.returns-in-14
unfolding holds
returns-in-14 c = rw (c.in-14.is, c.overflow-in-14.ensures)

pub returns-in-15 : goal.returns-in-15
unfolding holds
returns-in-15 c = rw (c.in-15.is, c.overflow-in-15.ensures)

pub returns-in_default : goal.returns-in_default
returns-in_default c = no_condition _ (status_in c.args.f) c.in_default.in_default-own.rest
