use Rattle.alu.specs.Brief.{status_in}
use Rattle.std.proofs.Common.{refl, arith}
use Rattle.strides.proofs.Standing.{stays}
use Rattle.strides.proofs.Reaching.{pushes, pushes_number}
use Rattle.strides.proofs.carry_out.Goals as goal

pub by_register-requires : goal.by_register-requires
by_register-requires c = (c.in-0.is, (omega arith, (c.requires.1.1, refl)))

pub by_register-requires-in-1 : goal.by_register-requires-in-1
by_register-requires-in-1 c = (c.in-1.is, (omega arith, (c.requires.1.1, refl)))

pub by_register-requires-in-2 : goal.by_register-requires-in-2
by_register-requires-in-2 c = (c.in-2.is, (omega arith, (c.requires.1.1, refl)))

pub by_register-requires-in-3 : goal.by_register-requires-in-3
by_register-requires-in-3 c = (c.in-3.is, (omega arith, (c.requires.1.1, refl)))

pub by_register-requires-in-4 : goal.by_register-requires-in-4
by_register-requires-in-4 c = (c.in-4.is, (omega arith, (c.requires.1.1, refl)))

pub by_register-requires-in-5 : goal.by_register-requires-in-5
by_register-requires-in-5 c = (c.in-5.is, (omega arith, (c.requires.1.1, refl)))

pub by_register-requires-in-6 : goal.by_register-requires-in-6
by_register-requires-in-6 c = (c.in-6.is, (omega arith, (c.requires.1.1, refl)))

pub by_register-requires-in-7 : goal.by_register-requires-in-7
by_register-requires-in-7 c = (c.in-7.is, (omega arith, (c.requires.1.1, refl)))

pub by_register-requires-in-8 : goal.by_register-requires-in-8
by_register-requires-in-8 c = (c.in-8.is, (omega arith, (c.requires.1.1, refl)))

pub by_register-requires-in-9 : goal.by_register-requires-in-9
by_register-requires-in-9 c = (c.in-9.is, (omega arith, (c.requires.1.1, refl)))

pub by_number-requires : goal.by_number-requires
by_number-requires c = (c.in-16.is, (omega arith, (c.requires.1.1, refl)))

pub by_number-requires-in-17 : goal.by_number-requires-in-17
by_number-requires-in-17 c = (c.in-17.is, (omega arith, (c.requires.1.1, refl)))

pub by_number-requires-in-18 : goal.by_number-requires-in-18
by_number-requires-in-18 c = (c.in-18.is, (omega arith, (c.requires.1.1, refl)))

pub by_number-requires-in-19 : goal.by_number-requires-in-19
by_number-requires-in-19 c = (c.in-19.is, (omega arith, (c.requires.1.1, refl)))

pub by_number-requires-in-20 : goal.by_number-requires-in-20
by_number-requires-in-20 c = (c.in-20.is, (omega arith, (c.requires.1.1, refl)))

pub by_number-requires-in-21 : goal.by_number-requires-in-21
by_number-requires-in-21 c = (c.in-21.is, (omega arith, (c.requires.1.1, refl)))

pub by_number-requires-in-22 : goal.by_number-requires-in-22
by_number-requires-in-22 c = (c.in-22.is, (omega arith, (c.requires.1.1, refl)))

pub by_number-requires-in-23 : goal.by_number-requires-in-23
by_number-requires-in-23 c = (c.in-23.is, (omega arith, (c.requires.1.1, refl)))

pub by_number-requires-in-24 : goal.by_number-requires-in-24
by_number-requires-in-24 c = (c.in-24.is, (omega arith, (c.requires.1.1, refl)))

pub by_number-requires-in-25 : goal.by_number-requires-in-25
by_number-requires-in-25 c = (c.in-25.is, (omega arith, (c.requires.1.1, refl)))

pub by_number-requires-in-26 : goal.by_number-requires-in-26
by_number-requires-in-26 c = (c.in-26.is, (omega arith, (c.requires.1.1, refl)))

pub by_number-requires-in-27 : goal.by_number-requires-in-27
by_number-requires-in-27 c = (c.in-27.is, (omega arith, (c.requires.1.1, refl)))

pub by_number-requires-in-28 : goal.by_number-requires-in-28
by_number-requires-in-28 c = (c.in-28.is, (omega arith, (c.requires.1.1, refl)))

pub by_number-requires-in-29 : goal.by_number-requires-in-29
by_number-requires-in-29 c = (c.in-29.is, (omega arith, (c.requires.1.1, refl)))

pub by_number-requires-in-31 : goal.by_number-requires-in-31
by_number-requires-in-31 c = (c.in-31.is, (omega arith, (c.requires.1.1, refl)))

pub combine-requires : goal.combine-requires
combine-requires c = (c.requires.0, (c.requires.1, (rw c.in-32.is refl, refl)))

pub combine-requires-in-33 : goal.combine-requires-in-33
combine-requires-in-33 c = (c.requires.0, (c.requires.1, (rw c.in-33.is refl, refl)))

pub combine-requires-in-34 : goal.combine-requires-in-34
combine-requires-in-34 c = (c.requires.0, (c.requires.1, (rw c.in-34.is refl, refl)))

pub combine-requires-in-35 : goal.combine-requires-in-35
combine-requires-in-35 c = (c.requires.0, (c.requires.1, (rw c.in-35.is refl, refl)))

pub combine-requires-in-36 : goal.combine-requires-in-36
combine-requires-in-36 c = (c.requires.0, (c.requires.1, (rw c.in-36.is refl, refl)))

pub combine-requires-in-37 : goal.combine-requires-in-37
combine-requires-in-37 c = (c.requires.0, (c.requires.1, (rw c.in-37.is refl, refl)))

pub combine-requires-in-38 : goal.combine-requires-in-38
combine-requires-in-38 c = (c.requires.0, (c.requires.1, (rw c.in-38.is refl, refl)))

pub combine-requires-in-39 : goal.combine-requires-in-39
combine-requires-in-39 c = (c.requires.0, (c.requires.1, (rw c.in-39.is refl, refl)))

pub load-requires : goal.load-requires
load-requires c = (c.requires.0, (c.requires.1, (c.in-41.is, refl)))

pub jump_if-requires : goal.jump_if-requires
jump_if-requires c = (c.in-48.is, (omega arith, refl))

pub jump_if-requires-in-49 : goal.jump_if-requires-in-49
jump_if-requires-in-49 c = (c.in-49.is, (omega arith, refl))

pub jump_if-requires-in-50 : goal.jump_if-requires-in-50
jump_if-requires-in-50 c = (c.in-50.is, (omega arith, refl))

pub jump_if-requires-in-51 : goal.jump_if-requires-in-51
jump_if-requires-in-51 c = (c.in-51.is, (omega arith, refl))

pub jump_if-requires-in-52 : goal.jump_if-requires-in-52
jump_if-requires-in-52 c = (c.in-52.is, (omega arith, refl))

pub jump_if-requires-in-53 : goal.jump_if-requires-in-53
jump_if-requires-in-53 c = (c.in-53.is, (omega arith, refl))

pub jump_if-requires-in-54 : goal.jump_if-requires-in-54
jump_if-requires-in-54 c = (c.in-54.is, (omega arith, refl))

pub jump_if-requires-in-55 : goal.jump_if-requires-in-55
jump_if-requires-in-55 c = (c.in-55.is, (omega arith, refl))

pub jump_if-requires-in-56 : goal.jump_if-requires-in-56
jump_if-requires-in-56 c = (c.in-56.is, (omega arith, refl))

pub jump_if-requires-in-57 : goal.jump_if-requires-in-57
jump_if-requires-in-57 c = (c.in-57.is, (omega arith, refl))

pub jump_if-requires-in-58 : goal.jump_if-requires-in-58
jump_if-requires-in-58 c = (c.in-58.is, (omega arith, refl))

pub jump_if-requires-in-59 : goal.jump_if-requires-in-59
jump_if-requires-in-59 c = (c.in-59.is, (omega arith, refl))

pub jump_if-requires-in-60 : goal.jump_if-requires-in-60
jump_if-requires-in-60 c = (c.in-60.is, (omega arith, refl))

pub jump_if-requires-in-61 : goal.jump_if-requires-in-61
jump_if-requires-in-61 c = (c.in-61.is, (omega arith, refl))

pub jump_if-requires-in-62 : goal.jump_if-requires-in-62
jump_if-requires-in-62 c = (c.in-62.is, (omega arith, refl))

pub jump_if-requires-in-63 : goal.jump_if-requires-in-63
jump_if-requires-in-63 c = (c.in-63.is, (omega arith, refl))

pub keep-requires : goal.keep-requires
keep-requires c = (c.requires.0, (c.requires.1, (c.in-64.is, refl)))

pub push-requires : goal.push-requires
push-requires c = (c.requires.0, (c.requires.1, (pushes c.args.f _ c.args.r.eip (status_in c.args.r.flags) c.in-65.is c.register.ensures, refl)))

pub push-requires-in-66 : goal.push-requires-in-66
push-requires-in-66 c = (c.requires.0, (c.requires.1, (pushes_number c.args.f _ c.args.r.eip (status_in c.args.r.flags) c.in-66.is, refl)))

pub pop-requires : goal.pop-requires
pop-requires c = (c.requires.0, (c.requires.1, (rw c.in-67.is refl, refl)))

pub call-requires : goal.call-requires
call-requires c = (c.requires.0, (c.requires.1, (c.in-68.is, refl)))

pub jump-requires : goal.jump-requires
jump-requires c = (c.in-69.is, refl)

pub pop-requires-in-70 : goal.pop-requires-in-70
pop-requires-in-70 c = (c.requires.0, (c.requires.1, (rw c.in-70.is refl, refl)))

pub address-requires : goal.address-requires
address-requires c = (c.in-71.is, (c.requires.1.1, refl))

pub from_byte-requires : goal.from_byte-requires
from_byte-requires c = (c.requires.0, (c.requires.1, (rw c.in-72.is refl, refl)))

pub from_byte-requires-in-73 : goal.from_byte-requires-in-73
from_byte-requires-in-73 c = (c.requires.0, (c.requires.1, (rw c.in-73.is refl, refl)))

pub test_bytes-requires : goal.test_bytes-requires
test_bytes-requires c = (c.in-74.is, (c.requires.1.1, refl))

pub double-requires : goal.double-requires
double-requires c = (c.in-75.is, (c.requires.1.1, refl))

pub times-requires : goal.times-requires
times-requires c = (c.in-76.is, (c.requires.1.1, refl))

pub returns-in-0 : goal.returns-in-0
returns-in-0 c = c.by_register.ensures _ _ _ _ c.requires.0 c.requires.1

pub returns-in-1 : goal.returns-in-1
returns-in-1 c = c.by_register-in-1.ensures _ _ _ _ c.requires.0 c.requires.1

pub returns-in-2 : goal.returns-in-2
returns-in-2 c = c.by_register-in-2.ensures _ _ _ _ c.requires.0 c.requires.1

pub returns-in-3 : goal.returns-in-3
returns-in-3 c = c.by_register-in-3.ensures _ _ _ _ c.requires.0 c.requires.1

pub returns-in-4 : goal.returns-in-4
returns-in-4 c = c.by_register-in-4.ensures _ _ _ _ c.requires.0 c.requires.1

pub returns-in-5 : goal.returns-in-5
returns-in-5 c = c.by_register-in-5.ensures _ _ _ _ c.requires.0 c.requires.1

pub returns-in-6 : goal.returns-in-6
returns-in-6 c = c.by_register-in-6.ensures _ _ _ _ c.requires.0 c.requires.1

pub returns-in-7 : goal.returns-in-7
returns-in-7 c = c.by_register-in-7.ensures _ _ _ _ c.requires.0 c.requires.1

pub returns-in-8 : goal.returns-in-8
returns-in-8 c = c.by_register-in-8.ensures _ _ _ _ c.requires.0 c.requires.1

pub returns-in-9 : goal.returns-in-9
returns-in-9 c = c.by_register-in-9.ensures _ _ _ _ c.requires.0 c.requires.1

pub returns-in-16 : goal.returns-in-16
returns-in-16 c = c.by_number.ensures _ _ _ _ c.requires.0 c.requires.1

pub returns-in-17 : goal.returns-in-17
returns-in-17 c = c.by_number-in-17.ensures _ _ _ _ c.requires.0 c.requires.1

pub returns-in-18 : goal.returns-in-18
returns-in-18 c = c.by_number-in-18.ensures _ _ _ _ c.requires.0 c.requires.1

pub returns-in-19 : goal.returns-in-19
returns-in-19 c = c.by_number-in-19.ensures _ _ _ _ c.requires.0 c.requires.1

pub returns-in-20 : goal.returns-in-20
returns-in-20 c = c.by_number-in-20.ensures _ _ _ _ c.requires.0 c.requires.1

pub returns-in-21 : goal.returns-in-21
returns-in-21 c = c.by_number-in-21.ensures _ _ _ _ c.requires.0 c.requires.1

pub returns-in-22 : goal.returns-in-22
returns-in-22 c = c.by_number-in-22.ensures _ _ _ _ c.requires.0 c.requires.1

pub returns-in-23 : goal.returns-in-23
returns-in-23 c = c.by_number-in-23.ensures _ _ _ _ c.requires.0 c.requires.1

pub returns-in-24 : goal.returns-in-24
returns-in-24 c = c.by_number-in-24.ensures _ _ _ _ c.requires.0 c.requires.1

pub returns-in-25 : goal.returns-in-25
returns-in-25 c = c.by_number-in-25.ensures _ _ _ _ c.requires.0 c.requires.1

pub returns-in-26 : goal.returns-in-26
returns-in-26 c = c.by_number-in-26.ensures _ _ _ _ c.requires.0 c.requires.1

pub returns-in-27 : goal.returns-in-27
returns-in-27 c = c.by_number-in-27.ensures _ _ _ _ c.requires.0 c.requires.1

pub returns-in-28 : goal.returns-in-28
returns-in-28 c = c.by_number-in-28.ensures _ _ _ _ c.requires.0 c.requires.1

pub returns-in-29 : goal.returns-in-29
returns-in-29 c = c.by_number-in-29.ensures _ _ _ _ c.requires.0 c.requires.1

pub returns-in-31 : goal.returns-in-31
returns-in-31 c = c.by_number-in-31.ensures _ _ _ _ c.requires.0 c.requires.1

pub returns-in-32 : goal.returns-in-32
returns-in-32 c = c.combine.ensures

pub returns-in-33 : goal.returns-in-33
returns-in-33 c = c.combine-in-33.ensures

pub returns-in-34 : goal.returns-in-34
returns-in-34 c = c.combine-in-34.ensures

pub returns-in-35 : goal.returns-in-35
returns-in-35 c = c.combine-in-35.ensures

pub returns-in-36 : goal.returns-in-36
returns-in-36 c = c.combine-in-36.ensures

pub returns-in-37 : goal.returns-in-37
returns-in-37 c = c.combine-in-37.ensures

pub returns-in-38 : goal.returns-in-38
returns-in-38 c = c.combine-in-38.ensures

pub returns-in-39 : goal.returns-in-39
returns-in-39 c = c.combine-in-39.ensures

pub returns-in-41 : goal.returns-in-41
returns-in-41 c = c.load.ensures

pub returns-in-48 : goal.returns-in-48
returns-in-48 c = c.jump_if.ensures _ _ _ _ c.requires.0 c.requires.1

pub returns-in-49 : goal.returns-in-49
returns-in-49 c = c.jump_if-in-49.ensures _ _ _ _ c.requires.0 c.requires.1

pub returns-in-50 : goal.returns-in-50
returns-in-50 c = c.jump_if-in-50.ensures _ _ _ _ c.requires.0 c.requires.1

pub returns-in-51 : goal.returns-in-51
returns-in-51 c = c.jump_if-in-51.ensures _ _ _ _ c.requires.0 c.requires.1

pub returns-in-52 : goal.returns-in-52
returns-in-52 c = c.jump_if-in-52.ensures _ _ _ _ c.requires.0 c.requires.1

pub returns-in-53 : goal.returns-in-53
returns-in-53 c = c.jump_if-in-53.ensures _ _ _ _ c.requires.0 c.requires.1

pub returns-in-54 : goal.returns-in-54
returns-in-54 c = c.jump_if-in-54.ensures _ _ _ _ c.requires.0 c.requires.1

pub returns-in-55 : goal.returns-in-55
returns-in-55 c = c.jump_if-in-55.ensures _ _ _ _ c.requires.0 c.requires.1

pub returns-in-56 : goal.returns-in-56
returns-in-56 c = c.jump_if-in-56.ensures _ _ _ _ c.requires.0 c.requires.1

pub returns-in-57 : goal.returns-in-57
returns-in-57 c = c.jump_if-in-57.ensures _ _ _ _ c.requires.0 c.requires.1

pub returns-in-58 : goal.returns-in-58
returns-in-58 c = c.jump_if-in-58.ensures _ _ _ _ c.requires.0 c.requires.1

pub returns-in-59 : goal.returns-in-59
returns-in-59 c = c.jump_if-in-59.ensures _ _ _ _ c.requires.0 c.requires.1

pub returns-in-60 : goal.returns-in-60
returns-in-60 c = c.jump_if-in-60.ensures _ _ _ _ c.requires.0 c.requires.1

pub returns-in-61 : goal.returns-in-61
returns-in-61 c = c.jump_if-in-61.ensures _ _ _ _ c.requires.0 c.requires.1

pub returns-in-62 : goal.returns-in-62
returns-in-62 c = c.jump_if-in-62.ensures _ _ _ _ c.requires.0 c.requires.1

pub returns-in-63 : goal.returns-in-63
returns-in-63 c = c.jump_if-in-63.ensures _ _ _ _ c.requires.0 c.requires.1

pub returns-in-64 : goal.returns-in-64
returns-in-64 c = c.keep.ensures

pub returns-in-65 : goal.returns-in-65
returns-in-65 c = c.push.ensures

pub returns-in-66 : goal.returns-in-66
returns-in-66 c = c.push-in-66.ensures

pub returns-in-67 : goal.returns-in-67
returns-in-67 c = c.pop.ensures

pub returns-in-68 : goal.returns-in-68
returns-in-68 c = c.call.ensures

pub returns-in-69 : goal.returns-in-69
returns-in-69 c = c.jump.ensures _ _ _ _ c.requires.0 c.requires.1

pub returns-in-70 : goal.returns-in-70
returns-in-70 c = c.pop-in-70.ensures

pub returns-in-71 : goal.returns-in-71
returns-in-71 c = c.address.ensures _ _ _ _ c.requires.0 c.requires.1

pub returns-in-72 : goal.returns-in-72
returns-in-72 c = c.from_byte.ensures

pub returns-in-73 : goal.returns-in-73
returns-in-73 c = c.from_byte-in-73.ensures

pub returns-in-74 : goal.returns-in-74
returns-in-74 c = c.test_bytes.ensures _ _ _ _ c.requires.0 c.requires.1

pub returns-in-75 : goal.returns-in-75
returns-in-75 c = c.double.ensures _ _ _ _ c.requires.0 c.requires.1

pub returns-in-76 : goal.returns-in-76
returns-in-76 c = c.times.ensures _ _ _ _ c.requires.0 c.requires.1

pub returns-in_default : goal.returns-in_default
returns-in_default c = stays _ _ c.args.c c.args.r c.args.h _ c.args.f c.requires.0 c.stuck.ensures
