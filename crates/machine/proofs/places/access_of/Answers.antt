use Rattle.construction.specs.Machine.{access_of}
use Rattle.machine.proofs.places.access_of.Goals as goal

pub returns-in-Idle : goal.returns-in-Idle
unfolding access_of
returns-in-Idle c = rw c.in-Idle.is

pub returns-in-P1 : goal.returns-in-P1
unfolding access_of
returns-in-P1 c = rw c.in-P1.is c.read_gate.ensures

pub returns-in-P3 : goal.returns-in-P3
unfolding access_of
returns-in-P3 c = rw c.in-P3.is

pub returns-in-P7 : goal.returns-in-P7
unfolding access_of
returns-in-P7 c = rw c.in-P7.is c.read_own.ensures

pub returns-in-P10 : goal.returns-in-P10
unfolding access_of
returns-in-P10 c = rw c.in-P10.is c.read_gate-in-P10.ensures

pub returns-in-C2 : goal.returns-in-C2
unfolding access_of
returns-in-C2 c = rw c.in-C2.is

pub returns-in-C4 : goal.returns-in-C4
unfolding access_of
returns-in-C4 c = rw c.in-C4.is c.read_own-in-C4.ensures

pub returns-in-P13 : goal.returns-in-P13
unfolding access_of
returns-in-P13 c = rw c.in-P13.is

pub returns-in-P14 : goal.returns-in-P14
unfolding access_of
returns-in-P14 c = rw c.in-P14.is c.read_gate-in-P14.ensures

pub returns-in-P16 : goal.returns-in-P16
unfolding access_of
returns-in-P16 c = rw c.in-P16.is

pub returns-in-H21 : goal.returns-in-H21
unfolding access_of
returns-in-H21 c = rw c.in-H21.is

pub returns-in-H36 : goal.returns-in-H36
unfolding access_of
returns-in-H36 c = rw c.in-H36.is

pub returns-in-P19 : goal.returns-in-P19
unfolding access_of
returns-in-P19 c = rw c.in-P19.is c.finish.ensures

pub returns-in-P20 : goal.returns-in-P20
unfolding access_of
returns-in-P20 c = rw c.in-P20.is c.finish-in-P20.ensures

pub returns-in-P21 : goal.returns-in-P21
unfolding access_of
returns-in-P21 c = rw c.in-P21.is c.release.ensures

pub returns-in-P22 : goal.returns-in-P22
unfolding access_of
returns-in-P22 c = rw c.in-P22.is c.read_own-in-P22.ensures

pub returns-in-F1 : goal.returns-in-F1
unfolding access_of
returns-in-F1 c = rw c.in-F1.is

pub returns-in-F3 : goal.returns-in-F3
unfolding access_of
returns-in-F3 c = rw c.in-F3.is c.release-in-F3.ensures

pub returns-in-P6 : goal.returns-in-P6
unfolding access_of
returns-in-P6 c = rw c.in-P6.is
