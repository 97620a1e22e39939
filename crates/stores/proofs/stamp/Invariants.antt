-- `stores::stamp` meets its contract: the numbers of the cells taken are raised, and own numbers, in front of the row, stay.
use Rattle.stores.proofs.Stamping.{Stamps}
use Rattle.stores.proofs.stamp.Given as goal

abbrev pub invariant-loop-c : goal.invariant-loop-c
invariant-loop-c l = Stamps l.m l.set l.c-iterator.left l.held l.initial.body l.body
