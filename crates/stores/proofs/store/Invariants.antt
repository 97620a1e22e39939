-- `stores::store` meets its contract: the cells taken are stored, and the rows behind the cells are as before.
use Rattle.stores.proofs.Storing.{Storing}
use Rattle.stores.proofs.store.Given as goal

abbrev pub invariant-loop-c : goal.invariant-loop-c
invariant-loop-c l = Storing l.m l.set l.c-iterator.left l.copies l.held l.initial.body l.body
