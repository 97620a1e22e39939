-- `rows::take_steps` meets its contract: step by step, each on a well-formed register, and each reported behind the others.
use Rattle.std.proofs.Common.{◌≡◌, ◌*◌, ◌≤◌, length, drop}
use Rattle.std.specs.Iterator.Adapters.{enumerate_source, enumerate_count}
use Rattle.std.specs.Slice.Iter.{chunks_exact_rest, chunks_exact_size}
use Rattle.limits.specs.Limits.{step_width}
use Rattle.rows.proofs.Taking.{TakesTo}
use Rattle.rows.proofs.take_steps.Given as goal

abbrev pub invariant-loop-k : goal.invariant-loop-k
invariant-loop-k l = let taken = length l.yielded in record {
  width : chunks_exact_size (enumerate_source l.k-iterator) ≡ step_width;
  left : chunks_exact_rest (enumerate_source l.k-iterator) ≡ drop (step_width * taken) l.steps;
  counted : enumerate_count l.k-iterator ≡ taken;
  inside : step_width * taken ≤ length l.steps;
  takes : TakesTo l.initial.words l.steps l.initial.reports l.place taken l.words l.reports;
}
