-- What is answered of whole words: no where something does not hold, and in the end whether all numbers fit.
use Rattle.std.proofs.Common.{ℕ, ◌≤◌, ◌<◌, ◌≡◌, ◌↔◌, true, false, leb, List, length, arith, leb-true, le-leb}
use Rattle.rules.specs.steps.Checks.{in_range}
use Rattle.rules.proofs.steps.Tables.{same_test}
use Rattle.limits.proofs.Ranges.{answers_no}
use Rattle.layout.specs.Places.{cells_of, handlers_of, body_of, body_long, cell_part, handler_part, number_in}
use Rattle.layout.specs.WellFormed.{is_good_body, is_well_formed}
use Rattle.layout.proofs.Tested.{body_iff}
use Rattle.formed.specs.Seen.{Fit, NumbersFit, GoodFronts}
use Rattle.formed.proofs.Bits.{EachBelow}

-- Where m and n are out of range, words are answered with no.
pub out_of_range_formed : (words : List ℕ) → in_range (cells_of words) (handlers_of words) ≡ false → false ≡ is_well_formed words
unfolding is_well_formed
out_of_range_formed words out = rw out

-- Where m and n are in range, whether words are well formed is whether their body is good.
pub in_range_formed : (words : List ℕ) → in_range (cells_of words) (handlers_of words) ≡ true
    → is_good_body 1 (cells_of words) (handlers_of words) (body_of words) ≡ is_well_formed words
unfolding is_well_formed
in_range_formed words ranged = rw ranged

module _ (last m n : ℕ) (body : List ℕ) where
  -- A body that is too short is answered with no.
  pub too_short : length body < body_long m n → false ≡ is_good_body last m n body
  too_short short = answers_no (is_good_body last m n body) (λ e. omega (arith, ((body_iff last m n body).0 e).0.long))

  -- In a good body the front of each block is good.
  fronts_good : is_good_body last m n body ≡ true → GoodFronts last m n body
  fronts_good e i h = let (good, phases) = (body_iff last m n body).0 e in
      let block = good.blocks i h in (phases i h, (block.read_set, block.written_set))

  -- A body with a front that is not good is answered with no.
  pub bad_front : (GoodFronts last m n body → ⊥) → false ≡ is_good_body last m n body
  bad_front bad = answers_no (is_good_body last m n body) (λ e. bad (fronts_good e))

  -- Where the words are enough and the fronts good, a body is good just when the bits that tell of all numbers are a number.
  pub numbers_seen : body_long m n ≤ length body → GoodFronts last m n body → {bits over : ℕ}
      → (bits ≤ 65535) ↔ EachBelow n (λ i. NumbersFit m (handler_part m body i))
      → (over ≤ 65535) ↔ ((bits ≤ 65535) × EachBelow m (λ c. Fit m (number_in (cell_part m body c)))) → leb over 65535 ≡ is_good_body last m n body
  numbers_seen long fronts {bits} {over} blocks cells = same_test (leb over 65535) (is_good_body last m n body) to from
    where
      to : leb over 65535 ≡ true → is_good_body last m n body ≡ true
      to e = let (before, numbers) = cells.0 (leb-true over 65535 e) in
          let block = blocks.0 before in
          (body_iff last m n body).1 (
            record {
              long = long;
              numbers = numbers;
              blocks = λ i h. record {
                read_set = (fronts i h).1.0;
                written_set = (fronts i h).1.1;
                numbers = (block i h).0;
                transaction = (block i h).1;
              };
            },
            λ i h. (fronts i h).0,
          )

      from : is_good_body last m n body ≡ true → leb over 65535 ≡ true
      from e = let (good, _) = (body_iff last m n body).0 e in
          le-leb over 65535
          (cells.1 (blocks.1 (λ i h. ((good.blocks i h).numbers, (good.blocks i h).transaction)), good.numbers))
