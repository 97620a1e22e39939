-- Exactly when a first read or a try is aborted, and with which reason: the tests of Figure.antt answer the statements of Aborts.antt.
use Prim.Native.Nat.{ℕ, ◌<◌}
use mathlib.Core.Path.{◌≡◌, refl, sym, ap, ◌∙◌, subst}
use mathlib.Core.Bool.{Bool, true, false, not, ◌&&◌}
use mathlib.Core.Logic.{◌↔◌, ◌⊎◌, inl, inr}
use mathlib.Core.Option.{none, some, some-ne-none, some-injective}
use native.Mathlib.Omega.{arith}
use lib.Dec.{eqb, ltb}
use borrow.Author.Tests.{eqb-true, eqb-false, eq-eqb, ne_eqb, ltb-true, lt-ltb, not-true, not-false}
use Rattle.rules.specs.steps.Tables.{put, lowest, LowestOf}
use Rattle.rules.specs.steps.Codes.{try, read}
use Rattle.rules.specs.steps.Replies.{Reason, torn, overtaken, spent, gave_up, Outcome, committed, aborted}
use Rattle.rules.specs.steps.Register.{Setting, Cell, Handler, Register}
use Rattle.rules.specs.steps.Figure.{joined, torn_cell, overtaken_cell, spent_cell, step}
use Rattle.rules.specs.steps.Aborts.{Current, Stale, Spent, Roomy, Torn, TryAborted}
use Rattle.rules.proofs.steps.Tables.{by, both_ways, and_left, and_right, and_both, lowest_none, lowest_empty, lowest_one, lowest_tells, put_here}
use Rattle.rules.proofs.steps.Steps.{reading_cases, trying_cases}
use Rattle.rules.proofs.steps.Properties.{commit_no_abort, shows_no_abort}

-- ── Tests of a set's cells ────────────────────────────────────────────

-- A cell below m is in the set and passes a test that tells a condition, exactly where it is in the set and meets the condition.
in_set : (m : ℕ) (set test : ℕ → Bool) (Meets : ℕ → Type 0) → ((y : ℕ) → (test y ≡ true) ↔ Meets y)
    → (y : ℕ) → ((y < m) × (set y && test y ≡ true)) ↔ ((y < m) × (set y ≡ true) × Meets y)
in_set m set test Meets tells y = (
  λ k. (k.0, and_left (set y) (test y) k.1, (tells y).0 (and_right (set y) (test y) k.1)),
  λ k. (k.0, and_both (set y) (test y) k.1 ((tells y).1 k.2)),
)

-- None below m is in the set and passes: each cell of the set fails.
none_in_set : (m : ℕ) (set test : ℕ → Bool)
    → (lowest m (λ y. set y && test y) ≡ none) ↔ ((y : ℕ) → y < m → set y ≡ true → test y ≡ false)
none_in_set m set test = (
  λ e y l s. rw s at (lowest_none m (λ y. set y && test y) e y l),
  λ h. lowest_empty m (λ y. set y && test y) (λ y l. by (set y) (λ s. rw s (h y l s)) (λ s. rw s)),
)

-- Two numbers are told apart.
differs : (a b : ℕ) → (not (eqb a b) ≡ true) ↔ (a ≡ b → ⊥)
differs a b = ((λ e. eqb-false a b (not-true (eqb a b) e)), (λ ne. ap not (ne_eqb a b ne)))

module _ {W : Type 0} (S : Setting W) where
  -- The test of abort 2 finds exactly the lowest cell of a stale read,
  overtaken_means : (r : Register W) (h : Handler W) (z : ℕ) → (overtaken_cell S r h ≡ some z) ↔ LowestOf (Stale S r h) z
  unfolding overtaken_cell Stale
  overtaken_means r h = lowest_tells S.cell_count _ (Stale S r h)
      (in_set S.cell_count h.read_set (λ z. not (eqb (h.transaction z) ((r.cells z).numbers z))) _ (λ z. differs _ _))

  -- and where it finds none, all reads are current.
  current_means : (r : Register W) (h : Handler W) → (overtaken_cell S r h ≡ none) ↔ Current S r h
  unfolding overtaken_cell Current
  current_means r h =
      let both = none_in_set S.cell_count h.read_set (λ z. not (eqb (h.transaction z) ((r.cells z).numbers z))) in (
        λ e z l s. eqb-true _ _ (not-false _ (both.0 e z l s)),
        λ h. both.1 (λ z l s. ap not (eq-eqb _ _ (h z l s))),
      )

  -- The test of abort 3 finds exactly the lowest written cell whose number is spent,
  spent_means : (r : Register W) (h : Handler W) (z : ℕ) → (spent_cell S r h ≡ some z) ↔ LowestOf (Spent S r h) z
  unfolding spent_cell Spent
  spent_means r h = lowest_tells S.cell_count _ (Spent S r h)
      (in_set S.cell_count h.written_set (λ z. eqb ((r.cells z).numbers z) 65535) _ (λ z. (eqb-true _ _, eq-eqb _ _)))

  -- and where it finds none, none is.
  roomy_means : (r : Register W) (h : Handler W) → (spent_cell S r h ≡ none) ↔ Roomy S r h
  unfolding spent_cell Roomy
  roomy_means r h =
      let both = none_in_set S.cell_count h.written_set (λ z. eqb ((r.cells z).numbers z) 65535) in (
        λ e z l s. eqb-false _ _ (both.0 e z l s),
        λ h. both.1 (λ z l s. ne_eqb _ _ (h z l s)),
      )

  -- The test of abort 1 finds exactly the lowest cell of which a later version is depended on.
  torn_means : (h : Handler W) (c : Cell W) (y : ℕ) → (torn_cell S h c ≡ some y) ↔ LowestOf (Torn S h c) y
  unfolding torn_cell Torn
  torn_means h c = lowest_tells S.cell_count _ (Torn S h c)
      (in_set S.cell_count h.read_set (λ y. ltb (h.transaction y) (c.numbers y)) _ (λ y. (ltb-true _ _, lt-ltb _ _)))

  -- ── A try ───────────────────────────────────────────────────────────

  -- A transaction with a stale read is not current.
  stale_not_current : (r : Register W) (h : Handler W) (z : ℕ) → Stale S r h z → Current S r h → ⊥
  unfolding Stale Current
  stale_not_current r h z (l, s, ne) current = ne (current z l s)

  -- A try is aborted with one reason only.
  one_reason : (r : Register W) (h : Handler W) (a b : Reason) → TryAborted S a r h → TryAborted S b r h → a ≡ b
  one_reason r h (torn y) b t u = absurd t
  one_reason r h gave_up b t u = absurd t
  one_reason r h (overtaken y) (torn z) t u = absurd u
  one_reason r h (overtaken y) gave_up t u = absurd u
  one_reason r h (overtaken y) (overtaken z) t u = ap overtaken (lowest_one (Stale S r h) t u)
  one_reason r h (overtaken y) (spent z) t u = absurd (stale_not_current r h y t.meets u.0)
  one_reason r h (spent y) (torn z) t u = absurd u
  one_reason r h (spent y) gave_up t u = absurd u
  one_reason r h (spent y) (overtaken z) t u = absurd (stale_not_current r h z u.meets t.0)
  one_reason r h (spent y) (spent z) t u = ap spent (lowest_one (Spent S r h) t.1 u.1)

  -- A try that is current and whose written cells have room is aborted with no reason.
  no_reason : (r : Register W) (h : Handler W) → Current S r h → Roomy S r h → (reason : Reason) → TryAborted S reason r h → ⊥
  unfolding Roomy Spent
  no_reason r h current roomy (torn y) t = t
  no_reason r h current roomy gave_up t = t
  no_reason r h current roomy (overtaken y) t = stale_not_current r h y t.meets current
  no_reason r h current roomy (spent y) t = let full = t.1.meets in roomy y full.0 full.1 full.2

  -- What holds of a try that is aborted, with the reason that it is aborted with, and of one that commits holds of the try.
  try_cases : (r : Register W) (i : ℕ) (v : W) (Q : Outcome W → Type 0)
      → ((reason : Reason) → TryAborted S reason r (r.handlers i) → Q (aborted reason))
      → (Current S r (r.handlers i) → Roomy S r (r.handlers i) → Q committed) → Q (step S r i try v).outcome
  unfolding step
  try_cases r i v Q aborts commits = trying_cases S r i (r.handlers i) (λ result. Q result.outcome)
      (λ z stale. aborts (overtaken z) ((overtaken_means r _ z).0 stale))
      (λ current z full. aborts (spent z) ((current_means r _).0 current, (spent_means r _ z).0 full))
      (λ current roomy. commits ((current_means r _).0 current) ((roomy_means r _).0 roomy))

  -- A try is aborted with each reason exactly then.
  pub try_aborted : (r : Register W) (i : ℕ) (v : W) (reason : Reason)
      → ((step S r i try v).outcome ≡ aborted reason) ↔ TryAborted S reason r (r.handlers i)
  try_aborted r i v reason =
      try_cases r i v (λ outcome. (outcome ≡ aborted reason) ↔ TryAborted S reason r (r.handlers i))
      (λ other t. (
        λ e. subst (λ k. TryAborted S k r (r.handlers i)) (same e) t,
        λ u. ap aborted (one_reason r (r.handlers i) other reason t u),
      ))
      (λ current roomy. (
        λ e. absurd (commit_no_abort reason e),
        λ t. absurd (no_reason r (r.handlers i) current roomy reason t),
      ))
    where
      same : {a b : Reason} → ◌≡◌ {A = Outcome W} (aborted a) (aborted b) → a ≡ b
      same e = cc

  -- A try commits exactly when each cell read still has the number held for it, and no written cell's number is spent. So a
  -- transaction that writes a cell it has read, unchanged since, commits.
  pub try_commits : (r : Register W) (i : ℕ) (v : W)
      → ((step S r i try v).outcome ≡ committed) ↔ (Current S r (r.handlers i) × Roomy S r (r.handlers i))
  try_commits r i v =
      try_cases r i v (λ outcome. (outcome ≡ committed) ↔ (Current S r (r.handlers i) × Roomy S r (r.handlers i)))
      (λ reason t. (
        λ e. absurd (commit_no_abort reason (sym e)),
        λ g. absurd (no_reason r (r.handlers i) g.0 g.1 reason t),
      ))
      (λ current roomy. (λ e. (current, roomy), λ g. refl))

  -- Property 6, as docs/RULES.md has it, of a try: a transaction with an empty read set commits, or is aborted with 3 and has written a
  -- cell whose number stands at 65,535.
  pub write_only_commits : (r : Register W) (i : ℕ) (v : W) → ((z : ℕ) → z < S.cell_count → (r.handlers i).read_set z ≡ false)
      → ((step S r i try v).outcome ≡ committed) ⊎ ((z : ℕ) × ((step S r i try v).outcome ≡ aborted (spent z)) × Spent S r (r.handlers i) z)
  unfolding Stale
  write_only_commits r i v unread = try_cases r i v Ends aborts (λ current roomy. inl refl)
    where
      Ends : Outcome W → Type 0
      Ends outcome = (outcome ≡ committed) ⊎ ((z : ℕ) × (outcome ≡ aborted (spent z)) × Spent S r (r.handlers i) z)

      aborts : (reason : Reason) → TryAborted S reason r (r.handlers i) → Ends (aborted reason)
      aborts (torn z) t = absurd t
      aborts gave_up t = absurd t
      aborts (overtaken z) t = let stale = t.meets in both_ways stale.1 (unread z stale.0)
      aborts (spent z) t = inr (z, refl, t.1.meets)

  -- ── A first read ────────────────────────────────────────────────────

  -- A first read of X is aborted, and names Y, exactly when Y is the lowest cell read of which X depends on a later version than the
  -- transaction holds, X itself having joined the read set at its own number.
  pub first_read_aborted : (r : Register W) (i x y : ℕ) (v : W)
      → (r.handlers i).read_set x ≡ false → (r.handlers i).written_set x ≡ false
      → ((step S r i (read x) v).outcome ≡ aborted (torn y)) ↔ LowestOf (Torn S (joined (r.handlers i) x (r.cells x)) (r.cells x)) y
  unfolding step
  first_read_aborted r i x y v unread unwritten =
      reading_cases S r i (r.handlers i) (λ result. (result.outcome ≡ aborted (torn y)) ↔ LowestOf (Torn S joins (r.cells x)) y) x
      (λ copied. both_ways copied (rw (unread, unwritten)))
      (λ first z is_torn. (
        λ e. means.0 (is_torn ∙ ap some (same_cell e)),
        λ t. ap (λ c. aborted (torn c)) (some-injective z y (sym is_torn ∙ means.1 t)),
      ))
      (λ first is_taken. (λ e. absurd (shows_no_abort _ (torn y) e), λ t. absurd (some-ne-none y (sym (means.1 t) ∙ is_taken))))
    where
      joins : Handler W
      joins = joined (r.handlers i) x (r.cells x)

      means : (torn_cell S joins (r.cells x) ≡ some y) ↔ LowestOf (Torn S joins (r.cells x)) y
      means = torn_means joins (r.cells x) y

      same_cell : {a b : ℕ} → ◌≡◌ {A = Outcome W} (aborted (torn a)) (aborted (torn b)) → a ≡ b
      same_cell e = cc

  -- The cell named is never X itself.
  pub torn_by_another : (h : Handler W) (c : Cell W) (x y : ℕ) → LowestOf (Torn S (joined h x c) c) y → y ≡ x → ⊥
  unfolding Torn joined
  torn_by_another h c x y t same =
      let held : put h.transaction x (c.numbers x) x < c.numbers x = subst (λ z. put h.transaction x (c.numbers x) z < c.numbers z) same t.meets.2 in
      omega (arith, put_here h.transaction x (c.numbers x), held)
