-- Laws of causal pasts: which commits a past can hold, and what one more deed or one more commit adds to it.
use Prim.Native.Nat.{ℕ, ◌≤◌, ◌<◌}
use native.Mathlib.Omega.{arith}
use mathlib.Core.Path.{◌≡◌, refl, sym, ap, ◌∙◌, fun_ext}
use mathlib.Core.Bool.{Bool, true, false, ◌&&◌, ◌||◌, and-false}
use mathlib.Core.List.{List, [], ◌∷◌}
use lib.ListN.{length}
use lib.Dec.{eqb}
use borrow.Author.Tests.{eqb-true, eqb-false, eq-eqb, ne_eqb}
use Rattle.rules.specs.steps.Replies.{Content}
use Rattle.rules.specs.history.History.{Deed, look, again, set, Commit, some_look, place_after}
use Rattle.rules.specs.history.Past.{has_read_from, follows, in_past, up_to, last_of}
use Rattle.rules.proofs.steps.Tables.{by, or_absorb, or_swap}

module _ {W : Type 0} where
  -- The commit c, which comes after the commits, with its past.
  abbrev pub with_past : Commit W → List (Commit W) → ℕ → Bool
  with_past c commits j = eqb j (place_after commits) || in_past commits c.handler c.deeds j

  -- ── Only commits that stand ─────────────────────────────────────────

  -- A past holds no commit beyond those that stand,
  pub past_none : (commits : List (Commit W)) (i : ℕ) (deeds : List (Deed W)) (j : ℕ)
      → length commits < j → in_past commits i deeds j ≡ false
  unfolding in_past
  past_none [] i deeds j beyond = refl
  past_none (c ∷ commits) i deeds j beyond =
      let none : (k : ℕ) (done : List (Deed W)) → in_past commits k done j ≡ false
      = λ k done. past_none commits k done j (omega arith) in
      simp (ne_eqb j (place_after commits) (omega arith), none, and-false)

  -- nor does a commit with its past.
  pub up_to_none : (commits : List (Commit W)) (k j : ℕ) → length commits < j → up_to commits k j ≡ false
  unfolding up_to
  up_to_none [] k j beyond = refl
  up_to_none (c ∷ commits) k j beyond =
      rw (
        ne_eqb j (place_after commits) (omega arith),
        past_none commits c.handler c.deeds j (omega arith),
        up_to_none commits k j (omega arith),
      )
      (by (eqb k (place_after commits)) (λ e. rw e) (λ e. rw e))

  -- A number beyond the commits names none.
  pub up_to_beyond : (commits : List (Commit W)) (k j : ℕ) → length commits < k → up_to commits k j ≡ false
  unfolding up_to
  up_to_beyond [] k j beyond = refl
  up_to_beyond (c ∷ commits) k j beyond = rw (ne_eqb k (place_after commits) (omega arith)) (up_to_beyond commits k j (omega arith))

  -- ── One more commit ─────────────────────────────────────────────────

  -- The newest commit with its past,
  pub up_to_new : (c : Commit W) (commits : List (Commit W)) → up_to (c ∷ commits) (place_after commits) ≡ with_past c commits
  unfolding up_to
  up_to_new c commits = fun_ext (λ j. rw (eq-eqb (place_after commits) (place_after commits) refl))

  -- and an older one with its past, which stays as it was.
  pub up_to_old : (c : Commit W) (commits : List (Commit W)) (k : ℕ) → k ≤ length commits → up_to (c ∷ commits) k ≡ up_to commits k
  unfolding up_to
  up_to_old c commits k stood = fun_ext (λ j. rw (ne_eqb k (place_after commits) (omega arith)))

  -- A commit of another handler, of which nothing was read, adds nothing.
  pub past_other : (c : Commit W) (commits : List (Commit W)) (i : ℕ) (deeds : List (Deed W))
      → (c.handler ≡ i → ⊥) → has_read_from deeds (place_after commits) ≡ false
      → in_past (c ∷ commits) i deeds ≡ in_past commits i deeds
  unfolding in_past
  past_other c commits i deeds ne e = fun_ext (λ j. rw (ne_eqb c.handler i ne, e))

  -- What a transaction has done takes nothing from the past of its handler.
  past_more : (commits : List (Commit W)) (i : ℕ) (deeds : List (Deed W)) (j : ℕ)
      → in_past commits i [] j ≡ true → in_past commits i deeds j ≡ true
  unfolding in_past has_read_from some_look
  past_more [] i deeds j h = h
  past_more (c ∷ commits) i deeds j h =
      wider (eqb c.handler i) (has_read_from deeds (place_after commits)) (with_past c commits j)
      (in_past commits i [] j) (in_past commits i deeds j) (past_more commits i deeds j) h
    where
      wider : (own drew there old new : Bool)
          → (old ≡ true → new ≡ true) → (own || false) && there || old ≡ true → (own || drew) && there || new ≡ true
      wider true drew true old new f e = refl
      wider true drew false old new f e = f e
      wider false true true old new f e = refl
      wider false true false old new f e = f e
      wider false false there old new f e = f e

  -- After a commit, the past of its handler's next transaction is the commit with its past.
  pub past_next : (c : Commit W) (commits : List (Commit W))
      → in_past (c ∷ commits) c.handler [] ≡ up_to (c ∷ commits) (place_after commits)
  past_next c commits = fun_ext (λ j. own_first j
      ∙ or_absorb (eqb j (place_after commits)) (in_past commits c.handler c.deeds j) (in_past commits c.handler [] j)
      (past_more commits c.handler c.deeds j)
      ∙ ap (λ f. f j) (sym (up_to_new c commits)))
    where
      own_first : (j : ℕ) → in_past (c ∷ commits) c.handler [] j ≡ with_past c commits j || in_past commits c.handler [] j
      own_first j = unfold in_past in (rw (eq-eqb c.handler c.handler refl))

  -- ── One more deed ───────────────────────────────────────────────────

  -- The next law, commit by commit.
  look_at : (commits : List (Commit W)) (i : ℕ) (deeds : List (Deed W)) (x source : ℕ) (v : Content W) (j : ℕ)
      → in_past commits i (look x source v ∷ deeds) j ≡ up_to commits source j || in_past commits i deeds j
  unfolding in_past up_to has_read_from some_look
  look_at [] i deeds x source v j = refl
  look_at (c ∷ commits) i deeds x source v j = rw (look_at commits i deeds x source v j) (by (eqb source (place_after commits))
      (λ e. rw (e, up_to_beyond commits source j (omega (arith, eqb-true source (place_after commits) e)))
      (twice (eqb c.handler i) (has_read_from deeds (place_after commits)) (with_past c commits j) (in_past commits i deeds j)))
      (λ e. rw e
      (or_swap (follows c commits i deeds && with_past c commits j) (up_to commits source j) (in_past commits i deeds j))))
    where
      twice : (own drew there rest : Bool) → (own || true) && there || rest ≡ there || ((own || drew) && there || rest)
      twice true drew true rest = refl
      twice true drew false rest = refl
      twice false true true rest = refl
      twice false true false rest = refl
      twice false false true rest = refl
      twice false false false rest = refl

  -- A read from the cells adds its source with that one's past.
  pub past_look : (commits : List (Commit W)) (i : ℕ) (deeds : List (Deed W)) (x source : ℕ) (v : Content W)
      → in_past commits i (look x source v ∷ deeds) ≡ (λ j. up_to commits source j || in_past commits i deeds j)
  past_look commits i deeds x source v = fun_ext (look_at commits i deeds x source v)

  -- Deeds that read the same versions have the same past.
  past_same : (commits : List (Commit W)) (i : ℕ) (deeds others : List (Deed W)) (j : ℕ)
      → ((k : ℕ) → has_read_from deeds k ≡ has_read_from others k) → in_past commits i deeds j ≡ in_past commits i others j
  unfolding in_past
  past_same [] i deeds others j same = refl
  past_same (c ∷ commits) i deeds others j same = rw (past_same commits i deeds others j same, same (place_after commits))

  -- A read answered from the copy adds nothing,
  pub past_again : (commits : List (Commit W)) (i : ℕ) (deeds : List (Deed W)) (x : ℕ) (v : Content W)
      → in_past commits i (again x v ∷ deeds) ≡ in_past commits i deeds
  past_again commits i deeds x v =
      fun_ext (λ j. past_same commits i (again x v ∷ deeds) deeds j (λ k. unfold has_read_from some_look in refl))

  -- nor does a write.
  pub past_set : (commits : List (Commit W)) (i : ℕ) (deeds : List (Deed W)) (x : ℕ) (v : W)
      → in_past commits i (set x v ∷ deeds) ≡ in_past commits i deeds
  past_set commits i deeds x v =
      fun_ext (λ j. past_same commits i (set x v ∷ deeds) deeds j (λ k. unfold has_read_from some_look in refl))

  -- ── A handler's last commit ─────────────────────────────────────────

  -- The last commit of a handler stands.
  pub last_of_stood : (commits : List (Commit W)) (i : ℕ) → last_of commits i ≤ length commits
  unfolding last_of
  last_of_stood [] i = omega arith
  last_of_stood (c ∷ commits) i = by (eqb c.handler i)
      (λ e. rw e (omega arith))
      (λ e. rw e (omega (arith, last_of_stood commits i)))

  -- A new commit is its handler's last,
  pub last_of_new : (c : Commit W) (commits : List (Commit W)) → last_of (c ∷ commits) c.handler ≡ place_after commits
  unfolding last_of
  last_of_new c commits = rw (eq-eqb c.handler c.handler refl)

  -- and nobody else's.
  pub last_of_other : (c : Commit W) (commits : List (Commit W)) (i : ℕ) → (c.handler ≡ i → ⊥)
      → last_of (c ∷ commits) i ≡ last_of commits i
  unfolding last_of
  last_of_other c commits i ne = rw (ne_eqb c.handler i ne)

  -- A transaction that has done nothing has its handler's last commit, with that one's past, for its past.
  pub past_last : (commits : List (Commit W)) (i : ℕ) → in_past commits i [] ≡ up_to commits (last_of commits i)
  past_last [] i = unfold in_past up_to in refl
  past_last (c ∷ commits) i = by (eqb c.handler i)
      (λ e. rw (← eqb-true c.handler i e) (past_next c commits ∙ ap (up_to (c ∷ commits)) (sym (last_of_new c commits))))
      (λ e. let ne : c.handler ≡ i → ⊥ = eqb-false c.handler i e in
      past_other c commits i [] ne (unfold has_read_from some_look in refl)
      ∙ past_last commits i
      ∙ sym (up_to_old c commits (last_of commits i) (last_of_stood commits i))
      ∙ ap (up_to (c ∷ commits)) (sym (last_of_other c commits i ne)))
