-- Laws of sources: who can have written a version that was read, and what a later version and a stale one are by number.
use Rattle.std.specs.Prelude.{if◌then◌else◌}
use Prim.Native.Nat.{ℕ, suc, ◌≤◌}
use native.Mathlib.Omega.{arith}
use mathlib.Core.Path.{◌≡◌, refl, sym, ap, ◌∙◌}
use mathlib.Core.Bool.{Bool, true, false, not, ◌&&◌, ◌||◌, and-false}
use mathlib.Core.List.{List, [], ◌∷◌}
use lib.ListN.{length}
use lib.Dec.{eqb, ltb}
use borrow.Author.Tests.{eqb-true, eqb-false, eq-eqb, ne_eqb, lt-ltb, le-ltb}
use Rattle.rules.specs.history.History.{Deed, Commit, has_read, has_written, place_after, writer_among, every_commit, writer}
use Rattle.rules.specs.history.Past.{up_to, later, outdated}
use Rattle.rules.specs.demand.Judge.{version_count, number_among, stale}
use Rattle.rules.proofs.steps.Tables.{by, same_test}
use Rattle.rules.proofs.history.Versions.{count_new, among_new, among_old, writer_new, writer_old, writer_stood}
use Rattle.rules.proofs.history.Versions.{number_most, number_every, number_new, number_old, number_writer}
use Rattle.rules.proofs.history.Deeds.{EachRead, look_at_cell}

module _ {W : Type 0} where
  -- ── Who wrote a version ─────────────────────────────────────────────

  -- The source wrote y, or is the opening.
  unfoldable pub wrote_by : List (Commit W) → ℕ → ℕ → Bool
  wrote_by [] source y = eqb source 0
  wrote_by (c ∷ commits) source y = if eqb source (place_after commits) then has_written c.deeds y else (wrote_by commits source y)

  -- A source stands,
  pub source_stood : (commits : List (Commit W)) (source y : ℕ) → wrote_by commits source y ≡ true → source ≤ length commits
  unfolding wrote_by
  source_stood [] source y h = omega (arith, eqb-true source 0 h)
  source_stood (c ∷ commits) source y h = by (eqb source (place_after commits))
      (λ e. omega (arith, eqb-true source (place_after commits) e))
      (λ e. omega (arith, source_stood commits source y (rw e at h)))

  -- and is the source that it was after one more commit;
  pub wrote_by_old : (c : Commit W) (commits : List (Commit W)) (source y : ℕ)
      → source ≤ length commits → wrote_by (c ∷ commits) source y ≡ wrote_by commits source y
  unfolding wrote_by
  wrote_by_old c commits source y stood = rw (ne_eqb source (place_after commits) (omega arith))

  -- the newest commit is the source of what it wrote.
  wrote_by_new : (c : Commit W) (commits : List (Commit W)) (y : ℕ)
      → wrote_by (c ∷ commits) (place_after commits) y ≡ has_written c.deeds y
  unfolding wrote_by
  wrote_by_new c commits y = rw (eq-eqb (place_after commits) (place_after commits) refl)

  -- The writer of the present version wrote it.
  pub wrote_by_writer : (commits : List (Commit W)) (x : ℕ) → wrote_by commits (writer commits x) x ≡ true
  wrote_by_writer [] x = unfold wrote_by writer writer_among in refl
  wrote_by_writer (c ∷ commits) x = by (has_written c.deeds x)
      (λ e. rw (writer_new c commits x e) (wrote_by_new c commits x ∙ e))
      (λ e. rw (writer_old c commits x e)
      (wrote_by_old c commits (writer commits x) x (writer_stood commits x) ∙ wrote_by_writer commits x))

  -- What is known of a source of y among one commit more: it is that commit, and wrote y, or it stood before.
  pub source_cases {ℓ} : {A : Type ℓ} (c : Commit W) (commits : List (Commit W)) (source y : ℕ)
      → wrote_by (c ∷ commits) source y ≡ true
      → (source ≡ place_after commits → has_written c.deeds y ≡ true → A)
      → (source ≤ length commits → wrote_by commits source y ≡ true → A) → A
  source_cases c commits source y h new old = by (eqb source (place_after commits))
      (λ e. let q : source ≡ place_after commits = eqb-true source (place_after commits) e in
      new q (sym (wrote_by_new c commits y) ∙ (rw q at h)))
      (λ e. let stood : source ≤ length commits
      = omega (arith, source_stood (c ∷ commits) source y h, eqb-false source (place_after commits) e) in
      old stood (sym (wrote_by_old c commits source y stood) ∙ h))

  -- The source, if it is the newest commit, wrote the latest version of all.
  number_newest : (c : Commit W) (commits : List (Commit W)) (source y : ℕ) → source ≡ place_after commits
      → has_written c.deeds y ≡ true
      → number_among (c ∷ commits) (up_to (c ∷ commits) source) y ≡ version_count (c ∷ commits) y
  number_newest c commits source y q e = rw (q, count_new c commits y e) (number_new c commits y ∙ rw e)

-- The source wrote the latest version of y that a set of commits holds.
pub record Latest {W : Type 0} (commits : List (Commit W)) (included : ℕ → Bool) (y source : ℕ) : Type 0 where
  pub wrote : wrote_by commits source y ≡ true
  pub number : number_among commits (up_to commits source) y ≡ number_among commits included y

module _ {W : Type 0} where
  -- Versions with the same number have the same writer.
  pub latest_writer : (commits : List (Commit W)) (included : ℕ → Bool) (y source : ℕ)
      → Latest commits included y source → writer_among commits included y ≡ source
  latest_writer [] included y source latest = unfold writer_among wrote_by in (sym (eqb-true source 0 latest.wrote))
  latest_writer (c ∷ commits) included y source latest =
      source_cases c commits source y latest.wrote newest (standing (latest_writer commits included y source))
    where
      here : Bool
      here = included (place_after commits) && has_written c.deeds y

      newest : source ≡ place_after commits → has_written c.deeds y ≡ true → writer_among (c ∷ commits) included y ≡ source
      newest q e = by here
          (λ k. (among_new c commits included y k).0 ∙ sym q)
          (λ k. absurd (omega (
            arith,
            number_newest c commits source y q e,
            count_new c commits y e,
            latest.number,
            (among_old c commits included y k).1,
            number_most commits included y,
          )))

      standing : (Latest commits included y source → writer_among commits included y ≡ source)
          → source ≤ length commits → wrote_by commits source y ≡ true → writer_among (c ∷ commits) included y ≡ source
      standing before stood wrote =
          let number : number_among commits (up_to commits source) y ≡ number_among (c ∷ commits) included y
          = sym (number_old c commits source y stood) ∙ latest.number in
          by here
          (λ k. absurd (omega (arith, number, (among_new c commits included y k).1, number_most commits (up_to commits source) y)))
          (λ k. (among_old c commits included y k).0
          ∙ before (record { wrote = wrote; number = number ∙ (among_old c commits included y k).1 }))

  -- ── Later and stale versions, by number ─────────────────────────────

  -- No commit is later than the last.
  later_none : (commits : List (Commit W)) (included : ℕ → Bool) (y source : ℕ)
      → length commits ≤ source → later commits included y source ≡ false
  unfolding later
  later_none [] included y source h = refl
  later_none (c ∷ commits) included y source h =
      rw (
        le-ltb source (place_after commits) h,
        later_none commits included y source (omega arith),
        and-false (has_written c.deeds y),
        and-false (included (place_after commits)),
      )

  -- One more commit than the source stood among.
  later_step : (c : Commit W) (commits : List (Commit W)) (included : ℕ → Bool) (y source number : ℕ)
      → source ≤ length commits → number ≤ version_count commits y
      → later commits included y source ≡ ltb number (number_among commits included y)
      → later (c ∷ commits) included y source ≡ ltb number (number_among (c ∷ commits) included y)
  unfolding later number_among
  later_step c commits included y source number stood most e = rw (lt-ltb source (place_after commits) (omega arith))
      (one_more (included (place_after commits)) (has_written c.deeds y) (later commits included y source)
      (number_among commits included y) (version_count commits y) most e)
    where
      one_more : (inside wrote before : Bool) (b top : ℕ) → number ≤ top → before ≡ ltb number b
          → (inside && (wrote && true)) || before ≡ ltb number (if inside && wrote then suc top else b)
      one_more true true before b top h q = sym (lt-ltb number (suc top) (omega arith))
      one_more true false before b top h q = q
      one_more false wrote before b top h q = q

  -- A set holds a later version than the source's just if its latest version has a higher number.
  pub later_is : (commits : List (Commit W)) (included : ℕ → Bool) (y source : ℕ) → wrote_by commits source y ≡ true
      → later commits included y source ≡ ltb (number_among commits (up_to commits source) y) (number_among commits included y)
  later_is [] included y source h = unfold later number_among in refl
  later_is (c ∷ commits) included y source h = source_cases c commits source y h
      (λ q e. later_none (c ∷ commits) included y source (omega arith)
      ∙ sym (le-ltb (number_among (c ∷ commits) (up_to (c ∷ commits) source) y) (number_among (c ∷ commits) included y)
      (omega (arith, number_newest c commits source y q e, number_most (c ∷ commits) included y))))
      (λ stood wrote. rw (number_old c commits source y stood)
      (later_step c commits included y source (number_among commits (up_to commits source) y) stood
      (number_most commits (up_to commits source) y) (later_is commits included y source wrote)))

  module _ (commits : List (Commit W)) (included : ℕ → Bool) (deeds : List (Deed W))
      (each : EachRead (λ y source v. Latest commits included y source) deeds) where
    -- Where each version read is the latest that a set holds, one is outdated just if others hold a higher number.
    pub outdated_at : (others : ℕ → Bool) (y : ℕ)
        → outdated commits others deeds y ≡ has_read deeds y && ltb (number_among commits included y) (number_among commits others y)
    unfolding outdated
    outdated_at others y = look_at_cell (later commits others)
        (λ z. ltb (number_among commits included z) (number_among commits others z)) deeds y
        (λ z source v sooner q. let latest = each z source v sooner q in
        later_is commits others z source latest.wrote ∙ rw latest.number)

    -- And it is stale just if its number is not that of the present version.
    pub stale_at_lem : (y : ℕ)
        → stale commits deeds y ≡ has_read deeds y && not (eqb (number_among commits included y) (version_count commits y))
    unfolding stale
    stale_at_lem y = look_at_cell (λ z source. not (eqb source (writer commits z)))
        (λ z. not (eqb (number_among commits included z) (version_count commits z))) deeds y
        (λ z source v sooner q. ap not (present z source (each z source v sooner q)))
      where
        present : (z source : ℕ) → Latest commits included z source
            → eqb source (writer commits z) ≡ eqb (number_among commits included z) (version_count commits z)
        present z source latest = same_test _ _
            (λ e. eq-eqb (number_among commits included z) (version_count commits z) (sym latest.number
            ∙ ap (λ k. number_among commits (up_to commits k) z) (eqb-true source (writer commits z) e)
            ∙ number_writer commits z))
            (λ e. eq-eqb source (writer commits z) (sym (unfold writer in (latest_writer commits every_commit z source (record {
              wrote = latest.wrote;
              number = latest.number
                  ∙ eqb-true (number_among commits included z) (version_count commits z) e
                  ∙ sym (number_every commits z);
            })))))
