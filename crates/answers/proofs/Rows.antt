-- What a row answers of one cell, by what is told of its source: whether the cell was read or written, what its copy shows, and whether a
-- read of it passes a test.
use Rattle.std.proofs.Common.{◌≡◌, ℕ, ◌+◌, ◌-◌, ◌<◌, Bool, true, false, not, ◌&&◌, ◌||◌, Option, None, Some, MatchOption, List, eqb, refl, ap, ◌∙◌, arith}
use Rattle.std.specs.Option.{option_eq}
use Rattle.rules.specs.steps.Replies.{value}
use Rattle.rules.specs.history.History.{Commit, some_look, has_read, has_written, writer}
use Rattle.rules.specs.history.Past.{later, outdated}
use Rattle.rules.specs.demand.Judge.{copied, stale}
use Rattle.rules.proofs.steps.Steps.{shows_value}
use Rattle.rules.proofs.steps.Tables.{both_ways}
use Rattle.ledger.specs.Entries.{Entry}
use Rattle.ledger.specs.Histories.{deeds_of}
use Rattle.ledger.proofs.Deeds.{copy_none, copy_noted, look_none, look_noted, shown_read}

module _ (e : Entry) (x : ℕ) where
  -- What is told of the cell's source is what the entry notes.
  abbrev pub Told : Option ℕ → Type 0
  Told source = MatchOption source (e.sources x ≡ 0) (λ place. e.sources x ≡ place + 1)

  module _ (m : ℕ) (inside : x < m) where
    -- A cell with a source has been read or written,
    pub touched_source : (source : Option ℕ) → Told source → not (option_eq eqb source None) ≡ true
        → has_read (deeds_of e m) x || has_written (deeds_of e m) x ≡ true
    touched_source None told some = both_ways some refl
    touched_source (Some place) told some = copy_noted e m x inside refl (λ none. omega (arith, told))

    -- and one with none just where a write is noted.
    pub touched_none : (source : Option ℕ) → Told source → not (option_eq eqb source None) ≡ false
        → has_read (deeds_of e m) x || has_written (deeds_of e m) x ≡ e.written x
    touched_none None told none = copy_none e m x inside refl told
    touched_none (Some place) told none = both_ways refl none

    -- A cell that was read from a commit and not written shows its copy.
    pub shown_source : e.written x ≡ false → 1 < e.sources x → copied (deeds_of e m) x ≡ value (e.copies x)
    shown_source unwritten some = shown_read e m x inside unwritten refl ∙ shows_value _ _ (λ none. omega arith)

    -- ── Reads ─────────────────────────────────────────────────────────

    -- What is asked of a source is asked of the read.
    asked : (test : ℕ → ℕ → Bool) (place : ℕ) → e.sources x ≡ place + 1 → some_look (λ z source. eqb x z && test z source) (deeds_of e m) ≡ test x place
    asked test place told = let same : e.sources x - 1 ≡ place = omega (arith, told) in
        look_noted e test m x inside refl (λ none. omega (arith, told)) ∙ ap (test x) same

    module _ (commits : List (Commit ℕ)) where
      -- A read is outdated where a later version is found than its source's,
      pub outdated_source : (included : ℕ → Bool) (place : ℕ) → e.sources x ≡ place + 1
          → outdated commits included (deeds_of e m) x ≡ later commits included x place
      unfolding outdated
      outdated_source included = asked (later commits included)

      -- and where there was none, none is.
      pub outdated_none : (included : ℕ → Bool) → e.sources x ≡ 0 → outdated commits included (deeds_of e m) x ≡ false
      unfolding outdated
      outdated_none included none = look_none e _ m x inside refl none

      -- A read is stale where its source is not the writer,
      pub stale_source : (place : ℕ) → e.sources x ≡ place + 1 → stale commits (deeds_of e m) x ≡ not (eqb place (writer commits x))
      unfolding stale
      stale_source = asked (λ z source. not (eqb source (writer commits z)))

      -- and where there was none, none is.
      pub stale_none : e.sources x ≡ 0 → stale commits (deeds_of e m) x ≡ false
      unfolding stale
      stale_none none = look_none e _ m x inside refl none
