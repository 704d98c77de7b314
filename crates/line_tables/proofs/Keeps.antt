-- A statement inside a transaction leaves the last commit unchanged.
use Rattle.desk_types.proofs.Common.{◌∙◌, ◌≡◌, ◌⊎◌, Bool, Err, Global, IfErr, IfOk, if◌then◌else◌, inl, inr}
use Rattle.desk_types.proofs.Common.{IsTrue, List, None, Ok, Option, refl, Result, Some, subst, sym, true}
use Rattle.desk_types.proofs.Common.{Vec, ℕ}
use Rattle.line_tables.proofs.Common.{Database, Error, IsOurs, KeepsCommit, Reads, Row, State}
use Rattle.sqlite.specs.Clock.{timed}
use Rattle.sqlite.specs.State.{ExecutesInside, FailsToQuery, FailsToShow, IsNotRun, IsRolledBack, IsTooLate}
use Rattle.sqlite.specs.State.{IsUnchanged, Shown, Shows, ShowsRows}
use Rattle.sqlite_schema.specs.declared.command.Returning.{Returning}

pub keeps_same : (s : State) → KeepsCommit s s
keeps_same s = record { was_open = λ is. is; committed = λ _. refl }

pub keeps_then : (a b c : State) → KeepsCommit a b → KeepsCommit b c → KeepsCommit a c
keeps_then a b c p q = record { was_open = λ is. p.was_open (q.was_open is); committed = λ is. q.committed is ∙ p.committed (q.was_open is) }

pub reads_before : (old mid : State) → KeepsCommit old mid → (Is : Database → Type 0) → Reads mid Is → Reads old Is
reads_before old mid kept Is r =
    let same = kept.committed r.was_open in
    record { was_open = kept.was_open r.was_open; are = λ ours. subst Is same (r.are (subst (λ (db : Database). IsOurs db.schema) (sym same) ours)) }

shows_keep : (old new : State) (now : Database) (mode : Bool) → Shows old new now old.committed mode → KeepsCommit old new
shows_keep old new now mode h = record { was_open = λ _. h.was_open; committed = λ _. h.committed_is }

unchanged_keeps : (old new : State) → IsUnchanged old new → KeepsCommit old new
unchanged_keeps old new h = record { was_open = λ _. h.0.was_open; committed = λ _. h.0.committed_is }

undone_keeps : (old new : State) → IsRolledBack old new → KeepsCommit old new
undone_keeps old new h = record { was_open = h.was_open; committed = λ is. (h.undone is).1 }

pub keeps_by : (old new : State) (r : Result ℕ Error) (sql : List ℕ) (params : Row) → ExecutesInside 0 sql params old new r → KeepsCommit old new
keeps_by old new (Ok count) sql params h = shows_keep old new new.now true h.1
keeps_by old new (Err e) sql params (inl (h, inl same)) = unchanged_keeps old new same
keeps_by old new (Err e) sql params (inl (h, inr undone)) = undone_keeps old new undone
keeps_by old new (Err e) sql params (inr h) = unchanged_keeps old new h.2

shown_keeps : (sql : List ℕ) (params : Row) (old new : State) (rows : List Row) → IsTrue old.in_transaction → Shown sql params old new rows → KeepsCommit old new
unfolding Shown
shown_keeps sql params old new rows within h = by h.0.returning h.2
  where
    by : (r : Option Returning) → ShowsRows old new sql h.0 (timed params h.0.formats h.1.now) rows r → KeepsCommit old new
    by None it = unchanged_keeps old new it.3
    by (Some what) it = let w = it.1 in record { was_open = λ _. w.shown.was_open; committed = λ _. subst (λ b. new.committed ≡ (if b then old.committed else new.now)) within w.shown.committed_is }

fails_keeps : (sql : List ℕ) (params : Row) (old new : State) (e : Error) → FailsToQuery sql params old new e → KeepsCommit old new
unfolding FailsToQuery IsNotRun
fails_keeps sql params old new e (inl (inl not_run)) = unchanged_keeps old new not_run.1
fails_keeps sql params old new e (inl (inr fails)) = undone_keeps old new fails.3
fails_keeps sql params old new e (inr h) = by h.0.returning h.2
  where
    by : (r : Option Returning) → FailsToShow old new sql h.0 (timed params h.0.formats h.1.now) e r → KeepsCommit old new
    by None it = unchanged_keeps old new it.3
    by (Some what) (inl it) = unchanged_keeps old new it.1
    by (Some what) (inr it) = undone_keeps old new it.3

pub query_keeps : (sql : List ℕ) (params : Row) (old new : State) (r : Result (Vec Row Global) Error) → IsTrue old.in_transaction
    → IfOk r (λ rows. Shown sql params old new rows.items) → IfErr r (λ e. FailsToQuery sql params old new e ⊎ IsTooLate sql params old new e) → KeepsCommit old new
query_keeps sql params old new (Ok rows) within ok err = shown_keeps sql params old new rows.items within ok
query_keeps sql params old new (Err e) within ok (inl err) = fails_keeps sql params old new e err
query_keeps sql params old new (Err e) within ok (inr late) = unchanged_keeps old new late.5

pub shown_open : (sql : List ℕ) (params : Row) (old new : State) (rows : List Row) → Shown sql params old new rows → IsTrue old.is_open
unfolding Shown
shown_open sql params old new rows h = by h.0.returning h.2
  where
    by : (r : Option Returning) → ShowsRows old new sql h.0 (timed params h.0.formats h.1.now) rows r → IsTrue old.is_open
    by None it = it.3.0.was_open
    by (Some what) it = it.1.shown.was_open
