-- Files that were closed hold what they held.
use Rattle.std.proofs.Common.{◌≡◌, ◌∙◌, ◌+◌, ◌<◌, ℕ, IsTrue, Some, None, List, [], ◌∷◌, ◌++◌, append_assoc, append-nil}
use Rattle.std.proofs.Common.{get_or, length, length-append, refl, sym, ap, subst, subst₂, arith, inl, inr, take}
use Rattle.std.proofs.lemmas.List.{take_more}
use Rattle.std.proofs.Math.Logic.{∥∥₁_map}
use Rattle.sqlite_disk.specs.declared.Disk as disk
use Rattle.sqlite_disk.specs.declared.Files.{Files}
use Rattle.sqlite_store.specs.declared.store.FileStore.{FileStore}
use Rattle.sqlite_trees.specs.Tree.{Trees}
use Rattle.sqlite_wal.specs.Reads.{AreClean}
use Rattle.sqlite_wal.specs.Recovery.{Image}
use Rattle.sqlite_wal.proofs.LogLemmas.{SeenMayStay}
use Rattle.sqlite.specs.Effect.{Database}
use Rattle.sqlite.specs.Files.{file_state, over_files}
use Rattle.sqlite.specs.Held.{Held}
use Rattle.sqlite.specs.State.{HasCleanDisk}
use Rattle.desk_types.specs.History.{History}
use Rattle.feeder_state.specs.declared.desk.StateDesk.{StateDesk}
use Rattle.line_tables.specs.Frames.{ReadsOnly}
use Rattle.line_tables.specs.Rows.{Holds}
use Rattle.line_replay.specs.Rows.{ledger_tables}
use Rattle.line_schema.specs.declared.fault.OpenFault.{OpenFault}
use Rattle.line_schema.specs.declared.store.LineStore.{LineStore}
use Rattle.line_schema.specs.Stands.{conn_of}
use Rattle.desk_commands.specs.Closed.{Close, failed, whole, ClosesConn}
use Rattle.desk_commands.proofs.ClosedFiles.{refuses_run_to}
use Rattle.desk_file.specs.Files.{Begins, HasOursFirst, HasTables, MayRead}
use Rattle.desk_file.specs.Refused.{RefusesRun}
use Rattle.chain_files.specs.Files.{HoldHistory, oldest_first, placed, start_of}
use Rattle.chain_files.specs.Kept.{AddsKept, AreKept, IsKept}
use Rattle.chain_files.specs.Marks.{OnlyReadFiles}
use Rattle.chain_files.specs.Opened.{OpensDesk}

-- ---- one file

pub begins-tables : (image : Image) (greatest : ℕ) (H : History) → Begins image None greatest H
    → HasTables image (ledger_tables greatest H)
begins-tables image greatest H (inl is) = is
begins-tables image greatest H (inr none) = absurd (let no = none.1 in cc)

-- Files that were only read hold what they held.
may-read : {D : Type 0} (g : disk.Ghosts D) (f f' : Files D) (image : Image) → OnlyReadFiles g f f'
    → MayRead g f' image → MayRead g f image
may-read g f f' image read (inl is) = inl (is ∙ read.same)
may-read g f f' image read (inr left) = inr (read.leaves image left)

module _ {D : Type 0} {g : disk.Ghosts D} (image : Image) (store : LineStore (FileStore D g) StateDesk)
    (conn : Held (FileStore D g)) (f f' : Files D) (opens : OpensDesk image store)
    (reads : ReadsOnly over_files (conn_of store) conn) (read : OnlyReadFiles g f f') where
  -- A desk's file that was read, and closed.
  pub closed-whole : ClosesConn whole conn f → (clean : AreClean g f'.log f'.db) (ours : HasOursFirst image)
      → HasCleanDisk (file_state (conn_of store)) × HasCleanDisk (file_state conn)
      × ((before : HasCleanDisk (file_state (conn_of store))) → HoldHistory g image f' (opens before ours).1)
  closed-whole closes clean' ours =
      let clean = read.clean clean' in
      let after : HasCleanDisk (file_state conn) = (closes.1 clean).was_clean in (
        omega (arith, reads.survives.clean, after),
        after,
        λ before.
            let b = opens before ours in
            let tables = ledger_tables b.0 b.1 in
            let keeps : HasCleanDisk (file_state conn) → IsTrue (file_state conn).is_open
            → Holds (file_state conn).committed tables = λ was_clean is_open.
            let kept = reads.kept was_clean in
            subst (λ (db : Database). Holds db tables) (sym (kept.committed is_open))
            (b.3.tables before refl (kept.was_open is_open)) in
            (b.0, begins-tables image b.0 b.1 b.2, λ at may. closes.0 tables keeps clean at (may-read g f f' at read may), b.3.lawful before refl, b.3.consistent),
      )

  pub read-kept : ClosesConn whole conn f → IsKept g image f'
  read-kept closes = inl (λ clean ours.
      let it = closed-whole closes clean ours in
      let held = it.2 it.0 in
      (whole, inl (held.0, (opens it.0 ours).1, held.1, held.2, held.3, held.4)))

  -- A close that failed left it.
  pub left-kept : ClosesConn failed conn f → IsKept g image f'
  left-kept closes = inl (λ clean' ours.
      let left = closes (read.clean clean') in
      let before : HasCleanDisk (file_state (conn_of store)) = omega (arith, reads.survives.clean, left.was_clean) in
      let b = opens before ours in
      let was : (trees : Trees) → (file_state conn).may_leave trees → (file_state (conn_of store)).may_leave trees =
      λ trees may. elim (reads.survives.crash left.was_clean trees may) [
        | inl old ↦ old
        | inr none ↦ absurd none
      ] in (
        failed,
        inl (
          b.0,
          b.1,
          begins-tables image b.0 b.1 b.2,
          λ at may.
              ∥∥₁_map (left.holds at (may-read g f f' at read may)) (λ it. (it.0, b.4 it.0 (was it.0 it.1.may), it.2)),
          b.3.lawful before refl,
          b.3.consistent,
        ),
      ))

pub unread : {D : Type 0} (g : disk.Ghosts D) (f : Files D) → OnlyReadFiles g f f
unread g f = record { same = refl; leaves = λ _ left. left; clean = λ clean. clean }

-- A file that was refused, and closed again.
module _ {D : Type 0} {g : disk.Ghosts D} (stays : SeenMayStay g) (image : Image) (fault : OpenFault)
    (conn : Held (FileStore D g))
    (refuses : RefusesRun image None (record { fault = fault; file = Some conn; unread = None })) where
  pub refused-kept : (how : Close) (f : Files D) → ClosesConn how conn f → IsKept g image f
  refused-kept how f closes = inl (λ clean ours.
      let it = refuses_run_to (start_of image) stays how fault conn f closes refuses in
      (how, inr (it.0 clean).1))

-- ---- the files of a run

pub one-more : {D : Type 0} (g : disk.Ghosts D) (image : Image) (path : List ℕ) {opened opened' : List (List ℕ)}
    {closed closed' : List (Files D)} (f : Files D) → opened' ≡ opened ++ path ∷ [] → closed' ≡ closed ++ f ∷ []
    → IsKept g image f → AddsKept g image path opened opened' closed closed'
one-more g image path f told order kept = inl (told, (f, order, kept))

pub none-kept : {D : Type 0} (g : disk.Ghosts D) (image : List ℕ → ℕ → Image) (paths opened : List (List ℕ))
    (closed : List (Files D)) → closed ≡ [] → AreKept g image paths opened opened closed
none-kept g image paths opened closed none = record {
  inside = omega (arith, ap length none);
  told = sym (append-nil opened) ∙ ap (λ (n : ℕ). opened ++ take n paths) (sym (ap length none));
  newest_first = [];
  order = none;
  each = tt;
}

length-oldest : {X : Type 0} (xs : List X) → length (oldest_first xs) ≡ length xs
length-oldest [] = refl
length-oldest (x ∷ older) =
    let sum : length (oldest_first older ++ x ∷ []) ≡ length (oldest_first older) + 1 =
    length-append (oldest_first older) (x ∷ []) in
    omega (arith, sum, length-oldest older)

-- One more file, with the path at its place.
module _ {D : Type 0} (g : disk.Ghosts D) (image : List ℕ → ℕ → Image) (paths first opened opened' : List (List ℕ))
    (closed closed' : List (Files D)) (n : ℕ) (path : List ℕ) (is : path ≡ get_or paths n []) (within : n < length paths)
    (long : length closed ≡ n) (kept : AreKept g image paths first opened closed) where
  told-more : opened' ≡ opened ++ path ∷ [] → opened' ≡ first ++ take (n + 1) paths
  told-more told =
      told ∙ ap (λ (all : List (List ℕ)). all ++ path ∷ []) kept.told
      ∙ ap (λ (k : ℕ). (first ++ take k paths) ++ path ∷ []) long
      ∙ append_assoc first (take n paths) (path ∷ [])
      ∙ ap (λ (last : List ℕ). first ++ (take n paths ++ last ∷ [])) is
      ∙ ap (λ (all : List (List ℕ)). first ++ all) (sym (take_more paths n [] within))

  adds : AddsKept g (image path n) path opened opened' closed closed' → AreKept g image paths first opened' closed'
  adds (inr (told, order)) = subst₂ (AreKept g image paths first) (sym told) (sym order) kept
  adds (inl (told, (f, order, more))) =
      let same : length kept.newest_first ≡ n =
      sym (length-oldest kept.newest_first) ∙ sym (ap length kept.order) ∙ long in
      let longer : length closed' ≡ length closed + 1 = ap length order ∙ length-append closed (f ∷ []) in
      let count : n + 1 ≡ length closed' = omega (arith, longer, long) in
      record {
        inside = omega (arith, count, within);
        told = told-more told ∙ ap (λ (k : ℕ). first ++ take k paths) count;
        newest_first = f ∷ kept.newest_first;
        order = order ∙ ap (λ (fs : List (Files _)). fs ++ f ∷ []) kept.order;
        each = (
          subst (λ (k : ℕ). IsKept g (placed image paths k) f) (sym same)
              (subst (λ (path : List ℕ). IsKept g (image path n) f) is more),
          kept.each,
        );
      }

-- The same, by an opener with the same contents.
pub more-kept : {D : Type 0} (g : disk.Ghosts D) (paths first : List (List ℕ)) {image held : List ℕ → ℕ → Image}
    {opened opened' : List (List ℕ)} {closed closed' : List (Files D)} (n : ℕ) (path : List ℕ) → held ≡ image
    → path ≡ get_or paths n [] → n < length paths → length closed ≡ n → AreKept g image paths first opened closed
    → AddsKept g (held path n) path opened opened' closed closed' → AreKept g image paths first opened' closed'
more-kept g paths first {image} {held} {opened} {opened'} {closed} {closed'} n path same is within long kept more =
    adds g image paths first opened opened' closed closed' n path is within long kept
    (subst (λ (h : List ℕ → ℕ → Image). AddsKept g (h path n) path opened opened' closed closed') same more)
