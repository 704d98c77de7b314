use Rattle.desk_types.proofs.Common.{[], ◌+◌, ◌-◌, ◌^◌, ◌≡◌, false, filter, if◌then◌else◌}
use Rattle.line_tables.proofs.Common.{has_number, HasCleanDisk}
use Rattle.line_book_store.specs.{Checking.IsReadTo, Reading.ReadsShelf}
use Rattle.line_schema.specs.{Frames.ReadsStore, Stands.state_of}
use Rattle.doubt_file.proofs.entries.entries_of.Given as goal

abbrev pub invariant-loop-more : goal.invariant-loop-more
invariant-loop-more g l =
    let old = state_of g.S.Store l.fn.store in
    let now = state_of g.S.Store l.store in record {
      read : IsReadTo l.commands (HasCleanDisk now) old l.notes.items l.reading;
      none : l.more ≡ false → HasCleanDisk now → ReadsShelf old
          (λ rows. filter (has_number (l.reading.entries + 1)) rows ≡ []);
      reads : ReadsStore g.S.Store g.D.Desk.Stands l.fn.store l.store;
    }

abbrev pub decreases-loop-more : goal.decreases-loop-more
decreases-loop-more g l = if l.more then 2 ^ 32 - l.reading.entries + 1 else 0
