-- Both lists, read in turn.
use Rattle.desk_types.proofs.Common.{[], ◌+◌, ◌∙◌, ◌≡◌, ◌≤◌, ap, arith, Basis, Bool, History, if◌then◌else◌, inl, inr}
use Rattle.desk_types.proofs.Common.{length, List, nat_lt, refl, Some, subst, sym, true, false, ℕ, ◌^◌}
use Rattle.line_book.specs.declared.note.Note.{Note}
use Rattle.line_book.specs.declared.reading.Reading.{Reading}
use Rattle.line_book.specs.Guard.{IsNextNote}
use Rattle.line_book_store.proofs.CheckedRows.{short_is_fault, stop_is_fault}
use Rattle.line_book_store.proofs.ReadEntries.{read-follows}
use Rattle.line_book_store.specs.Checking.{fault_after, Goes, IsFaultOf, IsReadTo, IsStop}
use Rattle.line_book_store.specs.Reading.{ReadsShelf}
use Rattle.line_book_store.specs.declared.fault.BookFault.{BookFault}
use Rattle.line_book_store.specs.declared.fault.BookFault.TheVariants.{Unavailable, WrongEntry}
use Rattle.line_schema.specs.{Frames.ReadsStore, declared.store.LineStore.LineStore}
use Rattle.line_tables.proofs.Common.{Ghosts, has_number, KeepsCommit, State}
use Rattle.line_tables.proofs.Frames.{reads_same, reads_then}
use Rattle.book_store.proofs.Noting.{commands_are, next_note}
use Rattle.book_store.proofs.Until.{length_until}
use Rattle.book_store.specs.Restored.{history_until, IsWrong}
use Rattle.desk_types.proofs.Common.{filter, ◌==◌}

module _ {S D : Type 0} (g : Ghosts S) (F : D → Basis → Type 0) where
  pub store_same : (store : LineStore S D) → ReadsStore g F store store
  store_same store = record { stands = λ L stands. stands; working = refl; reads = reads_same g store.conn }

  pub store_then : (old mid new : LineStore S D) → ReadsStore g F old mid → ReadsStore g F mid new
      → ReadsStore g F old new
  store_then old mid new one two = record {
    stands = λ L stands. two.stands L (one.stands L stands);
    working = two.working ∙ one.working;
    reads = reads_then g old.conn mid.conn new.conn one.reads two.reads;
  }

module _ (commands : ℕ) (Clean : Type 0) (old : State) (notes : List Note) (b : Reading)
    (was : IsReadTo commands Clean old notes b) (Then : Type 0) (mid : State) where
  module _ (after : Reading) (n : Note) (goes : Goes Then mid b after (Some n)) where
    -- Its place is behind that of the last one, and within the history.
    pub next_place : (b.after ≤ n.after) × (n.after ≤ commands) × (after.after ≡ n.after)
    next_place =
        let follows = read-follows b goes.0 n goes.1 in
        let same = commands_are commands was.entries notes b was.read in
        (follows.rises, omega (arith, follows.within, same), ap (λ (r : Reading). r.after) goes.2)

    -- The next entry of a book that was read, after the commands before it were taken in.
    pub placed_next : (H : History) → commands ≡ length H → IsNextNote (history_until n.after H) notes n
    placed_next H counted =
        let place = next_place in
        let within : n.after ≤ length H = omega (arith, place.1, counted) in
        next_note commands was.entries notes b was.read (history_until n.after H) goes.0 n goes.1
        (sym (length_until H n.after within))

  module _ (early : Then → Clean) (kept : Clean → KeepsCommit old mid) where
    -- A row that stops the reading is wrong.
    pub stops_wrong : (f : BookFault) → Then → IsStop mid b f → IsWrong commands old f
    stops_wrong f clean (inl is) = inl is
    stops_wrong f clean (inr stop) = inr (
      b.entries + 1,
      stop.0,
      subst (IsFaultOf commands old) stop.0
          (stop_is_fault commands Clean Then early old mid kept notes b was f clean (inr stop)),
    )

-- A book with more rows than entries is wrong behind them.
pub short_wrong : (commands : ℕ) (Clean : Type 0) (old : State) (notes : List Note) (b : Reading)
    → IsReadTo commands Clean old notes b → Clean
    → ReadsShelf old (λ rows. filter (has_number (b.entries + 1)) rows ≡ []) → ReadsShelf old
    (λ rows. false ≡ (b.entries == length rows)) → (f : BookFault) → f ≡ fault_after b.entries
    → IsWrong commands old f
short_wrong commands Clean old notes b was clean none short f whole = by (nat_lt (b.entries + 1) (2 ^ 32)) whole
  where
    by : (fits : Bool) → f ≡ (if fits then WrongEntry (b.entries + 1) else Unavailable) → IsWrong commands old f
    by true is = inr (
      b.entries + 1,
      is,
      subst (IsFaultOf commands old) is
          (short_is_fault commands Clean old notes b was clean none short f whole),
    )
    by false is = inl is
