-- What a guard keeps of the two lists.
use Rattle.std.specs.Prelude.{◌≡◌, ℕ, ◌+◌, ◌<◌, ◌≤◌, false, List, [], Option, length, All, filter, unwrap_or}
use Rattle.std.specs.List.{list_any}
use Rattle.std.specs.BTreeMap as tree
use Rattle.std.specs.BTreeMap.{BTreeMap}
use Rattle.desk_types.specs.declared.command.Entry.{Entry}
use Rattle.desk_types.specs.Id.{Name, by_name}
use Rattle.desk_types.specs.History.{History}
use Rattle.desk_types.specs.Pair.{by_pair}
use Rattle.desk_types.specs.Tape.{tape_of}
use Rattle.desk_types.specs.Work.{in_work_on}
use Rattle.line_book.specs.declared.guard.Guard.{Guard}
use Rattle.line_book.specs.declared.note.Matter.TheVariants.{Decision}
use Rattle.line_book.specs.declared.note.Note.{Note}
use Rattle.line_book.specs.Book.{Book, is_open, decides}
use Rattle.line_book.specs.Setup.{KeepsSetup}
use Rattle.line_book.specs.Undecided.{undecided}

-- The board that the map has on the machine.
abbrev pub running_at : BTreeMap Name Name → Name → Option Name
running_at running machine = tree.get by_name running machine

-- The slot's tape in the map, empty if unknown.
abbrev pub tape_at : BTreeMap (Name × Name) (List Name) → Name → Name → List Name
tape_at tapes machine slot = unwrap_or (tree.get by_pair tapes (machine, slot)) []

-- No number in the history is above its length, no entry is placed after its end, and no decision
-- is about an entry that is yet to come.
pub record ArePlaced (H : History) (B : Book) : Type 0 where
  pub numbers : All (λ (e : Entry). e.number ≤ length H) H
  pub places : All (λ (n : Note). n.after ≤ length H) B
  pub decisions : (number : ℕ) → length B < number
      → list_any (λ (d : Note). decides number d.matter) B ≡ false

-- The entry is the next one: it has the next number and stands at the end of the history, and a
-- decision is about an earlier entry.
pub record IsNextNote (H : History) (B : Book) (n : Note) : Type 0 where
  pub number : n.number ≡ length B + 1
  pub place : n.after ≡ length H
  pub earlier : (about : ℕ) → n.matter ≡ Decision about → about < n.number

-- The guard has the boards in work, the tapes, the alternates and holds, the open entries and those that wait for a
-- decision.
pub record IsGuard (H : History) (B : Book) (guard : Guard) : Type 0 where
  pub placed : ArePlaced H B
  pub running : (machine : Name) → running_at guard.running machine ≡ in_work_on H machine
  pub tapes : (machine slot : Name) → tape_at guard.tapes machine slot ≡ tape_of H machine slot
  pub setup : KeepsSetup H B guard.setup
  pub open_notes : guard.open_notes.items ≡ filter (is_open H B) B
  pub undecided : guard.undecided.items ≡ undecided B
