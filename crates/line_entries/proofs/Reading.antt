-- A row of a new entry is read as that entry.
use Rattle.desk_types.proofs.Common.{◌&&◌, ◌+◌, ◌<◌, ◌==◌, ◌∙◌, ◌≡◌, ◌≤◌, ap, arith, Bool, eq-eqb}
use Rattle.desk_types.proofs.Common.{eqb-true, length}
use Rattle.desk_types.proofs.Common.{List, Name, nat_le, nat_tests, None, Ok, Option, refl, Some}
use Rattle.desk_types.proofs.Common.{string_bytes, sym, true, ℕ}
use Rattle.line_book.specs.declared.kind.Names.{Names}
use Rattle.line_book.specs.declared.note.Matter.{Matter}
use Rattle.line_book.specs.declared.note.Matter.TheVariants as matter
use Rattle.line_book.specs.declared.note.Note.{Note}
use Rattle.line_book.specs.declared.note.Stock.TheVariants.{Reel, Lot}
use Rattle.line_book.specs.declared.reading.Reading.{Reading}
use Rattle.line_book.specs.declared.row.BookRow.{BookRow}
use Rattle.line_book.specs.Rows.{AreNames, carries_by, entry_in, HasNames, is_about, is_placed, IsColumn, kind_in}
use Rattle.line_book.specs.Rows.{kind_text, matter_in, matter_of, note_of, text_of}
use Rattle.line_entries.specs.declared.columns.Columns.{Columns}
use Rattle.line_entries.specs.declared.row.Sender.{Sender}
use Rattle.line_entries.specs.Columns.{columns_of, kind_of, of_number}
use Rattle.line_entries.specs.Rows.{HasColumns, IsNext, IsRowOf, IsToldBy, may_carry}

-- ---- columns

one_name : (text : List ℕ) (a b : Option Name) → IsColumn text a → IsColumn text b → a ≡ b
one_name text None None a b = refl
one_name text (Some x) (Some y) a b = ap Some (sym a.0 ∙ b.0)
one_name text None (Some y) a b = let some = b.1.some in let empty = ap length (sym b.0 ∙ a) in
    absurd (omega (arith, some, empty))
one_name text (Some x) None a b = let some = a.1.some in let empty = ap length (sym a.0 ∙ b) in
    absurd (omega (arith, some, empty))

names_in : Columns → Names
names_in c = record { machine = c.machine; slot = c.slot; board = c.board; reel = c.reel; word = c.word }

are_names : (c : Columns) (row : BookRow) → HasColumns c row → AreNames row (names_in c)
unfolding names_in
are_names c row has = record
    { machine = has.machine; slot = has.slot; board = has.board; reel = has.reel; word = has.word }

one_names : (c : Columns) (row : BookRow) (names : Names) → HasColumns c row → AreNames row names → names ≡ names_in c
unfolding names_in
one_names c row names has are =
    let machine = one_name _ _ _ are.machine has.machine in
    let slot = one_name _ _ _ are.slot has.slot in
    let board = one_name _ _ _ are.board has.board in
    let reel = one_name _ _ _ are.reel has.reel in
    let word = one_name _ _ _ are.word has.word in
    rw (sym machine, sym slot, sym board, sym reel, sym word) refl

named_so : (c : Columns) (row : BookRow) (named : Option Names) → HasColumns c row → HasNames row named
    → named ≡ Some (names_in c)
named_so c row None has none = absurd (none (names_in c) (are_names c row has))
named_so c row (Some names) has are = ap Some (one_names c row names has are)

-- ---- kinds

kind_found : (m : Matter) → kind_in (kind_text (kind_of m)) ≡ Some (kind_of m)
kind_found (matter.Handling machine slot reel word) = refl
kind_found (matter.Stray machine slot reel word) = refl
kind_found (matter.Work machine slot board word) = refl
kind_found (matter.Unread word) = refl
kind_found (matter.Differs machine slot board reel desk_reel) = refl
kind_found (matter.Boundary machine slot board reel desk_reel) = refl
kind_found (matter.Uncompared machine board) = refl
kind_found (matter.Attribute reel name) = refl
kind_found (matter.Decision about) = refl
kind_found (matter.Hold stock) = refl
kind_found (matter.Release stock) = refl
kind_found matter.Made = refl
kind_found matter.Begun = refl
kind_found matter.Restored = refl

matter_found : (carries : ℕ) (m : Matter)
    → matter_of (kind_of m) (names_in (columns_of m)) (of_number carries m) ≡ Some m
unfolding names_in
matter_found carries (matter.Handling machine slot reel word) = refl
matter_found carries (matter.Stray machine slot reel word) = refl
matter_found carries (matter.Work machine slot board word) = refl
matter_found carries (matter.Unread word) = refl
matter_found carries (matter.Differs machine slot board reel desk_reel) = refl
matter_found carries (matter.Boundary machine slot board reel desk_reel) = refl
matter_found carries (matter.Uncompared machine board) = refl
matter_found carries (matter.Attribute reel name) = refl
matter_found carries (matter.Decision about) = refl
matter_found carries (matter.Hold (Reel reel)) = refl
matter_found carries (matter.Hold (Lot lot)) = refl
matter_found carries (matter.Release (Reel reel)) = refl
matter_found carries (matter.Release (Lot lot)) = refl
matter_found carries matter.Made = refl
matter_found carries matter.Begun = refl
matter_found carries matter.Restored = refl

-- ---- the tests of a row

about_so : (before : Reading) (number carries : ℕ) (m : Matter) → number ≡ before.entries + 1
    → ((about : ℕ) → m ≡ matter.Decision about → (0 < about) × (about < number))
    → may_carry before.begun carries m ≡ true → is_about before (of_number carries m) m ≡ true
about_so before number carries (matter.Decision about) next earlier may = let both = earlier about refl in
    let some = both.0 in let less = both.1 in grind (arith, nat_tests)
about_so before number carries (matter.Handling machine slot reel word) next earlier may = may
about_so before number carries (matter.Stray machine slot reel word) next earlier may = may
about_so before number carries (matter.Work machine slot board word) next earlier may = may
about_so before number carries (matter.Unread word) next earlier may = may
about_so before number carries (matter.Differs machine slot board reel desk_reel) next earlier may = may
about_so before number carries (matter.Boundary machine slot board reel desk_reel) next earlier may = may
about_so before number carries (matter.Uncompared machine board) next earlier may = may
about_so before number carries (matter.Attribute reel name) next earlier may = may
about_so before number carries (matter.Hold stock) next earlier may = may
about_so before number carries (matter.Release stock) next earlier may = may
about_so before number carries matter.Made next earlier may = may
about_so before number carries matter.Begun next earlier may = may
about_so before number carries matter.Restored next earlier may = may

carries_so : (begun : Bool) (carries : ℕ) (m : Matter) → may_carry begun carries m ≡ true
    → carries_by (of_number carries m) m ≡ carries
carries_so begun carries (matter.Decision about) may = sym (eqb-true carries 0 may)
carries_so begun carries (matter.Handling machine slot reel word) may = refl
carries_so begun carries (matter.Stray machine slot reel word) may = refl
carries_so begun carries (matter.Work machine slot board word) may = refl
carries_so begun carries (matter.Unread word) may = refl
carries_so begun carries (matter.Differs machine slot board reel desk_reel) may = refl
carries_so begun carries (matter.Boundary machine slot board reel desk_reel) may = refl
carries_so begun carries (matter.Uncompared machine board) may = refl
carries_so begun carries (matter.Attribute reel name) may = refl
carries_so begun carries (matter.Hold stock) may = refl
carries_so begun carries (matter.Release stock) may = refl
carries_so begun carries matter.Made may = refl
carries_so begun carries matter.Begun may = refl
carries_so begun carries matter.Restored may = refl

placed_so : (before : Reading) (after : ℕ) → before.after ≤ after → after ≤ before.commands
    → (nat_le before.after after && nat_le after before.commands) ≡ true
placed_so before after rises within = grind (arith, nat_tests)

-- ---- the row

same_note : (row : BookRow) (n : Note) → row.number ≡ n.number → row.after ≡ n.after
    → carries_by row.of n.matter ≡ n.carries
    → note_of row n.matter n.text ≡ n
same_note row n number after carries = rw (number, after, carries) refl

pub row_read : (before : Reading) (n : Note) (sender : Sender) (told : List ℕ) (row : BookRow) (named : Option Names)
    → IsRowOf n sender told row → IsNext before n → IsToldBy told n → HasNames row named
    → entry_in before row named ≡ Ok n
unfolding entry_in matter_in
row_read before n sender told row named is next tells has =
    let number : (row.number == before.entries + 1) ≡ true = eq-eqb _ _ (is.number ∙ next.follows.number) in
    let placed : is_placed before row ≡ true =
    ap (λ a. nat_le before.after a && nat_le a before.commands) is.after
    ∙ placed_so before n.after next.follows.rises next.follows.within in
    let kind : kind_in (string_bytes row.kind) ≡ Some (kind_of n.matter) = ap kind_in is.kind ∙ kind_found n.matter in
    let names : named ≡ Some (names_in (columns_of n.matter)) = named_so (columns_of n.matter) row named is.columns
    has in
    let matter : matter_of (kind_of n.matter) (names_in (columns_of n.matter)) row.of ≡ Some n.matter =
    ap (matter_of (kind_of n.matter) (names_in (columns_of n.matter))) is.of ∙ matter_found n.carries n.matter in
    let about : is_about before row.of n.matter ≡ true = ap (λ o. is_about before o n.matter) is.of
    ∙ about_so before n.number n.carries n.matter next.follows.number next.follows.earlier next.carries in
    let text : text_of n.matter (string_bytes row.told) ≡ Some n.text = ap (text_of n.matter) is.told ∙ tells in
    let carries : carries_by row.of n.matter ≡ n.carries =
    ap (λ o. carries_by o n.matter) is.of ∙ carries_so before.begun n.carries n.matter next.carries in
    rw (number, placed, kind, names) (rw matter (rw (about, text) (ap Ok (same_note row n is.number is.after carries))))
