-- What a row that was read says.
use Rattle.desk_types.proofs.Common.{◌+◌, ◌<◌, ◌==◌, ◌∙◌, ◌≡◌, ◌≤◌, and_parts, ap, arith, Bool, eqb-true, false, leb-true}
use Rattle.desk_types.proofs.Common.{List, ltb-true, nat_le, nat_lt, None, Ok, ok_or, Option, refl, Some, string_bytes}
use Rattle.desk_types.proofs.Common.{sym, true, ℕ}
use Rattle.cfx_profile.specs.Fault.{◌>>=◌}
use Rattle.line_book.specs.declared.kind.Kind.{Kind}
use Rattle.line_book.specs.declared.kind.Names.{Names}
use Rattle.line_book.specs.declared.note.Matter.{Matter}
use Rattle.line_book.specs.declared.note.Matter.TheVariants.{Decision}
use Rattle.line_book.specs.declared.reading.Reading.{Reading}
use Rattle.line_book.specs.declared.reading.RowFault.TheVariants.{UnknownKind, WrongColumns, WrongNumber, WrongOf, WrongPlace}
use Rattle.line_book.specs.declared.row.BookRow.{BookRow}
use Rattle.line_book.specs.Restored.{Follows}
use Rattle.line_book.specs.Rows.{is_about, is_placed, kind_in, matter_in, matter_of, note_of, test}

-- ---- in turn

about-passed : (about : Matter → Bool) (m x : Matter) (b : Bool) → about x ≡ b
    → (test b WrongOf >>= λ _. Ok x) ≡ Ok m → about m ≡ true
about-passed about m x true same is = let it : x ≡ m = cc in sym (ap about it) ∙ same
about-passed about m x false same is = cc

matter-passed : (about : Matter → Bool) (m : Matter) (o : Option Matter)
    → (ok_or o WrongColumns >>= λ x. test (about x) WrongOf >>= λ _. Ok x) ≡ Ok m → about m ≡ true
matter-passed about m None is = cc
matter-passed about m (Some x) is = about-passed about m x (about x) refl is

-- The tests of a row that was read.
all-passed : (next placed : Bool) (kind : Option Kind) (named : Option Names) (matter : Kind → Names → Option Matter)
    (about : Matter → Bool) (m : Matter)
    → (test next WrongNumber >>= λ _. test placed WrongPlace >>= λ _. ok_or kind UnknownKind >>= λ k.
    ok_or named WrongColumns >>= λ names. ok_or (matter k names) WrongColumns >>= λ x.
    test (about x) WrongOf >>= λ _. Ok x) ≡ Ok m
    → (next ≡ true) × (placed ≡ true) × (about m ≡ true)
all-passed false placed kind named matter about m is = cc
all-passed true false kind named matter about m is = cc
all-passed true true None named matter about m is = cc
all-passed true true (Some k) None matter about m is = cc
all-passed true true (Some k) (Some names) matter about m is = (refl, refl, matter-passed about m (matter k names) is)

about-before : (b : Reading) (of : ℕ) (m : Matter) → is_about b of m ≡ true → (about : ℕ) → m ≡ Decision about
    → (0 < about) × (about ≤ b.entries)
about-before b of m is about same =
    let both = and_parts (nat_lt 0 about) (nat_le about b.entries) (sym (ap (is_about b of) same) ∙ is) in
    (ltb-true 0 about both.0, leb-true about b.entries both.1)

pub follows-read : (b : Reading) (row : BookRow) (named : Option Names) (m : Matter) (text : List ℕ)
    → matter_in b row named ≡ Ok m → Follows b.commands b.entries b.after (note_of row m text)
unfolding matter_in
follows-read b row named m text is =
    let tests = all-passed (row.number == b.entries + 1) (is_placed b row) (kind_in (string_bytes row.kind)) named
    (λ k names. matter_of k names row.of) (is_about b row.of) m is in
    let numbered : row.number ≡ b.entries + 1 = eqb-true row.number (b.entries + 1) tests.0 in
    let within = and_parts (nat_le b.after row.after) (nat_le row.after b.commands) tests.1 in
    record {
      number = numbered;
      rises = leb-true b.after row.after within.0;
      within = leb-true row.after b.commands within.1;
      earlier = λ about told.
          let both = about-before b row.of m tests.2 about told in (both.0, omega (arith, numbered, both.1));
    }
