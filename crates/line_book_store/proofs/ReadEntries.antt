-- Rows that are read as entries.
use Rattle.desk_types.proofs.Common.{[], ◌++◌, ◌+◌, ◌<◌, ◌==◌, ◌∙◌, ◌∷◌, ◌≡◌, ap, ap₂, arith, Err, length, List, map, None, Ok, ok_or, Option, refl, Result, Some, string_bytes, subst, sym, ℕ}
use Rattle.desk_types.specs.Id.{IsId, Name}
use Rattle.cfx_profile.specs.Fault.{◌>>=◌}
use Rattle.line_book.proofs.RowsRead.{follows-read}
use Rattle.line_book.specs.declared.kind.Names.{Names}
use Rattle.line_book.specs.declared.note.Matter.{Matter}
use Rattle.line_book.specs.declared.note.Note.{Note}
use Rattle.line_book.specs.declared.reading.Reading.{Reading}
use Rattle.line_book.specs.declared.reading.RowFault.{RowFault}
use Rattle.line_book.specs.declared.reading.RowFault.TheVariants.{WrongTold}
use Rattle.line_book.specs.declared.row.BookRow.{BookRow}
use Rattle.line_book.specs.Restored.{Follow, Follows, IsBook}
use Rattle.line_book.specs.Rows.{AreNames, entry_in, first_reading, HasNames, IsColumn, matter_in, note_of, read_on, text_of}
use Rattle.line_book_store.specs.{Book.entry_columns, Book.GoOn, Checking.AreRead, Checking.IsRead}

-- ---- one row

pub told-with : (n : Note) (o : Option (List ℕ)) (out : List ℕ → Note) → (ok_or o WrongTold >>= λ t. Ok (out t)) ≡ Ok n → (t : List ℕ) × (n ≡ out t)
told-with n None out is = cc
told-with n (Some t) out is = (t, cc)

pub said-with : (r : Result Matter RowFault) (text : Matter → Option (List ℕ)) (out : Matter → List ℕ → Note) (n : Note)
    → (r >>= λ m. ok_or (text m) WrongTold >>= λ t. Ok (out m t)) ≡ Ok n → (m : Matter) × (t : List ℕ) × (r ≡ Ok m) × (n ≡ out m t)
said-with (Err f) text out n is = cc
said-with (Ok m) text out n is = let it = told-with n (text m) (out m) is in (m, it.0, refl, it.1)

pub said : (b : Reading) (row : BookRow) (named : Option Names) (n : Note) → entry_in b row named ≡ Ok n → (m : Matter) × (t : List ℕ) × (matter_in b row named ≡ Ok m) × (n ≡ note_of row m t)
unfolding entry_in
said b row named n is = said-with (matter_in b row named) (λ m. text_of m (string_bytes row.told)) (note_of row) n is

pub read-follows : (b : Reading) (row : BookRow) (n : Note) → IsRead b row n → Follows b.commands b.entries b.after n
read-follows b row n read =
    let it = said b row read.0 n read.2 in
    subst (Follows b.commands b.entries b.after) (sym it.3) (follows-read b row read.0 it.0 it.1 it.2)

read-number : (b : Reading) (row : BookRow) (n : Note) → IsRead b row n → row.number ≡ b.entries + 1
read-number b row n read =
    let it = said b row read.0 n read.2 in
    sym (ap (λ (m : Note). m.number) it.3) ∙ (read-follows b row n read).number

-- ---- the names in the columns

no_empty_name : (name : Name) → [] ≡ name → IsId name → ⊥
no_empty_name [] is name = omega (arith, name.some)
no_empty_name (x ∷ xs) is name = absurd (cc)

one_column : (text : List ℕ) (a b : Option Name) → IsColumn text a → IsColumn text b → a ≡ b
one_column text None None p q = refl
one_column text (Some x) (Some y) p q = ap Some (sym p.0 ∙ q.0)
one_column text None (Some y) p q = absurd (no_empty_name y (sym p ∙ q.0) q.1)
one_column text (Some x) None p q = absurd (no_empty_name x (sym q ∙ p.0) p.1)

one_names : (row : BookRow) (a b : Names) → AreNames row a → AreNames row b → a ≡ b
one_names row a b p q =
    let machine = one_column _ a.machine b.machine p.machine q.machine in
    let slot = one_column _ a.slot b.slot p.slot q.slot in
    let board = one_column _ a.board b.board p.board q.board in
    let reel = one_column _ a.reel b.reel p.reel q.reel in
    let word = one_column _ a.word b.word p.word q.word in
    λ i. record { machine = machine i; slot = slot i; board = board i; reel = reel i; word = word i }

one_named : (row : BookRow) (a b : Option Names) → HasNames row a → HasNames row b → a ≡ b
one_named row None None p q = refl
one_named row (Some x) (Some y) p q = ap Some (one_names row x y p q)
one_named row None (Some y) p q = absurd (p y q)
one_named row (Some x) None p q = absurd (q x p)

-- Rows with the same columns are read as the same.
same_columns : (e f : BookRow) → entry_columns e ≡ entry_columns f → (names : Names) → AreNames e names → AreNames f names
same_columns e f same names are = record {
  machine = subst (λ t. IsColumn t names.machine) machine are.machine;
  slot = subst (λ t. IsColumn t names.slot) slot are.slot;
  board = subst (λ t. IsColumn t names.board) board are.board;
  reel = subst (λ t. IsColumn t names.reel) reel are.reel;
  word = subst (λ t. IsColumn t names.word) word are.word;
}
  where
    machine : string_bytes e.machine ≡ string_bytes f.machine
    machine = cc

    slot : string_bytes e.slot ≡ string_bytes f.slot
    slot = cc

    board : string_bytes e.board ≡ string_bytes f.board
    board = cc

    reel : string_bytes e.reel ≡ string_bytes f.reel
    reel = cc

    word : string_bytes e.word ≡ string_bytes f.word
    word = cc

same_names : (e f : BookRow) → entry_columns e ≡ entry_columns f → (named : Option Names) → HasNames e named → HasNames f named
same_names e f same None none = λ names are. none names (same_columns f e (sym same) names are)
same_names e f same (Some names) are = same_columns e f same names are

same_entry : (b : Reading) (e f : BookRow) → entry_columns e ≡ entry_columns f → (named : Option Names) → entry_in b e named ≡ entry_in b f named
unfolding entry_in matter_in
same_entry b e f same named =
    let number : e.number ≡ f.number = cc in
    let after : e.after ≡ f.after = cc in
    let kind : string_bytes e.kind ≡ string_bytes f.kind = cc in
    let of : e.of ≡ f.of = cc in
    let told : string_bytes e.told ≡ string_bytes f.told = cc in
    rw (number, after, kind, of, told) refl

-- A row that is read as no entry has no columns of one that is.
pub not-read : (b : Reading) (f : BookRow) (named : Option Names) (fault : RowFault) → HasNames f named → entry_in b f named ≡ Err fault → (e : BookRow) (n : Note) → entry_columns f ≡ entry_columns e → IsRead b e n → ⊥
not-read b f named fault names wrong e n same read =
    let mine : HasNames e named = same_names f e same named names in
    let is : read.0 ≡ named = one_named e read.0 named read.1 mine in
    let both : entry_in b f named ≡ Ok n = same_entry b f e same named ∙ ap (entry_in b e) (sym is) ∙ read.2 in
    absurd (let two = sym wrong ∙ both in cc)

-- Rows with the same columns are read as one entry.
same_note : (b : Reading) (e f : BookRow) (n m : Note) → entry_columns e ≡ entry_columns f → IsRead b e n
    → IsRead b f m → n ≡ m
same_note b e f n m same p q =
    let named : p.0 ≡ q.0 = one_named f p.0 q.0 (same_names e f same p.0 p.1) q.1 in
    let both : Ok n ≡ Ok m = sym p.2 ∙ same_entry b e f same p.0 ∙ ap (entry_in b f) named ∙ q.2 in
    cc

-- ---- rows in turn

pub read-more : (b c d : Reading) (es : List BookRow) (ns : List Note) (e : BookRow) (n : Note) → AreRead b es ns c → IsRead c e n → d ≡ read_on c n → AreRead b (es ++ e ∷ []) (ns ++ n ∷ []) d
read-more b c d [] [] e n are read on = (subst (λ (r : Reading). IsRead r e n) are read, on ∙ ap (λ (r : Reading). read_on r n) are)
read-more b c d (x ∷ es) (m ∷ ns) e n are read on = (are.0, read-more (read_on b m) c d es ns e n are.1 read on)
read-more b c d [] (m ∷ ns) e n are read on = absurd are
read-more b c d (x ∷ es) [] e n are read on = absurd are

pub read-count : (b c : Reading) (es : List BookRow) (ns : List Note) → AreRead b es ns c → (length es ≡ length ns) × (c.entries ≡ b.entries + length ns)
read-count b c [] [] are = let same = ap (λ (r : Reading). r.entries) are in (refl, omega (arith, same))
read-count b c (x ∷ es) (m ∷ ns) are =
    let more = read-count (read_on b m) c es ns are.1 in
    let number = (read-follows b x m are.0).number in
    (omega (arith, more.0), omega (arith, more.1, number))
read-count b c [] (m ∷ ns) are = absurd are
read-count b c (x ∷ es) [] are = absurd are

pub read-book : (b c : Reading) (es : List BookRow) (ns : List Note) → AreRead b es ns c → Follow b.commands b.entries b.after ns
read-book b c [] [] are = tt
read-book b c (x ∷ es) (m ∷ ns) are =
    let follows = read-follows b x m are.0 in
    (follows, subst (λ k. Follow b.commands k m.after ns) follows.number (read-book (read_on b m) c es ns are.1))
read-book b c [] (m ∷ ns) are = absurd are
read-book b c (x ∷ es) [] are = absurd are

pub read-numbers : (b c : Reading) (es : List BookRow) (ns : List Note) → AreRead b es ns c → GoOn b.entries es
read-numbers b c [] [] are = tt
read-numbers b c (x ∷ es) (m ∷ ns) are =
    let follows = read-follows b x m are.0 in
    (read-number b x m are.0, subst (λ k. GoOn k es) follows.number (read-numbers (read_on b m) c es ns are.1))
read-numbers b c [] (m ∷ ns) are = absurd are
read-numbers b c (x ∷ es) [] are = absurd are

pub same_notes : (b c d : Reading) (es fs : List BookRow) (ns ms : List Note)
    → map entry_columns es ≡ map entry_columns fs → AreRead b es ns c → AreRead b fs ms d → ns ≡ ms
same_notes b c d [] [] [] [] same p q = refl
same_notes b c d (e ∷ es) (f ∷ fs) (n ∷ ns) (m ∷ ms) same p q =
    let first : entry_columns e ≡ entry_columns f = cc in
    let rest : map entry_columns es ≡ map entry_columns fs = cc in
    let one = same_note b e f n m first p.0 q.0 in
    ap₂ (λ x xs. x ∷ xs) one (same_notes (read_on b m) c d es fs ns ms rest
    (subst (λ (x : Note). AreRead (read_on b x) es ns c) one p.1) q.1)
same_notes b c d [] [] [] (m ∷ ms) same p q = absurd q
same_notes b c d [] [] (n ∷ ns) ms same p q = absurd p
same_notes b c d [] (f ∷ fs) ns ms same p q = absurd (cc)
same_notes b c d (e ∷ es) [] ns ms same p q = absurd (cc)
same_notes b c d (e ∷ es) (f ∷ fs) [] ms same p q = absurd p
same_notes b c d (e ∷ es) (f ∷ fs) (n ∷ ns) [] same p q = absurd q
