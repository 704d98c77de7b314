-- Reading the file of a command gives that command.
use Rattle.desk_types.proofs.Common.{[], ◌++◌, ◌+◌, ◌<◌, ◌==◌, ◌^◌, ◌∙◌, ◌∷◌, ◌≡◌, ◌≤◌, All, All-append}
use Rattle.desk_types.proofs.Common.{All-cons, All-head, All-nil, All-tail, ap, arith, Bool, decimal, false}
use Rattle.desk_types.proofs.Common.{if◌then◌else◌, is_designator_byte, is_utf8, is_utf8-from_IsUtf8}
use Rattle.desk_types.proofs.Common.{IsCountRow, IsDesignator, IsId, IsListOf, IsSheetRow, IsUtf8-from_ascii}
use Rattle.desk_types.proofs.Common.{join_with_byte, length, length-map, List, map, Name, nat_le, nat_tests}
use Rattle.desk_types.proofs.Common.{None, Ok, refl, Result, slice_split_at, slice_split_none, Some, suc, sym}
use Rattle.desk_types.proofs.Common.{true, zero, ℕ}
use Rattle.cfx_profile.proofs.Names.{designator_of-read, id_of-read}
use Rattle.cfx_profile.specs.Forms.{designator_of, id_of, is_designator}
use Rattle.csv.proofs.{OnLiterals.csv_on_literals, RoundTrip.read-write-many}
use Rattle.csv.specs.{Machine.next_record, Reading.default_config, Reading.records_from, Reading.strip_bom}
use Rattle.csv.specs.{Records.field_at, Writing.default_writer, Writing.row_text}
use Rattle.desk_types.proofs.{Ascii.IsUtf8-printable, Ascii.printable-marks, Numerals.own}
use Rattle.desk_types.specs.{declared.count.CountRow.CountRow, declared.limits.TheConstants.GREATEST_QUANTITY}
use Rattle.desk_types.specs.{declared.limits.TheConstants.LONGEST_INPUT}
use Rattle.desk_types.specs.{declared.limits.TheConstants.LONGEST_LIST, declared.sheet.SheetRow.SheetRow}
use Rattle.imports.specs.{File.count_row, File.counts_said, File.designators_of, File.each, File.file_rows}
use Rattle.imports.specs.{File.is_counts_header, File.is_number, File.is_setup_header, File.quantity_of}
use Rattle.imports.specs.{File.Record, File.records_of, File.setup_said, File.sheet_row, File.some_rows}
use Rattle.imports.specs.{File.three_texts, File.two_texts, File.words_of, Written.count_fields}
use Rattle.imports.specs.{Written.counts_header, Written.CountsAreSaid, Written.records_text}
use Rattle.imports.specs.{Written.sheet_fields, Written.sheet_header, Written.SheetsAreSaid}
use Rattle.imports.specs.{declared.fault.ImportFault.ImportFault, declared.records.TheConstants.MOST_RECORDS}
use Rattle.imports.specs.{declared.rows.TheConstants.FIRST_ROW, declared.rows.TheConstants.LAST_ROW}
use Rattle.std.proofs.{lemmas.Fmt.decimal_nonempty, lemmas.Fmt.digits_decimal}
use Rattle.std.proofs.{lemmas.Fmt.digits_value-decimal, lemmas.Fmt.IsAscii-decimal}
use Rattle.std.proofs.{lemmas.Fmt.length-decimal-le, lemmas.List.Elements.All-map}
use Rattle.std.proofs.{lemmas.List.Sums.list_all-from_AllPass}
use Rattle.csv.specs.declared.parser.State.TheVariants as st

-- ---- records

-- A record of at least two fields.
abbrev IsLong : Record → Type 0
IsLong fields = (a : List ℕ) × (b : List ℕ) × (rest : Record) × (fields ≡ a ∷ b ∷ rest)

no_more : next_record default_config st.StartRecord [] [] [] ≡ None
unfolding next_record
no_more = refl

read_back : (n : ℕ) (rs : List Record) → All IsLong rs → length rs ≤ n → records_from default_config n st.StartRecord (records_text rs) ≡ rs
unfolding records_from
read_back zero [] long fits = refl
read_back (suc n) [] long fits = rw no_more refl
read_back zero (r ∷ rs) long fits = absurd (omega (arith, fits))
read_back (suc n) (r ∷ rs) long fits =
    let head = All-head IsLong r rs long in
    let first : next_record default_config st.StartRecord [] [] (row_text default_writer r ++ records_text rs) ≡ Some (r, st.StartRecord, records_text rs) =
    rw head.3 (read-write-many head.0 head.1 head.2 (records_text rs)) in
    rw first (ap (λ more. r ∷ more) (read_back n rs (All-tail IsLong r rs long) (omega (arith, fits))))

-- ---- fields

id_text : (id : Name) → IsId id → is_utf8 id ≡ true
id_text id is = is_utf8-from_IsUtf8 id (IsUtf8-printable id is.printable)

id_read : (id : Name) → IsId id → id_of id ≡ Some id
id_read id is = sym (id_of-read (Some id) id (is, refl))

pieces_text : (n : ℕ) → n ≤ GREATEST_QUANTITY → is_utf8 (decimal n) ≡ true
pieces_text n fits = is_utf8-from_IsUtf8 (decimal n) (IsUtf8-from_ascii _ (IsAscii-decimal n (omega (arith, fits))))

pieces_read : (n : ℕ) → n ≤ GREATEST_QUANTITY → quantity_of (decimal n) ≡ Some n
unfolding quantity_of
pieces_read n fits =
    let small : n < 2 ^ 64 = omega (arith, fits) in
    let digits = digits_decimal own n small in
    let value = digits_value-decimal own n small in
    let short = length-decimal-le 8 n (omega arith) (omega (arith, fits)) small in
    let some = decimal_nonempty n small in
    let number : is_number (decimal n) ≡ true = grind (arith, nat_tests) in
    let most : nat_le n GREATEST_QUANTITY ≡ true = grind (arith, nat_tests) in
    rw (number, value, most) refl

no_space : (b : ℕ) → is_designator_byte b ≡ true → (b == 0x20) ≡ false
no_space b is = grind (arith, nat_tests)

words_split : (words : List Name) → 1 ≤ length words → All IsDesignator words → words_of (join_with_byte 0x20 words) ≡ words
words_split [] some all = absurd (omega (arith, some))
words_split (w ∷ []) some all = slice_split_none (λ b. b == 0x20) w (λ k d inside. no_space _ ((All-head IsDesignator w [] all).marks k d inside))
words_split (w ∷ v ∷ vs) some all =
    slice_split_at (λ b. b == 0x20) w 0x20 (join_with_byte 0x20 (v ∷ vs)) (λ k d inside. no_space _ ((All-head IsDesignator w (v ∷ vs) all).marks k d inside)) refl
    ∙ ap (λ more. w ∷ more) (words_split (v ∷ vs) (omega arith) (All-tail IsDesignator w (v ∷ vs) all))

abbrev IsPrintable : ℕ → Type 0
IsPrintable b = (0x20 ≤ b) × (b ≤ 0x7e)

words_printable : (words : List Name) → All IsDesignator words → All IsPrintable (join_with_byte 0x20 words)
words_printable [] all = All-nil IsPrintable
words_printable (w ∷ []) all = printable-marks w (All-head IsDesignator w [] all).marks
words_printable (w ∷ v ∷ vs) all =
    All-append IsPrintable w _ (printable-marks w (All-head IsDesignator w (v ∷ vs) all).marks)
    (All-cons IsPrintable 0x20 _ (omega arith, omega arith) (words_printable (v ∷ vs) (All-tail IsDesignator w (v ∷ vs) all)))

words_text : (words : List Name) → All IsDesignator words → is_utf8 (join_with_byte 0x20 words) ≡ true
words_text words all = is_utf8-from_IsUtf8 _ (IsUtf8-printable _ (words_printable words all))

designator_test : (w : Name) → IsDesignator w → is_designator w ≡ true
unfolding designator_of
designator_test w is =
    elim (is_designator w) as (λ b. Some w ≡ (if b then Some w else None) → b ≡ true) [ true ↦ λ _. refl | false ↦ λ e. cc ] (designator_of-read (Some w) w (is, refl))

words_read : (words : List Name) → IsListOf IsDesignator words → designators_of (join_with_byte 0x20 words) ≡ Some words
unfolding designators_of
words_read words is =
    let most = is.count.1 in
    let all = list_all-from_AllPass is_designator words (λ k d inside. designator_test _ (is.each k d inside)) in
    let fits : nat_le (length words) LONGEST_LIST ≡ true = grind (arith, nat_tests) in
    rw (words_split words is.count.0 is.each, all, fits) refl

-- ---- rows

count_read : (line : ℕ) (row : CountRow) → IsCountRow row → count_row line (count_fields row) ≡ Ok row
unfolding count_row two_texts field_at
count_read line row is = rw (id_text row.reel is.reel, pieces_text row.quantity is.quantity, id_read row.reel is.reel, pieces_read row.quantity is.quantity) refl

sheet_read : (line : ℕ) (row : SheetRow) → IsSheetRow row → sheet_row line (sheet_fields row) ≡ Ok row
unfolding sheet_row three_texts field_at
sheet_read line row is =
    rw (id_text row.slot is.slot, id_text row.part is.part, words_text row.designators is.designators.each, id_read row.slot is.slot, id_read row.part is.part, words_read row.designators is.designators) refl

each_read : {X : Type 0} (reading : ℕ → Record → Result X ImportFault) (fields : X → Record) (Fits : X → Type 0)
    → ((line : ℕ) (x : X) → Fits x → reading line (fields x) ≡ Ok x)
    → (line : ℕ) (xs : List X) → All Fits xs → line + length xs ≤ suc LAST_ROW → each reading line (map fields xs) ≡ Ok xs
each_read reading fields Fits read line [] all fits = refl
each_read reading fields Fits read line (x ∷ xs) all fits =
    let first : line ≤ LAST_ROW = omega (arith, fits) in
    let early : nat_le line LAST_ROW ≡ true = grind (arith, nat_tests) in
    rw (early, read line x (All-head Fits x xs all), each_read reading fields Fits read (suc line) xs (All-tail Fits x xs all) (omega (arith, fits))) refl

some_read : {X : Type 0} (xs : List X) → 1 ≤ length xs → some_rows xs ≡ Ok xs
some_read [] some = absurd (omega (arith, some))
some_read (x ∷ xs) some = refl

-- ---- files

file_read : {X : Type 0} (is_header : Record → Bool) (reading : ℕ → Record → Result X ImportFault) (header : Record) (fields : X → Record) (Fits : X → Type 0)
    → is_header header ≡ true → IsLong header → ((x : X) → IsLong (fields x))
    → ((rest : List ℕ) → strip_bom (row_text default_writer header ++ rest) ≡ row_text default_writer header ++ rest)
    → ((line : ℕ) (x : X) → Fits x → reading line (fields x) ≡ Ok x)
    → (xs : List X) → IsListOf Fits xs → length (records_text (header ∷ map fields xs)) ≤ LONGEST_INPUT
    → file_rows is_header reading (records_text (header ∷ map fields xs)) ≡ Ok xs
unfolding file_rows
file_read is_header reading header fields Fits is_one long longs unmarked read xs is short =
    let text = records_text (header ∷ map fields xs) in
    let all_long : All IsLong (header ∷ map fields xs) = All-cons IsLong header _ long (All-map IsLong fields xs (λ k d inside. longs _)) in
    let count = length-map xs fields in
    let records : records_of text ≡ header ∷ map fields xs =
    ap (records_from default_config MOST_RECORDS st.StartRecord) (unmarked _) ∙ read_back MOST_RECORDS (header ∷ map fields xs) all_long (omega (arith, count, is.count.1)) in
    let fits : nat_le (length text) LONGEST_INPUT ≡ true = grind (arith, nat_tests) in
    rw (fits, records, is_one, each_read reading fields Fits read FIRST_ROW xs is.each (omega (arith, is.count.1))) (some_read xs is.count.0)

counts_unmarked : (rest : List ℕ) → strip_bom (row_text default_writer counts_header ++ rest) ≡ row_text default_writer counts_header ++ rest
unfolding csv_on_literals
counts_unmarked rest = refl

sheet_unmarked : (rest : List ℕ) → strip_bom (row_text default_writer sheet_header ++ rest) ≡ row_text default_writer sheet_header ++ rest
unfolding csv_on_literals
sheet_unmarked rest = refl

counts_headed : is_counts_header counts_header ≡ true
unfolding field_at
counts_headed = refl

sheet_headed : is_setup_header sheet_header ≡ true
unfolding field_at
sheet_headed = refl

pub counts_are_said : CountsAreSaid
unfolding counts_said
counts_are_said counts is short =
    rw (file_read is_counts_header count_row counts_header count_fields IsCountRow counts_headed (_, _, _, refl) (λ x. (_, _, _, refl)) counts_unmarked count_read counts is short) refl

pub sheets_are_said : SheetsAreSaid
unfolding setup_said
sheets_are_said product machine rows is short =
    rw (file_read is_setup_header sheet_row sheet_header sheet_fields IsSheetRow sheet_headed (_, _, _, refl) (λ x. (_, _, _, refl)) sheet_unmarked sheet_read rows is.2 short) refl
