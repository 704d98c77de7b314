-- The command with a number, by its row.
use Rattle.desk_types.proofs.Common.{[], ◌==◌, ◌∙◌, ◌∷◌, ◌≡◌, ap, arith, Bool, cases_Bool, false, filter, find, History}
use Rattle.desk_types.proofs.Common.{if◌then◌else◌, inl, inr, is_eq, IsCommand, IsJudged, IsStamped, IsTrue, List}
use Rattle.desk_types.proofs.Common.{nat_tests, None, Option, option_map, pos, refl, Some, stored_text, sym, true, ℕ}
use Rattle.desk_types.proofs.Tabs.{texts_apart}
use Rattle.desk_laws.proofs.Common.{Entry, Rules, Stamped}
use Rattle.desk_types.specs.Command.{IsEntry}
use Rattle.line_replay.proofs.RowsTellLists.{stamped_same}
use Rattle.line_replay.specs.{Judging.IsMessageOf, Rows.entry_row, Rows.ledger_tables, Rows.rows_of}
use Rattle.line_schema.specs.Checking.{command_numbered}
use Rattle.line_tables.proofs.Common.{accepted_in, column, has_number, Holds, Int, only, Reads, Row, State, Text}
use Rattle.line_tables.proofs.Common.{Value, value_cmp-Int}
use Rattle.line_tables.proofs.{Holding.only_held, Keyed.number_test}

numbers_told : (n : ℕ) (G : History) (e : Entry) → has_number n (entry_row G e) ≡ (e.number == n)
numbers_told n G e = number_test e.number n ∙ ap is_eq (value_cmp-Int (pos e.number) (pos n)) ∙ grind (arith, nat_tests)

filtered : (n : ℕ) (e : Entry) (G : History) (b : Bool) → (e.number == n) ≡ b
    → filter (has_number n) (rows_of (e ∷ G)) ≡ (if b then entry_row G e ∷ filter (has_number n) (rows_of G) else filter (has_number n) (rows_of G))
filtered n e G b is = ap (λ t. if t then entry_row G e ∷ filter (has_number n) (rows_of G) else filter (has_number n) (rows_of G)) (numbers_told n G e ∙ is)

stepped : (n : ℕ) (e : Entry) (G : History) (b : Bool) → (e.number == n) ≡ b
    → command_numbered n (e ∷ G) ≡ (if b then Some e.stamped else command_numbered n G)
stepped n e G true is = ap (λ b. option_map (λ (e : Entry). e.stamped) (if b then Some e else find (λ (e : Entry). e.number == n) G)) is
stepped n e G false is = ap (λ b. option_map (λ (e : Entry). e.stamped) (if b then Some e else find (λ (e : Entry). e.number == n) G)) is

none_numbered : (n : ℕ) (H : History) → filter (has_number n) (rows_of H) ≡ [] → command_numbered n H ≡ None
none_numbered n [] h = refl
none_numbered n (e ∷ G) h = elim (cases_Bool (e.number == n)) [
  | inl is ↦ absurd (let found = sym (filtered n e G true is) ∙ h in cc)
  | inr not ↦ stepped n e G false not ∙ none_numbered n G (sym (filtered n e G false not) ∙ h)
]

-- The place of the entry with the number.
record Stood (H : History) (n : ℕ) (row : Row) : Type 0 where
  pub before : History
  pub entry : Entry
  pub in_range : IsEntry entry
  pub is : row ≡ entry_row before entry
  pub found : command_numbered n H ≡ Some entry.stamped

one_numbered : (rules : Rules) (n : ℕ) (H : History) (row : Row) → IsJudged rules H → filter (has_number n) (rows_of H) ≡ row ∷ [] → Stood H n row
one_numbered rules n [] row judged h = absurd cc
one_numbered rules n (e ∷ G) row judged h = elim (cases_Bool (e.number == n)) [
  | inl is ↦
      let found = sym (filtered n e G true is) ∙ h in
      let first : entry_row G e ≡ row = cc in
      record { before = G; entry = e; in_range = judged.0.in_range; is = sym first; found = stepped n e G true is }
  | inr not ↦
      let stood = one_numbered rules n G row judged.1 (sym (filtered n e G false not) ∙ h) in
      record { before = stood.before; entry = stood.entry; in_range = stood.in_range; is = stood.is; found = stepped n e G false not ∙ stood.found }
]

same_text : (v : Value) (a b : List ℕ) → v ≡ Text a → v ≡ Text b → a ≡ b
same_text v a b p q = cc

same_number : (v : Value) (a b : ℕ) → v ≡ Int (pos a) → v ≡ Int (pos b) → a ≡ b
same_number v a b p q = cc

same_message : (G : History) (e : Entry) (row : Row) (s : Stamped) → IsEntry e → IsStamped s → row ≡ entry_row G e → IsMessageOf row s → s ≡ e.stamped
same_message G e row s entry stamped is of =
    let at = λ (n : ℕ). ap (λ (r : Row). column r n) is in
    stamped_same s e.stamped (same_text (column row 1) s.uid e.stamped.uid of.uid (at 1))
    (same_text (column row 2) s.source e.stamped.source of.source (at 2))
    (same_number (column row 3) s.minute e.stamped.minute of.minute (at 3))
    (texts_apart s.command e.stamped.command stamped.command entry.stamped.command
    (same_text (column row 5) (stored_text s.command) (stored_text e.stamped.command) of.command (at 5)))

module _ (old : State) (greatest n : ℕ) (H : History) (holds : IsTrue old.is_open → Holds old.committed (ledger_tables greatest H)) where
  rows_held : (o : Option Row) → Reads old (λ db. filter (has_number n) (accepted_in db) ≡ only o) → filter (has_number n) (rows_of H) ≡ only o
  rows_held o found = only_held old (ledger_tables greatest H) (holds found.was_open) (has_number n) o found

  pub none_at : Reads old (λ db. filter (has_number n) (accepted_in db) ≡ []) → command_numbered n H ≡ None
  none_at found = none_numbered n H (rows_held None found)

  pub one_at : (rules : Rules) (row : Row) (s : Stamped) → IsJudged rules H → IsStamped s → IsMessageOf row s → Reads old (λ db. filter (has_number n) (accepted_in db) ≡ row ∷ []) → command_numbered n H ≡ Some s
  one_at rules row s judged stamped of found =
      let stood = one_numbered rules n H row judged (rows_held (Some row) found) in
      stood.found ∙ ap Some (sym (same_message stood.before stood.entry row s stood.in_range stamped stood.is of))
