-- The messages of a history by their numbers, and the checksum in the first UniqueID.
use Rattle.std.proofs.Common.{◌≡◌, ◌∙◌, ℕ, Option, Some, None, MatchOption, List, [], ◌∷◌, ◌++◌, ◌+◌, length, filter, append-nil, refl, sym, ap, subst, arith}
use Rattle.std.specs.List.Sorted.{IsPermutation}
use Rattle.sqlite_trees.proofs.ListLemmas.{IsPermutation-filter}
use Rattle.sqlite.proofs.Callers.{one_permutation}
use Rattle.sqlite.specs.State.{State}
use Rattle.sqlite.specs.declared.types.Value.TheVariants.{Text}
use Rattle.sqlite_value.specs.Order.{Row, column}
use Rattle.desk_types.specs.declared.command.Entry.{Entry}
use Rattle.desk_types.specs.declared.command.Stamped.{Stamped}
use Rattle.desk_types.specs.declared.rules.Rules.{Rules}
use Rattle.desk_types.specs.declared.rules.Rules.TheVariants.{Two}
use Rattle.desk_types.specs.History.{History, IsPrefix}
use Rattle.desk_types.specs.Judged.{IsJudged}
use Rattle.line_tables.specs.Calls.{has_number}
use Rattle.line_tables.specs.Rows.{accepted_in}
use Rattle.line_replay.specs.Rows.{rows_of}
use Rattle.desk_types.specs.StoredText.{stored_text}
use Rattle.desk_types.proofs.Tabs.{texts_apart}
use Rattle.chain_stores.specs.Begin.{IsMarkIn, IsMarkOf, ReadsMessage, first_entry}
use Rattle.chain_stores.specs.First.{HoldsHistory}
use Rattle.chain_stores.proofs.NextOfFirst.{next-in}

first-behind : (later : List Entry) (e : Entry) → first_entry (later ++ e ∷ []) ≡ Some e
first-behind [] e = refl
first-behind (f ∷ []) e = refl
first-behind (f ∷ g ∷ later) e = first-behind (g ∷ later) e

pub none-marked : (G : History) → 0 ≡ length G → IsMarkOf G None
none-marked [] none = refl
none-marked (e ∷ G) none = absurd (omega (arith, none))

-- The entry behind a first part of a history, whose message was read.
pub record EntryRead (P G : History) (message : Stamped) : Type 0 where
  pub entry : Entry
  pub prefix : IsPrefix (entry ∷ P) G
  pub uid : message.uid ≡ entry.stamped.uid
  pub command : message.command ≡ entry.stamped.command

pub entry-read : (rules : Rules) (Clean : Type 0) (old : State) (greatest : ℕ) (P G : History) (message : Stamped)
    → IsPrefix P G → HoldsHistory rules old greatest G → Clean
    → ReadsMessage Clean old (length P + 1) message → EntryRead P G message
entry-read rules Clean old greatest P G message prefix holds clean reads =
    let read = reads.found clean in
    let tables = holds.tables read.was_open in
    let row = reads.row in
    let n = length P + 1 in
    let found : filter (has_number n) (accepted_in old.committed) ≡ row ∷ [] =
    read.are (record { rules = Two; layout = tables.indexed; same = tables.schema }) in
    let same : filter (has_number n) (rows_of G) ≡ row ∷ [] =
    one_permutation row (filter (has_number n) (rows_of G))
    (subst (λ (l : List Row). IsPermutation l (filter (has_number n) (rows_of G))) found
    (IsPermutation-filter (has_number n) (accepted_in old.committed) (rows_of G) tables.accepted)) in
    let it = next-in rules P row prefix.0 (subst (IsJudged rules) prefix.1 holds.judged)
    (ap (λ (H : History). filter (has_number n) (rows_of H)) (sym prefix.1) ∙ same) in
    let e = it.entry in
    let uids : Text message.uid ≡ Text e.stamped.uid = sym reads.says.uid ∙ ap (λ (r : Row). column r 1) it.is in
    let texts : Text (stored_text message.command) ≡ Text (stored_text e.stamped.command) =
    sym reads.says.command ∙ ap (λ (r : Row). column r 5) it.is in
    let uid : message.uid ≡ e.stamped.uid = cc in
    let text : stored_text message.command ≡ stored_text e.stamped.command = cc in
    record {
      entry = e;
      prefix = subst (IsPrefix (e ∷ P)) (sym prefix.1) it.prefix;
      uid = uid;
      command = texts_apart message.command e.stamped.command reads.in_range.command it.judged.0.in_range.stamped.command text;
    }

pub first-marked : (rules : Rules) (Clean : Type 0) (old : State) (greatest : ℕ) (G : History) (message : Stamped)
    (mark : Option (List ℕ)) → HoldsHistory rules old greatest G → Clean → ReadsMessage Clean old 1 message
    → IsMarkIn message.uid mark
    → IsMarkOf G mark × ((e : Entry) × (first_entry G ≡ Some e) × (e.stamped.uid ≡ message.uid))
first-marked rules Clean old greatest G message mark holds clean reads marked =
    let it = entry-read rules Clean old greatest [] G message (G, sym (append-nil G)) holds clean reads in
    let first : first_entry G ≡ Some it.entry = ap first_entry it.prefix.1 ∙ first-behind it.prefix.0 it.entry in (
      subst (λ (o : Option Entry). MatchOption o (mark ≡ None) (λ e. IsMarkIn e.stamped.uid mark)) (sym first)
          (subst (λ (u : List ℕ). IsMarkIn u mark) it.uid marked),
      (it.entry, first, sym it.uid),
    )
