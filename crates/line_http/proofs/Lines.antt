-- Both lists of a store, as its routes see them.
use Rattle.desk_types.proofs.Common.{[], ◌++◌, ◌+◌, ◌∙◌, ◌∷◌, ◌≡◌, ◌≢◌, ap, Basis, Bool, Err, false, if◌then◌else◌, IfOk}
use Rattle.desk_types.proofs.Common.{IsTrue, List, map, map-append, None, Ok, Option, refl, Result, Some, string_bytes}
use Rattle.desk_types.proofs.Common.{subst, sym, true, ℕ}
use Rattle.std.specs.Prelude.{MatchBool}
use Rattle.cfx_profile.specs.{Message.said_in, declared.fault.MessageFault.MessageFault}
use Rattle.cfx_profile.specs.{declared.message.Said.Said}
use Rattle.cfx_profile.specs.declared.message.Said.TheVariants as says
use Rattle.desk_feed.specs.{Messages.list_after, declared.message.AnswerText.AnswerText}
use Rattle.desk_types.specs.declared.command.Stamped.{Stamped}
use Rattle.desk_types.specs.declared.rules.Rules.TheVariants.{Two}
use Rattle.desk_types.specs.Id.{Name}
use Rattle.line_tables.proofs.Common.{Ghosts, HasCleanDisk}
use Rattle.line_answers.specs.Book.{Written, written_row}
use Rattle.line_answers.specs.Fault.{fault_text}
use Rattle.line_answers.specs.declared.fault.LineFault.{LineFault}
use Rattle.line_answers.specs.declared.fault.LineFault.TheVariants.{NoMemory}
use Rattle.line_answers.specs.declared.noted.Noted.{Noted}
use Rattle.line_book.specs.declared.note.Matter.{Matter}
use Rattle.line_book.specs.declared.note.Note.{Note}
use Rattle.line_book.specs.declared.row.BookRow.{BookRow}
use Rattle.line_book.specs.Rows.{IsColumn, kind_text}
use Rattle.line_entries.specs.Columns.{columns_of, kind_of, of_number}
use Rattle.line_entries.specs.Rows.{IsRowOf}
use Rattle.line_entries.specs.Told.{told_text}
use Rattle.line_entries.specs.declared.row.Sender.{Sender}
use Rattle.line_members.specs.declared.finding.Finding.{Finding}
use Rattle.line_book.specs.Undecided.{is_known}
use Rattle.line_schema.specs.Stands.{Kept, ledger}
use Rattle.line_schema.specs.declared.unavailable.Unavailable.{Unavailable as Fault}
use Rattle.gateway_http.specs.Requests.{import_outcome, json}
use Rattle.gateway_http.specs.declared.asked.Asked.TheVariants as asks
use Rattle.http_stream.specs.Answers.{response_told, Told}
use Rattle.http_stream.specs.Stream.{Outcome}
use Rattle.http_stream.specs.declared.response.Response.{Response}
use Rattle.book_store.specs.declared.store.BookStore.{BookStore}
use Rattle.book_store.specs.Ended.{Ends, with_note}
use Rattle.book_store.specs.Answered.{AnswersCommand, AnswersMessage, message_entry, message_sender}
use Rattle.book_store.specs.Findings.{AddsFindings, finding_note}
use Rattle.book_store.specs.Noted.{AddsEntry, KeepsAny, nobody, place_in}
use Rattle.book_store.specs.Lists.{book_state, ForLists, Lists, StandsFor}
use Rattle.book_store.specs.Said.{said_entry, Says}
use Rattle.line_http.specs.Gives.{Gives, GivesOne}
use Rattle.line_http.specs.Desk.{desk_asked, with_outcome}
use Rattle.line_http.specs.Line.{column_text, Line, line_of, Represents, with_entry, with_saying, written}
use Rattle.line_http.specs.Messages.{findings_by, heard, message_entry as line_entry, noted, with_findings}
use Rattle.line_http.specs.Rule.{body_status, is_memory, leaving, said_outcome}

-- ---- one entry more

column_is : (text : List ℕ) (o : Option Name) → IsColumn text o → text ≡ column_text o
column_is text None is = is
column_is text (Some name) is = is.0

row_is : (n : Note) (sender : Sender) (told : List ℕ) (row : BookRow) → IsRowOf n sender told row
    → written_row row ≡ written n sender told
row_is n sender told row is =
    let kind : string_bytes row.kind ≡ kind_text (kind_of n.matter) = is.kind in
    let source = column_is (string_bytes row.source) sender.source is.source in
    let uid = column_is (string_bytes row.uid) sender.uid is.uid in
    let machine = column_is (string_bytes row.machine) (columns_of n.matter).machine is.columns.machine in
    let slot = column_is (string_bytes row.slot) (columns_of n.matter).slot is.columns.slot in
    let board = column_is (string_bytes row.board) (columns_of n.matter).board is.columns.board in
    let reel = column_is (string_bytes row.reel) (columns_of n.matter).reel is.columns.reel in
    let word = column_is (string_bytes row.word) (columns_of n.matter).word is.columns.word in
    let of : row.of ≡ of_number n.carries n.matter = is.of in
    let words : string_bytes row.told ≡ told_text told = is.told in
    λ i. record {
      number = is.number i;
      after = is.after i;
      kind = kind i;
      source = source i;
      uid = uid i;
      machine = machine i;
      slot = slot i;
      board = board i;
      reel = reel i;
      word = word i;
      of = of i;
      told = words i;
    }

with_row : (L : Lists) (n : Note) (sender : Sender) (told : List ℕ) (row : BookRow) → IsRowOf n sender told row
    → line_of (with_note L row n) ≡ with_entry (line_of L) n sender told
with_row L n sender told row is =
    let rows : map written_row (L.rows ++ row ∷ []) ≡ map written_row L.rows ++ written n sender told ∷ []
    = map-append written_row L.rows (row ∷ [])
    ∙ ap (λ (w : Written). map written_row L.rows ++ w ∷ []) (row_is n sender told row is) in
    λ i. record { desk = ledger L.kept; notes = L.notes ++ n ∷ []; rows = rows i }

said_line : (L M : Lists) (m : Matter) (told : List ℕ) (number : ℕ) → Says L m told number M
    → line_of M ≡ with_saying (line_of L) m told
said_line L M m told number says =
    ap line_of says.1.2 ∙ with_row L (said_entry L m) nobody told says.1.0 says.1.1

said_own : (L M : Lists) (m : Matter) (told : List ℕ) (number : ℕ) → Says L m told number M → IsTrue L.kept.own
    → IsTrue M.kept.own
said_own L M m told number says own = subst (λ (N : Lists). IsTrue N.kept.own) (sym says.1.2) own

-- The lists with the entry of a message, if it makes one. The desk stays.
kept_entry : (L N : Lists) (entry : Option Note) (sender : Sender) (told : List ℕ) → KeepsAny L entry sender told N
    → (line_of N ≡ noted (line_of L) sender told entry) × (N.kept ≡ L.kept)
kept_entry L N None sender told same = (ap line_of same, ap (λ (M : Lists). M.kept) same)
kept_entry L N (Some n) sender told keeps = by (is_known L.kept.history L.notes n) keeps
  where
    by : (known : Bool) → MatchBool known (N ≡ L) (AddsEntry L n sender told N)
        → (line_of N ≡ if known then line_of L else with_entry (line_of L) n sender told) × (N.kept ≡ L.kept)
    by true same = (ap line_of same, ap (λ (M : Lists). M.kept) same)
    by false (row, is, same) =
        (ap line_of same ∙ with_row L n sender told row is, ap (λ (M : Lists). M.kept) same)

-- The lists with the entries of findings. The desk stays.
found_line : (L M : Lists) (fs : List Finding) (sender : Sender) → AddsFindings L fs sender M
    → (line_of M ≡ with_findings (line_of L) fs sender) × (M.kept ≡ L.kept)
found_line L M [] sender same = (ap line_of same, ap (λ (K : Lists). K.kept) same)
found_line L M (f ∷ fs) sender (N, (row, is, same), adds) =
    let others = found_line N M fs sender adds in
    let one = ap line_of same ∙ with_row L (finding_note (place_in L) f) sender f.told row is in
    (others.0 ∙ ap (λ (l : Line). with_findings l fs sender) one, others.1 ∙ ap (λ (K : Lists). K.kept) same)

-- It is the same entry.
same_entry : (L : Lists) (told : List ℕ) (said : Result Said MessageFault)
    → message_entry L told said ≡ line_entry (line_of L) told said
same_entry L told (Ok (says.Ignored name)) = refl
same_entry L told (Ok (says.Asked s)) = refl
same_entry L told (Err fault) = refl

-- The lists after a message.
pub heard_line : (L M : Lists) (told : List ℕ) (text : AnswerText) → AnswersMessage L told text M
    → (line_of M ≡ (desk_asked (line_of L) told (Ok asks.Message)).after) × (M.kept.own ≡ L.kept.own)
heard_line L M told text (is, N, keeps, O, adds, same) =
    let H = list_after Two L.kept.greatest L.kept.history told in
    let sender = message_sender (said_in told) in
    let fs = findings_by (ledger L.kept) told in
    let entry = kept_entry L N (message_entry L told (said_in told)) sender told keeps in
    let found = found_line N O fs sender adds in
    let kept = found.1 ∙ entry.1 in
    let after : line_of M ≡ record (line_of O) { desk = record (ledger O.kept) { history = H } } = ap line_of same in
    let heard_is : line_of O ≡ heard (line_of L) told
    = found.0 ∙ ap (λ (l : Line). with_findings l fs sender) entry.0
    ∙ ap (λ (o : Option Note). with_findings (noted (line_of L) sender told o) fs sender)
    (same_entry L told (said_in told)) in (
      after ∙ ap (λ (l : Line). record l { desk = record (ledger O.kept) { history = H } }) heard_is
          ∙ ap (λ (K : Kept). record (heard (line_of L) told) { desk = record (ledger K) { history = H } }) kept,
      ap (λ (K : Lists). K.kept.own) same ∙ ap (λ (K : Kept). K.own) kept,
    )

-- The lists after a command without a message.
pub commanded_line : (L M : Lists) (s : Stamped) (text : AnswerText) → AnswersCommand L s text M
    → (line_of M ≡ (with_outcome (line_of L) (import_outcome (ledger L.kept) (Ok s))).after)
    × (M.kept.own ≡ L.kept.own)
commanded_line L M s text (is, same) = (ap line_of same, ap (λ (K : Lists). K.kept.own) same)

no_memory : (fault : LineFault) → is_memory fault ≡ false → fault ≢ NoMemory
no_memory fault is same = let two = sym (ap is_memory same) ∙ is in cc

-- ---- answers

-- An answer for the lists that the store represents.
pub for_lists : {S D E : Type 0} (g : Ghosts S) (F : D → Basis → Type 0) (old new : BookStore S D)
    (r : Result Response E) (line : Line) (was : Represents g F old line) (o : Line → Outcome Line)
    → GivesOne g F new r (line_of was.lists) (o (line_of was.lists)) → GivesOne g F new r line (o line)
for_lists g F old new r line was o = subst (λ (l : Line). GivesOne g F new r l (o l)) (sym was.same)

module _ {S D : Type 0} (g : Ghosts S) (F : D → Basis → Type 0) (old new : BookStore S D) where
  pub still : (line : Line) (was : Represents g F old line) → StandsFor g F new was.lists → Represents g F new line
  still line was stands = record { lists = was.lists; stands = stands; own = was.own; same = was.same }

  -- The call ended with this answer, and these lists.
  pub ends_gives : {A E : Type 0} (line : Line) (was : Represents g F old line) (o : Line → Outcome Line) (a : A)
      (Are : A → Lists → Type 0) (response : Response)
      → ((M : Lists) → Are a M → (response_told response ≡ (o (line_of was.lists)).told)
      × (line_of M ≡ (o (line_of was.lists)).after) × (M.kept.own ≡ was.lists.kept.own))
      → Ends {E = E} g F old new was.lists (Ok a) Are → GivesOne {E = Fault} g F new (Ok response) line (o line)
  ends_gives line was o a Are response known ends =
      let M = ends.ok.0 in
      let is = known M ends.ok.1 in
      let now : Represents g F new (o (line_of was.lists)).after = record {
        lists = M;
        stands = ends.ok.2;
        own = subst IsTrue (sym is.2) was.own;
        same = sym is.1;
      } in
      for_lists {E = Fault} g F old new (Ok response) line was o ((is.0, now), tt)

  -- What was said is in the book.
  pub says_gives : {E : Type 0} (line : Line) (was : Represents g F old line) (m : Matter) (body : List ℕ) (number : ℕ)
      → Ends {E = E} g F old new was.lists (Ok number) (Says was.lists m body)
      → Represents g F new (with_saying line m body)
  says_gives line was m body number ends =
      let M = ends.ok.0 in
      let says = ends.ok.1 in
      record {
        lists = M;
        stands = ends.ok.2;
        own = said_own was.lists M m body number says was.own;
        same = ap (λ (l : Line). with_saying l m body) was.same ∙ sym (said_line was.lists M m body number says);
      }

  -- There is no answer.
  pub failed : (r : Result Response Fault) (e : Fault) (o : Line → Outcome Line) → r ≡ Err e
      → ((line : Line) → Represents g F old line → HasCleanDisk (book_state g new) → Represents g F new line)
      → Gives g F old new r o
  failed r e o is stays = subst (λ (r : Result Response Fault). Gives g F old new r o) (sym is)
      (λ line was clean. (tt, stays line was clean))

-- The answer of a store that first was made ready.
pub gives_later : {S D : Type 0} (g : Ghosts S) (F : D → Basis → Type 0) (old mid new : BookStore S D)
    (r : Result Response Fault) (o : Line → Outcome Line) → ForLists g F old mid (StandsFor g F mid)
    → (HasCleanDisk (book_state g new) → HasCleanDisk (book_state g mid)) → Gives g F mid new r o
    → Gives g F old new r o
gives_later g F old mid new r o stands early gives line was clean =
    gives line (still g F old mid line was (stands was.lists was.stands (early clean) was.own)) clean

-- What is true of a lent store is true of it when it comes back.
pub come_back : {S D : Type 0} (g : Ghosts S) (F : D → Basis → Type 0) (old lent new : BookStore S D)
    (Fact : Line → Line → Type 0) → lent ≡ new
    → ((line : Line) → Represents g F old line → HasCleanDisk (book_state g lent)
    → (after : Line) × Represents g F lent after × Fact line after)
    → (line : Line) → Represents g F old line → HasCleanDisk (book_state g new)
    → (after : Line) × Represents g F new after × Fact line after
come_back {S} {D} g F old lent new Fact same is = subst
    (λ (s : BookStore S D). (line : Line) → Represents g F old line → HasCleanDisk (book_state g s)
    → (after : Line) × Represents g F s after × Fact line after) same is

module _ {S D : Type 0} (g : Ghosts S) (F : D → Basis → Type 0) (store : BookStore S D) (line : Line)
    (now : Represents g F store line) where
  -- An answer that leaves both lists.
  pub told_gives : (r : Result Response Fault) (told want : Told) → told ≡ want
      → IfOk r (λ response. response_told response ≡ told) → GivesOne g F store r line (leaving line want)
  told_gives (Ok response) told want same is = ((is ∙ same, now), tt)
  told_gives (Err e) told want same is = (tt, now)

  gives_by : (r : Result Response Fault) (o p : Outcome Line) → o ≡ p → GivesOne g F store r line o
      → GivesOne g F store r line p
  gives_by r o p same gives = subst (λ (o : Outcome Line). GivesOne g F store r line o) same gives

  -- A body that isn't taken.
  pub fault_gives : (r : Result Response Fault) (fault : LineFault) (noted : Noted) (body : List ℕ)
      (said : Result Matter LineFault) → (fault ≢ NoMemory → said ≡ Err fault)
      → IfOk r (λ response. response_told response ≡ json (body_status fault) (fault_text fault))
      → IfOk r (λ _. is_memory fault ≡ false) → GivesOne g F store r line (said_outcome line noted body said)
  fault_gives (Ok response) fault noted body said is told known =
      gives_by (Ok response) (said_outcome line noted body (Err fault)) (said_outcome line noted body said)
      (ap (said_outcome line noted body) (sym (is (no_memory fault known)))) ((told, now), tt)
  fault_gives (Err e) fault noted body said is told known = (tt, now)
