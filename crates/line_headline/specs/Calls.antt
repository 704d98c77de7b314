-- Calls on a line's store of both lists, one after another.
use Rattle.std.specs.Prelude.{◌≡◌, ◌⊎◌, ◌++◌, ℕ, Err, List, [], ◌∷◌, None, Ok, Option, Some, Result, flat_map, option_to_list}
use Rattle.sqlite_trees.specs.declared.store.Store.{Ghosts}
use Rattle.sqlite_trees.specs.Tree.{Trees}
use Rattle.desk_feed.specs.declared.message.AnswerText.{AnswerText}
use Rattle.desk_types.specs.declared.command.Stamped.{Stamped}
use Rattle.desk_types.specs.History.{Basis}
use Rattle.line_book.specs.declared.note.Matter.{Matter}
use Rattle.line_book.specs.Book.{Book}
use Rattle.line_schema.specs.declared.unavailable.Unavailable.{Unavailable}
use Rattle.book_store.specs.declared.store.BookStore.{BookStore}
use Rattle.book_store.specs.Answered.{AnswersCommand, AnswersMessage}
use Rattle.book_store.specs.Ended.{LeavesLists}
use Rattle.book_store.specs.Lists.{Lists, StandsFor, book_state}
use Rattle.book_store.specs.Said.{Says}

-- ---- one call

-- A call that was answered: a message, the command of a file, or a saying with the number of its entry.
pub data Call : Type 0 where
  Heard : List ℕ → AnswerText → Call
  Commanded : Stamped → AnswerText → Call
  Told : Matter → List ℕ → ℕ → Call

-- The answer gives these lists.
abbrev pub Gives : Lists → Call → Lists → Type 0
Gives L (Heard told text) M = AnswersMessage L told text M
Gives L (Commanded s text) M = AnswersCommand L s text M
Gives L (Told m told number) M = Says L m told number M

-- The call, if it was answered.
abbrev pub heard_call : List ℕ → Result AnswerText Unavailable → Option Call
heard_call told (Ok text) = Some (Heard told text)
heard_call told (Err e) = None

abbrev pub command_call : Stamped → Result AnswerText Unavailable → Option Call
command_call s (Ok text) = Some (Commanded s text)
command_call s (Err e) = None

abbrev pub said_call : Matter → List ℕ → Result ℕ Unavailable → Option Call
said_call m told (Ok number) = Some (Told m told number)
said_call m told (Err e) = None

-- An answered call: the store represents the lists that it gives, and they are on disk, or they are those of before. A
-- call without an answer: the lists are those of before, and a crash leaves what it could leave before, or those of an
-- answer.
abbrev pub EndsAs : {S D : Type 0} → Ghosts S → (D → Basis → Type 0) → BookStore S D → Lists
    → Option Call → BookStore S D → Lists → Type 0
EndsAs g Desks old L (Some c) new M = Gives L c M × StandsFor g Desks new M
    × ((trees : Trees) → (book_state g new).may_leave trees
    → LeavesLists M trees ⊎ ((M ≡ L) × (book_state g old).may_leave trees))
EndsAs g Desks old L None new M = (M ≡ L) × StandsFor g Desks new L
    × ((trees : Trees) → (book_state g new).may_leave trees → (book_state g old).may_leave trees
    ⊎ ((c : Call) × (N : Lists) × Gives L c N × LeavesLists N trees))

-- ---- calls in sequence

abbrev pub Calls : {S D : Type 0} → Ghosts S → (D → Basis → Type 0) → BookStore S D → Lists
    → List (Option Call) → BookStore S D → Lists → Type 0
Calls g Desks old L [] new M = (new ≡ old) × (M ≡ L)
Calls {S} {D} g Desks old L (c ∷ cs) new M = (mid : BookStore S D) × (N : Lists)
    × EndsAs g Desks old L c mid N × Calls g Desks mid N cs new M

abbrev pub answered : List (Option Call) → List Call
answered cs = flat_map option_to_list cs

-- The answers give these lists, one after another.
abbrev pub GiveInTurn : Lists → List Call → Lists → Type 0
GiveInTurn L [] M = M ≡ L
GiveInTurn L (c ∷ cs) M = (N : Lists) × Gives L c N × GiveInTurn N cs M

-- The book begins with the book of before.
abbrev pub Grows : Lists → Lists → Type 0
Grows L M = (more : Book) × (M.notes ≡ L.notes ++ more)

-- ---- kills

-- The file holds both lists, or those with one more call that was not answered.
abbrev pub LeavesUpToOneMore : Lists → Trees → Type 0
LeavesUpToOneMore L trees = LeavesLists L trees
    ⊎ ((c : Call) × (N : Lists) × Gives L c N × LeavesLists N trees)

-- The store represents both lists, and a kill leaves no others.
pub record IsWatched {S D : Type 0} (g : Ghosts S) (Desks : D → Basis → Type 0)
    (store : BookStore S D) (L : Lists) : Type 0 where
  pub stands : StandsFor g Desks store L
  pub kill : (trees : Trees) → (book_state g store).may_leave trees → LeavesUpToOneMore L trees
