-- Commands in a row that were answered Unavailable, and the tables that a crash may leave after
-- them.
use Rattle.std.specs.Prelude.{◌≡◌, ◌⊎◌, List, [], ◌∷◌}
use Rattle.std.specs.List.{Contains}
use Rattle.sqlite_trees.specs.declared.store.Store.{Ghosts}
use Rattle.sqlite_trees.specs.Tree.{Trees}
use Rattle.sqlite.specs.State.{HasCleanDisk}
use Rattle.desk_types.specs.declared.command.Stamped.{Stamped}
use Rattle.desk_types.specs.History.{Basis, accept}
use Rattle.desk_answers.specs.declared.answer.Answer.{Answer}
use Rattle.desk_answers.specs.declared.answer.Answer.TheVariants.{Unavailable}
use Rattle.line_tables.specs.Rows.{HoldsAt}
use Rattle.line_replay.specs.Rows.{ledger_tables}
use Rattle.line_schema.specs.declared.store.LineStore.{LineStore}
use Rattle.line_schema.specs.Stands.{ForKept, IsAcceptable, Kept, Leaves, Stands, kept_after, state_of}

-- One call of `command`: the history after its answer, and the tables that a crash may leave.
pub record Tries {S D : Type 0} (g : Ghosts S) (StandsFor : D → Basis → Type 0)
    (old : LineStore S D) (s : Stamped) (answer : Answer) (new : LineStore S D) : Type 0 where
  pub stands : ForKept g StandsFor old new
      (λ L. Stands g StandsFor new (kept_after L s answer))
  pub crash : ForKept g StandsFor old new (λ L. (trees : Trees)
      → (state_of g new).may_leave trees
      → Leaves L s answer ((state_of g old).may_leave trees) trees)
  pub clean : HasCleanDisk (state_of g new) → HasCleanDisk (state_of g old)

-- These commands were sent one after another, and each was answered Unavailable.
abbrev pub GoUnanswered : {S D : Type 0} → Ghosts S → (D → Basis → Type 0)
    → LineStore S D → List Stamped → LineStore S D → Type 0
GoUnanswered g StandsFor old [] new = new ≡ old
GoUnanswered g StandsFor old (s ∷ sent) new = (mid : _)
    × Tries g StandsFor old s Unavailable mid
    × GoUnanswered g StandsFor mid sent new

-- The trees hold the tables of the history with one of these commands, which would be accepted.
abbrev pub HoldsOneMore : Kept → List Stamped → Trees → Type 0
HoldsOneMore L sent trees = (s : Stamped) × Contains sent s × IsAcceptable L s
    × HoldsAt (ledger_tables L.greatest (accept L.history s)) trees

-- They hold the tables of the history, or of the history with one of these commands.
abbrev pub HoldsWithAtMostOne : Kept → List Stamped → Trees → Type 0
HoldsWithAtMostOne L sent trees =
    HoldsAt (ledger_tables L.greatest L.history) trees ⊎ HoldsOneMore L sent trees
