-- The answer of a store by its history.
use Rattle.std.specs.Prelude.{◌≡◌, length, string_bytes}
use Rattle.std.specs.Option.{option_map}
use Rattle.desk_types.specs.declared.rules.Rules.TheVariants.{Two}
use Rattle.desk_types.specs.History.{History, Basis, basis, IsPrefix}
use Rattle.chain_check.specs.declared.question.Question.{Question}
use Rattle.chain_check.specs.Rows.{asked_of}
use Rattle.chain_stores.specs.declared.looking.Looked.{Looked}
use Rattle.chain_stores.specs.Begin.{IsBegunWith, IsMarkOf}

-- The desks of the first commands of the history and of all of them, with their numbers, the file from which the desk was
-- begun, and the pieces that the question is about.
pub record Says {D : Type 0} (StandsFor : D → Basis → Type 0)
    (H : History) (question : Question) (looked : Looked D) : Type 0 where
  pub first : History
  pub prefix : IsPrefix first H
  pub begun_with : looked.begin.commands ≡ length first
  pub is_begin : IsBegunWith H (length first)
  pub mark : IsMarkOf H (option_map string_bytes looked.begin.mark)
  pub begun : StandsFor looked.begun (basis Two first)
  pub count : looked.commands ≡ length H
  pub whole : StandsFor looked.whole (basis Two H)
  pub pieces : looked.pieces ≡ asked_of question H
