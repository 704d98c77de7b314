-- Answers when a report's subject isn't found.
use Rattle.std.specs.Prelude.{ℕ, List, codes}
use Rattle.serde_json.specs.Written.{compact_text}
use Rattle.cfx_profile.specs.Answer.{not_found}
use Rattle.trace_reports.specs.declared.kind.Kind.{Kind}
use Rattle.trace_reports.specs.declared.kind.Kind.TheVariants.{Board, Lot, Reel, Machine, Sheet}

abbrev pub kind_word : Kind → List ℕ
kind_word Board = codes "Board"
kind_word Lot = codes "Lot"
kind_word Reel = codes "Reel"
kind_word Machine = codes "Machine"
kind_word Sheet = codes "Sheet"

-- The text of the answer when nothing of this kind is found.
unfoldable pub not_found_text : Kind → List ℕ
not_found_text kind = compact_text (not_found (kind_word kind))
