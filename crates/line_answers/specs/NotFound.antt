-- Answers when a request's subject isn't found.
use Rattle.std.specs.Prelude.{ℕ, List, codes}
use Rattle.serde_json.specs.Written.{compact_text}
use Rattle.cfx_profile.specs.Answer.{not_found}
use Rattle.line_answers.specs.declared.kind.Kind.{Kind}
use Rattle.line_answers.specs.declared.kind.Kind.TheVariants.{Machine, Entry}

abbrev pub kind_word : Kind → List ℕ
kind_word Machine = codes "Machine"
kind_word Entry = codes "Entry"

-- The text of the answer when nothing of this kind is found.
unfoldable pub not_found_text : Kind → List ℕ
not_found_text kind = compact_text (not_found (kind_word kind))
