-- The answers to what people decide and hold.
use Rattle.std.specs.Prelude.{ℕ, List, codes}
use Rattle.serde_json.specs.Data.{Data, number, string, object, member, no_members, unsigned}
use Rattle.serde_json.specs.Written.{compact_text}
use Rattle.line_answers.specs.declared.noted.Noted.{Noted}
use Rattle.line_answers.specs.declared.noted.Noted.TheVariants.{Decided, Held, Released}

abbrev pub noted_word : Noted → List ℕ
noted_word Decided = codes "Decided"
noted_word Held = codes "Held"
noted_word Released = codes "Released"

-- What was noted, with the number of its entry.
abbrev pub noted_object : List ℕ → ℕ → Data
noted_object word n =
    object (member (codes "Answer") (string word)
    (member (codes "Entry") (number (unsigned n)) no_members))

unfoldable pub noted_text : Noted → ℕ → List ℕ
noted_text noted n = compact_text (noted_object (noted_word noted) n)
