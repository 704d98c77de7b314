-- The messages of this project's profile, by name.
use Rattle.std.specs.Prelude.{ℕ, List, ◌++◌, Option, codes, find}
use Rattle.desk_types.specs.Id.{same}
use Rattle.desk_types.specs.declared.stored_word.Word.{Word}
use Rattle.desk_types.specs.StoredText.{word_text, words}

-- The message's name.
unfoldable pub message_name : Word → List ℕ
message_name word = codes "TraceDesk." ++ word_text word

-- The message with this name, byte by byte, or none.
unfoldable pub word_of : List ℕ → Option Word
word_of name = find (λ word. same (message_name word) name) words
