use Rattle.desk_types.proofs.Common.{◌≡◌, Some}
use Rattle.cfx_profile.specs.Word.{message_name, word_of}
use Rattle.desk_types.{proofs.Words.word_in-word_text, specs.declared.stored_word.Word.Word}
use Rattle.cfx_profile.proofs.word.words_are_read.Goals as goal

read_back : (word : Word) → word_of (message_name word) ≡ Some word
unfolding word_of message_name
read_back word = word_in-word_text word

pub returns : goal.returns
returns c = read_back
