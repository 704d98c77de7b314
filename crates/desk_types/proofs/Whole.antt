-- Reading a whole text from its fields.
use Rattle.desk_types.proofs.Common.{[], ◌++◌, ◌∙◌, ◌∷◌, ◌≡◌, ap, append-nil, Err, Field, fields_in}
use Rattle.desk_types.proofs.Common.{fields_of, IsCommand, IsErrAnd, List, members_of, Ok, Result}
use Rattle.desk_types.proofs.Common.{stored_text, subst, sym, word_text, ℕ}
use Rattle.desk_types.proofs.{Members.fields_are, Members.word_of, Tabs.fields_in-stored_text}
use Rattle.desk_types.specs.{Fields.IsReading, Fields.IsSaidBy, Fields.Reads}
use Rattle.desk_types.specs.{declared.command.Command.Command, declared.stored_fields.Unread.Unread}
use Rattle.desk_types.specs.{declared.stored_fields.Unread.TheVariants.NoMemory}
use Rattle.desk_types.specs.{declared.stored_fields.Unread.TheVariants.NotStored}
use Rattle.desk_types.specs.{declared.stored_word.Word.Word}

pub begins : (text : List ℕ) (c : Command) → IsCommand c → text ≡ stored_text c → fields_in text ≡ word_text (word_of c) ∷ members_of c
begins text c is e = ap fields_in e ∙ fields_in-stored_text c is ∙ fields_are c

pub said_in : (text : List ℕ) (first : Field) (rest : List Field) (word : Word) → fields_in text ≡ first ∷ rest → first ≡ word_text word
    → (c : Command) → IsCommand c → text ≡ stored_text c → IsSaidBy word c × (rest ≡ members_of c ++ [])
said_in text first rest word fields is_word c is e =
    let here = begins text c is e in
    let all = fields_are c in
    let word_is : fields_of c ≡ word_text word ∷ members_of c = cc in
    let others : rest ≡ members_of c = cc in
    ((is, word_is), others ∙ sym (append-nil (members_of c)))

pub unread : (text : List ℕ) (first : Field) (rest after : List Field) (word : Word) → fields_in text ≡ first ∷ rest → first ≡ word_text word
    → (fault : Unread) (r : Result Command Unread) → IsErrAnd r (λ e. e ≡ fault) → Reads (IsSaidBy word) members_of rest after (Err fault) → IsReading text r
unread text first rest after word fields is_word fault (Ok c) err none = absurd err
unread text first rest after word fields is_word fault (Err f) err none = subst (λ g. IsReading text (Err g)) (sym err) (by fault none)
  where
    by : (fault : Unread) → Reads (IsSaidBy word) members_of rest after (Err fault) → IsReading text (Err fault)
    by NoMemory none = tt
    by NotStored none = λ c is e. let s = said_in text first rest word fields is_word c is e in none c [] s.0 s.1
