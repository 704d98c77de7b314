-- The book only grows.
use Rattle.desk_types.proofs.Common.{[], ◌++◌, ◌∙◌, ◌∷◌, ◌≡◌, ap, append-nil, append_assoc, Bool, false, List, MatchBool}
use Rattle.desk_types.proofs.Common.{None, Option, Some, sym, true, ℕ}
use Rattle.cfx_profile.specs.Message.{said_in}
use Rattle.line_book.specs.declared.note.Note.{Note}
use Rattle.line_book.specs.{Book.Book, Undecided.is_known}
use Rattle.line_entries.specs.declared.row.Sender.{Sender}
use Rattle.line_members.specs.declared.finding.Finding.{Finding}
use Rattle.book_store.specs.Answered.{message_entry, message_sender}
use Rattle.book_store.specs.Findings.{AddsFindings}
use Rattle.book_store.specs.Lists.{Lists}
use Rattle.book_store.specs.Noted.{AddsEntry, KeepsAny}
use Rattle.line_headline.specs.Calls.{Call, Commanded, Gives, Grows, Heard, Told}

stays : (L M : Lists) → M ≡ L → Grows L M
stays L M same = ([], ap (λ (N : Lists). N.notes) same ∙ sym (append-nil L.notes))

pub grows_on : (L M N : Lists) → Grows L M → Grows M N → Grows L N
grows_on L M N (first, is) (more, next) =
    (first ++ more, next ∙ ap (λ (B : Book). B ++ more) is ∙ append_assoc L.notes first more)

adds_one : (L M : Lists) (n : Note) (sender : Sender) (told : List ℕ) → AddsEntry L n sender told M → Grows L M
adds_one L M n sender told (row, is, same) = (n ∷ [], ap (λ (N : Lists). N.notes) same)

keeps_one : (L M : Lists) (n : Note) (sender : Sender) (told : List ℕ) (known : Bool)
    → MatchBool known (M ≡ L) (AddsEntry L n sender told M) → Grows L M
keeps_one L M n sender told true same = stays L M same
keeps_one L M n sender told false adds = adds_one L M n sender told adds

keeps_any : (L M : Lists) (o : Option Note) (sender : Sender) (told : List ℕ) → KeepsAny L o sender told M → Grows L M
keeps_any L M None sender told same = stays L M same
keeps_any L M (Some n) sender told keeps = keeps_one L M n sender told (is_known L.kept.history L.notes n) keeps

adds_all : (L M : Lists) (fs : List Finding) (sender : Sender) → AddsFindings L fs sender M → Grows L M
adds_all L M [] sender same = stays L M same
adds_all L M (f ∷ fs) sender (N, adds, others) =
    grows_on L N M (adds_one L N _ sender f.told adds) (adds_all N M fs sender others)

-- Each call adds to the book, or leaves it.
pub grows : (L M : Lists) (c : Call) → Gives L c M → Grows L M
grows L M (Heard told text) (is, N, keeps, O, adds, same) =
    let entry = keeps_any L N (message_entry L told (said_in told)) (message_sender (said_in told)) told keeps in
    let found = adds_all N O _ (message_sender (said_in told)) adds in
    let all = grows_on L N O entry found in
    (all.0, ap (λ (K : Lists). K.notes) same ∙ all.1)
grows L M (Commanded s text) (is, same) = ([], ap (λ (K : Lists). K.notes) same ∙ sym (append-nil L.notes))
grows L M (Told m told number) (is, adds) = adds_one L M _ _ told adds
