-- What tells an entry.
use Rattle.desk_types.proofs.Common.{[], ◌∙◌, ◌≡◌, ap, false, List, Ok, refl, Some, true, ℕ}
use Rattle.desk_types.specs.declared.command.Command.{Command}
use Rattle.desk_types.specs.declared.command.Stamped.{Stamped}
use Rattle.desk_types.specs.StoredText.{stored_text}
use Rattle.cfx_profile.specs.declared.message.Said.TheVariants.{Asked}
use Rattle.cfx_profile.specs.Message.{said_in}
use Rattle.line_book.specs.declared.note.Matter.{Matter}
use Rattle.line_book.specs.declared.note.Matter.TheVariants as matter
use Rattle.line_book.specs.Rows.{command_in, command_said, is_refusal, text_of}
use Rattle.line_entries.specs.declared.entry.Place.{Place}
use Rattle.line_entries.specs.Rows.{is_about_message, IsToldBy, note_at}
use Rattle.line_entries.specs.Told.{told_text}
use Rattle.line_entries.proofs.ToldMessages.{message_told}

text_refused : (m : Matter) (told : List ℕ) → is_refusal m ≡ true → text_of m told ≡ command_in told
text_refused (matter.Handling machine slot reel word) told is = refl
text_refused (matter.Stray machine slot reel word) told is = refl
text_refused (matter.Work machine slot board word) told is = refl
text_refused (matter.Unread word) told is = cc
text_refused (matter.Differs machine slot board reel desk_reel) told is = cc
text_refused (matter.Boundary machine slot board reel desk_reel) told is = cc
text_refused (matter.Uncompared machine board) told is = cc
text_refused (matter.Attribute reel name) told is = cc
text_refused (matter.Decision about) told is = cc
text_refused (matter.Hold stock) told is = cc
text_refused (matter.Release stock) told is = cc
text_refused matter.Made told is = cc
text_refused matter.Begun told is = cc
text_refused matter.Restored told is = cc

pub refusal_told : (place : Place) (m : Matter) (command : Command) (told : List ℕ) (s : Stamped) → is_refusal m ≡ true
    → said_in told ≡ Ok (Asked s) → s.command ≡ command → IsToldBy told (note_at place m (stored_text command))
refusal_told place m command told s is said same =
    text_refused m (told_text told) is ∙ ap command_in (message_told told s said) ∙ ap command_said said
    ∙ ap (λ c. Some (stored_text c)) same

pub fault_told : (place : Place) (word : List ℕ) (told : List ℕ)
    → IsToldBy told (note_at place (matter.Unread word) (told_text told))
fault_told place word told = refl

pub plain_told : (place : Place) (m : Matter) (told : List ℕ) → is_about_message m ≡ false
    → IsToldBy told (note_at place m [])
plain_told place (matter.Handling machine slot reel word) told is = cc
plain_told place (matter.Stray machine slot reel word) told is = cc
plain_told place (matter.Work machine slot board word) told is = cc
plain_told place (matter.Unread word) told is = cc
plain_told place (matter.Differs machine slot board reel desk_reel) told is = refl
plain_told place (matter.Boundary machine slot board reel desk_reel) told is = refl
plain_told place (matter.Uncompared machine board) told is = refl
plain_told place (matter.Attribute reel name) told is = refl
plain_told place (matter.Decision about) told is = refl
plain_told place (matter.Hold stock) told is = refl
plain_told place (matter.Release stock) told is = refl
plain_told place matter.Made told is = refl
plain_told place matter.Begun told is = refl
plain_told place matter.Restored told is = refl
