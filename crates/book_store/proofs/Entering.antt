-- The entries that messages make, and what people say.
use Rattle.desk_types.proofs.Common.{◌<◌, ◌∙◌, ◌≡◌, and_parts, ap, Bool, false, if◌then◌else◌, IfSome, List}
use Rattle.desk_types.proofs.Common.{ltb-true, nat_lt, None, Ok, Option, option_and_then, option_map, refl, Some, subst, sym}
use Rattle.desk_types.proofs.Common.{true, ℕ}
use Rattle.desk_types.specs.declared.command.Command.{Command}
use Rattle.desk_types.specs.declared.command.Command.TheVariants as command
use Rattle.desk_types.specs.Id.{Name}
use Rattle.desk_types.specs.{History.History, Setup.sheet_on, StoredText.stored_text}
use Rattle.desk_laws.proofs.Common.{Stamped}
use Rattle.cfx_profile.specs.declared.fault.MessageFault.{MessageFault}
use Rattle.cfx_profile.specs.declared.message.Said.TheVariants.{Asked}
use Rattle.cfx_profile.specs.Message.{said_in}
use Rattle.desk_answers.specs.declared.answer.Answer.{Answer}
use Rattle.line_book.specs.{Causes.is_on, Rows.is_refusal}
use Rattle.line_book.specs.declared.note.Matter.{Matter}
use Rattle.line_book.specs.declared.note.Matter.TheVariants.{Attribute, Begun, Boundary, Decision, Differs, Handling}
use Rattle.line_book.specs.declared.note.Matter.TheVariants.{Hold, Made, Release, Restored, Stray, Uncompared, Unread, Work}
use Rattle.line_book.specs.declared.note.Note.{Note}
use Rattle.line_entries.proofs.ToldEntries.{fault_told, refusal_told}
use Rattle.line_entries.specs.declared.entry.Place.{Place}
use Rattle.line_entries.specs.Refusal.{answer_word, entry_for, handling, is_verification, refused}
use Rattle.line_entries.specs.Rows.{is_about_message, IsToldBy, note_at}
use Rattle.line_entries.specs.{Told.told_text, Unread.fault_word, Unread.faulty, Unread.may_be_done, Unread.name_in}
use Rattle.book_store.specs.Lists.{Lists}
use Rattle.book_store.specs.Noted.{AddsEntry, fault_entry, IsNextEntry, nobody, place_in, refusal_entry}
use Rattle.book_store.specs.Said.{may_say, said_entry, Says}

if_made : (o : Option Matter) (entry : Matter → Note) (Is : Note → Type 0) → ((m : Matter) → o ≡ Some m → Is (entry m))
    → IfSome (option_map entry o) Is
if_made None entry Is all = tt
if_made (Some m) entry Is all = all m refl

pub none_is : (o : Option Matter) (entry : Matter → Note) → o ≡ None → None ≡ option_map entry o
none_is o entry is = sym (ap (option_map entry) is)

pub some_is : (o : Option Matter) (entry : Matter → Note) (m : Matter) (n : Note) → o ≡ Some m → n ≡ entry m
    → Some n ≡ option_map entry o
some_is o entry m n is same = ap Some same ∙ sym (ap (option_map entry) is)

-- ---- a refused command

either : (b : Bool) (x y : Matter) → is_refusal x ≡ true → is_refusal y ≡ true → is_refusal (if b then x else y) ≡ true
either true x y first second = first
either false x y first second = second

is_made : (x m : Matter) → Some x ≡ Some m → is_refusal x ≡ true → is_refusal m ≡ true
is_made x m same is = let it : x ≡ m = cc in sym (ap is_refusal it) ∙ is

handled : (H : History) (machine slot : Name) (reel : Option Name) (word : Name)
    → is_refusal (handling H machine slot reel word) ≡ true
handled H machine slot reel word = either (is_on (sheet_on H machine) slot) (Handling machine slot reel word)
    (Stray machine slot reel word) refl refl

mounted : (b : Bool) (x m : Matter) → is_refusal x ≡ true → (if b then None else Some x) ≡ Some m
    → is_refusal m ≡ true
mounted true x m is made = cc
mounted false x m is made = is_made x m made is

module _ (H : History) (answer : Answer) (word : Name) (m : Matter) where
  made : (c : Command) → entry_for H answer c word ≡ Some m → is_refusal m ≡ true
  made (command.MaterialsLoaded machine slot reel) is = mounted (is_verification H answer machine slot reel)
      (handling H machine slot (Some reel) word) m (handled H machine slot (Some reel) word) is
  made (command.MaterialsSpliced machine slot reel) is = mounted (is_verification H answer machine slot reel)
      (handling H machine slot (Some reel) word) m (handled H machine slot (Some reel) word) is
  made (command.MaterialsUnloaded machine slot) is = is_made (handling H machine slot None word) m is
      (handled H machine slot None word)
  made (command.WorkStarted machine board) is = is_made _ m is refl
  made (command.WorkCompleted machine board) is = is_made _ m is refl
  made (command.MaterialsInstalled machine board designators) is = is_made _ m is refl
  made (command.MaterialsScrapped machine slot quantity) is = is_made _ m is refl
  made _ is = cc

by_word : (H : History) (answer : Answer) (m : Matter) (c : Command) (word : Option Name)
    → option_and_then (entry_for H answer c) word ≡ Some m → is_refusal m ≡ true
by_word H answer m c None is = cc
by_word H answer m c (Some word) is = made H answer word m c is

-- A refusal is no decision.
no_decision : (m : Matter) (about : ℕ) → is_about_message m ≡ true → m ≡ Decision about → ⊥
no_decision m about is same = let two : false ≡ true = sym (ap is_about_message same) ∙ is in cc

refusal_about : (m : Matter) → is_refusal m ≡ true → is_about_message m ≡ true
refusal_about (Handling machine slot reel word) is = refl
refusal_about (Stray machine slot reel word) is = refl
refusal_about (Work machine slot board word) is = refl
refusal_about (Unread word) is = refl
refusal_about (Differs machine slot board reel desk_reel) is = cc
refusal_about (Boundary machine slot board reel desk_reel) is = cc
refusal_about (Uncompared machine board) is = cc
refusal_about (Attribute reel name) is = cc
refusal_about (Decision about) is = cc
refusal_about (Hold stock) is = cc
refusal_about (Release stock) is = cc
refusal_about Made is = cc
refusal_about Begun is = cc
refusal_about Restored is = cc

module _ (L : Lists) (told : List ℕ) where
  refusal_is : (s : Stamped) (m : Matter) → said_in told ≡ Ok (Asked s) → is_refusal m ≡ true
      → IsNextEntry L told (note_at (place_in L) m (stored_text s.command))
  refusal_is s m said is = record {
    placed = refl;
    earlier = λ about same. absurd (no_decision m about (refusal_about m is) same);
    tells = refusal_told (place_in L) m s.command told s is said refl;
  }

  -- The entry of a refused command is told by its message.
  pub refusal_next : (s : Stamped) (answer : Answer) (entry : Option Note) → said_in told ≡ Ok (Asked s)
      → entry ≡ refusal_entry L s answer → IfSome entry (IsNextEntry L told)
  refusal_next s answer entry said is = subst (λ (o : Option Note). IfSome o (IsNextEntry L told)) (sym is)
      (if_made (refused L.kept.history s.command answer) (λ (m : Matter). note_at (place_in L) m
      (stored_text s.command)) (IsNextEntry L told) (λ m made. refusal_is s m said
      (by_word L.kept.history answer m s.command (answer_word answer) made)))

  -- ---- a faulty message

  unread : (b : Bool) (o : Option Name) (m : Matter) → (if b then option_map Unread o else None) ≡ Some m
      → (word : Name) × (m ≡ Unread word)
  unread true None m is = cc
  unread true (Some word) m is = (word, cc)
  unread false o m is = cc

  fault_is : (m : Matter) → (word : Name) × (m ≡ Unread word)
      → IsNextEntry L told (note_at (place_in L) m (told_text told))
  fault_is m is = subst (λ (m : Matter). IsNextEntry L told (note_at (place_in L) m (told_text told))) (sym is.1)
      (record {
        placed = refl;
        earlier = λ about same. absurd (no_decision (Unread is.0) about refl same);
        tells = fault_told (place_in L) is.0 told;
      })

  pub fault_next : (fault : MessageFault) (entry : Option Note) → entry ≡ fault_entry L told fault
      → IfSome entry (IsNextEntry L told)
  fault_next fault entry is = subst (λ (o : Option Note). IfSome o (IsNextEntry L told)) (sym is)
      (if_made (faulty told fault) (λ (m : Matter). note_at (place_in L) m (told_text told)) (IsNextEntry L told)
      (λ m made. fault_is m (unread (may_be_done (name_in told)) (fault_word fault) m made)))

  -- ---- what somebody says

  -- A decision is about an earlier entry.
  earlier : (m : Matter) (number : ℕ) → may_say m number ≡ true → (about : ℕ) → m ≡ Decision about
      → (0 < about) × (about < number)
  earlier m number may about same =
      let both = and_parts (nat_lt 0 about) (nat_lt about number)
      (sym (ap (λ (m : Matter). may_say m number) same) ∙ may) in
      (ltb-true 0 about both.0, ltb-true about number both.1)

  pub said_next : (m : Matter) (n : Note) → may_say m (place_in L).number ≡ true → n ≡ said_entry L m → IsToldBy told n
      → IsNextEntry L told n
  said_next m n may same tells = subst (IsNextEntry L told) (sym same) (record {
    placed = refl;
    earlier = earlier m (place_in L).number may;
    tells = subst (IsToldBy told) same tells;
  })

pub says_entry : (L M : Lists) (m : Matter) (told : List ℕ) (place : Place) (n : Note) → place ≡ place_in L
    → n ≡ said_entry L m → AddsEntry L n nobody told M → Says L m told place.number M
says_entry L M m told place n there same adds =
    (ap (λ (p : Place). p.number) there, subst (λ (n : Note). AddsEntry L n nobody told M) same adds)

-- It is about no message.
pub no_message : (m : Matter) (number : ℕ) → may_say m number ≡ true → is_about_message m ≡ false
no_message (Handling machine slot reel word) number may = absurd (cc)
no_message (Stray machine slot reel word) number may = absurd (cc)
no_message (Work machine slot board word) number may = absurd (cc)
no_message (Unread word) number may = absurd (cc)
no_message (Differs machine slot board reel desk_reel) number may = absurd (cc)
no_message (Boundary machine slot board reel desk_reel) number may = absurd (cc)
no_message (Uncompared machine board) number may = absurd (cc)
no_message (Attribute reel name) number may = absurd (cc)
no_message (Decision about) number may = refl
no_message (Hold stock) number may = refl
no_message (Release stock) number may = refl
no_message Made number may = absurd (cc)
no_message Begun number may = absurd (cc)
no_message Restored number may = absurd (cc)
