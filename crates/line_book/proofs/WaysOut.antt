-- Each open entry has a way out.
use Rattle.desk_types.proofs.Common.{[], ◌&&◌, ◌++◌, ◌||◌, ◌∙◌, ◌∷◌, ◌≡◌, ◌≤◌, accept, ap, Bool, eq-eqb, false, History}
use Rattle.desk_types.proofs.Common.{length, list_any-append, None, not, or_right, refl, same-refl, Some, true}
use Rattle.desk_laws.proofs.Common.{Command, MaterialsLoaded, MaterialsUnloaded, Stamped, WorkStarted}
use Rattle.line_book.specs.declared.note.Matter.{Matter}
use Rattle.line_book.specs.declared.note.Matter.TheVariants.{Decision, Differs, Handling, Stray, Work}
use Rattle.line_book.specs.declared.note.Note.{Note}
use Rattle.line_book.specs.Book.{Book, closes, decides, is_closed, is_decided, is_fault, is_open}
use Rattle.line_book.proofs.Growing.{open-next}

both : (a b : Bool) → a ≡ true → b ≡ true → (a && b) ≡ true
both true true x y = refl
both false b x y = cc
both true false x y = cc

-- An unload of the slot; a load of the stray reel there, or an unload there; a start of work.
pub way-out : (m : Matter) → is_fault m ≡ true → (c : Command) × (closes m c ≡ true)
way-out (Handling machine slot reel word) is =
    (MaterialsUnloaded machine slot, both _ _ (same-refl machine) (same-refl slot))
way-out (Stray machine slot (Some reel) word) is = (MaterialsLoaded machine slot reel, same-refl reel)
way-out (Stray machine slot None word) is = (MaterialsUnloaded machine slot, same-refl machine)
way-out (Work machine slot board word) is = (WorkStarted machine [], same-refl machine)
way-out (Differs machine slot board reel desk_reel) is =
    (MaterialsUnloaded machine slot, both _ _ (same-refl machine) (same-refl slot))
way-out m is = cc

no-and : (a b : Bool) → b ≡ true → (a && not b) ≡ false
no-and true true is = refl
no-and false b is = refl
no-and true false is = cc

pub handled-closes : (H : History) (B : Book) (n : Note) (s : Stamped) → n.after ≤ length H
    → closes n.matter s.command ≡ true
    → is_open (accept H s) B n ≡ false
handled-closes H B n s le is = open-next H s B n le ∙ no-and (is_open H B n) (closes n.matter s.command) is

no-open : (f c d : Bool) → d ≡ true → (f && (not c && not d)) ≡ false
no-open false c d is = refl
no-open true true d is = refl
no-open true false true is = refl
no-open true false false is = cc

pub decision-closes : (H : History) (B : Book) (n d : Note) → d.matter ≡ Decision n.number
    → is_open H (B ++ d ∷ []) n ≡ false
decision-closes H B n d is = no-open (is_fault n.matter) (is_closed H n) (is_decided (B ++ d ∷ []) n)
    (list_any-append (λ (x : Note). decides n.number x.matter) B (d ∷ [])
    ∙ or_right (is_decided B n) (decides n.number d.matter || false)
    (ap (λ m. decides n.number m || false) is ∙ ap (λ b. b || false) (eq-eqb n.number n.number refl)))
