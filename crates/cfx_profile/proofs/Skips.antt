-- The content of a message only depends on the members that are read.
use Rattle.desk_types.proofs.Common.{[], ◌==◌, ◌∙◌, ◌∷◌, ◌≡◌, ap, Bool, cond, Err, false, inl, inr, length}
use Rattle.desk_types.proofs.Common.{List, nat_le, None, Ok, ok_or, Option, refl, Result, Some, suc, sym}
use Rattle.desk_types.proofs.Common.{true, ℕ}
use Rattle.cfx_profile.specs.Bodies.{command_in, count_row_in, sheet_row_in}
use Rattle.cfx_profile.specs.Fault.{◌>>=◌}
use Rattle.cfx_profile.specs.Forms.{counted_in, designator_in, id_in, label_in, level_in, number_in}
use Rattle.cfx_profile.specs.Forms.{quantity_in, text_at}
use Rattle.cfx_profile.specs.Lists.{each, items_in, items_list, list_in, row_in, some_items}
use Rattle.cfx_profile.specs.Message.{envelope_id, envelope_object, envelope_text, said_in, said_under}
use Rattle.cfx_profile.specs.Message.{stamped_in}
use Rattle.cfx_profile.specs.Skipped.{AgreeOn, AllRowsAgree, BodiesAgree, BodiesAgreeIn, EnvelopesAgree}
use Rattle.cfx_profile.specs.Skipped.{LabelsAgree, ListsAgree, OthersAreSkipped, RowsAgree, SameOf}
use Rattle.cfx_profile.specs.Word.{word_of}
use Rattle.cfx_profile.specs.declared.fault.MessageFault.{MessageFault}
use Rattle.cfx_profile.specs.declared.fault.MessageFault.TheVariants.{EnvelopeMember}
use Rattle.cfx_profile.specs.declared.member.Member.{Member}
use Rattle.cfx_profile.specs.declared.member.Member.TheVariants.{Alternate, Board, Counts, Designators}
use Rattle.cfx_profile.specs.declared.member.Member.TheVariants.{LabelMinutes, Level as level, Lot, Machine}
use Rattle.cfx_profile.specs.declared.member.Member.TheVariants.{MessageName, PartNumber, Product, Quantity}
use Rattle.cfx_profile.specs.declared.member.Member.TheVariants.{Reel, Rows, Slot, Source, TimeStamp}
use Rattle.cfx_profile.specs.declared.member.Member.TheVariants.{UniqueId}
use Rattle.desk_types.specs.declared.level.Level.{Level}
use Rattle.desk_types.specs.declared.level.Level.TheVariants.{Six}
use Rattle.desk_types.specs.declared.limits.TheConstants.{LONGEST_LIST}
use Rattle.desk_types.specs.declared.stored_word.Word.{Word}
use Rattle.serde_json.specs.Data.{Data, Members, object}
use Rattle.desk_types.specs.declared.stored_word.Word.TheVariants as word

-- ---- single members

id_skips : (m : Member) (a b : Data) → SameOf m a b → id_in m a ≡ id_in m b
unfolding id_in
id_skips m a b same = rw same refl

number_skips : (m : Member) (a b : Data) → SameOf m a b → number_in m a ≡ number_in m b
unfolding number_in
number_skips m a b same = rw same refl

quantity_skips : (m : Member) (a b : Data) → SameOf m a b → quantity_in m a ≡ quantity_in m b
unfolding quantity_in
quantity_skips m a b same = rw (number_skips m a b same) refl

level_skips : (m : Member) (a b : Data) → SameOf m a b → level_in m a ≡ level_in m b
unfolding level_in
level_skips m a b same = rw same refl

counted_skips : (m : Member) (a b : Data) → SameOf m a b → counted_in m a ≡ counted_in m b
unfolding counted_in
counted_skips m a b same = rw (number_skips m a b same) refl

label_skips : (l : Level) (a b : Data) → (l ≡ Six → SameOf LabelMinutes a b) → label_in l LabelMinutes a ≡ label_in l LabelMinutes b
unfolding label_in
label_skips Six a b same = rw (number_skips LabelMinutes a b (same refl)) refl
label_skips _ a b same = refl

list_skips : {X : Type 0} (reading : Data → Result X MessageFault) (m : Member) (a b : Data) → SameOf m a b → list_in reading m a ≡ list_in reading m b
unfolding list_in items_in
list_skips reading m a b same = rw same refl

then_same : {X Y : Type 0} (r : Result X MessageFault) (f g : X → Result Y MessageFault) → ((x : X) → r ≡ Ok x → f x ≡ g x) → (r >>= f) ≡ (r >>= g)
then_same (Ok x) f g same = same x refl
then_same (Err fault) f g same = refl

-- ---- lists of rows

rows_length : (ms : List Member) (ds es : List Data) → AllRowsAgree ms ds es → length ds ≡ length es
rows_length ms [] [] h = refl
rows_length ms (a ∷ ds) (b ∷ es) h = ap suc (rows_length ms ds es h.1)
rows_length ms [] (b ∷ es) h = absurd h
rows_length ms (a ∷ ds) [] h = absurd h

each_skips : {X : Type 0} (reading : Data → Result X MessageFault) (ms : List Member) (ds es : List Data)
    → ((a b : Data) → RowsAgree ms a b → reading a ≡ reading b) → AllRowsAgree ms ds es → each reading ds ≡ each reading es
each_skips reading ms [] [] row h = refl
each_skips reading ms (a ∷ ds) (b ∷ es) row h = rw (row a b h.0, each_skips reading ms ds es row h.1) refl
each_skips reading ms [] (b ∷ es) row h = absurd h
each_skips reading ms (a ∷ ds) [] row h = absurd h

judged_first : {X Y : Type 0} (is_none fits : Bool) (x : X) (f : X → Result Y MessageFault) (none over : MessageFault)
    → (cond is_none (Err none) (cond fits (Ok x) (Err over)) >>= f) ≡ cond is_none (Err none) (cond fits (f x) (Err over))
judged_first true fits x f none over = refl
judged_first false true x f none over = refl
judged_first false false x f none over = refl

some_skips : {X : Type 0} (reading : Data → Result X MessageFault) (m : Member) (ds es : List Data) → length ds ≡ length es → each reading ds ≡ each reading es
    → (some_items m ds >>= each reading) ≡ (some_items m es >>= each reading)
some_skips reading m ds es count same =
    judged_first (length ds == 0) (nat_le (length ds) LONGEST_LIST) ds (each reading) _ _ ∙ rw (count, same) refl
    ∙ sym (judged_first (length es == 0) (nat_le (length es) LONGEST_LIST) es (each reading) _ _)

rows_skip : {X : Type 0} (reading : Data → Result X MessageFault) (ms : List Member) (m : Member) (a b : Data)
    → ((a b : Data) → RowsAgree ms a b → reading a ≡ reading b) → ListsAgree ms m a b → list_in reading m a ≡ list_in reading m b
unfolding list_in items_in
rows_skip reading ms m a b row (inl same) = rw same refl
rows_skip reading ms m a b row (inr w) =
    let ds = items_list w.0 in
    let es = items_list w.1 in
    rw (w.2, w.3) (some_skips reading m ds es (rows_length ms ds es w.4) (each_skips reading ms ds es row w.4))

sheet_row_same : (p q : Members) → AgreeOn (Slot ∷ PartNumber ∷ Designators ∷ []) (object p) (object q) → sheet_row_in (object p) ≡ sheet_row_in (object q)
unfolding sheet_row_in row_in
sheet_row_same p q h = rw (id_skips Slot (object p) (object q) h.0, id_skips PartNumber (object p) (object q) h.1.0, list_skips designator_in Designators (object p) (object q) h.1.1.0) refl

sheet_row_skips : (a b : Data) → RowsAgree (Slot ∷ PartNumber ∷ Designators ∷ []) a b → sheet_row_in a ≡ sheet_row_in b
sheet_row_skips a b (inl same) = ap sheet_row_in same
sheet_row_skips a b (inr w) = ap sheet_row_in w.2 ∙ sheet_row_same w.0 w.1 w.4 ∙ sym (ap sheet_row_in w.3)

count_row_same : (p q : Members) → AgreeOn (Reel ∷ Quantity ∷ []) (object p) (object q) → count_row_in (object p) ≡ count_row_in (object q)
unfolding count_row_in row_in
count_row_same p q h = rw (id_skips Reel (object p) (object q) h.0, counted_skips Quantity (object p) (object q) h.1.0) refl

count_row_skips : (a b : Data) → RowsAgree (Reel ∷ Quantity ∷ []) a b → count_row_in a ≡ count_row_in b
count_row_skips a b (inl same) = ap count_row_in same
count_row_skips a b (inr w) = ap count_row_in w.2 ∙ count_row_same w.0 w.1 w.4 ∙ sym (ap count_row_in w.3)

-- ---- bodies

receipt_skips : (a b : Data) → AgreeOn (Reel ∷ PartNumber ∷ Lot ∷ level ∷ Quantity ∷ []) a b → LabelsAgree a b → command_in word.ReelReceived a ≡ command_in word.ReelReceived b
unfolding command_in
receipt_skips a b h label =
    let same : (l : Level) → level_in level b ≡ Ok l → label_in l LabelMinutes a ≡ label_in l LabelMinutes b =
    λ l is. label_skips l a b (λ six. label (level_skips level a b h.1.1.1.0 ∙ is ∙ ap Ok six)) in
    rw (id_skips Reel a b h.0, id_skips PartNumber a b h.1.0, id_skips Lot a b h.1.1.0, level_skips level a b h.1.1.1.0, quantity_skips Quantity a b h.1.1.1.1.0)
    (then_same (id_in Reel b) _ _ (λ reel _. then_same (id_in PartNumber b) _ _ (λ part _. then_same (id_in Lot b) _ _
    (λ lot _. then_same (level_in level b) _ _ (λ l is. then_same (quantity_in Quantity b) _ _ (λ quantity _. rw (same l is) refl))))))

body_skips : (w : Word) (a b : Data) → BodiesAgree w a b → command_in w a ≡ command_in w b
unfolding command_in
body_skips word.PartDefined a b h = rw (id_skips PartNumber a b h.0) refl
body_skips word.AlternateAllowed a b h = rw (id_skips PartNumber a b h.0, id_skips Alternate a b h.1.0) refl
body_skips word.SheetDefined a b h =
    rw (id_skips Product a b h.0.0, id_skips Machine a b h.0.1.0, rows_skip sheet_row_in (Slot ∷ PartNumber ∷ Designators ∷ []) Rows a b sheet_row_skips h.1) refl
body_skips word.ProductSelected a b h = rw (id_skips Machine a b h.0, id_skips Product a b h.1.0) refl
body_skips word.ReelReceived a b h = receipt_skips a b h.0 h.1
body_skips word.ReelOpened a b h = rw (id_skips Reel a b h.0) refl
body_skips word.ReelSealed a b h = rw (id_skips Reel a b h.0) refl
body_skips word.ReelBaked a b h = rw (id_skips Reel a b h.0) refl
body_skips word.MaterialsLoaded a b h = rw (id_skips Machine a b h.0, id_skips Slot a b h.1.0, id_skips Reel a b h.1.1.0) refl
body_skips word.MaterialsSpliced a b h = rw (id_skips Machine a b h.0, id_skips Slot a b h.1.0, id_skips Reel a b h.1.1.0) refl
body_skips word.MaterialsUnloaded a b h = rw (id_skips Machine a b h.0, id_skips Slot a b h.1.0) refl
body_skips word.WorkStarted a b h = rw (id_skips Machine a b h.0, id_skips Board a b h.1.0) refl
body_skips word.WorkCompleted a b h = rw (id_skips Machine a b h.0, id_skips Board a b h.1.0) refl
body_skips word.MaterialsInstalled a b h = rw (id_skips Machine a b h.0, id_skips Board a b h.1.0, list_skips designator_in Designators a b h.1.1.0) refl
body_skips word.MaterialsScrapped a b h = rw (id_skips Machine a b h.0, id_skips Slot a b h.1.0, quantity_skips Quantity a b h.1.1.0) refl
body_skips word.CountsTaken a b h = rw (rows_skip count_row_in (Reel ∷ Quantity ∷ []) Counts a b count_row_skips h) refl
body_skips word.ClockSet a b h = refl

-- ---- messages

stamped_skips : (w : Word) (a b : Data) → AgreeOn (UniqueId ∷ Source ∷ TimeStamp ∷ []) a b → BodiesAgreeIn w a b → stamped_in w a ≡ stamped_in w b
unfolding stamped_in envelope_text envelope_id envelope_object
stamped_skips w a b h (inl same) = rw (h.0, h.1.0, h.1.1.0, same) refl
stamped_skips w a b h (inr e) = rw (h.0, h.1.0, h.1.1.0, e.2, e.3, body_skips w (object e.0) (object e.1) e.4) refl

under_skips : (name : List ℕ) (found : Option Word) (a b : Data) → EnvelopesAgree found a b → said_under name found a ≡ said_under name found b
under_skips name None a b h = refl
under_skips name (Some w) a b h = rw (stamped_skips w a b h.0 h.1) refl

abbrev named : Option (List ℕ) → Result (List ℕ) MessageFault
named found = ok_or found (EnvelopeMember MessageName)

named_skips : (found : Option (List ℕ)) (a b : Data) → ((name : List ℕ) → found ≡ Some name → EnvelopesAgree (word_of name) a b)
    → (named found >>= λ name. said_under name (word_of name) a) ≡ (named found >>= λ name. said_under name (word_of name) b)
named_skips None a b h = refl
named_skips (Some name) a b h = under_skips name (word_of name) a b (h name refl)

pub others_skipped : OthersAreSkipped
unfolding said_in envelope_text
others_skipped bytes others a b is other same h =
    rw (is, other, ← same) (named_skips (text_at MessageName (object a)) (object a) (object b) h)
