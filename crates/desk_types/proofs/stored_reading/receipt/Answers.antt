use Rattle.desk_types.proofs.Common.{◌++◌, ◌∙◌, ap, IsCommand, IsLabel, members_of, refl, subst, sym}
use Rattle.desk_types.proofs.Members.{AreOfReceipt, MembersOf, receipt_fields, receipt_in_range}
use Rattle.desk_types.proofs.Members.{receipts_apart, said, word_unread}
use Rattle.desk_types.specs.declared.stored_word.Word.TheVariants.{ReelReceived}
use Rattle.desk_types.proofs.stored_reading.receipt.Goals as goal

pub returns-in_err-reel : goal.returns-in_err-reel
returns-in_err-reel c =
    word_unread ReelReceived AreOfReceipt receipt_fields receipt_in_range (λ _. refl) ReelReceived refl c.args.fields.now c.read.new.fields c.read.new.fields
    c.in_err-reel.field-0.0 c.from_residual.result c.from_residual.ensures.1 c.in_err-reel.ensures

pub returns-in_default : goal.returns-in_default
returns-in_default c command more is e =
    let read = c.in_ok-reel.ensures in
    let m = said ReelReceived command is.1 in
    let range = subst IsCommand m.1 is.0 in
    let one = receipts_apart ((c.in_ok-reel.reel, c.in_ok-reel.part, c.in_ok-reel.lot), (c.in_ok-reel.level, c.in_ok-reel.quantity, c.in_ok-reel.label)) m.0 c.read.new.fields more read.0 (receipt_in_range m.0 range)
    (sym read.1 ∙ e ∙ ap (λ x. members_of x ++ more) m.1) in
    c.in_default.ensures (subst (λ (n : MembersOf ReelReceived). IsLabel n.1.0 n.1.2) (sym one.0) range.3)
