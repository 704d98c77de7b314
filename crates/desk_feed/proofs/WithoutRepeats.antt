-- A law of inputs: if no line is answered Unavailable, removing the repeats keeps the final
-- history.
use Rattle.desk_types.proofs.Common.{[], ◌||◌, ◌∙◌, ◌∷◌, ◌≡◌, after_command, ap, Bool, Err, false, History}
use Rattle.desk_types.proofs.Common.{if◌then◌else◌, is_some, length, List, nat_lt, None, Ok, Option, refl}
use Rattle.desk_types.proofs.Common.{Result, Some, sym, true, ℕ}
use Rattle.cfx_profile.specs.{Message.said_in, declared.fault.MessageFault.MessageFault}
use Rattle.cfx_profile.specs.{declared.message.Said.Said, declared.message.Said.TheVariants.Asked}
use Rattle.cfx_profile.specs.{declared.message.Said.TheVariants.Ignored}
use Rattle.desk_answers.specs.{Commands.earlier_answer, Commands.is_full, declared.answer.Answer.Answer}
use Rattle.desk_feed.specs.{Messages.after_heard, Messages.list_after, Repeats.after_all, Repeats.is_again}
use Rattle.desk_feed.specs.{Repeats.is_repeat, Repeats.repeats, Repeats.without_repeats, Stream.line_after}
use Rattle.desk_types.specs.{declared.limits.TheConstants.LONGEST_INPUT, declared.rules.Rules.Rules}

is_earlier : (o : Option Answer) → is_again o ≡ true → is_some o ≡ true
is_earlier (Some a) again = refl
is_earlier None again = absurd (cc)

heard_leaves : (rules : Rules) (greatest : ℕ) (H : History) (heard : Result Said MessageFault) → repeats H heard ≡ true → after_heard rules greatest H heard ≡ H
heard_leaves rules greatest H (Ok (Asked s)) again =
    ap (λ (b : Bool). if b || is_full greatest H then H else after_command rules H s) (is_earlier (earlier_answer H s) again)
heard_leaves rules greatest H (Ok (Ignored name)) again = refl
heard_leaves rules greatest H (Err fault) again = refl

short_leaves : (long again : Bool) (H after : History) → (if long then false else again) ≡ true → (again ≡ true → after ≡ H) → (if long then H else after) ≡ H
short_leaves true again H after is leaves = refl
short_leaves false again H after is leaves = leaves is

pub repeat_leaves : (rules : Rules) (greatest : ℕ) (H : History) (line : List ℕ) → is_repeat H line ≡ true → line_after rules greatest false H line ≡ H
repeat_leaves rules greatest H line again =
    short_leaves (nat_lt LONGEST_INPUT (length line)) (repeats H (said_in line)) H (list_after rules greatest H line) again (heard_leaves rules greatest H (said_in line))

line_more : (rules : Rules) (greatest : ℕ) (H after : History) (line : List ℕ) (lines fewer more : List (List ℕ)) (again : Bool) → line_after rules greatest false H line ≡ after
    → (again ≡ true → after ≡ H) → after_all rules greatest H lines ≡ after_all rules greatest H fewer → after_all rules greatest after lines ≡ after_all rules greatest after more
    → after_all rules greatest after lines ≡ after_all rules greatest H (if again then fewer else line ∷ more)
line_more rules greatest H after line lines fewer more true is leaves same rest = ap (λ (G : History). after_all rules greatest G lines) (leaves refl) ∙ same
line_more rules greatest H after line lines fewer more false is leaves same rest = rest ∙ ap (λ (G : History). after_all rules greatest G more) (sym is)

pub repeats_leave_the_list : (rules : Rules) (greatest : ℕ) (H : History) (lines : List (List ℕ)) → after_all rules greatest H lines ≡ after_all rules greatest H (without_repeats rules greatest H lines)
repeats_leave_the_list rules greatest H [] = refl
repeats_leave_the_list rules greatest H (line ∷ lines) =
    let after = line_after rules greatest false H line in
    line_more rules greatest H after line lines (without_repeats rules greatest H lines) (without_repeats rules greatest after lines) (is_repeat H line) refl
    (repeat_leaves rules greatest H line) (repeats_leave_the_list rules greatest H lines) (repeats_leave_the_list rules greatest after lines)
