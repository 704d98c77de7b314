-- Worked cases of the profile's limits.
use Rattle.desk_types.proofs.Common.{◌≡◌, Err, Ok, pos, refl, Some}
use Rattle.cfx_profile.specs.Forms.{at_most, from_1_to}
use Rattle.cfx_profile.specs.Minute.{minute_of_day, minute_of_nanos}
use Rattle.cfx_profile.specs.declared.fault.MessageFault.TheVariants.{BodyMember, OverLimit}
use Rattle.cfx_profile.specs.declared.member.Member.TheVariants.{LabelMinutes, Quantity}
use Rattle.desk_types.specs.declared.limits.TheConstants.{GREATEST_LABEL, GREATEST_QUANTITY}
use Rattle.serde_json.specs.Read.{max_depth}

-- The nesting depth of arrays and objects, including the envelope.
pub deepest : max_depth ≡ 127
deepest = refl

-- ---- numbers at their limits

pub greatest_quantity : from_1_to Quantity GREATEST_QUANTITY 10_000_000 ≡ Ok 10_000_000
greatest_quantity = refl

pub quantity_above : from_1_to Quantity GREATEST_QUANTITY 10_000_001 ≡ Err (OverLimit Quantity)
quantity_above = refl

pub no_quantity : from_1_to Quantity GREATEST_QUANTITY 0 ≡ Err (BodyMember Quantity)
no_quantity = refl

pub empty_count : at_most Quantity GREATEST_QUANTITY 0 ≡ Ok 0
empty_count = refl

pub greatest_label : from_1_to LabelMinutes GREATEST_LABEL 525_600 ≡ Ok 525_600
greatest_label = refl

pub label_above : from_1_to LabelMinutes GREATEST_LABEL 525_601 ≡ Err (OverLimit LabelMinutes)
label_above = refl

-- ---- minutes

pub last_of_minute_0 : minute_of_nanos (pos 59_999_999_999) ≡ Some 0
last_of_minute_0 = refl

pub first_of_minute_1 : minute_of_nanos (pos 60_000_000_000) ≡ Some 1
first_of_minute_1 = refl

pub second_day : minute_of_day (pos 1) 1 1 ≡ Some 1501
second_day = refl
